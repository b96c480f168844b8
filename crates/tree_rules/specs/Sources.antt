-- What one entry does to one source.
-- This project's own.
use Rattle.std.specs.Prelude.{◌≡◌, ◌⊎◌, ℕ, List, [], nat_lt, Bool, true, false, Result, Ok, Err}
use Rattle.entropy_source.specs.declared.answers.SourceRow.{SourceRow}
use Rattle.entropy_source.specs.declared.answers.SourceRefusal.{SourceRefusal}
use Rattle.entropy_source.specs.Source.{SourceAct, SourceState, need_of}
use Rattle.entropy_source.specs.Draws as draws
use Rattle.entropy_source.specs.Draws.{Drawn, found_in}
use Rattle.tree_rules.specs.Replies.{is_running}

-- where the source refused, the entry isn't Done
abbrev pub Refuses : Bool → Result (List ℕ) SourceRefusal → Type 0
Refuses done (Ok bytes) = Unit {0}
Refuses done (Err why) = done ≡ false

-- a draw of some lengths, with alarms told by what the tests keep, of a source that runs where the lengths take samples
abbrev pub Draw : Bool → SourceRow → SourceState → List SourceAct → Type 0
Draw done row s acts = (lens : List ℕ) × (end : Result (List ℕ) SourceRefusal) × Drawn row (found_in row.cutoffs s.tail) s lens acts end
    × Refuses done end × (nat_lt 0 (need_of row lens) ≡ true → is_running s.mode ≡ true)

-- nothing, one draw or one start; `done` is whether the entry is Done
abbrev pub Does : Bool → SourceRow → SourceState → List SourceAct → Type 0
Does done row s acts =
    (acts ≡ []) ⊎ (Draw done row s acts ⊎ ((end : Result (List ℕ) SourceRefusal) × draws.Start row s acts end × Refuses done end))
