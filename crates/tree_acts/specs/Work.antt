-- What the work of a chain comes to: the acts of its source, and those of its nodes once the source has answered.
-- This project's own.
use Rattle.std.specs.Prelude.{◌≡◌, ℕ, List, [], ◌++◌, map, Bool, true, Option, Some, None, Result, MatchResult}
use Rattle.tree_config.specs.Tree.{Tree}
use Rattle.entropy_source.specs.declared.answers.SourceRefusal.{SourceRefusal}
use Rattle.entropy_source.specs.Source.{SourceAct}
use Rattle.entropy_source.specs.Draws.{Drawn, portions}
use Rattle.tree_rules.specs.declared.reply.Reply.{Reply}
use Rattle.tree_rules.specs.History.{Act}
use Rattle.tree_rules.specs.Links.{Task, Seeds, Gives, Rests, Link, last_link, wanted}
use Rattle.tree_rules.specs.Chain.{SourceLink}
use Rattle.tree_rules.specs.Works.{Work, no_work, seeded_work, given_work, worked}
use Rattle.tree_rules.specs.Fits.{at_source, source_reply, found_by}
use Rattle.entropy_source.specs.Views.{SourceView}
use Rattle.tree_acts.specs.Hold.{Hold}
use Rattle.tree_acts.specs.Did.{Did}

-- the part of a node that is seeded with some material for its task
abbrev pub seeded_part : Link → List ℕ → List ℕ → Task → Work
seeded_part l stuff string (Seeds how) = seeded_work l how stuff string
seeded_part l stuff string (Gives len) = given_work l true stuff string len
seeded_part l stuff string Rests = no_work

-- the acts and the bytes of links, or the refusal of their source
abbrev pub Works : Bool → List ℕ → List Link → Option SourceLink → Option Reply → List ℕ → List Act → Type 0
Works pr string ls None result bytes acts =
    let w = worked pr [] string ls in (result ≡ None) × (acts ≡ w.acts) × (bytes ≡ w.bytes)
Works pr string ls (Some t) result bytes acts =
    let lens = wanted pr (last_link ls) in
    (drawn : List SourceAct) × (end : Result (List ℕ) SourceRefusal) × Drawn t.row (found_by (Some t)) t.state lens drawn end
    × MatchResult end
    (λ all. let w = worked pr (portions t.row lens all) string ls in (result ≡ None) × (acts ≡ map (at_source t) drawn ++ w.acts) × (bytes ≡ w.bytes))
    (λ why. (result ≡ Some (source_reply t.number why)) × (acts ≡ map (at_source t) drawn))

-- the same, done to what is held
pub record Worked {S : Type 0} (told : S → Option (List ℕ)) (faults : S → ℕ) (reads : S → ℕ → Option (List ℕ) → S → Type 0) (p : Tree) (h t : Hold (SourceView S)) (pr : Bool)
    (string : List ℕ) (ls : List Link) (source : Option SourceLink) (result : Option Reply) (bytes : List ℕ) : Type 0 where
  pub acts : List Act
  pub did : Did told faults reads p h t acts
  pub works : Works pr string ls source result bytes acts
