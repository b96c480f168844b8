-- Scaffolding of this crate's proofs, no definitions: what its private functions hand one another. No contract of a public
-- function cites it. Each record is a part of a start or of a draw, some reads for one block or for the start-up, or some blocks
-- in a row, and says what the whole is, whatever follows the part.
-- This project's own.
use Rattle.std.specs.Prelude.{◌≡◌, ◌<◌, ◌≤◌, ℕ, suc, ◌+◌, ◌*◌, List, [], ◌∷◌, ◌++◌, length, take, Option, Some, Result, Err, MatchResult}
use Rattle.health_tests.specs.declared.numbers.Tail.{Tail}
use Rattle.health_tests.specs.Numbers.{tail_after}
use Rattle.conditioner.specs.Conditioned.{conditioned}
use Rattle.rbg_bytes.specs.Streams.{Rose}
use Rattle.entropy_source.specs.Source.{SourceAct, Began, SourceState, source_after, source_after_all, need_of, need_of_block}
use Rattle.entropy_source.specs.Draws.{Gathers, Draws, found_in}
use Rattle.entropy_source.specs.Reads.{LeadBy}
use Rattle.entropy_source.specs.Views.{SourceView, source_state}
use Rattle.entropy_source.specs.declared.answers.SourceRow.{SourceRow}
use Rattle.entropy_source.specs.declared.answers.SourceMode.TheVariants.{Running, Alarmed}
use Rattle.entropy_source.specs.declared.answers.SourceRefusal.{SourceRefusal}
use Rattle.entropy_source.specs.declared.answers.SourceRefusal.TheVariants.{SourceSpent, InError, SourceFault, HealthFailed, WantOfEntropy}

-- what the tests keep, with these samples added
abbrev pub KeepsOn : SourceRow → SourceState → SourceState → List ℕ → Type 0
KeepsOn row s now got = (t : Tail) → s.tail ≡ Some t → now.tail ≡ Some (tail_after row.cutoffs.window t got)

-- the numbers that a read without an alarm leaves alone
pub record LeavesOthers (s now : SourceState) : Type 0 where
  pub mode : now.mode ≡ s.mode
  pub alarms : now.alarms ≡ s.alarms
  pub faults : now.faults ≡ s.faults

-- what is so after a refusal of each kind; a refusal for numbers or for the mode comes before any read
abbrev pub IsLeft : SourceState → SourceState → ℕ → SourceRefusal → Type 0
IsLeft s now lacks (SourceSpent taken need) = ⊥
IsLeft s now lacks (InError cause) = ⊥
IsLeft s now lacks (SourceFault count) = Rose s.faults now.faults × (count ≡ now.faults) × (now.mode ≡ s.mode)
IsLeft s now lacks (HealthFailed index test) = (now.faults ≡ s.faults) × (now.mode ≡ Alarmed index test)
IsLeft s now lacks (WantOfEntropy missing) = (now.faults ≡ s.faults) × (now.mode ≡ s.mode) × (0 < missing) × (missing ≤ lacks)

-- a start whose tests are fresh, when all its samples were read or a refusal came
abbrev pub EndsStart : {T : Type 0} → SourceRow → Result T SourceRefusal → SourceState → SourceState → Type 0
EndsStart row result s now =
    MatchResult result (λ _. (now.mode ≡ Running) × (now.taken ≡ s.taken + row.startup) × (now.faults ≡ s.faults))
    (λ why. IsLeft (source_after row s Began) now row.startup why)

-- a draw of n bytes, when all its blocks were made or a refusal came
abbrev pub EndsDraw : {T : Type 0} → SourceRow → ℕ → Result T SourceRefusal → SourceState → SourceState → Type 0
EndsDraw row n result s now =
    MatchResult result (λ _. (now.mode ≡ s.mode) × (now.taken ≡ s.taken + need_of row (n ∷ [])) × (now.faults ≡ s.faults))
    (λ why. IsLeft s now (need_of_block row) why)

module _ {S : Type 0} (told : S → Option (List ℕ)) (faults : S → ℕ) (reads : S → ℕ → Option (List ℕ) → S → Type 0) where
  abbrev state_of : SourceView S → SourceState
  state_of v = source_state told faults v

  -- the acts lead from one source to another
  pub record LeadsTo (row : SourceRow) (acts : List SourceAct) (v w : SourceView S) : Type 0 where
    pub state : state_of w ≡ source_after_all row (state_of v) acts
    pub made : LeadBy reads faults v.samples acts w.samples

  -- reads that gave these samples without an alarm: what gathers the rest from now on gathers all
  pub record Leads (row : SourceRow) (v w : SourceView S) (lacks left : ℕ) (got : List ℕ) : Type 0 where
    pub acts : List SourceAct
    pub leads : LeadsTo row acts v w
    pub keeps : KeepsOn row (state_of v) (state_of w) got
    pub count : length got + left ≡ lacks
    pub taken : w.taken ≡ v.taken + length got
    pub blocks : w.blocks ≡ v.blocks
    pub others : LeavesOthers (state_of v) (state_of w)
    pub goes : (t : Tail) (has read : List ℕ) (more : List SourceAct) (end : Result (List ℕ) SourceRefusal)
        → v.tail ≡ Some (tail_after row.cutoffs.window t read)
        → Gathers row (found_in row.cutoffs (Some t)) left (state_of w) (has ++ got) (read ++ got) more end
        → Gathers row (found_in row.cutoffs (Some t)) lacks (state_of v) has read (acts ++ more) end

  -- reads that ended in a refusal
  pub record Stops (row : SourceRow) (v w : SourceView S) (lacks : ℕ) (why : SourceRefusal) : Type 0 where
    pub acts : List SourceAct
    pub leads : LeadsTo row acts v w
    pub few : w.taken ≤ v.taken + lacks
    pub blocks : w.blocks ≡ v.blocks
    pub left : IsLeft (state_of v) (state_of w) lacks why
    pub ends : (t : Tail) (has read : List ℕ) → v.tail ≡ Some (tail_after row.cutoffs.window t read)
        → Gathers row (found_in row.cutoffs (Some t)) lacks (state_of v) has read acts (Err why)

  -- what reads come to: samples so that some are left to be read, or a refusal
  abbrev pub Comes : {T : Type 0} → SourceRow → ℕ → (T → ℕ) → (T → List ℕ) → Result T SourceRefusal → SourceView S → SourceView S → Type 0
  Comes row lacks left got result v w =
      MatchResult result (λ x. Leads row v w lacks (left x) (got x)) (λ why. Stops row v w lacks why)

  -- the samples of the start-up
  abbrev pub WarmsUp : {T : Type 0} → SourceRow → Result T SourceRefusal → SourceView S → SourceView S → Type 0
  WarmsUp row result v w =
      MatchResult result (λ _. (got : List ℕ) × Leads row v w row.startup 0 got) (λ why. Stops row v w row.startup why)

  -- the samples of one block, and the block
  abbrev pub Conditions : SourceRow → Result (List ℕ) SourceRefusal → SourceView S → SourceView S → Type 0
  Conditions row result v w =
      MatchResult result (λ block. (got : List ℕ) × Leads row v w (need_of_block row) 0 got × (block ≡ conditioned row.cond got))
      (λ why. Stops row v w (need_of_block row) why)

  -- so many blocks that gave these bytes: what draws the rest from now on draws all
  pub record LeadsBlocks (row : SourceRow) (v w : SourceView S) (blocks left : ℕ) (bytes : List ℕ) : Type 0 where
    pub acts : List SourceAct
    pub got : List ℕ
    pub leads : LeadsTo row acts v w
    pub keeps : KeepsOn row (state_of v) (state_of w) got
    pub taken : w.taken + left * need_of_block row ≡ v.taken + blocks * need_of_block row
    pub others : LeavesOthers (state_of v) (state_of w)
    pub goes : (t : Tail) (read before : List ℕ) (more : List SourceAct) (end : Result (List ℕ) SourceRefusal)
        → v.tail ≡ Some (tail_after row.cutoffs.window t read)
        → Draws row (found_in row.cutoffs (Some t)) left (state_of w) (read ++ got) (before ++ bytes) more end
        → Draws row (found_in row.cutoffs (Some t)) blocks (state_of v) read before (acts ++ more) end

  -- blocks that ended in a refusal
  pub record StopsBlocks (row : SourceRow) (v w : SourceView S) (blocks : ℕ) (why : SourceRefusal) : Type 0 where
    pub acts : List SourceAct
    pub leads : LeadsTo row acts v w
    pub left : IsLeft (state_of v) (state_of w) (need_of_block row) why
    pub ends : (t : Tail) (read before : List ℕ) → v.tail ≡ Some (tail_after row.cutoffs.window t read)
        → Draws row (found_in row.cutoffs (Some t)) blocks (state_of v) read before acts (Err why)

  -- one block of those that are left
  abbrev pub MakesBlock : SourceRow → Result (List ℕ) SourceRefusal → SourceView S → SourceView S → Type 0
  MakesBlock row result v w =
      MatchResult result (λ block. (left : ℕ) → LeadsBlocks row v w (suc left) left block) (λ why. (left : ℕ) → StopsBlocks row v w (suc left) why)

  -- all blocks, of which the bytes `out` are the first
  abbrev pub Fills : {T : Type 0} → SourceRow → ℕ → List ℕ → Result T SourceRefusal → SourceView S → SourceView S → Type 0
  Fills row blocks out result v w =
      MatchResult result (λ _. (bytes : List ℕ) × LeadsBlocks row v w blocks 0 bytes × (out ≡ take (length out) bytes))
      (λ why. StopsBlocks row v w blocks why)
