-- How a source answers: one read, the samples of one block or of a start-up, a draw, and a start.
-- SP 800-90B 3.1.5 (conditioned blocks), 4.3 (start-up and continuous tests), in this project's own words.
use Rattle.std.specs.Prelude.{◌≡◌, ◌<◌, ◌≤◌, ℕ, zero, suc, ◌+◌, ◌-◌, ◌*◌, List, [], ◌∷◌, ◌++◌, length, take, drop, map, sum, min, Option, Some, None, Result, Ok, Err, MatchOption, MatchResult, IfSome}
use Rattle.health_tests.specs.declared.numbers.Tail.{Tail}
use Rattle.health_tests.specs.declared.windows.Alarm.{Alarm}
use Rattle.health_tests.specs.Cutoffs.{Limits}
use Rattle.health_tests.specs.Numbers.{tail_after, alarm_from}
use Rattle.health_tests.specs.Windows.{alarm_in}
use Rattle.conditioner.specs.Conditioned.{block_len, conditioned}
use Rattle.rbg_bytes.specs.Streams.{Rose}
use Rattle.entropy_source.specs.Source.{SourceAct, Began, Read, Alarmed, Started, Block, SourceState, given, source_after, source_after_all, blocks_for, need_of_block}
use Rattle.entropy_source.specs.declared.answers.SourceRow.{SourceRow}
use Rattle.entropy_source.specs.declared.answers.SourceRefusal.{SourceRefusal}
use Rattle.entropy_source.specs.declared.answers.SourceRefusal.TheVariants.{SourceFault, HealthFailed, WantOfEntropy}

-- the samples are the next ones of those that are left, and none only where none is left
pub record AreNext (left got : List ℕ) : Type 0 where
  pub next : take (length got) left ≡ got
  pub ended : got ≡ [] → left ≡ []

-- one read, as the outside may answer it: at most as many samples as were asked for, the next ones where they are told, and
-- a failure only where the fault count rose
pub record Answers (s : SourceState) (asked : ℕ) (got : Option (List ℕ)) (count : ℕ) : Type 0 where
  pub few : length (given got) ≤ asked
  pub told : IfSome s.told (λ left. IfSome got (λ xs. AreNext left xs))
  pub cause : MatchOption got (Rose s.faults count) (λ _. count ≡ s.faults)

-- what a read asks for, where so many samples are lacking: all of them, 4,096 at most
abbrev pub asks : ℕ → ℕ
asks lacks = min 4096 lacks

-- The results are all samples or bytes, or why there are too few. `found` tells the first alarm among samples that a read
-- gave, behind those that the call has read before.
module _ (row : SourceRow) (found : List ℕ → List ℕ → Option Alarm) where
  -- The reads for one block or for the start-up, from a moment on: how many samples it lacks, those that it has, and all
  -- that the call has read. After an alarm, a failed read or the end of the samples there is no further read.
  abbrev pub Gathers : ℕ → SourceState → List ℕ → List ℕ → List SourceAct → Result (List ℕ) SourceRefusal → Type 0
  Gathers lacks s has read [] result = (lacks ≡ 0) × (result ≡ Ok has)
  Gathers lacks s has read (Read asked None count ∷ acts) result =
      (0 < lacks) × (asked ≡ asks lacks) × Answers s asked None count × (acts ≡ []) × (result ≡ Err (SourceFault count))
  Gathers lacks s has read (Read asked (Some []) count ∷ acts) result =
      (0 < lacks) × (asked ≡ asks lacks) × Answers s asked (Some []) count × (acts ≡ []) × (result ≡ Err (WantOfEntropy lacks))
  Gathers lacks s has read (Read asked (Some (x ∷ xs)) count ∷ acts) result =
      (0 < lacks) × (asked ≡ asks lacks) × Answers s asked (Some (x ∷ xs)) count
      × MatchOption (found read (x ∷ xs))
      (Gathers (lacks - length (x ∷ xs)) (source_after row s (Read asked (Some (x ∷ xs)) count)) (has ++ x ∷ xs) (read ++ x ∷ xs) acts result)
      (λ a. (acts ≡ Alarmed (s.taken + a.at) a.test ∷ []) × (result ≡ Err (HealthFailed (s.taken + a.at) a.test)))
  Gathers lacks s has read (_ ∷ acts) result = ⊥

  -- So many blocks in a row, behind those that gave the bytes `out`. Each takes the samples that were read for it and no
  -- others, and those of a block that was never full enter none.
  abbrev pub Draws : ℕ → SourceState → List ℕ → List ℕ → List SourceAct → Result (List ℕ) SourceRefusal → Type 0
  Draws zero s read out acts result = (acts ≡ []) × (result ≡ Ok out)
  Draws (suc n) s read out acts result =
      (reads : List SourceAct) × (rest : List SourceAct) × (end : Result (List ℕ) SourceRefusal)
      × (acts ≡ reads ++ rest) × Gathers (need_of_block row) s [] read reads end
      × MatchResult end
      (λ block. let bytes = conditioned row.cond block in
      let now = source_after_all row s reads in
      let made = Block s.taken now.taken bytes in
      (more : List SourceAct) × (rest ≡ made ∷ more)
      × Draws n (source_after row now made) (read ++ block) (out ++ bytes) more result)
      (λ why. (rest ≡ []) × (result ≡ Err why))

-- what is asked for by its lengths, out of the bytes of all blocks: each takes whole blocks and gets their first bytes
abbrev pub portions : SourceRow → List ℕ → List ℕ → List (List ℕ)
portions row [] bytes = []
portions row (n ∷ wants) bytes = take n bytes ∷ portions row wants (drop (blocks_for row n * block_len row.cond) bytes)

-- a draw of several lengths
abbrev pub Drawn : SourceRow → (List ℕ → List ℕ → Option Alarm) → SourceState → List ℕ → List SourceAct → Result (List ℕ) SourceRefusal → Type 0
Drawn row found s wants acts result = Draws row found (sum (map (λ n. blocks_for row n) wants)) s [] [] acts result

-- a start: the samples of the start-up are read and tested from fresh tests on, and thrown away
abbrev pub Start : SourceRow → SourceState → List SourceAct → Result (List ℕ) SourceRefusal → Type 0
Start row s acts result =
    (reads : List SourceAct) × (rest : List SourceAct) × (end : Result (List ℕ) SourceRefusal)
    × (acts ≡ Began ∷ (reads ++ rest))
    × Gathers row (alarm_in row.cutoffs) row.startup (source_after row s Began) [] [] reads end
    × MatchResult end (λ _. (rest ≡ Started ∷ []) × (result ≡ Ok [])) (λ why. (rest ≡ []) × (result ≡ Err why))

-- the first alarm by what the tests keep of the samples before the call
abbrev pub found_in : Limits → Option Tail → List ℕ → List ℕ → Option Alarm
found_in c None read got = None
found_in c (Some tail) read got = alarm_from c (tail_after c.window tail read) got
