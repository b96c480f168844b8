-- What happens to an entropy source: its acts, its state, and the state after acts. The numbers of a draw.
-- SP 800-90B 3.1 and 4.3, in this project's own words.
use Rattle.std.specs.Prelude.{ℕ, ◌+◌, ◌*◌, List, [], ◌∷◌, length, drop, map, sum, Option, Some, None}
use Rattle.std.specs.Option.{option_map}
use Rattle.std.specs.Int.{div_ceil}
use Rattle.health_tests.specs.declared.windows.Test.{Test}
use Rattle.health_tests.specs.declared.numbers.Tail.{Tail}
use Rattle.health_tests.specs.Numbers.{no_tail, tail_after}
use Rattle.conditioner.specs.Conditioned.{block_len, need}
use Rattle.entropy_source.specs.declared.answers.SourceMode.{SourceMode}
use Rattle.entropy_source.specs.declared.answers.SourceMode.TheVariants as modes
use Rattle.entropy_source.specs.declared.answers.SourceRow.{SourceRow}

-- one event of a source
pub data SourceAct : Type 0 where
  -- a start is made, and the tests are fresh
  Began : SourceAct
  -- one read: how many samples were asked for, those given or None where it failed, and the fault count afterwards
  Read : (asked : ℕ) (got : Option (List ℕ)) (count : ℕ) → SourceAct
  -- the sample at this place, among all samples since the source was opened, is the first alarm since the tests were fresh
  Alarmed : (index : ℕ) (test : Test) → SourceAct
  -- the start was passed
  Started : SourceAct
  -- one conditioned block, of the samples at the places from .. to - 1
  Block : (from to : ℕ) (bytes : List ℕ) → SourceAct

-- the state of a source: the samples taken since it was opened, its blocks and its alarms in number, its mode, what the
-- tests keep of the samples since they were fresh while there is no alarm among them, the samples to come where they are
-- told, and the fault count
pub record SourceState : Type 0 where
  pub taken : ℕ
  pub blocks : ℕ
  pub alarms : ℕ
  pub mode : SourceMode
  pub tail : Option Tail
  pub told : Option (List ℕ)
  pub faults : ℕ

-- the samples that a read gave
abbrev pub given : Option (List ℕ) → List ℕ
given None = []
given (Some xs) = xs

-- the state after one act
abbrev pub source_after : SourceRow → SourceState → SourceAct → SourceState
source_after row s Began = record s { mode = modes.Idle; tail = Some no_tail }
source_after row s (Read asked got count) = record s {
  taken = s.taken + length (given got);
  tail = option_map (λ t. tail_after row.cutoffs.window t (given got)) s.tail;
  told = option_map (λ xs. drop (length (given got)) xs) s.told;
  faults = count;
}
source_after row s (Alarmed index test) = record s { alarms = s.alarms + 1; mode = modes.Alarmed index test; tail = None }
source_after row s Started = record s { mode = modes.Running }
source_after row s (Block from to bytes) = record s { blocks = s.blocks + 1 }

-- the state after acts in a row
abbrev pub source_after_all : SourceRow → SourceState → List SourceAct → SourceState
source_after_all row s [] = s
source_after_all row s (a ∷ acts) = source_after_all row (source_after row s a) acts

-- a source as it is opened
abbrev pub opened_source : Option (List ℕ) → ℕ → SourceState
opened_source told faults =
    record { taken = 0; blocks = 0; alarms = 0; mode = modes.Idle; tail = Some no_tail; told = told; faults = faults }

-- the samples of one block
abbrev pub need_of_block : SourceRow → ℕ
need_of_block row = need row.cond row.num row.den

-- the blocks of n bytes, and the samples that a draw of these lengths takes
abbrev pub blocks_for : SourceRow → ℕ → ℕ
blocks_for row n = div_ceil n (block_len row.cond)

abbrev pub need_of : SourceRow → List ℕ → ℕ
need_of row wants = sum (map (λ n. blocks_for row n) wants) * need_of_block row
