use Rattle.std.proofs.Common.{◌≡◌, ◌-◌, ◌++◌, length, take}
use Rattle.rbg_bench.specs.Samples.{generated}
use Rattle.rbg_bench.proofs.samples.fill.Given as goal

-- the samples so far, and those that come from the state
abbrev pub invariant-loop-at : goal.invariant-loop-at
invariant-loop-at l = take l.at l.samples ++ generated (length l.samples - l.at) l.state ≡ generated (length l.samples) 0
