use Rattle.std.proofs.Common.{◌≡◌, ◌<◌, ◌^◌, take}
use Rattle.tree_load.specs.Tally.{sum_of}
use Rattle.tree_load.specs.Tallied.{asked_of}
use Rattle.tree_load.specs.Weights.{weigh}
use Rattle.tree_load.proofs.tally.of_calls.Given as goal

abbrev pub invariant-calls : goal.invariant-calls
invariant-calls l = sum_of (weigh l.weight) (asked_of (take l.call-index l.calls) l.n) < 2 ^ 64 → l.sum ≡ sum_of (weigh l.weight) (asked_of (take l.call-index l.calls) l.n)
