use Rattle.std.proofs.Common.{◌≡◌, ◌<◌, ◌+◌, ◌-◌, ◌^◌}
use Rattle.std.specs.List.{range_with_len}
use Rattle.tree_load.specs.Tally.{asks, sum_of}
use Rattle.tree_load.specs.Tallied.{asked_of}
use Rattle.tree_load.specs.Fits.{AllFit, counts_in}
use Rattle.tree_load.specs.Weights.{weigh}
use Rattle.tree_load.proofs.Weighing.{hands}
use Rattle.tree_load.proofs.tally.+asked.Given as goal

abbrev pub decreases-asked : goal.decreases-asked
decreases-asked l = l.far

abbrev pub invariant-children : goal.invariant-children
invariant-children l = AllFit l.plan (counts_in l.before) (asked_of l.calls)
    → sum_of (weigh l.weight) (asks l.far l.plan (λ m. (counts_in l.before m).counter) (asked_of l.calls) l.n) < 2 ^ 64
    → l.sum ≡ sum_of (weigh l.weight) (asked_of l.calls l.n) + sum_of (hands l.plan (λ m. (counts_in l.before m).counter) (asked_of l.calls) l.weight (l.far - 1) l.n) (range_with_len 0 l.m)
