use Rattle.std.proofs.Common.{◌≡◌, ◌<◌, ◌^◌}
use Rattle.std.specs.List.{range_with_len}
use Rattle.tree_load.specs.Tally.{all_blocks, sum_of}
use Rattle.tree_load.specs.Tallied.{asked_of}
use Rattle.tree_load.specs.Fits.{AllFit, counts_in}
use Rattle.tree_load.proofs.Summing.{blocks_at}
use Rattle.tree_load.proofs.blocks.all_blocks.Given as goal

abbrev pub invariant-nodes : goal.invariant-nodes
invariant-nodes l = AllFit l.plan (counts_in l.before) (asked_of l.calls) → all_blocks l.plan (λ m. (counts_in l.before m).counter) (asked_of l.calls) l.j < 2 ^ 64
    → l.blocks ≡ sum_of (blocks_at l.plan (λ m. (counts_in l.before m).counter) (asked_of l.calls) l.j) (range_with_len 0 l.n)
