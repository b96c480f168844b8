use Rattle.shared_tree.proofs.Ready.{ready_back}
use Rattle.std.proofs.Common.{arith}
use Rattle.shared_bench.proofs.calls.outcome_of.Goals as goal

pub close-requires-clause-ready : goal.close-requires-clause-ready
close-requires-clause-ready g c =
    ready_back c.in_ok-tree-2.tree c.in_ok-tree-2.passes.len c.ask_all.new.passes c.in_ok-tree-2.passes.items
    (omega (arith, c.ask_all.ensures.count, c.ask_all.auto.passes, c.as_mut_slice.ensures.len, c.in_ok-tree-2.passes.ok)) c.ask_all.ensures.ready
