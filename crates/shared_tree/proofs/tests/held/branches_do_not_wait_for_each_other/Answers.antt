use Rattle.shared_tree.proofs.Ready.{ready_back}
use Rattle.std.proofs.Common.{arith}
use Rattle.shared_tree.proofs.tests.held.branches_do_not_wait_for_each_other.Goals as goal

pub close-requires-clause-ready : goal.close-requires-clause-ready
close-requires-clause-ready g c =
    ready_back c.in_ok-tree.tree c.in_ok-tree.passes.len c.play_all.new.passes c.in_ok-tree.passes.items
    (omega (arith, c.play_all.ensures.count, c.play_all.auto.passes, c.as_mut_slice.ensures.len, c.in_ok-tree.passes.ok)) c.play_all.ensures.ready
