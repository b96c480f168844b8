use Rattle.std.proofs.Common.{◌++◌, ◌∙◌, ap}
use Rattle.tree_core.specs.Opened.{one_at}
use Rattle.tree_core.proofs.Callings.{nodes_next}
use Rattle.tree_core.proofs.opening.add_depth.Goals as goal

pub loop-n-preserved : goal.loop-n-preserved
loop-n-preserved c =
    c.in_ok-add_node.ensures.calls ∙ (ap (λ z. z ++ one_at c.args.plan.now c.args.depth c.loop-n.n) c.loop-n.invariant ∙ nodes_next c.args.plan.now c.args.calls.now.items c.args.depth c.loop-n.n)
