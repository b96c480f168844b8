use Rattle.std.proofs.Common.{◌≡◌, length, slice_get, Some, ap, refl, arith}
use Rattle.std.proofs.lemmas.Option.{slice_get_read}
use Rattle.tree_config.proofs.tree_plan.TreePlan.node.Goals as goal

pub returns-clause-range : goal.returns-clause-range
returns-clause-range c =
    let nodes = c.self.inside.nodes.items in
    let size : length nodes ≡ length c.args.self.now.nodes = ap (λ t. length t.nodes) c.self.view_is in
    let here : slice_get nodes c.from.result ≡ Some c.index.result.now = slice_get_read nodes _ _ _ refl (omega arith) c.index.ensures in
    rw (← c.self.view_is) (c.self.invariant.0.node c.from.result c.index.result.now here)
