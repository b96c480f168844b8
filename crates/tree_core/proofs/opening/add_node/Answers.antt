use Rattle.std.proofs.Common.{◌++◌, ◌∙◌, ap, sym}
use Rattle.tree_core.proofs.Callings.{one_none, one_some}
use Rattle.tree_core.proofs.opening.add_node.Goals as goal

pub returns-then-depth : goal.returns-then-depth
returns-then-depth c =
    let is = c.depths_count_paths.ensures 8 c.args.plan.now c.args.n c.depth.result c.nodes-tree.ensures.tree c.requires.there c.depth.ensures.value in
    record { calls = one_none c.args.plan.now c.args.depth c.args.n c.args.calls.now.items (λ same. c.if-depth.true (sym is ∙ same)) }

pub returns : goal.returns
returns c =
    let is = c.depths_count_paths.ensures 8 c.args.plan.now c.args.n c.depth.result c.nodes-tree.ensures.tree c.requires.there c.depth.ensures.value in
    record { calls = c.in_ok-push.ensures.items ∙ ap (λ z. c.args.calls.now.items ++ z) (sym (one_some c.args.plan.now c.args.depth c.args.n (is ∙ c.if-depth.false))) }
