use Rattle.tree_config.specs.Rows.{rows_view}
use Rattle.tree_config.proofs.Planning.{planned, any_plan}
use Rattle.tree_config.proofs.tree_plan.TreePlan.read.Goals as goal

pub tree-requires-clause-known : goal.tree-requires-clause-known
tree-requires-clause-known c = rw c.deref.ensures.value c.in_ok-nodes.ensures.1

pub invariant_of-result : goal.invariant_of-result
invariant_of-result c =
    let nodes = c.in_ok-nodes.ensures in
    let made = rw (c.deref.ensures.value, c.depth_limit-2.ensures.value) at c.in_ok-depths.ensures in
    let range = planned c.args.text.now (rows_view c.in_ok-rows.rows) c.in_ok-rows.ensures.value (rw (← nodes.0) nodes.1) in
    (any_plan _ (rw nodes.0 range), made.0, made.1)

pub returns-clause-range : goal.returns-clause-range
returns-clause-range c =
    let nodes = c.in_ok-nodes.ensures in
    let range = planned c.args.text.now (rows_view c.in_ok-rows.rows) c.in_ok-rows.ensures.value (rw (← nodes.0) nodes.1) in
    rw nodes.0 range
