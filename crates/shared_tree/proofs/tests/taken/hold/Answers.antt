use Rattle.std.proofs.Common.{◌<◌, length, subst, sym}
use Rattle.shared_tree.specs.Passes.{SharedView}
use Rattle.shared_tree.proofs.Holding.{has_none, may_return, node_slot, on_own_path}
use Rattle.shared_tree.proofs.tests.taken.hold.Goals as goal

pub try_take-requires-clause-slots : goal.try_take-requires-clause-slots
try_take-requires-clause-slots g c =
    let low = node_slot c.tree.inside.plan c.tree.inside.turns.table.slots c.args.node c.tree.invariant.0
    (subst (λ (t : SharedView). c.args.node < length t.plan.nodes) (sym c.tree.view_is) c.requires.node) in (low, low)

pub try_take-requires-clause-path : goal.try_take-requires-clause-path
try_take-requires-clause-path g c = on_own_path c.args.tree.now c.args.pass.now c.requires.pass c.args.node

pub try_take-requires-clause-free : goal.try_take-requires-clause-free
try_take-requires-clause-free g c = has_none c.args.tree.now c.args.pass.now c.requires.pass c.args.node

pub returns-in-Ok-clause-turn : goal.returns-in-Ok-clause-turn
returns-in-Ok-clause-turn g c = may_return g.S.Samples.told g.S.Samples.faults c.args.node c.in-Ok.value c.args.pass.now.view c.try_take.new.pass.view c.in-Ok.ensures.took
