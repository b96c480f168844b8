use Rattle.std.specs.Prelude.{take}
use Rattle.tree_rules.specs.Chain.{target}
use Rattle.shared_tree.specs.Rows.{what_of, room_of}
use Rattle.shared_tree.proofs.Plans.{plan_on}
use Rattle.shared_tree.proofs.Settling.{may_settle, keeps_settled, makes_settled, met_settled, taken_settled}
use Rattle.shared_tree.proofs.calls.perform.Goals as goal

pub settle-requires-clause-may : goal.settle-requires-clause-may
settle-requires-clause-may g c =
    let p = c.args.plan.now in
    may_settle g.S.Samples.told g.S.Samples.faults p (target p c.args.call.now) (room_of c.args.row.now) c.args.turns.now.table.slots (what_of c.args.row.now) c.args.pass.now.view c.requires.carrying
    (what_of c.work-reply.new.hold) c.args.call.now c.args.input.now c.work-reply.result (take c.work-reply.result.len c.work-reply.new.out) c.work-reply.ensures.served c.requires.ready.0

pub returns-clause-keeps : goal.returns-clause-keeps
returns-clause-keeps g c =
    let p = c.args.plan.now in
    keeps_settled g.S.Samples.told g.S.Samples.faults p (target p c.args.call.now) (room_of c.args.row.now) c.args.turns.now.table.slots (what_of c.args.row.now) c.args.pass.now.view c.requires.carrying
    (what_of c.work-reply.new.hold) c.args.call.now c.args.input.now c.work-reply.result (take c.work-reply.result.len c.work-reply.new.out) c.settle.new.pass.view c.settle.ensures.settled
    c.work-reply.ensures.rows (plan_on p (what_of c.args.row.now) (what_of c.work-reply.new.hold) c.work-reply.ensures.rows c.requires.carrying.plan)

pub returns-clause-made : goal.returns-clause-made
returns-clause-made g c =
    let p = c.args.plan.now in
    makes_settled g.S.Samples.told g.S.Samples.faults p (target p c.args.call.now) (room_of c.args.row.now) c.args.turns.now.table.slots (what_of c.args.row.now) c.args.pass.now.view c.requires.carrying
    (what_of c.work-reply.new.hold) c.args.call.now c.args.input.now c.work-reply.result (take c.work-reply.result.len c.work-reply.new.out) c.settle.new.pass.view c.settle.ensures.settled

pub returns-clause-met : goal.returns-clause-met
returns-clause-met g c =
    let p = c.args.plan.now in
    met_settled g.S.Samples.told g.S.Samples.faults p (target p c.args.call.now) (room_of c.args.row.now) c.args.turns.now.table.slots (what_of c.args.row.now) c.args.pass.now.view c.requires.carrying
    (what_of c.work-reply.new.hold) c.args.call.now c.args.input.now c.work-reply.result (take c.work-reply.result.len c.work-reply.new.out) c.settle.new.pass.view c.settle.ensures.settled

pub returns-clause-taken : goal.returns-clause-taken
returns-clause-taken g c =
    let p = c.args.plan.now in
    taken_settled g.S.Samples.told g.S.Samples.faults p (target p c.args.call.now) (room_of c.args.row.now) c.args.turns.now.table.slots (what_of c.args.row.now) c.args.pass.now.view c.requires.carrying
    (what_of c.work-reply.new.hold) c.args.call.now c.args.input.now c.work-reply.result (take c.work-reply.result.len c.work-reply.new.out) c.settle.new.pass.view c.settle.ensures.settled
