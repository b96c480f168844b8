use Rattle.std.proofs.Common.{◌<◌, ℕ, sym, subst}
use Rattle.tree_rules.specs.Slots.{path}
use Rattle.tree_rules.specs.Chain.{target}
use Rattle.shared_tree.specs.Rows.{what_of, room_of}
use Rattle.shared_tree.proofs.Reaching.{lies, on_path, unheld, none_there, has_room, reaches, is_of_now, carries_on}
use Rattle.shared_tree.proofs.Staying.{carry_over, met_later, reaches_later}
use Rattle.shared_tree.proofs.Taking.{takes_one_later}
use Rattle.shared_tree.proofs.waits.reach_later.Goals as goal

pub target-target-requires : goal.target-target-requires
target-target-requires g c = (lies g.S.Samples.told g.S.Samples.faults c.args.plan.now c.args.call.now c.args.input.now c.args.row.now c.args.turns.now.table.slots c.args.pass.now.view c.requires.carrying c.args.slot c.requires.next).3

pub take_later-value-requires-clause-slots : goal.take_later-value-requires-clause-slots
take_later-value-requires-clause-slots g c =
    let l = lies g.S.Samples.told g.S.Samples.faults c.args.plan.now c.args.call.now c.args.input.now c.args.row.now c.args.turns.now.table.slots c.args.pass.now.view c.requires.carrying c.args.slot c.requires.next in
    (l.1, subst (λ (n : ℕ). n < c.args.turns.now.table.slots) (sym c.target-target.ensures) l.2)

pub take_later-value-requires-clause-path : goal.take_later-value-requires-clause-path
take_later-value-requires-clause-path g c = on_path g.S.Samples.told g.S.Samples.faults c.args.plan.now c.args.call.now c.args.input.now c.args.row.now c.args.turns.now.table.slots c.args.pass.now.view c.requires.carrying c.args.slot c.requires.next c.target-target.result c.target-target.ensures

pub take_later-value-requires-clause-free : goal.take_later-value-requires-clause-free
take_later-value-requires-clause-free g c = unheld g.S.Samples.told g.S.Samples.faults c.args.plan.now c.args.call.now c.args.input.now c.args.row.now c.args.turns.now.table.slots c.args.pass.now.view c.requires.carrying c.args.slot c.requires.next

pub put-requires-clause-room : goal.put-requires-clause-room
put-requires-clause-room g c =
    let tk = c.take_later-value.ensures.took in
    let ca = carry_over g.S.Samples.told g.S.Samples.faults c.args.plan.now (target c.args.plan.now c.args.call.now) (what_of c.args.row.now) (room_of c.args.row.now) c.args.turns.now.table.slots c.args.slot c.args.pass.now.view tk.between tk.stays c.requires.carrying in
    has_room g.S.Samples.told g.S.Samples.faults c.args.plan.now c.args.call.now c.args.input.now c.args.row.now c.args.turns.now.table.slots tk.between ca c.args.slot c.requires.next c.take_later-value.result
    (is_of_now g.S.Samples.told g.S.Samples.faults c.args.plan.now c.args.call.now c.args.input.now c.args.row.now c.args.turns.now.table.slots tk.between ca c.args.slot c.requires.next c.target-target.result c.take_later-value.result c.take_later-value.new.pass.view tk.takes)

pub put-requires-clause-free : goal.put-requires-clause-free
put-requires-clause-free g c = none_there g.S.Samples.told g.S.Samples.faults c.args.plan.now c.args.call.now c.args.input.now c.args.row.now c.args.turns.now.table.slots c.args.pass.now.view c.requires.carrying c.args.slot c.requires.next

pub returns-clause-carrying : goal.returns-clause-carrying
returns-clause-carrying g c =
    let tk = c.take_later-value.ensures.took in
    let ca = carry_over g.S.Samples.told g.S.Samples.faults c.args.plan.now (target c.args.plan.now c.args.call.now) (what_of c.args.row.now) (room_of c.args.row.now) c.args.turns.now.table.slots c.args.slot c.args.pass.now.view tk.between tk.stays c.requires.carrying in
    carries_on g.S.Samples.told g.S.Samples.faults c.args.plan.now c.args.call.now c.args.input.now c.args.row.now c.args.turns.now.table.slots tk.between ca c.args.slot c.requires.next
    c.target-target.result c.take_later-value.result c.take_later-value.new.pass.view tk.takes c.put.new.self c.put.ensures.there c.put.ensures.alone c.put.ensures.others c.put.ensures.room

pub returns-clause-reaches : goal.returns-clause-reaches
returns-clause-reaches g c =
    let tk = c.take_later-value.ensures.took in
    let ca = carry_over g.S.Samples.told g.S.Samples.faults c.args.plan.now (target c.args.plan.now c.args.call.now) (what_of c.args.row.now) (room_of c.args.row.now) c.args.turns.now.table.slots c.args.slot c.args.pass.now.view tk.between tk.stays c.requires.carrying in
    reaches_later c.args.slot c.args.pass.now.view tk.between c.take_later-value.new.pass.view tk.stays
    (reaches g.S.Samples.told g.S.Samples.faults c.args.plan.now c.args.call.now c.args.input.now c.args.row.now c.args.turns.now.table.slots tk.between ca c.args.slot c.requires.next c.target-target.result c.take_later-value.result c.take_later-value.new.pass.view tk.takes)

pub returns-clause-met : goal.returns-clause-met
returns-clause-met g c =
    let p = c.args.plan.now in
    let l = lies g.S.Samples.told g.S.Samples.faults p c.args.call.now c.args.input.now c.args.row.now c.args.turns.now.table.slots c.args.pass.now.view c.requires.carrying c.args.slot c.requires.next in
    met_later g.S.Samples.told g.S.Samples.faults c.args.slot c.target-target.result c.take_later-value.result c.args.pass.now.view c.take_later-value.new.pass.view
    (path p (target p c.args.call.now)) l.0 c.take_later-value.ensures.took

pub returns-clause-taken : goal.returns-clause-taken
returns-clause-taken g c =
    let p = c.args.plan.now in
    let l = lies g.S.Samples.told g.S.Samples.faults p c.args.call.now c.args.input.now c.args.row.now c.args.turns.now.table.slots c.args.pass.now.view c.requires.carrying c.args.slot c.requires.next in
    takes_one_later p (target p c.args.call.now) g.S.Samples.told g.S.Samples.faults c.args.slot c.target-target.result l.0 c.target-target.ensures c.take_later-value.result c.args.pass.now.view c.take_later-value.new.pass.view c.take_later-value.ensures.took
