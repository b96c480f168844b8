use Rattle.std.proofs.Common.{◌<◌, ℕ, sym, subst}
use Rattle.tree_rules.specs.Chain.{target}
use Rattle.shared_tree.specs.Carries.{Meets}
use Rattle.shared_tree.proofs.Reaching.{lies, on_path, unheld, none_there, has_room, met, keeps_met, reaches, met_taken, is_of_now, carries_on}
use Rattle.shared_tree.proofs.Taking.{takes_met, takes_one}
use Rattle.shared_tree.proofs.calls.reach.Goals as goal

pub target-target-requires : goal.target-target-requires
target-target-requires g c = (lies g.S.Samples.told g.S.Samples.faults c.args.plan.now c.args.call.now c.args.input.now c.args.row.now c.args.turns.now.table.slots c.args.pass.now.view c.requires.carrying c.args.slot c.requires.next).3

pub try_take-requires-clause-slots : goal.try_take-requires-clause-slots
try_take-requires-clause-slots g c =
    let l = lies g.S.Samples.told g.S.Samples.faults c.args.plan.now c.args.call.now c.args.input.now c.args.row.now c.args.turns.now.table.slots c.args.pass.now.view c.requires.carrying c.args.slot c.requires.next in
    (l.1, subst (λ (n : ℕ). n < c.args.turns.now.table.slots) (sym c.target-target.ensures) l.2)

pub try_take-requires-clause-path : goal.try_take-requires-clause-path
try_take-requires-clause-path g c = on_path g.S.Samples.told g.S.Samples.faults c.args.plan.now c.args.call.now c.args.input.now c.args.row.now c.args.turns.now.table.slots c.args.pass.now.view c.requires.carrying c.args.slot c.requires.next c.target-target.result c.target-target.ensures

pub try_take-requires-clause-free : goal.try_take-requires-clause-free
try_take-requires-clause-free g c = unheld g.S.Samples.told g.S.Samples.faults c.args.plan.now c.args.call.now c.args.input.now c.args.row.now c.args.turns.now.table.slots c.args.pass.now.view c.requires.carrying c.args.slot c.requires.next

pub put-requires-clause-room : goal.put-requires-clause-room
put-requires-clause-room g c =
    has_room g.S.Samples.told g.S.Samples.faults c.args.plan.now c.args.call.now c.args.input.now c.args.row.now c.args.turns.now.table.slots c.args.pass.now.view c.requires.carrying c.args.slot c.requires.next c.in-Ok.value
    (is_of_now g.S.Samples.told g.S.Samples.faults c.args.plan.now c.args.call.now c.args.input.now c.args.row.now c.args.turns.now.table.slots c.args.pass.now.view c.requires.carrying c.args.slot c.requires.next c.target-target.result c.in-Ok.value c.try_take.new.pass.view c.in-Ok.ensures.took)

pub put-requires-clause-free : goal.put-requires-clause-free
put-requires-clause-free g c = none_there g.S.Samples.told g.S.Samples.faults c.args.plan.now c.args.call.now c.args.input.now c.args.row.now c.args.turns.now.table.slots c.args.pass.now.view c.requires.carrying c.args.slot c.requires.next

pub returns-in-Ok-clause-carrying : goal.returns-in-Ok-clause-carrying
returns-in-Ok-clause-carrying g c =
    carries_on g.S.Samples.told g.S.Samples.faults c.args.plan.now c.args.call.now c.args.input.now c.args.row.now c.args.turns.now.table.slots c.args.pass.now.view c.requires.carrying c.args.slot c.requires.next
    c.target-target.result c.in-Ok.value c.try_take.new.pass.view c.in-Ok.ensures.took c.put.new.self c.put.ensures.there c.put.ensures.alone c.put.ensures.others c.put.ensures.room

pub returns-in-Ok-clause-reaches : goal.returns-in-Ok-clause-reaches
returns-in-Ok-clause-reaches g c =
    reaches g.S.Samples.told g.S.Samples.faults c.args.plan.now c.args.call.now c.args.input.now c.args.row.now c.args.turns.now.table.slots c.args.pass.now.view c.requires.carrying c.args.slot c.requires.next
    c.target-target.result c.in-Ok.value c.try_take.new.pass.view c.in-Ok.ensures.took

pub returns-in-Ok-clause-met : goal.returns-in-Ok-clause-met
returns-in-Ok-clause-met g c =
    met_taken g.S.Samples.told g.S.Samples.faults c.args.plan.now c.args.call.now c.args.input.now c.args.row.now c.args.turns.now.table.slots c.args.pass.now.view c.requires.carrying c.args.slot c.requires.next
    c.target-target.result c.in-Ok.value c.try_take.new.pass.view c.in-Ok.ensures.took

pub returns-in-Err-clause-busy : goal.returns-in-Err-clause-busy
returns-in-Err-clause-busy g c =
    let p = c.args.plan.now in
    subst (λ (k : ℕ). Meets p (target p c.args.call.now) c.args.call.now c.args.input.now (record { slot = k; holder = c.in-Err.held.holder; target = c.in-Err.held.target }) c.args.pass.now.view c.try_take.new.pass.view)
    (sym c.in-Err.ensures.held.0)
    (met g.S.Samples.told g.S.Samples.faults c.args.plan.now c.args.call.now c.args.input.now c.args.row.now c.args.turns.now.table.slots c.args.pass.now.view c.requires.carrying c.args.slot c.requires.next c.in-Err.held.target c.in-Err.held.holder c.try_take.new.pass.view c.in-Err.ensures.held.1)

pub returns-in-Err-clause-keeps : goal.returns-in-Err-clause-keeps
returns-in-Err-clause-keeps g c =
    keeps_met g.S.Samples.told g.S.Samples.faults c.args.plan.now c.args.call.now c.args.input.now c.args.row.now c.args.turns.now.table.slots c.args.pass.now.view c.requires.carrying c.args.slot c.requires.next c.in-Err.held.target c.in-Err.held.holder c.try_take.new.pass.view c.in-Err.ensures.held.1

pub returns-in-Ok-clause-taken : goal.returns-in-Ok-clause-taken
returns-in-Ok-clause-taken g c =
    let p = c.args.plan.now in
    let l = lies g.S.Samples.told g.S.Samples.faults p c.args.call.now c.args.input.now c.args.row.now c.args.turns.now.table.slots c.args.pass.now.view c.requires.carrying c.args.slot c.requires.next in
    takes_one p (target p c.args.call.now) g.S.Samples.told g.S.Samples.faults c.args.slot c.target-target.result l.0 c.target-target.ensures c.in-Ok.value c.args.pass.now.view c.try_take.new.pass.view c.in-Ok.ensures.took

pub returns-in-Err-clause-taken : goal.returns-in-Err-clause-taken
returns-in-Err-clause-taken g c =
    let p = c.args.plan.now in
    takes_met p (target p c.args.call.now) g.S.Samples.told g.S.Samples.faults c.args.slot c.in-Err.held.target c.in-Err.held.holder c.args.pass.now.view c.try_take.new.pass.view c.in-Err.ensures.held.1
