use Rattle.std.proofs.Common.{ℕ, sym, subst, arith}
use Rattle.std.specs.Prelude.{take}
use Rattle.tree_rules.specs.Chain.{target}
use Rattle.tree_rules.specs.Replies.{chain_of}
use Rattle.tree_rules.specs.Served.{Served}
use Rattle.tree_rules.proofs.Refusals.{bare_refusal, refused_served}
use Rattle.tree_acts.specs.Hold.{states_held}
use Rattle.tree_acts.specs.Wiped.{IsWipedBehind}
use Rattle.tree_acts.proofs.Wiping.{kept}
use Rattle.shared_tree.specs.Rows.{what_of, room_of}
use Rattle.shared_tree.proofs.Plans.{same_rows}
use Rattle.shared_tree.proofs.Settling.{may_settle, keeps_settled, makes_settled, met_settled, taken_settled}
use Rattle.shared_tree.proofs.calls.refuse.Goals as goal

pub settle-requires-clause-may : goal.settle-requires-clause-may
settle-requires-clause-may g c =
    let told = g.S.Samples.told in let faults = g.S.Samples.faults in let h = what_of c.args.row.now in let p = c.args.plan.now in
    let now = states_held told faults h in
    let none = bare_refusal p c.args.call.now c.args.input.now (chain_of p now c.args.call.now c.args.input.now) c.args.reply.now c.requires.refused.1 in
    may_settle told faults p (target p c.args.call.now) (room_of c.args.row.now) c.args.turns.now.table.slots h c.args.pass.now.view c.requires.carrying
    h c.args.call.now c.args.input.now c.args.reply.now (take c.args.reply.now.len c.args.out.now)
    (subst (λ (n : ℕ). Served p now now c.args.call.now c.args.input.now c.args.reply.now (take n c.args.out.now)) (sym none)
    (refused_served p now c.args.call.now c.args.input.now c.args.reply.now c.requires.refused.1)) c.requires.refused.0

pub returns-clause-keeps : goal.returns-clause-keeps
returns-clause-keeps g c =
    let h = what_of c.args.row.now in let p = c.args.plan.now in
    keeps_settled g.S.Samples.told g.S.Samples.faults p (target p c.args.call.now) (room_of c.args.row.now) c.args.turns.now.table.slots h c.args.pass.now.view c.requires.carrying
    h c.args.call.now c.args.input.now c.args.reply.now (take c.args.reply.now.len c.args.out.now) c.settle.new.pass.view c.settle.ensures.settled (same_rows h) c.requires.carrying.plan

pub returns-clause-made : goal.returns-clause-made
returns-clause-made g c =
    let h = what_of c.args.row.now in let p = c.args.plan.now in
    makes_settled g.S.Samples.told g.S.Samples.faults p (target p c.args.call.now) (room_of c.args.row.now) c.args.turns.now.table.slots h c.args.pass.now.view c.requires.carrying
    h c.args.call.now c.args.input.now c.args.reply.now (take c.args.reply.now.len c.args.out.now) c.settle.new.pass.view c.settle.ensures.settled

pub returns-clause-met : goal.returns-clause-met
returns-clause-met g c =
    let h = what_of c.args.row.now in let p = c.args.plan.now in
    met_settled g.S.Samples.told g.S.Samples.faults p (target p c.args.call.now) (room_of c.args.row.now) c.args.turns.now.table.slots h c.args.pass.now.view c.requires.carrying
    h c.args.call.now c.args.input.now c.args.reply.now (take c.args.reply.now.len c.args.out.now) c.settle.new.pass.view c.settle.ensures.settled

pub returns-clause-behind : goal.returns-clause-behind
returns-clause-behind g c =
    let p = c.args.plan.now in let now = states_held g.S.Samples.told g.S.Samples.faults (what_of c.args.row.now) in
    let none = bare_refusal p c.args.call.now c.args.input.now (chain_of p now c.args.call.now c.args.input.now) c.args.reply.now c.requires.refused.1 in
    subst (λ (n : ℕ). IsWipedBehind n c.args.out.now c.args.out.now) (sym none) (kept c.args.out.now)

pub returns-clause-within : goal.returns-clause-within
returns-clause-within g c =
    let p = c.args.plan.now in let now = states_held g.S.Samples.told g.S.Samples.faults (what_of c.args.row.now) in
    let none = bare_refusal p c.args.call.now c.args.input.now (chain_of p now c.args.call.now c.args.input.now) c.args.reply.now c.requires.refused.1 in
    omega (arith, none)

pub returns-clause-taken : goal.returns-clause-taken
returns-clause-taken g c =
    let h = what_of c.args.row.now in let p = c.args.plan.now in
    taken_settled g.S.Samples.told g.S.Samples.faults p (target p c.args.call.now) (room_of c.args.row.now) c.args.turns.now.table.slots h c.args.pass.now.view c.requires.carrying
    h c.args.call.now c.args.input.now c.args.reply.now (take c.args.reply.now.len c.args.out.now) c.settle.new.pass.view c.settle.ensures.settled
