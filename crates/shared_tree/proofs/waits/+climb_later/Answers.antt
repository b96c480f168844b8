use Rattle.std.proofs.Common.{sym, subst}
use Rattle.std.specs.Prelude.{take}
use Rattle.turn_table.specs.declared.view.View.{View}
use Rattle.tree_rules.specs.Slots.{path}
use Rattle.tree_rules.specs.Chain.{target}
use Rattle.shared_tree.specs.Answers.{GrowsAmong}
use Rattle.shared_tree.specs.Rows.{what_of}
use Rattle.shared_tree.proofs.Leaving.{able, keeps_left, makes_left}
use Rattle.shared_tree.proofs.Staying.{grows_on, grows_same}
use Rattle.shared_tree.proofs.Taking.{takes_none, takes_left}
use Rattle.shared_tree.proofs.waits.+climb_later.Goals as goal

pub leave-requires-clause-held : goal.leave-requires-clause-held
leave-requires-clause-held g t c =
    able g.S.Samples.told g.S.Samples.faults c.in-Take.slot c.args.pass.now.view c.reach_later.new.pass.view c.climb_later-reply.new.pass.view c.reach_later.ensures.reaches (what_of c.climb_later-reply.new.row) c.climb_later-reply.ensures.keeps

pub returns-in-Take-clause-keeps : goal.returns-in-Take-clause-keeps
returns-in-Take-clause-keeps g t c =
    keeps_left g.S.Samples.told g.S.Samples.faults c.in-Take.slot c.args.pass.now.view c.reach_later.new.pass.view c.climb_later-reply.new.pass.view c.reach_later.ensures.reaches (what_of c.climb_later-reply.new.row) c.climb_later-reply.ensures.keeps
    (what_of c.leave.new.row) c.leave.ensures.others c.leave.new.pass.view c.leave.ensures.freed

pub returns-in-Take-clause-made : goal.returns-in-Take-clause-made
returns-in-Take-clause-made g t c =
    makes_left g.S.Samples.told g.S.Samples.faults c.in-Take.slot c.args.pass.now.view c.reach_later.new.pass.view c.climb_later-reply.new.pass.view c.reach_later.ensures.reaches c.leave.new.pass.view c.leave.ensures.freed
    c.args.call.now c.args.input.now c.climb_later-reply.result (take c.climb_later-reply.result.len c.climb_later-reply.new.out) c.climb_later-reply.ensures.made

pub returns-in-Take-clause-met : goal.returns-in-Take-clause-met
returns-in-Take-clause-met g t c =
    let p = c.args.plan.now in
    let slots = path p (target p c.args.call.now) in
    subst (λ (v : View). GrowsAmong slots c.args.pass.now.view.met v.met) (sym c.leave.ensures.freed)
    (grows_on slots c.args.pass.now.view.met c.reach_later.new.pass.view.met c.climb_later-reply.new.pass.view.met c.reach_later.ensures.met c.climb_later-reply.ensures.met)

pub returns-in-Refuse-clause-met : goal.returns-in-Refuse-clause-met
returns-in-Refuse-clause-met g t c =
    let p = c.args.plan.now in grows_same (path p (target p c.args.call.now)) c.args.pass.now.view.met c.refuse.new.pass.view.met c.refuse.ensures.met

pub returns-in-Ready-clause-met : goal.returns-in-Ready-clause-met
returns-in-Ready-clause-met g t c =
    let p = c.args.plan.now in grows_same (path p (target p c.args.call.now)) c.args.pass.now.view.met c.perform.new.pass.view.met c.perform.ensures.met

pub returns-in-Take-clause-taken : goal.returns-in-Take-clause-taken
returns-in-Take-clause-taken g t c =
    let p = c.args.plan.now in
    takes_left p (target p c.args.call.now) c.in-Take.slot c.args.pass.now.view c.reach_later.new.pass.view c.climb_later-reply.new.pass.view c.leave.new.pass.view c.reach_later.ensures.taken c.climb_later-reply.ensures.taken c.leave.ensures.freed

pub returns-in-Refuse-clause-taken : goal.returns-in-Refuse-clause-taken
returns-in-Refuse-clause-taken g t c =
    let p = c.args.plan.now in takes_none p (target p c.args.call.now) c.args.pass.now.view.taken c.refuse.new.pass.view.taken c.refuse.ensures.taken

pub returns-in-Ready-clause-taken : goal.returns-in-Ready-clause-taken
returns-in-Ready-clause-taken g t c =
    let p = c.args.plan.now in takes_none p (target p c.args.call.now) c.args.pass.now.view.taken c.perform.new.pass.view.taken c.perform.ensures.taken
