use Rattle.std.specs.Prelude.{take}
use Rattle.tree_rules.specs.Chain.{target}
use Rattle.shared_tree.specs.Rows.{what_of}
use Rattle.shared_tree.specs.Carries.{Makes, Meets}
use Rattle.shared_tree.proofs.Leaving.{ok_map, err_map, able, keeps_left, makes_left, meets_left}
use Rattle.shared_tree.proofs.Taking.{takes_none, takes_left}
use Rattle.shared_tree.proofs.calls.+climb.Goals as goal

pub leave-requires-clause-held : goal.leave-requires-clause-held
leave-requires-clause-held g t c =
    able g.S.Samples.told g.S.Samples.faults c.in-Take.slot c.args.pass.now.view c.reach.new.pass.view c.climb-answer.new.pass.view c.in-Ok.ensures.reaches (what_of c.climb-answer.new.row) c.climb-answer.ensures.keeps

pub returns-in-Ok-clause-keeps : goal.returns-in-Ok-clause-keeps
returns-in-Ok-clause-keeps g t c =
    keeps_left g.S.Samples.told g.S.Samples.faults c.in-Take.slot c.args.pass.now.view c.reach.new.pass.view c.climb-answer.new.pass.view c.in-Ok.ensures.reaches (what_of c.climb-answer.new.row) c.climb-answer.ensures.keeps
    (what_of c.leave.new.row) c.leave.ensures.others c.leave.new.pass.view c.leave.ensures.freed

pub returns-in-Ok-clause-made : goal.returns-in-Ok-clause-made
returns-in-Ok-clause-made g t c =
    let told = g.S.Samples.told in let faults = g.S.Samples.faults in
    ok_map c.climb-answer.result (λ r. Makes told faults c.args.call.now c.args.input.now r (take r.len c.climb-answer.new.out) c.reach.new.pass.view c.climb-answer.new.pass.view)
    (λ r. Makes told faults c.args.call.now c.args.input.now r (take r.len c.climb-answer.new.out) c.args.pass.now.view c.leave.new.pass.view)
    (λ r m. makes_left told faults c.in-Take.slot c.args.pass.now.view c.reach.new.pass.view c.climb-answer.new.pass.view c.in-Ok.ensures.reaches c.leave.new.pass.view c.leave.ensures.freed
    c.args.call.now c.args.input.now r (take r.len c.climb-answer.new.out) m) c.climb-answer.ensures.made

pub returns-in-Ok-clause-busy : goal.returns-in-Ok-clause-busy
returns-in-Ok-clause-busy g t c =
    let p = c.args.plan.now in
    err_map c.climb-answer.result (λ b. Meets p (target p c.args.call.now) c.args.call.now c.args.input.now b c.reach.new.pass.view c.climb-answer.new.pass.view)
    (λ b. Meets p (target p c.args.call.now) c.args.call.now c.args.input.now b c.args.pass.now.view c.leave.new.pass.view)
    (λ b m. meets_left c.in-Take.slot c.args.pass.now.view c.reach.new.pass.view c.climb-answer.new.pass.view c.in-Ok.ensures.reaches c.leave.new.pass.view c.leave.ensures.freed
    c.in-Ok.ensures.met p (target p c.args.call.now) c.args.call.now c.args.input.now b m) c.climb-answer.ensures.busy

pub returns-in-Ok-clause-taken : goal.returns-in-Ok-clause-taken
returns-in-Ok-clause-taken g t c =
    let p = c.args.plan.now in
    takes_left p (target p c.args.call.now) c.in-Take.slot c.args.pass.now.view c.reach.new.pass.view c.climb-answer.new.pass.view c.leave.new.pass.view c.reach.ensures.taken c.climb-answer.ensures.taken c.leave.ensures.freed

pub returns-in-Refuse-clause-taken : goal.returns-in-Refuse-clause-taken
returns-in-Refuse-clause-taken g t c =
    let p = c.args.plan.now in takes_none p (target p c.args.call.now) c.args.pass.now.view.taken c.refuse.new.pass.view.taken c.refuse.ensures.taken

pub returns-in-Ready-clause-taken : goal.returns-in-Ready-clause-taken
returns-in-Ready-clause-taken g t c =
    let p = c.args.plan.now in takes_none p (target p c.args.call.now) c.args.pass.now.view.taken c.perform.new.pass.view.taken c.perform.ensures.taken
