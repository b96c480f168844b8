use Rattle.std.proofs.Common.{◌∙◌, [], ◌∷◌, sym, ap, subst}
use Rattle.std.specs.Prelude.{Option, Some, option_map}
use Rattle.entropy_source.specs.declared.answers.SourceRefusal.{SourceRefusal}
use Rattle.tree_rules.specs.declared.reply.Reply.{Reply}
use Rattle.tree_rules.specs.Slots.{node_plan}
use Rattle.tree_rules.specs.Links.{link}
use Rattle.tree_rules.specs.Chain.{source_of}
use Rattle.tree_rules.specs.Fits.{source_reply}
use Rattle.tree_acts.specs.Plain.{link_of, task_in}
use Rattle.tree_acts.specs.Hold.{states_held}
use Rattle.tree_acts.specs.Work.{Worked}
use Rattle.tree_acts.proofs.Ending.{step_draws, source_none, source_some, worked_own, worked_source}
use Rattle.tree_acts.proofs.ends.end_work.Goals as goal

pub own_work-requires-clause-none : goal.own_work-requires-clause-none
own_work-requires-clause-none g c =
    let told = g.S.Samples.told in let faults = g.S.Samples.faults in let p = c.args.plan.now in let h = g.H.Holdings.what c.args.hold.now in
    let s = states_held told faults h in let pr = c.args.pr in let task = task_in c.args.asked in let n = c.args.n in let l = link p n task (s n) in
    let step = c.step_at-step.result in let o = (node_plan p step.slot).origin in
    let draws = c.source_of.ensures.number ∙ step_draws told faults p pr task (s n) n step.slot (link_of step o) c.step_at-step.ensures.slot (c.step_at-step.ensures.link o) in
    source_none told faults p s pr l c.source_of.result draws c.in-None.is

pub source_work-requires-clause-on : goal.source_work-requires-clause-on
source_work-requires-clause-on g c =
    let told = g.S.Samples.told in let faults = g.S.Samples.faults in let p = c.args.plan.now in let h = g.H.Holdings.what c.args.hold.now in
    let s = states_held told faults h in let pr = c.args.pr in let task = task_in c.args.asked in let n = c.args.n in let l = link p n task (s n) in
    let step = c.step_at-step.result in let o = (node_plan p step.slot).origin in
    let draws = c.source_of.ensures.number ∙ step_draws told faults p pr task (s n) n step.slot (link_of step o) c.step_at-step.ensures.slot (c.step_at-step.ensures.link o) in
    source_some told faults p s pr l c.source_of.result c.in-Some.j draws c.in-Some.is

pub returns-in-None : goal.returns-in-None
returns-in-None g c =
    let told = g.S.Samples.told in let faults = g.S.Samples.faults in let p = c.args.plan.now in let h = g.H.Holdings.what c.args.hold.now in
    let s = states_held told faults h in let pr = c.args.pr in let task = task_in c.args.asked in let n = c.args.n in let l = link p n task (s n) in
    let step = c.step_at-step.result in let o = (node_plan p step.slot).origin in
    let draws = c.source_of.ensures.number ∙ step_draws told faults p pr task (s n) n step.slot (link_of step o) c.step_at-step.ensures.slot (c.step_at-step.ensures.link o) in
    worked_own told faults p g.S.Samples.reads h (g.H.Holdings.what c.own_work.new.hold) pr c.args.string.now c.own_work.new.out l (source_none told faults p s pr l c.source_of.result draws c.in-None.is)
    c.own_work.ensures.did c.own_work.ensures.bytes

pub returns-in-None-source_work : goal.returns-in-None-source_work
returns-in-None-source_work g c =
    let told = g.S.Samples.told in let faults = g.S.Samples.faults in let p = c.args.plan.now in let h = g.H.Holdings.what c.args.hold.now in
    let s = states_held told faults h in let pr = c.args.pr in let task = task_in c.args.asked in let n = c.args.n in let l = link p n task (s n) in
    let step = c.step_at-step.result in let o = (node_plan p step.slot).origin in
    let draws = c.source_of.ensures.number ∙ step_draws told faults p pr task (s n) n step.slot (link_of step o) c.step_at-step.ensures.slot (c.step_at-step.ensures.link o) in
    let on = source_some told faults p s pr l c.source_of.result c.in-Some.j draws c.in-Some.is in
    let u = g.H.Holdings.what c.source_work.new.hold in
    let w = worked_source told faults p g.S.Samples.reads h u pr c.args.string.now c.source_work.new.out l c.in-Some.j c.source_work.result on c.source_work.ensures in
    subst (λ (r : Option Reply). Worked told faults g.S.Samples.reads p h u pr c.args.string.now (l ∷ []) (source_of p s pr l) r c.source_work.new.out)
    (ap (λ (r : Option SourceRefusal). option_map (λ why. source_reply c.in-Some.j why) r) c.in-None-source_work.is) w

pub returns-in-Some-source_work : goal.returns-in-Some-source_work
returns-in-Some-source_work g c =
    let told = g.S.Samples.told in let faults = g.S.Samples.faults in let p = c.args.plan.now in let h = g.H.Holdings.what c.args.hold.now in
    let s = states_held told faults h in let pr = c.args.pr in let task = task_in c.args.asked in let n = c.args.n in let l = link p n task (s n) in
    let step = c.step_at-step.result in let o = (node_plan p step.slot).origin in
    let draws = c.source_of.ensures.number ∙ step_draws told faults p pr task (s n) n step.slot (link_of step o) c.step_at-step.ensures.slot (c.step_at-step.ensures.link o) in
    let on = source_some told faults p s pr l c.source_of.result c.in-Some.j draws c.in-Some.is in
    let u = g.H.Holdings.what c.source_work.new.hold in
    let w = worked_source told faults p g.S.Samples.reads h u pr c.args.string.now c.source_work.new.out l c.in-Some.j c.source_work.result on c.source_work.ensures in
    subst (λ (r : Option Reply). Worked told faults g.S.Samples.reads p h u pr c.args.string.now (l ∷ []) (source_of p s pr l) r c.source_work.new.out)
    (ap (λ (r : Option SourceRefusal). option_map (λ why. source_reply c.in-Some.j why) r) c.in-Some-source_work.is ∙ ap (λ (r : Reply). Some r) (sym c.source_reply.ensures)) w
