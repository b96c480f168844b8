use Rattle.std.proofs.Common.{rules, ◌≡◌, ◌∙◌, sym, ap}
use Rattle.tree_rules.specs.Slots.{node_plan}
use Rattle.tree_rules.specs.Links.{Link, link, must_seed}
use Rattle.tree_acts.specs.Plain.{link_of, task_in}
use Rattle.tree_acts.specs.Hold.{states_held}
use Rattle.tree_acts.proofs.Ending.{must_plain}
use Rattle.tree_acts.proofs.rbg3.xor_work.Goals as goal

pub mix_seeded-requires-clause-must : goal.mix_seeded-requires-clause-must
mix_seeded-requires-clause-must g c =
    let told = g.S.Samples.told in let faults = g.S.Samples.faults in let p = c.args.plan.now in let h = g.H.Holdings.what c.args.hold.now in
    let s = states_held told faults h in let pr = c.args.pr in let task = task_in c.args.asked in let n = c.args.n in let l = link p n task (s n) in
    let step = c.step_at-step.result in let o = (node_plan p step.slot).origin in
    let same : must_seed pr (link_of step o) ≡ must_seed pr l = ap (λ (l : Link). must_seed pr l) (c.step_at-step.ensures.link o) ∙ must_plain pr (record l { origin = o }) task in
    sym same ∙ (sym (c.must_seed.ensures o) ∙ search rules)

pub mix_plain-requires-clause-must : goal.mix_plain-requires-clause-must
mix_plain-requires-clause-must g c =
    let told = g.S.Samples.told in let faults = g.S.Samples.faults in let p = c.args.plan.now in let h = g.H.Holdings.what c.args.hold.now in
    let s = states_held told faults h in let pr = c.args.pr in let task = task_in c.args.asked in let n = c.args.n in let l = link p n task (s n) in
    let step = c.step_at-step.result in let o = (node_plan p step.slot).origin in
    let same : must_seed pr (link_of step o) ≡ must_seed pr l = ap (λ (l : Link). must_seed pr l) (c.step_at-step.ensures.link o) ∙ must_plain pr (record l { origin = o }) task in
    sym same ∙ (sym (c.must_seed.ensures o) ∙ search rules)
