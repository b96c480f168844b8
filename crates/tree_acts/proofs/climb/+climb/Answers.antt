use Rattle.std.proofs.Common.{rules, arith, ◌≡◌, ◌∙◌, ◌-◌, [], length, sym, ap, subst, refl, true, false, inl, inr}
use Rattle.std.specs.Prelude.{Option, Some, ◌⊎◌}
use Rattle.tree_config.specs.Tree.{parent_in}
use Rattle.tree_rules.specs.declared.reply.Reply.{Reply}
use Rattle.tree_rules.specs.Slots.{node_plan}
use Rattle.tree_rules.specs.History.{SlotState, node_in}
use Rattle.tree_rules.specs.Links.{Gives, Link, link, last_link, seeding_len, asks_parent}
use Rattle.tree_rules.specs.Chain.{source_of}
use Rattle.tree_acts.specs.Plain.{link_of, task_in}
use Rattle.tree_acts.specs.Hold.{states_held}
use Rattle.tree_acts.specs.Chained.{links_from, rest_from, Ready}
use Rattle.tree_acts.specs.Work.{Worked}
use Rattle.tree_acts.proofs.Over.{links_step}
use Rattle.tree_acts.proofs.Rising.{first_there, plan_still, state_still, step_asks, alive_is, asks_seed, few_at, ready_only, ready_above, worked_only, risen, refused_some, none_of}
use Rattle.tree_acts.proofs.climb.+climb.Goals as goal

pub end_work-requires : goal.end_work-requires
end_work-requires g t c =
    let told = g.S.Samples.told in let faults = g.S.Samples.faults in let p = c.args.plan.now in let h = g.H.Holdings.what c.args.hold.now in
    let task = task_in c.args.asked in let n = c.args.n in let step = c.step_at-step.result in let o = (node_plan p step.slot).origin in
    let ends : (c.args.far ≡ 0) ⊎ (asks_parent c.args.pr (link p n task (states_held told faults h n)) ≡ false) =
    elim c.in_default.ensures [
      | inl e ↦ inl e
      | inr e ↦ inr (step_asks told faults p c.args.pr task (states_held told faults h n) n step.slot (link_of step o) c.step_at-step.ensures.slot (c.step_at-step.ensures.link o) false e)
    ] in
    ready_only told faults p h c.args.pr task c.args.far n (length c.args.string.now) (length c.args.out.now) (length c.args.spare.now) ends c.requires

pub returns-in_default : goal.returns-in_default
returns-in_default g t c =
    let told = g.S.Samples.told in let faults = g.S.Samples.faults in let p = c.args.plan.now in let h = g.H.Holdings.what c.args.hold.now in
    let task = task_in c.args.asked in let n = c.args.n in let step = c.step_at-step.result in let o = (node_plan p step.slot).origin in
    let ends : (c.args.far ≡ 0) ⊎ (asks_parent c.args.pr (link p n task (states_held told faults h n)) ≡ false) =
    elim c.in_default.ensures [
      | inl e ↦ inl e
      | inr e ↦ inr (step_asks told faults p c.args.pr task (states_held told faults h n) n step.slot (link_of step o) c.step_at-step.ensures.slot (c.step_at-step.ensures.link o) false e)
    ] in
    worked_only told faults p g.S.Samples.reads h (g.H.Holdings.what c.end_work.new.hold) c.args.pr task c.args.far n c.args.string.now c.end_work.result c.end_work.new.out ends c.end_work.ensures

pub climb-refused-requires : goal.climb-refused-requires
climb-refused-requires g t c = λ κs lives.
    let told = g.S.Samples.told in let faults = g.S.Samples.faults in let p = c.args.plan.now in let h = g.H.Holdings.what c.args.hold.now in
    let s = states_held told faults h in let pr = c.args.pr in
    let task = task_in c.args.asked in let n = c.args.n in let step = c.step_at-step.result in let o = (node_plan p step.slot).origin in
    let q = c.in-Some.q in let l = link p n task (s n) in
    let more = c.in-Some.ensures.0 in
    let asks = step_asks told faults p pr task (s n) n step.slot (link_of step o) c.step_at-step.ensures.slot (c.step_at-step.ensures.link o) true c.in-Some.ensures.1 in
    let parent : parent_in (node_plan p n).origin ≡ Some q = ap (λ k. parent_in (node_plan p k).origin) (sym c.step_at-step.ensures.slot) ∙ c.in-Some.ensures.2 in
    let len : c.seeding_len-len.result ≡ seeding_len l = c.seeding_len-len.ensures.len o ∙ ap (λ (l : Link). seeding_len l) (c.step_at-step.ensures.link o) in
    let whole = subst (λ ls. Ready told faults p h pr task n ls (length c.args.string.now) (length c.args.out.now) (length c.args.spare.now)) (links_step p s pr task c.args.far n q more asks parent) c.requires in
    let r = subst (λ k. Ready told faults p h pr (Gives k) q (links_from p s pr (Gives k) (c.args.far - 1) q) 0 k 192) (sym len)
    (ready_above told faults p h pr task n q (c.args.far - 1) (length c.args.string.now) (length c.args.out.now) (length c.args.spare.now) l (link p q (Gives (seeding_len l)) (s q)) (rest_from p s pr (Gives (seeding_len l)) (c.args.far - 1) q) refl c.in-Some.ensures.3 refl whole) in (
      omega arith,
      (
        search rules,
        (
          search rules,
          record {
            plan = r.plan;
            range = r.range;
            tree = r.tree;
            planned = r.planned;
            held = r.held;
            counts = r.counts;
            able = r.able;
            brief = r.brief;
            asks = search rules;
            room = r.room;
          },
        ),
      ),
    )

pub returns-then-is_some : goal.returns-then-is_some
returns-then-is_some g t c =
    let told = g.S.Samples.told in let faults = g.S.Samples.faults in let p = c.args.plan.now in let h = g.H.Holdings.what c.args.hold.now in
    let s = states_held told faults h in let pr = c.args.pr in
    let task = task_in c.args.asked in let n = c.args.n in let step = c.step_at-step.result in let o = (node_plan p step.slot).origin in
    let q = c.in-Some.q in let l = link p n task (s n) in
    let more = c.in-Some.ensures.0 in
    let asks = step_asks told faults p pr task (s n) n step.slot (link_of step o) c.step_at-step.ensures.slot (c.step_at-step.ensures.link o) true c.in-Some.ensures.1 in
    let parent : parent_in (node_plan p n).origin ≡ Some q = ap (λ k. parent_in (node_plan p k).origin) (sym c.step_at-step.ensures.slot) ∙ c.in-Some.ensures.2 in
    let len : c.seeding_len-len.result ≡ seeding_len l = c.seeding_len-len.ensures.len o ∙ ap (λ (l : Link). seeding_len l) (c.step_at-step.ensures.link o) in
    let t1 = g.H.Holdings.what c.climb-refused.new.hold in
    let given = c.climb-refused.new.out in
    let w = subst (λ k. Worked told faults g.S.Samples.reads p h t1 pr [] (links_from p s pr (Gives k) (c.args.far - 1) q) (source_of p s pr (last_link (links_from p s pr (Gives k) (c.args.far - 1) q))) c.climb-refused.result given) len c.climb-refused.ensures in
    refused_some told faults p g.S.Samples.reads h t1 pr task c.args.far n q c.climb-refused.result c.args.string.now given c.args.out.now more asks parent (search rules) w

pub part_at-requires-clause-plan : goal.part_at-requires-clause-plan
part_at-requires-clause-plan g t c =
    let told = g.S.Samples.told in let faults = g.S.Samples.faults in let p = c.args.plan.now in let h = g.H.Holdings.what c.args.hold.now in
    let s = states_held told faults h in let pr = c.args.pr in
    let task = task_in c.args.asked in let n = c.args.n in let step = c.step_at-step.result in let o = (node_plan p step.slot).origin in
    let q = c.in-Some.q in let l = link p n task (s n) in
    let more = c.in-Some.ensures.0 in
    let asks = step_asks told faults p pr task (s n) n step.slot (link_of step o) c.step_at-step.ensures.slot (c.step_at-step.ensures.link o) true c.in-Some.ensures.1 in
    let parent : parent_in (node_plan p n).origin ≡ Some q = ap (λ k. parent_in (node_plan p k).origin) (sym c.step_at-step.ensures.slot) ∙ c.in-Some.ensures.2 in
    let len : c.seeding_len-len.result ≡ seeding_len l = c.seeding_len-len.ensures.len o ∙ ap (λ (l : Link). seeding_len l) (c.step_at-step.ensures.link o) in
    let t1 = g.H.Holdings.what c.climb-refused.new.hold in
    let given = c.climb-refused.new.out in
    let w = subst (λ k. Worked told faults g.S.Samples.reads p h t1 pr [] (links_from p s pr (Gives k) (c.args.far - 1) q) (source_of p s pr (last_link (links_from p s pr (Gives k) (c.args.far - 1) q))) c.climb-refused.result given) len c.climb-refused.ensures in
    plan_still told faults p g.S.Samples.reads h t1 w.acts w.did c.requires.plan

pub part_at-requires-clause-alive : goal.part_at-requires-clause-alive
part_at-requires-clause-alive g t c =
    let told = g.S.Samples.told in let faults = g.S.Samples.faults in let p = c.args.plan.now in let h = g.H.Holdings.what c.args.hold.now in
    let s = states_held told faults h in let pr = c.args.pr in
    let task = task_in c.args.asked in let n = c.args.n in let step = c.step_at-step.result in let o = (node_plan p step.slot).origin in
    let q = c.in-Some.q in let l = link p n task (s n) in
    let more = c.in-Some.ensures.0 in
    let asks = step_asks told faults p pr task (s n) n step.slot (link_of step o) c.step_at-step.ensures.slot (c.step_at-step.ensures.link o) true c.in-Some.ensures.1 in
    let parent : parent_in (node_plan p n).origin ≡ Some q = ap (λ k. parent_in (node_plan p k).origin) (sym c.step_at-step.ensures.slot) ∙ c.in-Some.ensures.2 in
    let len : c.seeding_len-len.result ≡ seeding_len l = c.seeding_len-len.ensures.len o ∙ ap (λ (l : Link). seeding_len l) (c.step_at-step.ensures.link o) in
    let t1 = g.H.Holdings.what c.climb-refused.new.hold in
    let given = c.climb-refused.new.out in
    let w = subst (λ k. Worked told faults g.S.Samples.reads p h t1 pr [] (links_from p s pr (Gives k) (c.args.far - 1) q) (source_of p s pr (last_link (links_from p s pr (Gives k) (c.args.far - 1) q))) c.climb-refused.result given) len c.climb-refused.ensures in
    let whole = subst (λ ls. Ready told faults p h pr task n ls (length c.args.string.now) (length c.args.out.now) (length c.args.spare.now)) (links_step p s pr task c.args.far n q more asks parent) c.requires in
    ap (λ (x : SlotState). (node_in x).live) (state_still told faults p g.S.Samples.reads h t1 pr (Gives (seeding_len l)) (c.args.far - 1) n q c.climb-refused.result given c.requires.tree c.requires.planned parent w)
    ∙ alive_is told faults p pr l (asks_seed told faults p pr l asks).0 whole.able.dead

pub part_at-requires-clause-seeds : goal.part_at-requires-clause-seeds
part_at-requires-clause-seeds g t c =
    let told = g.S.Samples.told in let faults = g.S.Samples.faults in let p = c.args.plan.now in let h = g.H.Holdings.what c.args.hold.now in
    let s = states_held told faults h in let pr = c.args.pr in
    let task = task_in c.args.asked in let n = c.args.n in let step = c.step_at-step.result in let o = (node_plan p step.slot).origin in
    let q = c.in-Some.q in let l = link p n task (s n) in
    let more = c.in-Some.ensures.0 in
    let asks = step_asks told faults p pr task (s n) n step.slot (link_of step o) c.step_at-step.ensures.slot (c.step_at-step.ensures.link o) true c.in-Some.ensures.1 in
    let parent : parent_in (node_plan p n).origin ≡ Some q = ap (λ k. parent_in (node_plan p k).origin) (sym c.step_at-step.ensures.slot) ∙ c.in-Some.ensures.2 in
    let len : c.seeding_len-len.result ≡ seeding_len l = c.seeding_len-len.ensures.len o ∙ ap (λ (l : Link). seeding_len l) (c.step_at-step.ensures.link o) in
    let t1 = g.H.Holdings.what c.climb-refused.new.hold in
    let given = c.climb-refused.new.out in
    let w = subst (λ k. Worked told faults g.S.Samples.reads p h t1 pr [] (links_from p s pr (Gives k) (c.args.far - 1) q) (source_of p s pr (last_link (links_from p s pr (Gives k) (c.args.far - 1) q))) c.climb-refused.result given) len c.climb-refused.ensures in
    let still = state_still told faults p g.S.Samples.reads h t1 pr (Gives (seeding_len l)) (c.args.far - 1) n q c.climb-refused.result given c.requires.tree c.requires.planned parent w in
    let few = (few_at told faults p h n c.requires.counts (first_there told faults p h pr task c.args.far n c.requires.plan c.requires.planned c.requires.held)).0 in
    let same = ap (λ (x : SlotState). (node_in x).seeds) still in
    omega (arith, few, same)

pub part_at-requires-clause-gives : goal.part_at-requires-clause-gives
part_at-requires-clause-gives g t c =
    let told = g.S.Samples.told in let faults = g.S.Samples.faults in let p = c.args.plan.now in let h = g.H.Holdings.what c.args.hold.now in
    let s = states_held told faults h in let pr = c.args.pr in
    let task = task_in c.args.asked in let n = c.args.n in let step = c.step_at-step.result in let o = (node_plan p step.slot).origin in
    let q = c.in-Some.q in let l = link p n task (s n) in
    let more = c.in-Some.ensures.0 in
    let asks = step_asks told faults p pr task (s n) n step.slot (link_of step o) c.step_at-step.ensures.slot (c.step_at-step.ensures.link o) true c.in-Some.ensures.1 in
    let parent : parent_in (node_plan p n).origin ≡ Some q = ap (λ k. parent_in (node_plan p k).origin) (sym c.step_at-step.ensures.slot) ∙ c.in-Some.ensures.2 in
    let len : c.seeding_len-len.result ≡ seeding_len l = c.seeding_len-len.ensures.len o ∙ ap (λ (l : Link). seeding_len l) (c.step_at-step.ensures.link o) in
    let t1 = g.H.Holdings.what c.climb-refused.new.hold in
    let given = c.climb-refused.new.out in
    let w = subst (λ k. Worked told faults g.S.Samples.reads p h t1 pr [] (links_from p s pr (Gives k) (c.args.far - 1) q) (source_of p s pr (last_link (links_from p s pr (Gives k) (c.args.far - 1) q))) c.climb-refused.result given) len c.climb-refused.ensures in
    let still = state_still told faults p g.S.Samples.reads h t1 pr (Gives (seeding_len l)) (c.args.far - 1) n q c.climb-refused.result given c.requires.tree c.requires.planned parent w in
    let few = (few_at told faults p h n c.requires.counts (first_there told faults p h pr task c.args.far n c.requires.plan c.requires.planned c.requires.held)).1 in
    let same = ap (λ (x : SlotState). (node_in x).gives) still in
    omega (arith, few, same)

pub part_at-requires-clause-material : goal.part_at-requires-clause-material
part_at-requires-clause-material g t c =
    let told = g.S.Samples.told in let faults = g.S.Samples.faults in let p = c.args.plan.now in let h = g.H.Holdings.what c.args.hold.now in
    let s = states_held told faults h in let pr = c.args.pr in
    let task = task_in c.args.asked in let n = c.args.n in let step = c.step_at-step.result in let o = (node_plan p step.slot).origin in
    let q = c.in-Some.q in let l = link p n task (s n) in
    let more = c.in-Some.ensures.0 in
    let asks = step_asks told faults p pr task (s n) n step.slot (link_of step o) c.step_at-step.ensures.slot (c.step_at-step.ensures.link o) true c.in-Some.ensures.1 in
    let parent : parent_in (node_plan p n).origin ≡ Some q = ap (λ k. parent_in (node_plan p k).origin) (sym c.step_at-step.ensures.slot) ∙ c.in-Some.ensures.2 in
    let len : c.seeding_len-len.result ≡ seeding_len l = c.seeding_len-len.ensures.len o ∙ ap (λ (l : Link). seeding_len l) (c.step_at-step.ensures.link o) in
    let t1 = g.H.Holdings.what c.climb-refused.new.hold in
    let given = c.climb-refused.new.out in
    let w = subst (λ k. Worked told faults g.S.Samples.reads p h t1 pr [] (links_from p s pr (Gives k) (c.args.far - 1) q) (source_of p s pr (last_link (links_from p s pr (Gives k) (c.args.far - 1) q))) c.climb-refused.result given) len c.climb-refused.ensures in
    let still = state_still told faults p g.S.Samples.reads h t1 pr (Gives (seeding_len l)) (c.args.far - 1) n q c.climb-refused.result given c.requires.tree c.requires.planned parent w in
    let e : length given ≡ c.seeding_len-len.result = search rules in
    e ∙ len

pub returns : goal.returns
returns g t c =
    let told = g.S.Samples.told in let faults = g.S.Samples.faults in let p = c.args.plan.now in let h = g.H.Holdings.what c.args.hold.now in
    let s = states_held told faults h in let pr = c.args.pr in
    let task = task_in c.args.asked in let n = c.args.n in let step = c.step_at-step.result in let o = (node_plan p step.slot).origin in
    let q = c.in-Some.q in let l = link p n task (s n) in
    let more = c.in-Some.ensures.0 in
    let asks = step_asks told faults p pr task (s n) n step.slot (link_of step o) c.step_at-step.ensures.slot (c.step_at-step.ensures.link o) true c.in-Some.ensures.1 in
    let parent : parent_in (node_plan p n).origin ≡ Some q = ap (λ k. parent_in (node_plan p k).origin) (sym c.step_at-step.ensures.slot) ∙ c.in-Some.ensures.2 in
    let len : c.seeding_len-len.result ≡ seeding_len l = c.seeding_len-len.ensures.len o ∙ ap (λ (l : Link). seeding_len l) (c.step_at-step.ensures.link o) in
    let t1 = g.H.Holdings.what c.climb-refused.new.hold in
    let given = c.climb-refused.new.out in
    let w = subst (λ k. Worked told faults g.S.Samples.reads p h t1 pr [] (links_from p s pr (Gives k) (c.args.far - 1) q) (source_of p s pr (last_link (links_from p s pr (Gives k) (c.args.far - 1) q))) c.climb-refused.result given) len c.climb-refused.ensures in
    let none = none_of told faults p c.climb-refused.result (search rules) in
    let w' = subst (λ (r : Option Reply). Worked told faults g.S.Samples.reads p h t1 pr [] (links_from p s pr (Gives (seeding_len l)) (c.args.far - 1) q) (source_of p s pr (last_link (links_from p s pr (Gives (seeding_len l)) (c.args.far - 1) q))) r given) none w in
    risen told faults p g.S.Samples.reads h t1 (g.H.Holdings.what c.part_at.new.hold) pr task c.args.far n q c.args.string.now given c.part_at.new.out more c.requires.range c.requires.tree c.requires.planned asks parent w'
    c.part_at.ensures.did c.part_at.ensures.bytes
