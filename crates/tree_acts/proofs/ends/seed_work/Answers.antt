use Rattle.std.proofs.Common.{rules, arith, ◌≡◌, ◌∙◌, ◌<◌, ◌∷◌, [], length, sym, ap, subst, refl}
use Rattle.std.specs.Prelude.{Option}
use Rattle.entropy_source.specs.declared.answers.SourceRefusal.{SourceRefusal}
use Rattle.entropy_source.specs.Source.{need_of}
use Rattle.tree_rules.specs.Slots.{node_plan, source_row}
use Rattle.tree_rules.specs.History.{SlotState, node_in}
use Rattle.tree_rules.specs.Links.{Link, link, wanted, seeding_len}
use Rattle.tree_rules.specs.Works.{Work}
use Rattle.tree_acts.specs.Plain.{task_in}
use Rattle.tree_acts.specs.Hold.{states_held}
use Rattle.tree_acts.specs.Did.{Did}
use Rattle.tree_acts.specs.Drew.{Drew, Runs}
use Rattle.tree_acts.specs.Work.{seeded_part}
use Rattle.tree_acts.proofs.Rising.{plan_still, few_at}
use Rattle.tree_acts.proofs.Sourced.{drew_still, runs_here, first_here, alive_here, sw_refused, sw_done}
use Rattle.tree_acts.proofs.Bytes.{some_bytes}
use Rattle.tree_acts.proofs.Chunking.{none_refused}
use Rattle.tree_acts.proofs.ends.seed_work.Goals as goal

pub draw_at-refused-requires-clause-some : goal.draw_at-refused-requires-clause-some
draw_at-refused-requires-clause-some g c =
    let told = g.S.Samples.told in let faults = g.S.Samples.faults in let p = c.args.plan.now in let h = g.H.Holdings.what c.args.hold.now in
    let s = states_held told faults h in let pr = c.args.pr in let task = task_in c.args.asked in let n = c.args.n in let j = c.args.j in let l = link p n task (s n) in
    let step = c.step_at-step.result in let o = (node_plan p step.slot).origin in
    let ls = length c.args.string.now in let lo = length c.args.out.now in let lp = length c.args.spare.now in
    let len : c.seeding_len-len.result ≡ seeding_len l = c.seeding_len-len.ensures.len o ∙ ap (λ (l : Link). seeding_len l) (c.step_at-step.ensures.link o) in
    let more = some_bytes l.row l.row.drbg refl task in
    let few = c.seeding_len-len.ensures.range in
    let more' : 0 < c.seeding_len-len.result = omega (arith, more, len) in
    search rules

pub draw_at-refused-requires-clause-runs : goal.draw_at-refused-requires-clause-runs
draw_at-refused-requires-clause-runs g c =
    let told = g.S.Samples.told in let faults = g.S.Samples.faults in let p = c.args.plan.now in let h = g.H.Holdings.what c.args.hold.now in
    let s = states_held told faults h in let pr = c.args.pr in let task = task_in c.args.asked in let n = c.args.n in let j = c.args.j in let l = link p n task (s n) in
    let step = c.step_at-step.result in let o = (node_plan p step.slot).origin in
    let ls = length c.args.string.now in let lo = length c.args.out.now in let lp = length c.args.spare.now in
    let len : c.seeding_len-len.result ≡ seeding_len l = c.seeding_len-len.ensures.len o ∙ ap (λ (l : Link). seeding_len l) (c.step_at-step.ensures.link o) in
    let runs = runs_here told faults p h pr task n j ls lo lp l c.requires.on c.requires.ready in
    let few = c.seeding_len-len.ensures.range in
    subst (λ k. Runs told faults p h j (need_of (source_row p j) (k ∷ []))) (sym len ∙ search rules) (subst (λ z. Runs told faults p h j (need_of (source_row p j) z)) c.requires.alone.wants runs)

pub returns-then-is_some : goal.returns-then-is_some
returns-then-is_some g c =
    let told = g.S.Samples.told in let faults = g.S.Samples.faults in let p = c.args.plan.now in let h = g.H.Holdings.what c.args.hold.now in
    let s = states_held told faults h in let pr = c.args.pr in let task = task_in c.args.asked in let n = c.args.n in let j = c.args.j in let l = link p n task (s n) in
    let step = c.step_at-step.result in let o = (node_plan p step.slot).origin in
    let ls = length c.args.string.now in let lo = length c.args.out.now in let lp = length c.args.spare.now in
    let len : c.seeding_len-len.result ≡ seeding_len l = c.seeding_len-len.ensures.len o ∙ ap (λ (l : Link). seeding_len l) (c.step_at-step.ensures.link o) in
    let t1 = g.H.Holdings.what c.draw_at-refused.new.hold in
    let d = c.draw_at-refused.new.out in
    let size : length d ≡ c.seeding_len-len.result = search rules in
    let lens : length d ∷ [] ≡ wanted pr l = ap (λ k. k ∷ []) (size ∙ len) ∙ sym c.requires.alone.wants in
    let drew = subst (λ z. Drew told faults g.S.Samples.reads p h t1 j z c.draw_at-refused.result (d ∷ [])) lens (subst (λ k. Drew told faults g.S.Samples.reads p h t1 j (k ∷ []) c.draw_at-refused.result (d ∷ [])) (search rules) c.draw_at-refused.ensures) in
    let still = drew_still told faults p g.S.Samples.reads h t1 j n (wanted pr l) c.draw_at-refused.result (d ∷ []) c.requires.ready.planned drew in
    sw_refused told faults p g.S.Samples.reads h t1 pr c.args.string.now c.args.out.now l j c.draw_at-refused.result (d ∷ []) (search rules) drew

pub part_at-requires-clause-plan : goal.part_at-requires-clause-plan
part_at-requires-clause-plan g c =
    let told = g.S.Samples.told in let faults = g.S.Samples.faults in let p = c.args.plan.now in let h = g.H.Holdings.what c.args.hold.now in
    let s = states_held told faults h in let pr = c.args.pr in let task = task_in c.args.asked in let n = c.args.n in let j = c.args.j in let l = link p n task (s n) in
    let step = c.step_at-step.result in let o = (node_plan p step.slot).origin in
    let ls = length c.args.string.now in let lo = length c.args.out.now in let lp = length c.args.spare.now in
    let len : c.seeding_len-len.result ≡ seeding_len l = c.seeding_len-len.ensures.len o ∙ ap (λ (l : Link). seeding_len l) (c.step_at-step.ensures.link o) in
    let t1 = g.H.Holdings.what c.draw_at-refused.new.hold in
    let d = c.draw_at-refused.new.out in
    let size : length d ≡ c.seeding_len-len.result = search rules in
    let lens : length d ∷ [] ≡ wanted pr l = ap (λ k. k ∷ []) (size ∙ len) ∙ sym c.requires.alone.wants in
    let drew = subst (λ z. Drew told faults g.S.Samples.reads p h t1 j z c.draw_at-refused.result (d ∷ [])) lens (subst (λ k. Drew told faults g.S.Samples.reads p h t1 j (k ∷ []) c.draw_at-refused.result (d ∷ [])) (search rules) c.draw_at-refused.ensures) in
    let still = drew_still told faults p g.S.Samples.reads h t1 j n (wanted pr l) c.draw_at-refused.result (d ∷ []) c.requires.ready.planned drew in
    plan_still told faults p g.S.Samples.reads h t1 _ drew.did c.requires.ready.plan

pub part_at-requires-clause-alive : goal.part_at-requires-clause-alive
part_at-requires-clause-alive g c =
    let told = g.S.Samples.told in let faults = g.S.Samples.faults in let p = c.args.plan.now in let h = g.H.Holdings.what c.args.hold.now in
    let s = states_held told faults h in let pr = c.args.pr in let task = task_in c.args.asked in let n = c.args.n in let j = c.args.j in let l = link p n task (s n) in
    let step = c.step_at-step.result in let o = (node_plan p step.slot).origin in
    let ls = length c.args.string.now in let lo = length c.args.out.now in let lp = length c.args.spare.now in
    let len : c.seeding_len-len.result ≡ seeding_len l = c.seeding_len-len.ensures.len o ∙ ap (λ (l : Link). seeding_len l) (c.step_at-step.ensures.link o) in
    let t1 = g.H.Holdings.what c.draw_at-refused.new.hold in
    let d = c.draw_at-refused.new.out in
    let size : length d ≡ c.seeding_len-len.result = search rules in
    let lens : length d ∷ [] ≡ wanted pr l = ap (λ k. k ∷ []) (size ∙ len) ∙ sym c.requires.alone.wants in
    let drew = subst (λ z. Drew told faults g.S.Samples.reads p h t1 j z c.draw_at-refused.result (d ∷ [])) lens (subst (λ k. Drew told faults g.S.Samples.reads p h t1 j (k ∷ []) c.draw_at-refused.result (d ∷ [])) (search rules) c.draw_at-refused.ensures) in
    let still = drew_still told faults p g.S.Samples.reads h t1 j n (wanted pr l) c.draw_at-refused.result (d ∷ []) c.requires.ready.planned drew in
    ap (λ (x : SlotState). (node_in x).live) still ∙ alive_here told faults p h pr task n ls lo lp l c.requires.ready

pub part_at-requires-clause-seeds : goal.part_at-requires-clause-seeds
part_at-requires-clause-seeds g c =
    let told = g.S.Samples.told in let faults = g.S.Samples.faults in let p = c.args.plan.now in let h = g.H.Holdings.what c.args.hold.now in
    let s = states_held told faults h in let pr = c.args.pr in let task = task_in c.args.asked in let n = c.args.n in let j = c.args.j in let l = link p n task (s n) in
    let step = c.step_at-step.result in let o = (node_plan p step.slot).origin in
    let ls = length c.args.string.now in let lo = length c.args.out.now in let lp = length c.args.spare.now in
    let len : c.seeding_len-len.result ≡ seeding_len l = c.seeding_len-len.ensures.len o ∙ ap (λ (l : Link). seeding_len l) (c.step_at-step.ensures.link o) in
    let t1 = g.H.Holdings.what c.draw_at-refused.new.hold in
    let d = c.draw_at-refused.new.out in
    let size : length d ≡ c.seeding_len-len.result = search rules in
    let lens : length d ∷ [] ≡ wanted pr l = ap (λ k. k ∷ []) (size ∙ len) ∙ sym c.requires.alone.wants in
    let drew = subst (λ z. Drew told faults g.S.Samples.reads p h t1 j z c.draw_at-refused.result (d ∷ [])) lens (subst (λ k. Drew told faults g.S.Samples.reads p h t1 j (k ∷ []) c.draw_at-refused.result (d ∷ [])) (search rules) c.draw_at-refused.ensures) in
    let still = drew_still told faults p g.S.Samples.reads h t1 j n (wanted pr l) c.draw_at-refused.result (d ∷ []) c.requires.ready.planned drew in
    let few = (few_at told faults p h n c.requires.ready.counts (first_here told faults p h pr task n ls lo lp l refl c.requires.ready)).0 in
    let same = ap (λ (x : SlotState). (node_in x).seeds) still in omega (arith, few, same)

pub part_at-requires-clause-gives : goal.part_at-requires-clause-gives
part_at-requires-clause-gives g c =
    let told = g.S.Samples.told in let faults = g.S.Samples.faults in let p = c.args.plan.now in let h = g.H.Holdings.what c.args.hold.now in
    let s = states_held told faults h in let pr = c.args.pr in let task = task_in c.args.asked in let n = c.args.n in let j = c.args.j in let l = link p n task (s n) in
    let step = c.step_at-step.result in let o = (node_plan p step.slot).origin in
    let ls = length c.args.string.now in let lo = length c.args.out.now in let lp = length c.args.spare.now in
    let len : c.seeding_len-len.result ≡ seeding_len l = c.seeding_len-len.ensures.len o ∙ ap (λ (l : Link). seeding_len l) (c.step_at-step.ensures.link o) in
    let t1 = g.H.Holdings.what c.draw_at-refused.new.hold in
    let d = c.draw_at-refused.new.out in
    let size : length d ≡ c.seeding_len-len.result = search rules in
    let lens : length d ∷ [] ≡ wanted pr l = ap (λ k. k ∷ []) (size ∙ len) ∙ sym c.requires.alone.wants in
    let drew = subst (λ z. Drew told faults g.S.Samples.reads p h t1 j z c.draw_at-refused.result (d ∷ [])) lens (subst (λ k. Drew told faults g.S.Samples.reads p h t1 j (k ∷ []) c.draw_at-refused.result (d ∷ [])) (search rules) c.draw_at-refused.ensures) in
    let still = drew_still told faults p g.S.Samples.reads h t1 j n (wanted pr l) c.draw_at-refused.result (d ∷ []) c.requires.ready.planned drew in
    let few = (few_at told faults p h n c.requires.ready.counts (first_here told faults p h pr task n ls lo lp l refl c.requires.ready)).1 in
    let same = ap (λ (x : SlotState). (node_in x).gives) still in omega (arith, few, same)

pub part_at-requires-clause-material : goal.part_at-requires-clause-material
part_at-requires-clause-material g c =
    let told = g.S.Samples.told in let faults = g.S.Samples.faults in let p = c.args.plan.now in let h = g.H.Holdings.what c.args.hold.now in
    let s = states_held told faults h in let pr = c.args.pr in let task = task_in c.args.asked in let n = c.args.n in let j = c.args.j in let l = link p n task (s n) in
    let step = c.step_at-step.result in let o = (node_plan p step.slot).origin in
    let ls = length c.args.string.now in let lo = length c.args.out.now in let lp = length c.args.spare.now in
    let len : c.seeding_len-len.result ≡ seeding_len l = c.seeding_len-len.ensures.len o ∙ ap (λ (l : Link). seeding_len l) (c.step_at-step.ensures.link o) in
    let t1 = g.H.Holdings.what c.draw_at-refused.new.hold in
    let d = c.draw_at-refused.new.out in
    let size : length d ≡ c.seeding_len-len.result = search rules in
    let lens : length d ∷ [] ≡ wanted pr l = ap (λ k. k ∷ []) (size ∙ len) ∙ sym c.requires.alone.wants in
    let drew = subst (λ z. Drew told faults g.S.Samples.reads p h t1 j z c.draw_at-refused.result (d ∷ [])) lens (subst (λ k. Drew told faults g.S.Samples.reads p h t1 j (k ∷ []) c.draw_at-refused.result (d ∷ [])) (search rules) c.draw_at-refused.ensures) in
    let still = drew_still told faults p g.S.Samples.reads h t1 j n (wanted pr l) c.draw_at-refused.result (d ∷ []) c.requires.ready.planned drew in
    size ∙ len

pub returns : goal.returns
returns g c =
    let told = g.S.Samples.told in let faults = g.S.Samples.faults in let p = c.args.plan.now in let h = g.H.Holdings.what c.args.hold.now in
    let s = states_held told faults h in let pr = c.args.pr in let task = task_in c.args.asked in let n = c.args.n in let j = c.args.j in let l = link p n task (s n) in
    let step = c.step_at-step.result in let o = (node_plan p step.slot).origin in
    let ls = length c.args.string.now in let lo = length c.args.out.now in let lp = length c.args.spare.now in
    let len : c.seeding_len-len.result ≡ seeding_len l = c.seeding_len-len.ensures.len o ∙ ap (λ (l : Link). seeding_len l) (c.step_at-step.ensures.link o) in
    let t1 = g.H.Holdings.what c.draw_at-refused.new.hold in
    let d = c.draw_at-refused.new.out in
    let size : length d ≡ c.seeding_len-len.result = search rules in
    let lens : length d ∷ [] ≡ wanted pr l = ap (λ k. k ∷ []) (size ∙ len) ∙ sym c.requires.alone.wants in
    let drew = subst (λ z. Drew told faults g.S.Samples.reads p h t1 j z c.draw_at-refused.result (d ∷ [])) lens (subst (λ k. Drew told faults g.S.Samples.reads p h t1 j (k ∷ []) c.draw_at-refused.result (d ∷ [])) (search rules) c.draw_at-refused.ensures) in
    let still = drew_still told faults p g.S.Samples.reads h t1 j n (wanted pr l) c.draw_at-refused.result (d ∷ []) c.requires.ready.planned drew in
    let u = g.H.Holdings.what c.part_at.new.hold in
    let none = none_refused told faults p c.draw_at-refused.result (search rules) in
    let drew' = subst (λ (r : Option SourceRefusal). Drew told faults g.S.Samples.reads p h t1 j (wanted pr l) r (d ∷ [])) none drew in
    let did = subst (λ (x : SlotState). Did told faults g.S.Samples.reads p t1 u (seeded_part (link p n task x) d c.args.string.now task).acts) still c.part_at.ensures.did in
    let bytes = subst (λ (x : SlotState). c.part_at.new.out ≡ (seeded_part (link p n task x) d c.args.string.now task).bytes) still c.part_at.ensures.bytes in
    let part = c.requires.alone.part d in
    sw_done told faults p g.S.Samples.reads h t1 u pr c.args.string.now c.part_at.new.out l j (d ∷ []) drew' (subst (λ (x : Work). Did told faults g.S.Samples.reads p t1 u x.acts) (sym part) did) (bytes ∙ ap (λ (x : Work). x.bytes) (sym part))
