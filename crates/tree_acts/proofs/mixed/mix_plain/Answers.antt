use Rattle.std.proofs.Common.{rules, arith, ◌≡◌, ◌∙◌, ◌∷◌, [], length, sym, ap, subst, refl}
use Rattle.std.specs.Prelude.{Option, not}
use Rattle.entropy_source.specs.declared.answers.SourceRefusal.{SourceRefusal}
use Rattle.rbg_nodes.specs.Node.{Gave, is_due, given_bytes}
use Rattle.rbg_nodes.specs.Views.{xor_bytes}
use Rattle.tree_rules.specs.Slots.{node_row}
use Rattle.tree_rules.specs.History.{AtNode, SlotState, node_in}
use Rattle.tree_rules.specs.Links.{Task, Gives, link, wanted, starts}
use Rattle.tree_rules.specs.Works.{Work, last_drawn}
use Rattle.tree_acts.specs.Plain.{task_in}
use Rattle.tree_acts.specs.Hold.{states_held}
use Rattle.tree_acts.specs.Did.{Did}
use Rattle.tree_acts.specs.Drew.{Drew}
use Rattle.tree_acts.specs.Pieces.{some_len, some_string}
use Rattle.tree_acts.proofs.Rising.{plan_still, few_at}
use Rattle.tree_acts.proofs.Sourced.{drew_still, first_here, alive_here, sw_refused, sw_done}
use Rattle.tree_acts.proofs.Chunking.{none_refused}
use Rattle.tree_acts.proofs.Ending.{not_must}
use Rattle.tree_acts.proofs.Mixing.{wants_plain, part_plain, last_plain}
use Rattle.tree_acts.proofs.mixed.mix_plain.Goals as goal

pub returns-then-is_some : goal.returns-then-is_some
returns-then-is_some g c =
    let told = g.S.Samples.told in let faults = g.S.Samples.faults in let p = c.args.plan.now in let h = g.H.Holdings.what c.args.hold.now in
    let s = states_held told faults h in let pr = c.args.pr in let task = task_in c.args.asked in let n = c.args.n in let j = c.args.j in let l = link p n task (s n) in
    let ls = length c.args.string.now in let lo = length c.args.out.now in let lp = length c.args.spare.now in
    let gives : task ≡ Gives lo = c.requires.gives ∙ ap (λ k. Gives k) (sym c.requires.ready.asks) in
    let wants = wants_plain p pr n task (s n) lo gives c.requires.xor c.requires.must in
    let t1 = g.H.Holdings.what c.draw_some-refused.new.hold in
    let fresh = c.draw_some-refused.new.out in
    let size = c.split_at_mut-fresh.ensures.front_len in
    let drew = subst (λ z. Drew told faults g.S.Samples.reads p h t1 j z c.draw_some-refused.result (some_string fresh)) (ap (λ k. some_len k) size ∙ sym wants) c.draw_some-refused.ensures in
    let still = drew_still told faults p g.S.Samples.reads h t1 j n (wanted pr l) c.draw_some-refused.result (some_string fresh) c.requires.ready.planned drew in
    sw_refused told faults p g.S.Samples.reads h t1 pr c.args.string.now c.args.out.now l j c.draw_some-refused.result (some_string fresh) (search rules) drew

pub give_at-requires-clause-plan : goal.give_at-requires-clause-plan
give_at-requires-clause-plan g c =
    let told = g.S.Samples.told in let faults = g.S.Samples.faults in let p = c.args.plan.now in let h = g.H.Holdings.what c.args.hold.now in
    let s = states_held told faults h in let pr = c.args.pr in let task = task_in c.args.asked in let n = c.args.n in let j = c.args.j in let l = link p n task (s n) in
    let ls = length c.args.string.now in let lo = length c.args.out.now in let lp = length c.args.spare.now in
    let gives : task ≡ Gives lo = c.requires.gives ∙ ap (λ k. Gives k) (sym c.requires.ready.asks) in
    let wants = wants_plain p pr n task (s n) lo gives c.requires.xor c.requires.must in
    let t1 = g.H.Holdings.what c.draw_some-refused.new.hold in
    let fresh = c.draw_some-refused.new.out in
    let size = c.split_at_mut-fresh.ensures.front_len in
    let drew = subst (λ z. Drew told faults g.S.Samples.reads p h t1 j z c.draw_some-refused.result (some_string fresh)) (ap (λ k. some_len k) size ∙ sym wants) c.draw_some-refused.ensures in
    let still = drew_still told faults p g.S.Samples.reads h t1 j n (wanted pr l) c.draw_some-refused.result (some_string fresh) c.requires.ready.planned drew in
    plan_still told faults p g.S.Samples.reads h t1 _ drew.did c.requires.ready.plan

pub give_at-requires-clause-live : goal.give_at-requires-clause-live
give_at-requires-clause-live g c =
    let told = g.S.Samples.told in let faults = g.S.Samples.faults in let p = c.args.plan.now in let h = g.H.Holdings.what c.args.hold.now in
    let s = states_held told faults h in let pr = c.args.pr in let task = task_in c.args.asked in let n = c.args.n in let j = c.args.j in let l = link p n task (s n) in
    let ls = length c.args.string.now in let lo = length c.args.out.now in let lp = length c.args.spare.now in
    let gives : task ≡ Gives lo = c.requires.gives ∙ ap (λ k. Gives k) (sym c.requires.ready.asks) in
    let wants = wants_plain p pr n task (s n) lo gives c.requires.xor c.requires.must in
    let t1 = g.H.Holdings.what c.draw_some-refused.new.hold in
    let fresh = c.draw_some-refused.new.out in
    let size = c.split_at_mut-fresh.ensures.front_len in
    let drew = subst (λ z. Drew told faults g.S.Samples.reads p h t1 j z c.draw_some-refused.result (some_string fresh)) (ap (λ k. some_len k) size ∙ sym wants) c.draw_some-refused.ensures in
    let still = drew_still told faults p g.S.Samples.reads h t1 j n (wanted pr l) c.draw_some-refused.result (some_string fresh) c.requires.ready.planned drew in
    ap (λ (x : SlotState). (node_in x).live) still ∙ (alive_here told faults p h pr task n ls lo lp l c.requires.ready ∙ ap (λ (t : Task). not (starts t)) gives)

pub give_at-requires-clause-due : goal.give_at-requires-clause-due
give_at-requires-clause-due g c =
    let told = g.S.Samples.told in let faults = g.S.Samples.faults in let p = c.args.plan.now in let h = g.H.Holdings.what c.args.hold.now in
    let s = states_held told faults h in let pr = c.args.pr in let task = task_in c.args.asked in let n = c.args.n in let j = c.args.j in let l = link p n task (s n) in
    let ls = length c.args.string.now in let lo = length c.args.out.now in let lp = length c.args.spare.now in
    let gives : task ≡ Gives lo = c.requires.gives ∙ ap (λ k. Gives k) (sym c.requires.ready.asks) in
    let wants = wants_plain p pr n task (s n) lo gives c.requires.xor c.requires.must in
    let t1 = g.H.Holdings.what c.draw_some-refused.new.hold in
    let fresh = c.draw_some-refused.new.out in
    let size = c.split_at_mut-fresh.ensures.front_len in
    let drew = subst (λ z. Drew told faults g.S.Samples.reads p h t1 j z c.draw_some-refused.result (some_string fresh)) (ap (λ k. some_len k) size ∙ sym wants) c.draw_some-refused.ensures in
    let still = drew_still told faults p g.S.Samples.reads h t1 j n (wanted pr l) c.draw_some-refused.result (some_string fresh) c.requires.ready.planned drew in
    ap (λ (x : SlotState). is_due (node_row p n) (node_in x)) still ∙ (not_must p s pr n task (s n) lo gives c.requires.must).0

pub give_at-requires-clause-few : goal.give_at-requires-clause-few
give_at-requires-clause-few g c =
    let told = g.S.Samples.told in let faults = g.S.Samples.faults in let p = c.args.plan.now in let h = g.H.Holdings.what c.args.hold.now in
    let s = states_held told faults h in let pr = c.args.pr in let task = task_in c.args.asked in let n = c.args.n in let j = c.args.j in let l = link p n task (s n) in
    let ls = length c.args.string.now in let lo = length c.args.out.now in let lp = length c.args.spare.now in
    let gives : task ≡ Gives lo = c.requires.gives ∙ ap (λ k. Gives k) (sym c.requires.ready.asks) in
    let wants = wants_plain p pr n task (s n) lo gives c.requires.xor c.requires.must in
    let t1 = g.H.Holdings.what c.draw_some-refused.new.hold in
    let fresh = c.draw_some-refused.new.out in
    let size = c.split_at_mut-fresh.ensures.front_len in
    let drew = subst (λ z. Drew told faults g.S.Samples.reads p h t1 j z c.draw_some-refused.result (some_string fresh)) (ap (λ k. some_len k) size ∙ sym wants) c.draw_some-refused.ensures in
    let still = drew_still told faults p g.S.Samples.reads h t1 j n (wanted pr l) c.draw_some-refused.result (some_string fresh) c.requires.ready.planned drew in
    let low = (few_at told faults p h n c.requires.ready.counts (first_here told faults p h pr task n ls lo lp l refl c.requires.ready)).1 in
    let same = ap (λ (x : SlotState). (node_in x).gives) still in omega (arith, low, same)

pub returns : goal.returns
returns g c =
    let told = g.S.Samples.told in let faults = g.S.Samples.faults in let p = c.args.plan.now in let h = g.H.Holdings.what c.args.hold.now in
    let s = states_held told faults h in let pr = c.args.pr in let task = task_in c.args.asked in let n = c.args.n in let j = c.args.j in let l = link p n task (s n) in
    let ls = length c.args.string.now in let lo = length c.args.out.now in let lp = length c.args.spare.now in
    let gives : task ≡ Gives lo = c.requires.gives ∙ ap (λ k. Gives k) (sym c.requires.ready.asks) in
    let wants = wants_plain p pr n task (s n) lo gives c.requires.xor c.requires.must in
    let t1 = g.H.Holdings.what c.draw_some-refused.new.hold in
    let fresh = c.draw_some-refused.new.out in
    let size = c.split_at_mut-fresh.ensures.front_len in
    let drew = subst (λ z. Drew told faults g.S.Samples.reads p h t1 j z c.draw_some-refused.result (some_string fresh)) (ap (λ k. some_len k) size ∙ sym wants) c.draw_some-refused.ensures in
    let still = drew_still told faults p g.S.Samples.reads h t1 j n (wanted pr l) c.draw_some-refused.result (some_string fresh) c.requires.ready.planned drew in
    let u = g.H.Holdings.what c.give_at.new.hold in
    let none = none_refused told faults p c.draw_some-refused.result (search rules) in
    let drew' = subst (λ (r : Option SourceRefusal). Drew told faults g.S.Samples.reads p h t1 j (wanted pr l) r (some_string fresh)) none drew in
    let given = c.give_at.new.out in
    let is : given ≡ given_bytes (node_row p n) (node_in (s n)) c.args.string.now lo = c.give_at.ensures.bytes ∙ ap (λ (x : SlotState). given_bytes (node_row p n) (node_in x) c.args.string.now lo) still in
    let part = part_plain p pr n task (s n) lo gives c.requires.xor (some_string fresh) c.args.string.now c.requires.must in
    sw_done told faults p g.S.Samples.reads h t1 u pr c.args.string.now c.xor_bytes.new.out l j (some_string fresh) drew'
    (subst (λ (w : Work). Did told faults g.S.Samples.reads p t1 u w.acts) (sym part) (subst (λ z. Did told faults g.S.Samples.reads p t1 u (record { slot = n; act = AtNode (Gave c.args.string.now lo z) } ∷ [])) is c.give_at.ensures.did))
    (c.xor_bytes.ensures ∙ (last_plain given fresh ∙ (ap (λ z. xor_bytes z (last_drawn (some_string fresh))) is ∙ ap (λ (w : Work). w.bytes) (sym part))))
