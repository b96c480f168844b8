use Rattle.std.proofs.Common.{rules, arith, ◌≡◌, ◌∙◌, ◌/◌, ◌∷◌, [], length, sym, ap, subst, refl}
use Rattle.std.specs.Prelude.{Option, not, unwrap_or}
use Rattle.rbg_bytes.specs.Kinds.{strength}
use Rattle.tree_config.specs.declared.plan.NodePlan.{NodePlan}
use Rattle.entropy_source.specs.declared.answers.SourceRefusal.{SourceRefusal}
use Rattle.entropy_source.specs.Source.{need_of}
use Rattle.rbg_nodes.specs.Node.{NodeState, Seeded, Gave, Renew, entropy_len, node_after, given_bytes}
use Rattle.rbg_nodes.specs.Views.{xor_bytes}
use Rattle.tree_rules.specs.Slots.{no_node, node_row, source_row}
use Rattle.tree_rules.specs.History.{AtNode, SlotState, node_in}
use Rattle.tree_rules.specs.Links.{Task, Gives, link, wanted, starts}
use Rattle.tree_rules.specs.Works.{Work, last_drawn}
use Rattle.tree_acts.specs.Plain.{task_in}
use Rattle.tree_acts.specs.Hold.{states_held}
use Rattle.tree_acts.specs.Did.{Did}
use Rattle.tree_acts.specs.Drew.{Drew, Runs}
use Rattle.tree_acts.specs.Pieces.{some_len, some_string}
use Rattle.tree_acts.proofs.Doing.{did_join}
use Rattle.tree_acts.proofs.Rising.{plan_still, node_still, few_at}
use Rattle.tree_acts.proofs.Sourced.{drew_still, runs_here, source_there, first_here, alive_here, sw_refused, sw_done}
use Rattle.tree_acts.proofs.Chunking.{none_refused, some_refused, runs_first, runs_rest, drew_both, node_acted}
use Rattle.tree_acts.proofs.Mixing.{wants_seeded, part_seeded, last_seeded, from_source}
use Rattle.tree_acts.proofs.mixed.mix_seeded.Goals as goal

pub draw_at-refused-requires-clause-runs : goal.draw_at-refused-requires-clause-runs
draw_at-refused-requires-clause-runs g c =
    let told = g.S.Samples.told in let faults = g.S.Samples.faults in let p = c.args.plan.now in let h = g.H.Holdings.what c.args.hold.now in
    let s = states_held told faults h in let pr = c.args.pr in let task = task_in c.args.asked in let n = c.args.n in let j = c.args.j in let l = link p n task (s n) in
    let ls = length c.args.string.now in let lo = length c.args.out.now in let lp = length c.args.spare.now in
    let gives : task ≡ Gives lo = c.requires.gives ∙ ap (λ k. Gives k) (sym c.requires.ready.asks) in
    let e = entropy_len (node_row p n) in
    let wants : wanted pr l ≡ e ∷ some_len lo = wants_seeded p pr n task (s n) lo gives c.requires.xor c.requires.must in
    let whole : Runs told faults p h j (need_of (source_row p j) (e ∷ some_len lo)) = subst (λ z. Runs told faults p h j (need_of (source_row p j) z)) wants (runs_here told faults p h pr task n j ls lo lp l c.requires.on c.requires.ready) in
    let el : c.strength-entropy.result / 8 ≡ e = ap (λ k. k / 8) (c.strength-entropy.ensures.bits ∙ ap (λ (o : Option NodePlan). strength (unwrap_or o no_node).drbg) (sym c.node.ensures.value)) in
    let first = runs_first told faults p h j (e ∷ []) (some_len lo) whole in
    subst (λ k. Runs told faults p h j (need_of (source_row p j) (k ∷ []))) (sym el ∙ search rules) first

pub returns-then-is_some : goal.returns-then-is_some
returns-then-is_some g c =
    let told = g.S.Samples.told in let faults = g.S.Samples.faults in let p = c.args.plan.now in let h = g.H.Holdings.what c.args.hold.now in
    let s = states_held told faults h in let pr = c.args.pr in let task = task_in c.args.asked in let n = c.args.n in let j = c.args.j in let l = link p n task (s n) in
    let ls = length c.args.string.now in let lo = length c.args.out.now in let lp = length c.args.spare.now in
    let gives : task ≡ Gives lo = c.requires.gives ∙ ap (λ k. Gives k) (sym c.requires.ready.asks) in
    let e = entropy_len (node_row p n) in
    let wants : wanted pr l ≡ e ∷ some_len lo = wants_seeded p pr n task (s n) lo gives c.requires.xor c.requires.must in
    let whole : Runs told faults p h j (need_of (source_row p j) (e ∷ some_len lo)) = subst (λ z. Runs told faults p h j (need_of (source_row p j) z)) wants (runs_here told faults p h pr task n j ls lo lp l c.requires.on c.requires.ready) in
    let el : c.strength-entropy.result / 8 ≡ e = ap (λ k. k / 8) (c.strength-entropy.ensures.bits ∙ ap (λ (o : Option NodePlan). strength (unwrap_or o no_node).drbg) (sym c.node.ensures.value)) in
    let t1 = g.H.Holdings.what c.draw_at-refused.new.hold in
    let m = c.draw_at-refused.new.out in
    let d1 : Drew told faults g.S.Samples.reads p h t1 j (e ∷ []) c.draw_at-refused.result (m ∷ []) = subst (λ k. Drew told faults g.S.Samples.reads p h t1 j (k ∷ []) c.draw_at-refused.result (m ∷ [])) (search rules) c.draw_at-refused.ensures in
    sw_refused told faults p g.S.Samples.reads h t1 pr c.args.string.now c.args.out.now l j c.draw_at-refused.result [] (search rules)
    (subst (λ z. Drew told faults g.S.Samples.reads p h t1 j z c.draw_at-refused.result []) (sym wants) (some_refused told faults p g.S.Samples.reads h t1 j (e ∷ []) (some_len lo) (m ∷ []) [] c.draw_at-refused.result (search rules) d1))

pub draw_some-more-requires-clause-plan : goal.draw_some-more-requires-clause-plan
draw_some-more-requires-clause-plan g c =
    let told = g.S.Samples.told in let faults = g.S.Samples.faults in let p = c.args.plan.now in let h = g.H.Holdings.what c.args.hold.now in
    let s = states_held told faults h in let pr = c.args.pr in let task = task_in c.args.asked in let n = c.args.n in let j = c.args.j in let l = link p n task (s n) in
    let ls = length c.args.string.now in let lo = length c.args.out.now in let lp = length c.args.spare.now in
    let gives : task ≡ Gives lo = c.requires.gives ∙ ap (λ k. Gives k) (sym c.requires.ready.asks) in
    let e = entropy_len (node_row p n) in
    let wants : wanted pr l ≡ e ∷ some_len lo = wants_seeded p pr n task (s n) lo gives c.requires.xor c.requires.must in
    let whole : Runs told faults p h j (need_of (source_row p j) (e ∷ some_len lo)) = subst (λ z. Runs told faults p h j (need_of (source_row p j) z)) wants (runs_here told faults p h pr task n j ls lo lp l c.requires.on c.requires.ready) in
    let el : c.strength-entropy.result / 8 ≡ e = ap (λ k. k / 8) (c.strength-entropy.ensures.bits ∙ ap (λ (o : Option NodePlan). strength (unwrap_or o no_node).drbg) (sym c.node.ensures.value)) in
    let t1 = g.H.Holdings.what c.draw_at-refused.new.hold in
    let m = c.draw_at-refused.new.out in
    let d1 : Drew told faults g.S.Samples.reads p h t1 j (e ∷ []) c.draw_at-refused.result (m ∷ []) = subst (λ k. Drew told faults g.S.Samples.reads p h t1 j (k ∷ []) c.draw_at-refused.result (m ∷ [])) (search rules) c.draw_at-refused.ensures in
    plan_still told faults p g.S.Samples.reads h t1 _ d1.did c.requires.ready.plan

pub draw_some-more-requires-clause-runs : goal.draw_some-more-requires-clause-runs
draw_some-more-requires-clause-runs g c =
    let told = g.S.Samples.told in let faults = g.S.Samples.faults in let p = c.args.plan.now in let h = g.H.Holdings.what c.args.hold.now in
    let s = states_held told faults h in let pr = c.args.pr in let task = task_in c.args.asked in let n = c.args.n in let j = c.args.j in let l = link p n task (s n) in
    let ls = length c.args.string.now in let lo = length c.args.out.now in let lp = length c.args.spare.now in
    let gives : task ≡ Gives lo = c.requires.gives ∙ ap (λ k. Gives k) (sym c.requires.ready.asks) in
    let e = entropy_len (node_row p n) in
    let wants : wanted pr l ≡ e ∷ some_len lo = wants_seeded p pr n task (s n) lo gives c.requires.xor c.requires.must in
    let whole : Runs told faults p h j (need_of (source_row p j) (e ∷ some_len lo)) = subst (λ z. Runs told faults p h j (need_of (source_row p j) z)) wants (runs_here told faults p h pr task n j ls lo lp l c.requires.on c.requires.ready) in
    let el : c.strength-entropy.result / 8 ≡ e = ap (λ k. k / 8) (c.strength-entropy.ensures.bits ∙ ap (λ (o : Option NodePlan). strength (unwrap_or o no_node).drbg) (sym c.node.ensures.value)) in
    let t1 = g.H.Holdings.what c.draw_at-refused.new.hold in
    let m = c.draw_at-refused.new.out in
    let d1 : Drew told faults g.S.Samples.reads p h t1 j (e ∷ []) c.draw_at-refused.result (m ∷ []) = subst (λ k. Drew told faults g.S.Samples.reads p h t1 j (k ∷ []) c.draw_at-refused.result (m ∷ [])) (search rules) c.draw_at-refused.ensures in
    let none = none_refused told faults p c.draw_at-refused.result (search rules) in
    let d1' = subst (λ (r : Option SourceRefusal). Drew told faults g.S.Samples.reads p h t1 j (e ∷ []) r (m ∷ [])) none d1 in
    subst (λ k. Runs told faults p t1 j (need_of (source_row p j) (some_len k))) (sym c.split_at_mut-fresh.ensures.front_len)
    (runs_rest told faults p g.S.Samples.reads h t1 j (e ∷ []) (some_len lo) (m ∷ []) whole d1')

pub returns-then-is_some-2 : goal.returns-then-is_some-2
returns-then-is_some-2 g c =
    let told = g.S.Samples.told in let faults = g.S.Samples.faults in let p = c.args.plan.now in let h = g.H.Holdings.what c.args.hold.now in
    let s = states_held told faults h in let pr = c.args.pr in let task = task_in c.args.asked in let n = c.args.n in let j = c.args.j in let l = link p n task (s n) in
    let ls = length c.args.string.now in let lo = length c.args.out.now in let lp = length c.args.spare.now in
    let gives : task ≡ Gives lo = c.requires.gives ∙ ap (λ k. Gives k) (sym c.requires.ready.asks) in
    let e = entropy_len (node_row p n) in
    let wants : wanted pr l ≡ e ∷ some_len lo = wants_seeded p pr n task (s n) lo gives c.requires.xor c.requires.must in
    let whole : Runs told faults p h j (need_of (source_row p j) (e ∷ some_len lo)) = subst (λ z. Runs told faults p h j (need_of (source_row p j) z)) wants (runs_here told faults p h pr task n j ls lo lp l c.requires.on c.requires.ready) in
    let el : c.strength-entropy.result / 8 ≡ e = ap (λ k. k / 8) (c.strength-entropy.ensures.bits ∙ ap (λ (o : Option NodePlan). strength (unwrap_or o no_node).drbg) (sym c.node.ensures.value)) in
    let t1 = g.H.Holdings.what c.draw_at-refused.new.hold in
    let m = c.draw_at-refused.new.out in
    let d1 : Drew told faults g.S.Samples.reads p h t1 j (e ∷ []) c.draw_at-refused.result (m ∷ []) = subst (λ k. Drew told faults g.S.Samples.reads p h t1 j (k ∷ []) c.draw_at-refused.result (m ∷ [])) (search rules) c.draw_at-refused.ensures in
    let none = none_refused told faults p c.draw_at-refused.result (search rules) in
    let d1' = subst (λ (r : Option SourceRefusal). Drew told faults g.S.Samples.reads p h t1 j (e ∷ []) r (m ∷ [])) none d1 in
    let t2 = g.H.Holdings.what c.draw_some-more.new.hold in
    let fresh = c.draw_some-more.new.out in
    let d2 = subst (λ k. Drew told faults g.S.Samples.reads p t1 t2 j (some_len k) c.draw_some-more.result (some_string fresh)) c.split_at_mut-fresh.ensures.front_len c.draw_some-more.ensures in
    let both = drew_both told faults p g.S.Samples.reads h t1 t2 j (e ∷ []) (some_len lo) (m ∷ []) (some_string fresh) c.draw_some-more.result c.requires.ready.plan
    (source_there told faults p h pr task n j ls lo lp l c.requires.on c.requires.ready) d1' d2 in
    let drew = subst (λ z. Drew told faults g.S.Samples.reads p h t2 j z c.draw_some-more.result (m ∷ some_string fresh)) (sym wants) both in
    let still = drew_still told faults p g.S.Samples.reads h t2 j n (wanted pr l) c.draw_some-more.result (m ∷ some_string fresh) c.requires.ready.planned drew in
    let here = first_here told faults p h pr task n ls lo lp l refl c.requires.ready in
    let few = few_at told faults p h n c.requires.ready.counts here in
    let plan2 = plan_still told faults p g.S.Samples.reads h t2 _ drew.did c.requires.ready.plan in
    let there2 = node_still told faults p g.S.Samples.reads h t2 _ n drew.did here in
    sw_refused told faults p g.S.Samples.reads h t2 pr c.args.string.now c.args.out.now l j c.draw_some-more.result (m ∷ some_string fresh) (search rules) drew

pub reseed_at-requires-clause-plan : goal.reseed_at-requires-clause-plan
reseed_at-requires-clause-plan g c =
    let told = g.S.Samples.told in let faults = g.S.Samples.faults in let p = c.args.plan.now in let h = g.H.Holdings.what c.args.hold.now in
    let s = states_held told faults h in let pr = c.args.pr in let task = task_in c.args.asked in let n = c.args.n in let j = c.args.j in let l = link p n task (s n) in
    let ls = length c.args.string.now in let lo = length c.args.out.now in let lp = length c.args.spare.now in
    let gives : task ≡ Gives lo = c.requires.gives ∙ ap (λ k. Gives k) (sym c.requires.ready.asks) in
    let e = entropy_len (node_row p n) in
    let wants : wanted pr l ≡ e ∷ some_len lo = wants_seeded p pr n task (s n) lo gives c.requires.xor c.requires.must in
    let whole : Runs told faults p h j (need_of (source_row p j) (e ∷ some_len lo)) = subst (λ z. Runs told faults p h j (need_of (source_row p j) z)) wants (runs_here told faults p h pr task n j ls lo lp l c.requires.on c.requires.ready) in
    let el : c.strength-entropy.result / 8 ≡ e = ap (λ k. k / 8) (c.strength-entropy.ensures.bits ∙ ap (λ (o : Option NodePlan). strength (unwrap_or o no_node).drbg) (sym c.node.ensures.value)) in
    let t1 = g.H.Holdings.what c.draw_at-refused.new.hold in
    let m = c.draw_at-refused.new.out in
    let d1 : Drew told faults g.S.Samples.reads p h t1 j (e ∷ []) c.draw_at-refused.result (m ∷ []) = subst (λ k. Drew told faults g.S.Samples.reads p h t1 j (k ∷ []) c.draw_at-refused.result (m ∷ [])) (search rules) c.draw_at-refused.ensures in
    let none = none_refused told faults p c.draw_at-refused.result (search rules) in
    let d1' = subst (λ (r : Option SourceRefusal). Drew told faults g.S.Samples.reads p h t1 j (e ∷ []) r (m ∷ [])) none d1 in
    let t2 = g.H.Holdings.what c.draw_some-more.new.hold in
    let fresh = c.draw_some-more.new.out in
    let d2 = subst (λ k. Drew told faults g.S.Samples.reads p t1 t2 j (some_len k) c.draw_some-more.result (some_string fresh)) c.split_at_mut-fresh.ensures.front_len c.draw_some-more.ensures in
    let both = drew_both told faults p g.S.Samples.reads h t1 t2 j (e ∷ []) (some_len lo) (m ∷ []) (some_string fresh) c.draw_some-more.result c.requires.ready.plan
    (source_there told faults p h pr task n j ls lo lp l c.requires.on c.requires.ready) d1' d2 in
    let drew = subst (λ z. Drew told faults g.S.Samples.reads p h t2 j z c.draw_some-more.result (m ∷ some_string fresh)) (sym wants) both in
    let still = drew_still told faults p g.S.Samples.reads h t2 j n (wanted pr l) c.draw_some-more.result (m ∷ some_string fresh) c.requires.ready.planned drew in
    let here = first_here told faults p h pr task n ls lo lp l refl c.requires.ready in
    let few = few_at told faults p h n c.requires.ready.counts here in
    let plan2 = plan_still told faults p g.S.Samples.reads h t2 _ drew.did c.requires.ready.plan in
    let there2 = node_still told faults p g.S.Samples.reads h t2 _ n drew.did here in
    plan2

pub reseed_at-requires-clause-live : goal.reseed_at-requires-clause-live
reseed_at-requires-clause-live g c =
    let told = g.S.Samples.told in let faults = g.S.Samples.faults in let p = c.args.plan.now in let h = g.H.Holdings.what c.args.hold.now in
    let s = states_held told faults h in let pr = c.args.pr in let task = task_in c.args.asked in let n = c.args.n in let j = c.args.j in let l = link p n task (s n) in
    let ls = length c.args.string.now in let lo = length c.args.out.now in let lp = length c.args.spare.now in
    let gives : task ≡ Gives lo = c.requires.gives ∙ ap (λ k. Gives k) (sym c.requires.ready.asks) in
    let e = entropy_len (node_row p n) in
    let wants : wanted pr l ≡ e ∷ some_len lo = wants_seeded p pr n task (s n) lo gives c.requires.xor c.requires.must in
    let whole : Runs told faults p h j (need_of (source_row p j) (e ∷ some_len lo)) = subst (λ z. Runs told faults p h j (need_of (source_row p j) z)) wants (runs_here told faults p h pr task n j ls lo lp l c.requires.on c.requires.ready) in
    let el : c.strength-entropy.result / 8 ≡ e = ap (λ k. k / 8) (c.strength-entropy.ensures.bits ∙ ap (λ (o : Option NodePlan). strength (unwrap_or o no_node).drbg) (sym c.node.ensures.value)) in
    let t1 = g.H.Holdings.what c.draw_at-refused.new.hold in
    let m = c.draw_at-refused.new.out in
    let d1 : Drew told faults g.S.Samples.reads p h t1 j (e ∷ []) c.draw_at-refused.result (m ∷ []) = subst (λ k. Drew told faults g.S.Samples.reads p h t1 j (k ∷ []) c.draw_at-refused.result (m ∷ [])) (search rules) c.draw_at-refused.ensures in
    let none = none_refused told faults p c.draw_at-refused.result (search rules) in
    let d1' = subst (λ (r : Option SourceRefusal). Drew told faults g.S.Samples.reads p h t1 j (e ∷ []) r (m ∷ [])) none d1 in
    let t2 = g.H.Holdings.what c.draw_some-more.new.hold in
    let fresh = c.draw_some-more.new.out in
    let d2 = subst (λ k. Drew told faults g.S.Samples.reads p t1 t2 j (some_len k) c.draw_some-more.result (some_string fresh)) c.split_at_mut-fresh.ensures.front_len c.draw_some-more.ensures in
    let both = drew_both told faults p g.S.Samples.reads h t1 t2 j (e ∷ []) (some_len lo) (m ∷ []) (some_string fresh) c.draw_some-more.result c.requires.ready.plan
    (source_there told faults p h pr task n j ls lo lp l c.requires.on c.requires.ready) d1' d2 in
    let drew = subst (λ z. Drew told faults g.S.Samples.reads p h t2 j z c.draw_some-more.result (m ∷ some_string fresh)) (sym wants) both in
    let still = drew_still told faults p g.S.Samples.reads h t2 j n (wanted pr l) c.draw_some-more.result (m ∷ some_string fresh) c.requires.ready.planned drew in
    let here = first_here told faults p h pr task n ls lo lp l refl c.requires.ready in
    let few = few_at told faults p h n c.requires.ready.counts here in
    let plan2 = plan_still told faults p g.S.Samples.reads h t2 _ drew.did c.requires.ready.plan in
    let there2 = node_still told faults p g.S.Samples.reads h t2 _ n drew.did here in
    ap (λ (x : SlotState). (node_in x).live) still ∙ (alive_here told faults p h pr task n ls lo lp l c.requires.ready ∙ ap (λ (t : Task). not (starts t)) gives)

pub reseed_at-requires-clause-few : goal.reseed_at-requires-clause-few
reseed_at-requires-clause-few g c =
    let told = g.S.Samples.told in let faults = g.S.Samples.faults in let p = c.args.plan.now in let h = g.H.Holdings.what c.args.hold.now in
    let s = states_held told faults h in let pr = c.args.pr in let task = task_in c.args.asked in let n = c.args.n in let j = c.args.j in let l = link p n task (s n) in
    let ls = length c.args.string.now in let lo = length c.args.out.now in let lp = length c.args.spare.now in
    let gives : task ≡ Gives lo = c.requires.gives ∙ ap (λ k. Gives k) (sym c.requires.ready.asks) in
    let e = entropy_len (node_row p n) in
    let wants : wanted pr l ≡ e ∷ some_len lo = wants_seeded p pr n task (s n) lo gives c.requires.xor c.requires.must in
    let whole : Runs told faults p h j (need_of (source_row p j) (e ∷ some_len lo)) = subst (λ z. Runs told faults p h j (need_of (source_row p j) z)) wants (runs_here told faults p h pr task n j ls lo lp l c.requires.on c.requires.ready) in
    let el : c.strength-entropy.result / 8 ≡ e = ap (λ k. k / 8) (c.strength-entropy.ensures.bits ∙ ap (λ (o : Option NodePlan). strength (unwrap_or o no_node).drbg) (sym c.node.ensures.value)) in
    let t1 = g.H.Holdings.what c.draw_at-refused.new.hold in
    let m = c.draw_at-refused.new.out in
    let d1 : Drew told faults g.S.Samples.reads p h t1 j (e ∷ []) c.draw_at-refused.result (m ∷ []) = subst (λ k. Drew told faults g.S.Samples.reads p h t1 j (k ∷ []) c.draw_at-refused.result (m ∷ [])) (search rules) c.draw_at-refused.ensures in
    let none = none_refused told faults p c.draw_at-refused.result (search rules) in
    let d1' = subst (λ (r : Option SourceRefusal). Drew told faults g.S.Samples.reads p h t1 j (e ∷ []) r (m ∷ [])) none d1 in
    let t2 = g.H.Holdings.what c.draw_some-more.new.hold in
    let fresh = c.draw_some-more.new.out in
    let d2 = subst (λ k. Drew told faults g.S.Samples.reads p t1 t2 j (some_len k) c.draw_some-more.result (some_string fresh)) c.split_at_mut-fresh.ensures.front_len c.draw_some-more.ensures in
    let both = drew_both told faults p g.S.Samples.reads h t1 t2 j (e ∷ []) (some_len lo) (m ∷ []) (some_string fresh) c.draw_some-more.result c.requires.ready.plan
    (source_there told faults p h pr task n j ls lo lp l c.requires.on c.requires.ready) d1' d2 in
    let drew = subst (λ z. Drew told faults g.S.Samples.reads p h t2 j z c.draw_some-more.result (m ∷ some_string fresh)) (sym wants) both in
    let still = drew_still told faults p g.S.Samples.reads h t2 j n (wanted pr l) c.draw_some-more.result (m ∷ some_string fresh) c.requires.ready.planned drew in
    let here = first_here told faults p h pr task n ls lo lp l refl c.requires.ready in
    let few = few_at told faults p h n c.requires.ready.counts here in
    let plan2 = plan_still told faults p g.S.Samples.reads h t2 _ drew.did c.requires.ready.plan in
    let there2 = node_still told faults p g.S.Samples.reads h t2 _ n drew.did here in
    let low = few.0 in let same = ap (λ (x : SlotState). (node_in x).seeds) still in omega (arith, low, same)

pub give_at-requires-clause-plan : goal.give_at-requires-clause-plan
give_at-requires-clause-plan g c =
    let told = g.S.Samples.told in let faults = g.S.Samples.faults in let p = c.args.plan.now in let h = g.H.Holdings.what c.args.hold.now in
    let s = states_held told faults h in let pr = c.args.pr in let task = task_in c.args.asked in let n = c.args.n in let j = c.args.j in let l = link p n task (s n) in
    let ls = length c.args.string.now in let lo = length c.args.out.now in let lp = length c.args.spare.now in
    let gives : task ≡ Gives lo = c.requires.gives ∙ ap (λ k. Gives k) (sym c.requires.ready.asks) in
    let e = entropy_len (node_row p n) in
    let wants : wanted pr l ≡ e ∷ some_len lo = wants_seeded p pr n task (s n) lo gives c.requires.xor c.requires.must in
    let whole : Runs told faults p h j (need_of (source_row p j) (e ∷ some_len lo)) = subst (λ z. Runs told faults p h j (need_of (source_row p j) z)) wants (runs_here told faults p h pr task n j ls lo lp l c.requires.on c.requires.ready) in
    let el : c.strength-entropy.result / 8 ≡ e = ap (λ k. k / 8) (c.strength-entropy.ensures.bits ∙ ap (λ (o : Option NodePlan). strength (unwrap_or o no_node).drbg) (sym c.node.ensures.value)) in
    let t1 = g.H.Holdings.what c.draw_at-refused.new.hold in
    let m = c.draw_at-refused.new.out in
    let d1 : Drew told faults g.S.Samples.reads p h t1 j (e ∷ []) c.draw_at-refused.result (m ∷ []) = subst (λ k. Drew told faults g.S.Samples.reads p h t1 j (k ∷ []) c.draw_at-refused.result (m ∷ [])) (search rules) c.draw_at-refused.ensures in
    let none = none_refused told faults p c.draw_at-refused.result (search rules) in
    let d1' = subst (λ (r : Option SourceRefusal). Drew told faults g.S.Samples.reads p h t1 j (e ∷ []) r (m ∷ [])) none d1 in
    let t2 = g.H.Holdings.what c.draw_some-more.new.hold in
    let fresh = c.draw_some-more.new.out in
    let d2 = subst (λ k. Drew told faults g.S.Samples.reads p t1 t2 j (some_len k) c.draw_some-more.result (some_string fresh)) c.split_at_mut-fresh.ensures.front_len c.draw_some-more.ensures in
    let both = drew_both told faults p g.S.Samples.reads h t1 t2 j (e ∷ []) (some_len lo) (m ∷ []) (some_string fresh) c.draw_some-more.result c.requires.ready.plan
    (source_there told faults p h pr task n j ls lo lp l c.requires.on c.requires.ready) d1' d2 in
    let drew = subst (λ z. Drew told faults g.S.Samples.reads p h t2 j z c.draw_some-more.result (m ∷ some_string fresh)) (sym wants) both in
    let still = drew_still told faults p g.S.Samples.reads h t2 j n (wanted pr l) c.draw_some-more.result (m ∷ some_string fresh) c.requires.ready.planned drew in
    let here = first_here told faults p h pr task n ls lo lp l refl c.requires.ready in
    let few = few_at told faults p h n c.requires.ready.counts here in
    let plan2 = plan_still told faults p g.S.Samples.reads h t2 _ drew.did c.requires.ready.plan in
    let there2 = node_still told faults p g.S.Samples.reads h t2 _ n drew.did here in
    let t3 = g.H.Holdings.what c.reseed_at.new.hold in
    let acted = node_acted told faults p g.S.Samples.reads t2 t3 n (Seeded Renew m c.args.string.now) there2 c.reseed_at.ensures in
    plan_still told faults p g.S.Samples.reads t2 t3 _ c.reseed_at.ensures plan2

pub give_at-requires-clause-few : goal.give_at-requires-clause-few
give_at-requires-clause-few g c =
    let told = g.S.Samples.told in let faults = g.S.Samples.faults in let p = c.args.plan.now in let h = g.H.Holdings.what c.args.hold.now in
    let s = states_held told faults h in let pr = c.args.pr in let task = task_in c.args.asked in let n = c.args.n in let j = c.args.j in let l = link p n task (s n) in
    let ls = length c.args.string.now in let lo = length c.args.out.now in let lp = length c.args.spare.now in
    let gives : task ≡ Gives lo = c.requires.gives ∙ ap (λ k. Gives k) (sym c.requires.ready.asks) in
    let e = entropy_len (node_row p n) in
    let wants : wanted pr l ≡ e ∷ some_len lo = wants_seeded p pr n task (s n) lo gives c.requires.xor c.requires.must in
    let whole : Runs told faults p h j (need_of (source_row p j) (e ∷ some_len lo)) = subst (λ z. Runs told faults p h j (need_of (source_row p j) z)) wants (runs_here told faults p h pr task n j ls lo lp l c.requires.on c.requires.ready) in
    let el : c.strength-entropy.result / 8 ≡ e = ap (λ k. k / 8) (c.strength-entropy.ensures.bits ∙ ap (λ (o : Option NodePlan). strength (unwrap_or o no_node).drbg) (sym c.node.ensures.value)) in
    let t1 = g.H.Holdings.what c.draw_at-refused.new.hold in
    let m = c.draw_at-refused.new.out in
    let d1 : Drew told faults g.S.Samples.reads p h t1 j (e ∷ []) c.draw_at-refused.result (m ∷ []) = subst (λ k. Drew told faults g.S.Samples.reads p h t1 j (k ∷ []) c.draw_at-refused.result (m ∷ [])) (search rules) c.draw_at-refused.ensures in
    let none = none_refused told faults p c.draw_at-refused.result (search rules) in
    let d1' = subst (λ (r : Option SourceRefusal). Drew told faults g.S.Samples.reads p h t1 j (e ∷ []) r (m ∷ [])) none d1 in
    let t2 = g.H.Holdings.what c.draw_some-more.new.hold in
    let fresh = c.draw_some-more.new.out in
    let d2 = subst (λ k. Drew told faults g.S.Samples.reads p t1 t2 j (some_len k) c.draw_some-more.result (some_string fresh)) c.split_at_mut-fresh.ensures.front_len c.draw_some-more.ensures in
    let both = drew_both told faults p g.S.Samples.reads h t1 t2 j (e ∷ []) (some_len lo) (m ∷ []) (some_string fresh) c.draw_some-more.result c.requires.ready.plan
    (source_there told faults p h pr task n j ls lo lp l c.requires.on c.requires.ready) d1' d2 in
    let drew = subst (λ z. Drew told faults g.S.Samples.reads p h t2 j z c.draw_some-more.result (m ∷ some_string fresh)) (sym wants) both in
    let still = drew_still told faults p g.S.Samples.reads h t2 j n (wanted pr l) c.draw_some-more.result (m ∷ some_string fresh) c.requires.ready.planned drew in
    let here = first_here told faults p h pr task n ls lo lp l refl c.requires.ready in
    let few = few_at told faults p h n c.requires.ready.counts here in
    let plan2 = plan_still told faults p g.S.Samples.reads h t2 _ drew.did c.requires.ready.plan in
    let there2 = node_still told faults p g.S.Samples.reads h t2 _ n drew.did here in
    let t3 = g.H.Holdings.what c.reseed_at.new.hold in
    let acted = node_acted told faults p g.S.Samples.reads t2 t3 n (Seeded Renew m c.args.string.now) there2 c.reseed_at.ensures in
    let low = few.1 in let same = ap (λ (x : SlotState). (node_in x).gives) still in let more = ap (λ (x : NodeState). x.gives) acted in omega (arith, low, same, more)

pub returns : goal.returns
returns g c =
    let told = g.S.Samples.told in let faults = g.S.Samples.faults in let p = c.args.plan.now in let h = g.H.Holdings.what c.args.hold.now in
    let s = states_held told faults h in let pr = c.args.pr in let task = task_in c.args.asked in let n = c.args.n in let j = c.args.j in let l = link p n task (s n) in
    let ls = length c.args.string.now in let lo = length c.args.out.now in let lp = length c.args.spare.now in
    let gives : task ≡ Gives lo = c.requires.gives ∙ ap (λ k. Gives k) (sym c.requires.ready.asks) in
    let e = entropy_len (node_row p n) in
    let wants : wanted pr l ≡ e ∷ some_len lo = wants_seeded p pr n task (s n) lo gives c.requires.xor c.requires.must in
    let whole : Runs told faults p h j (need_of (source_row p j) (e ∷ some_len lo)) = subst (λ z. Runs told faults p h j (need_of (source_row p j) z)) wants (runs_here told faults p h pr task n j ls lo lp l c.requires.on c.requires.ready) in
    let el : c.strength-entropy.result / 8 ≡ e = ap (λ k. k / 8) (c.strength-entropy.ensures.bits ∙ ap (λ (o : Option NodePlan). strength (unwrap_or o no_node).drbg) (sym c.node.ensures.value)) in
    let t1 = g.H.Holdings.what c.draw_at-refused.new.hold in
    let m = c.draw_at-refused.new.out in
    let d1 : Drew told faults g.S.Samples.reads p h t1 j (e ∷ []) c.draw_at-refused.result (m ∷ []) = subst (λ k. Drew told faults g.S.Samples.reads p h t1 j (k ∷ []) c.draw_at-refused.result (m ∷ [])) (search rules) c.draw_at-refused.ensures in
    let none = none_refused told faults p c.draw_at-refused.result (search rules) in
    let d1' = subst (λ (r : Option SourceRefusal). Drew told faults g.S.Samples.reads p h t1 j (e ∷ []) r (m ∷ [])) none d1 in
    let t2 = g.H.Holdings.what c.draw_some-more.new.hold in
    let fresh = c.draw_some-more.new.out in
    let d2 = subst (λ k. Drew told faults g.S.Samples.reads p t1 t2 j (some_len k) c.draw_some-more.result (some_string fresh)) c.split_at_mut-fresh.ensures.front_len c.draw_some-more.ensures in
    let both = drew_both told faults p g.S.Samples.reads h t1 t2 j (e ∷ []) (some_len lo) (m ∷ []) (some_string fresh) c.draw_some-more.result c.requires.ready.plan
    (source_there told faults p h pr task n j ls lo lp l c.requires.on c.requires.ready) d1' d2 in
    let drew = subst (λ z. Drew told faults g.S.Samples.reads p h t2 j z c.draw_some-more.result (m ∷ some_string fresh)) (sym wants) both in
    let still = drew_still told faults p g.S.Samples.reads h t2 j n (wanted pr l) c.draw_some-more.result (m ∷ some_string fresh) c.requires.ready.planned drew in
    let here = first_here told faults p h pr task n ls lo lp l refl c.requires.ready in
    let few = few_at told faults p h n c.requires.ready.counts here in
    let plan2 = plan_still told faults p g.S.Samples.reads h t2 _ drew.did c.requires.ready.plan in
    let there2 = node_still told faults p g.S.Samples.reads h t2 _ n drew.did here in
    let t3 = g.H.Holdings.what c.reseed_at.new.hold in
    let acted = node_acted told faults p g.S.Samples.reads t2 t3 n (Seeded Renew m c.args.string.now) there2 c.reseed_at.ensures in
    let u = g.H.Holdings.what c.give_at.new.hold in
    let quiet = none_refused told faults p c.draw_some-more.result (search rules) in
    let drew' = subst (λ (r : Option SourceRefusal). Drew told faults g.S.Samples.reads p h t2 j (wanted pr l) r (m ∷ some_string fresh)) quiet drew in
    let given = c.give_at.new.out in
    let seeded = Seeded Renew m c.args.string.now in
    let now = node_after (node_row p n) (node_in (s n)) seeded in
    let is : given ≡ given_bytes (node_row p n) now [] lo = c.give_at.ensures.bytes ∙ (ap (λ x. given_bytes (node_row p n) x [] lo) acted
    ∙ ap (λ (x : SlotState). given_bytes (node_row p n) (node_after (node_row p n) (node_in x) seeded) [] lo) still) in
    let origin = from_source p s pr l _ c.requires.on in
    let part = part_seeded p pr n task (s n) lo gives c.requires.xor (m ∷ some_string fresh) c.args.string.now origin.0 c.requires.must origin.1 in
    let size : length given ≡ length fresh = (let a = c.give_at.auto.out in let b = c.draw_some-more.auto.out in let f = c.split_at_mut-fresh.ensures.front_len in search rules) in
    let gave = subst (λ z. Did told faults g.S.Samples.reads p t3 u (record { slot = n; act = AtNode (Gave [] lo z) } ∷ [])) is c.give_at.ensures.did in
    sw_done told faults p g.S.Samples.reads h t2 u pr c.args.string.now c.xor_bytes.new.out l j (m ∷ some_string fresh) drew'
    (subst (λ (w : Work). Did told faults g.S.Samples.reads p t2 u w.acts) (sym part) (did_join told faults p g.S.Samples.reads t2 t3 u (record { slot = n; act = AtNode seeded } ∷ []) _ c.reseed_at.ensures gave))
    (c.xor_bytes.ensures ∙ (last_seeded given m fresh size ∙ (ap (λ z. xor_bytes z (last_drawn (m ∷ some_string fresh))) is ∙ ap (λ (w : Work). w.bytes) (sym part))))
