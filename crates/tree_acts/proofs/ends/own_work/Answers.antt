use Rattle.std.proofs.Common.{rules, ◌≡◌, ◌∙◌, ◌∷◌, List, [], length, sym, ap, subst, refl, Bool, true, false}
use Rattle.rbg_nodes.specs.Node.{New, Renew, Gave, given_bytes}
use Rattle.tree_acts.specs.declared.step.Asked.{Asked}
use Rattle.tree_rules.specs.History.{Act, AtNode}
use Rattle.tree_rules.specs.Slots.{node_row}
use Rattle.tree_rules.specs.Links.{Task, Seeds, Gives, link, must_seed, starts}
use Rattle.tree_rules.specs.Works.{Work}
use Rattle.tree_acts.specs.Plain.{task_in}
use Rattle.tree_acts.specs.Hold.{states_held, node_held}
use Rattle.tree_acts.specs.Chained.{len_of}
use Rattle.tree_acts.specs.Did.{Did}
use Rattle.tree_acts.proofs.Ending.{own_file, own_new, own_gives, not_must, no_items}
use Rattle.tree_acts.proofs.ends.own_work.Goals as goal

is_false : (b : Bool) → (b ≡ true → ⊥) → b ≡ false
is_false true f = absurd (f refl)
is_false false f = refl

pub seed_own_at-requires-clause-kept : goal.seed_own_at-requires-clause-kept
seed_own_at-requires-clause-kept g c =
    let told = g.S.Samples.told in let faults = g.S.Samples.faults in let p = c.args.plan.now in let h = g.H.Holdings.what c.args.hold.now in
    let s = states_held told faults h in let pr = c.args.pr in let task = task_in c.args.asked in let n = c.args.n in let l = link p n task (s n) in let r = c.requires.ready in
    let is : task ≡ Seeds New = ap (λ (a : Asked). task_in a) c.in-Instantiate.is in
    let must : must_seed pr l ≡ true = subst (λ t. must_seed pr (link p n t (s n)) ≡ true) (sym is) refl in
    let file = own_file p s pr n task (s n) r.range r.planned r.able.alive must r.able.whole c.requires.none in
    (r.able.own file.0 must).1

pub give_at-requires-clause-due : goal.give_at-requires-clause-due
give_at-requires-clause-due g c =
    let told = g.S.Samples.told in let faults = g.S.Samples.faults in let p = c.args.plan.now in let h = g.H.Holdings.what c.args.hold.now in
    let s = states_held told faults h in let pr = c.args.pr in let task = task_in c.args.asked in let n = c.args.n in let l = link p n task (s n) in let r = c.requires.ready in
    let len = c.in-Give.len in
    let is : task ≡ Gives len = ap (λ (a : Asked). task_in a) c.in-Give.is in
    let must : must_seed pr l ≡ false = is_false (must_seed pr l) (λ m. let file = own_file p s pr n task (s n) r.range r.planned r.able.alive m r.able.whole c.requires.none in
    let a = (r.able.own file.0 m).0 in let b : starts task ≡ false = ap (λ (t : Task). starts t) is in let z : true ≡ false = sym a ∙ b in cc) in
    (not_must p s pr n task (s n) len is must).0

pub returns-in-Instantiate : goal.returns-in-Instantiate
returns-in-Instantiate g c =
    let told = g.S.Samples.told in let faults = g.S.Samples.faults in let p = c.args.plan.now in let h = g.H.Holdings.what c.args.hold.now in
    let s = states_held told faults h in let pr = c.args.pr in let task = task_in c.args.asked in let n = c.args.n in let l = link p n task (s n) in let r = c.requires.ready in
    let is : task ≡ Seeds New = ap (λ (a : Asked). task_in a) c.in-Instantiate.is in
    let must : must_seed pr l ≡ true = subst (λ t. must_seed pr (link p n t (s n)) ≡ true) (sym is) refl in
    let file = own_file p s pr n task (s n) r.range r.planned r.able.alive must r.able.whole c.requires.none in
    let work = own_new p s pr n task (s n) c.args.string.now file.1.0 is file.1.1 in
    record {
      did = subst (λ (w : Work). Did told faults g.S.Samples.reads p h (g.H.Holdings.what c.seed_own_at.new.hold) w.acts) (sym work) c.seed_own_at.ensures;
      bytes = no_items c.args.out.now (r.asks ∙ ap (λ (t : Task). len_of t) is) ∙ ap (λ (w : Work). w.bytes) (sym work);
    }

pub returns-in-Give : goal.returns-in-Give
returns-in-Give g c =
    let told = g.S.Samples.told in let faults = g.S.Samples.faults in let p = c.args.plan.now in let h = g.H.Holdings.what c.args.hold.now in
    let s = states_held told faults h in let pr = c.args.pr in let task = task_in c.args.asked in let n = c.args.n in let l = link p n task (s n) in let r = c.requires.ready in
    let len = c.in-Give.len in
    let is : task ≡ Gives len = ap (λ (a : Asked). task_in a) c.in-Give.is in
    let must : must_seed pr l ≡ false = is_false (must_seed pr l) (λ m. let file = own_file p s pr n task (s n) r.range r.planned r.able.alive m r.able.whole c.requires.none in
    let a = (r.able.own file.0 m).0 in let b : starts task ≡ false = ap (λ (t : Task). starts t) is in let z : true ≡ false = sym a ∙ b in cc) in
    let out = c.give_at.new.out in
    let size : length c.args.out.now ≡ len = r.asks ∙ ap (λ (t : Task). len_of t) is in
    let size' : length out ≡ len = (let new = c.give_at.auto.out in search rules) in
    let gave = subst (λ k. out ≡ given_bytes (node_row p n) (node_held told faults h n) c.args.string.now k) size c.give_at.ensures.bytes in
    let both = own_gives p s pr n task (s n) r.range r.planned len c.args.string.now out is r.able.alive must c.requires.none size' gave in
    record {
      did = subst (λ (acts : List Act). Did told faults g.S.Samples.reads p h (g.H.Holdings.what c.give_at.new.hold) acts) (ap (λ k. record { slot = n; act = AtNode (Gave c.args.string.now k out) } ∷ []) size ∙ sym both.0) c.give_at.ensures.did;
      bytes = both.1;
    }

pub returns-in-Reseed : goal.returns-in-Reseed
returns-in-Reseed g c =
    let told = g.S.Samples.told in let faults = g.S.Samples.faults in let p = c.args.plan.now in let h = g.H.Holdings.what c.args.hold.now in
    let s = states_held told faults h in let pr = c.args.pr in let task = task_in c.args.asked in let n = c.args.n in let l = link p n task (s n) in let r = c.requires.ready in
    let is : task ≡ Seeds Renew = ap (λ (a : Asked). task_in a) c.in-Reseed.is in
    let must : must_seed pr l ≡ true = subst (λ t. must_seed pr (link p n t (s n)) ≡ true) (sym is) refl in
    let file = own_file p s pr n task (s n) r.range r.planned r.able.alive must r.able.whole c.requires.none in
    absurd (let a = (r.able.own file.0 must).0 in let b : starts task ≡ false = ap (λ (t : Task). starts t) is in let z : true ≡ false = sym a ∙ b in cc)
