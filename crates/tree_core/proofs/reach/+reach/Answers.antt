use Rattle.std.proofs.Common.{rules, arith, ◌≡◌, ◌<◌, ◌-◌, ℕ, length, sym, subst}
use Rattle.std.specs.Prelude.{IsSome}
use Rattle.tree_config.specs.declared.plan.Origin.{Origin}
use Rattle.tree_rules.specs.Slots.{node_plan}
use Rattle.tree_rules.specs.Links.{link}
use Rattle.tree_acts.specs.declared.step.Asked.{Asked}
use Rattle.tree_acts.specs.Plainly.{plain}
use Rattle.tree_acts.specs.Plain.{link_of, task_in}
use Rattle.tree_acts.specs.Hold.{IsHeld, states_held}
use Rattle.tree_acts.specs.Chained.{links_from}
use Rattle.tree_core.specs.Names.{Walks}
use Rattle.tree_acts.proofs.Rising.{node_there}
use Rattle.tree_core.proofs.Walking.{walk_ends, walk_misses, walk_on}
use Rattle.tree_core.proofs.reach.+reach.Goals as goal

pub returns-in_default : goal.returns-in_default
returns-in_default g t c = record {
  end = c.requires.step;
  walks = λ s agree. walk_ends g.S.Samples.told g.S.Samples.faults c.args.plan.now (g.H.Holdings.what c.args.hold.now) c.args.pr c.args.step c.args.far c.requires.step s agree c.in_default.ensures;
}

pub returns-then-not-held-clause-walks : goal.returns-then-not-held-clause-walks
returns-then-not-held-clause-walks g t c = λ s agree.
    walk_misses g.S.Samples.told g.S.Samples.faults c.args.plan.now (g.H.Holdings.what c.args.hold.now) c.args.pr c.args.step c.args.far c.requires.step s agree
    c.in-Some.q c.in-Some.ensures.0 c.in-Some.ensures.1 c.in-Some.ensures.2 (λ i. let e = c.held.ensures.1 i in let f = c.if-not-held.true in cc)

pub reach-requires : goal.reach-requires
reach-requires g t c = λ κs lives.
    let told = g.S.Samples.told in let faults = g.S.Samples.faults in let p = c.args.plan.now in let h = g.H.Holdings.what c.args.hold.now in
    let up = c.step_at-up.result in
    let held : IsHeld h c.in-Some.q = c.held.ensures.0 c.if-not-held.false in
    let at = subst (λ (k : ℕ). (o : Origin) → link_of up o ≡ plain (record (link p k (task_in up.asked) (states_held told faults h k)) { origin = o })) (sym c.step_at-up.ensures.slot)
    (subst (λ (a : Asked). (o : Origin) → link_of up o ≡ plain (record (link p c.in-Some.q (task_in a) (states_held told faults h c.in-Some.q)) { origin = o })) (sym c.step_at-up.ensures.asked) c.step_at-up.ensures.link) in
    let more = c.in-Some.ensures.0 in (
      omega (arith, more),
      (
        search rules,
        (
          search rules,
          (
            c.requires.plan,
            record {
              planned = subst (λ k. k < length p.nodes) (sym c.step_at-up.ensures.slot) c.in-Some.ensures.3;
              there = subst (λ k. IsSome (h.nodes k)) (sym c.step_at-up.ensures.slot) (node_there told faults p h c.in-Some.q c.requires.plan c.in-Some.ensures.3 held);
              at = at;
            },
          ),
        ),
      ),
    )

pub returns-clause-walks : goal.returns-clause-walks
returns-clause-walks g t c = λ s agree.
    let told = g.S.Samples.told in let faults = g.S.Samples.faults in let p = c.args.plan.now in let h = g.H.Holdings.what c.args.hold.now in
    let w = subst (λ (k : ℕ). Walks told faults p h s (links_from p s c.args.pr (task_in c.step_at-up.result.asked) (c.args.far - 1) k) c.reach.result) c.step_at-up.ensures.slot (c.reach.ensures.walks s agree) in
    let w' = subst (λ (a : Asked). Walks told faults p h s (links_from p s c.args.pr (task_in a) (c.args.far - 1) c.in-Some.q) c.reach.result) c.step_at-up.ensures.asked w in
    walk_on told faults p h c.args.pr c.args.step c.args.far c.requires.step s agree c.in-Some.q c.in-Some.ensures.0 c.in-Some.ensures.1 c.in-Some.ensures.2
    c.seeding_len-len.result (c.seeding_len-len.ensures.len (node_plan p c.args.step.slot).origin) c.reach.result w'
