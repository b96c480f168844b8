use Rattle.std.proofs.Common.{◌≡◌, ◌<◌, ◌∙◌, Bool, true, false, length, ap, subst, sym, refl}
use Rattle.std.specs.Prelude.{◌&&◌}
use Rattle.tree_rules.specs.Replies.{is_instantiate}
use Rattle.tree_acts.specs.declared.step.Asked.{Asked}
use Rattle.tree_acts.specs.Chained.{links_from}
use Rattle.tree_acts.specs.Plain.{task_in}
use Rattle.tree_core.specs.Names.{Walks}
use Rattle.tree_core.specs.declared.step.Reached.{Reached}
use Rattle.tree_core.proofs.Nexts.{node_cut, chain_misses, chain_ends}
use Rattle.tree_core.proofs.Steps.{step_is}
use Rattle.tree_core.proofs.naming.node_next.Goals as goal

left : (a b : Bool) → (a && b) ≡ true → a ≡ true
left true b h = refl
left false b h = cc

right : (a b : Bool) → (a && b) ≡ true → b ≡ true
right true b h = h
right false b h = cc

pub returns-then-is_instantiate-first : goal.returns-then-is_instantiate-first
returns-then-is_instantiate-first g c = λ s agree.
    let first = step_is g.S.Samples.told g.S.Samples.faults c.args.plan.now (g.H.Holdings.what c.args.hold.now) c.named-n.result c.asked.result c.step_at-first.result c.requires.plan
    (subst (λ k. k < length c.args.plan.now.nodes) (sym c.named-n.ensures) c.requires.there) (c.held.ensures.0 c.if-not-held.false)
    c.step_at-first.ensures.slot c.step_at-first.ensures.asked c.step_at-first.ensures.link in
    let both = c.if-is_instantiate-first.true in
    node_cut g.S.Samples.told g.S.Samples.faults c.args.plan.now (g.H.Holdings.what c.args.hold.now) c.requires.plan s agree c.args.call c.requires.node
    c.step_at-first.result c.chain_rows.result c.by_rows.result first (c.step_at-first.ensures.slot ∙ c.named-n.ensures)
    (ap (λ (a : Asked). task_in a) c.step_at-first.ensures.asked ∙ c.asked.ensures) (sym c.is_instantiate.ensures ∙ left c.is_instantiate.result c.step_at-first.result.node.live both)
    (right c.is_instantiate.result c.step_at-first.result.node.live both) c.chain_rows.ensures c.by_rows.ensures

pub reach-requires-clause-step : goal.reach-requires-clause-step
reach-requires-clause-step g c =
    step_is g.S.Samples.told g.S.Samples.faults c.args.plan.now (g.H.Holdings.what c.args.hold.now) c.named-n.result c.asked.result c.step_at-first.result c.requires.plan
    (subst (λ k. k < length c.args.plan.now.nodes) (sym c.named-n.ensures) c.requires.there) (c.held.ensures.0 c.if-not-held.false)
    c.step_at-first.ensures.slot c.step_at-first.ensures.asked c.step_at-first.ensures.link

pub end_next-requires-clause-first : goal.end_next-requires-clause-first
end_next-requires-clause-first g c =
    step_is g.S.Samples.told g.S.Samples.faults c.args.plan.now (g.H.Holdings.what c.args.hold.now) c.named-n.result c.asked.result c.step_at-first.result c.requires.plan
    (subst (λ k. k < length c.args.plan.now.nodes) (sym c.named-n.ensures) c.requires.there) (c.held.ensures.0 c.if-not-held.false)
    c.step_at-first.ensures.slot c.step_at-first.ensures.asked c.step_at-first.ensures.link

pub returns-in-Missing : goal.returns-in-Missing
returns-in-Missing g c = λ s agree.
    let told = g.S.Samples.told in let faults = g.S.Samples.faults in let p = c.args.plan.now in let h = g.H.Holdings.what c.args.hold.now in
    let first = step_is g.S.Samples.told g.S.Samples.faults c.args.plan.now (g.H.Holdings.what c.args.hold.now) c.named-n.result c.asked.result c.step_at-first.result c.requires.plan
    (subst (λ k. k < length c.args.plan.now.nodes) (sym c.named-n.ensures) c.requires.there) (c.held.ensures.0 c.if-not-held.false)
    c.step_at-first.ensures.slot c.step_at-first.ensures.asked c.step_at-first.ensures.link in
    let off : (is_instantiate c.args.call && c.step_at-first.result.node.live) ≡ false = ap (λ b. b && c.step_at-first.result.node.live) (sym c.is_instantiate.ensures) ∙ c.if-is_instantiate-first.false in
    let walks = subst (λ (r : Reached). Walks told faults p h s (links_from p s c.asks_pr.result (task_in c.step_at-first.result.asked) c.nodes.result c.step_at-first.result.slot) r) c.in-Missing.is
    (c.reach.ensures.walks s agree) in
    chain_misses told faults p h c.requires.plan s agree c.args.call c.requires.node c.step_at-first.result first (c.step_at-first.ensures.slot ∙ c.named-n.ensures)
    (ap (λ (a : Asked). task_in a) c.step_at-first.ensures.asked ∙ c.asked.ensures) off c.asks_pr.result c.nodes.result c.in-Missing.k c.asks_pr.ensures c.nodes.ensures.count walks

pub returns-in-End : goal.returns-in-End
returns-in-End g c = λ s agree.
    let told = g.S.Samples.told in let faults = g.S.Samples.faults in let p = c.args.plan.now in let h = g.H.Holdings.what c.args.hold.now in
    let first = step_is g.S.Samples.told g.S.Samples.faults c.args.plan.now (g.H.Holdings.what c.args.hold.now) c.named-n.result c.asked.result c.step_at-first.result c.requires.plan
    (subst (λ k. k < length c.args.plan.now.nodes) (sym c.named-n.ensures) c.requires.there) (c.held.ensures.0 c.if-not-held.false)
    c.step_at-first.ensures.slot c.step_at-first.ensures.asked c.step_at-first.ensures.link in
    let off : (is_instantiate c.args.call && c.step_at-first.result.node.live) ≡ false = ap (λ b. b && c.step_at-first.result.node.live) (sym c.is_instantiate.ensures) ∙ c.if-is_instantiate-first.false in
    let walks = subst (λ (r : Reached). Walks told faults p h s (links_from p s c.asks_pr.result (task_in c.step_at-first.result.asked) c.nodes.result c.step_at-first.result.slot) r) c.in-End.is
    (c.reach.ensures.walks s agree) in
    chain_ends told faults p h c.requires.plan s agree c.args.call c.requires.node c.step_at-first.result first (c.step_at-first.ensures.slot ∙ c.named-n.ensures)
    (ap (λ (a : Asked). task_in a) c.step_at-first.ensures.asked ∙ c.asked.ensures) off c.asks_pr.result c.nodes.result c.in-End.end c.end_next.result c.asks_pr.ensures c.nodes.ensures.count walks
    (c.end_next.ensures s agree)
