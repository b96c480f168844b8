use Rattle.std.proofs.Common.{◌∙◌, length, map, refl, subst}
use Rattle.std.proofs.lemmas.List.{length-map}
use Rattle.tree_core.specs.Fresh.{AreFresh}
use Rattle.tree_core.proofs.Opens.{fresh_counts, fresh_of_plan, fresh_stand, given, opens_by}
use Rattle.tree_core.proofs.solo.SoloTree.open.Goals as goal

pub open_all-requires-clause-plan : goal.open_all-requires-clause-plan
open_all-requires-clause-plan g c =
    let seeds = map (λ s. s.items) c.args.seeds.items in
    fresh_of_plan g.S.Samples.told g.S.Samples.faults c.args.plan c.args.sources.items seeds c.in-Ok.nodes.items c.in-Ok-sources_of.sources.items
    (subst (λ xs. AreFresh c.args.plan (map (λ s. s.items) xs) (length c.args.plan.nodes) c.in-Ok.nodes.items) c.deref.ensures.value c.in-Ok.ensures) c.in-Ok-sources_of.ensures c.requires.sources

pub open_all-requires-clause-fresh : goal.open_all-requires-clause-fresh
open_all-requires-clause-fresh g c =
    let seeds = map (λ s. s.items) c.args.seeds.items in
    fresh_counts g.S.Samples.told g.S.Samples.faults c.args.plan c.args.sources.items seeds c.in-Ok.nodes.items c.in-Ok-sources_of.sources.items
    (subst (λ xs. AreFresh c.args.plan (map (λ s. s.items) xs) (length c.args.plan.nodes) c.in-Ok.nodes.items) c.deref.ensures.value c.in-Ok.ensures) c.in-Ok-sources_of.ensures c.requires.sources

pub returns-clause-opened : goal.returns-clause-opened
returns-clause-opened g c =
    let told = g.S.Samples.told in let faults = g.S.Samples.faults in let p = c.args.plan in
    let seeds = map (λ s. s.items) c.args.seeds.items in let samples = c.args.sources.items in
    let nodes = c.in-Ok.nodes.items in let sources = c.in-Ok-sources_of.sources.items in
    let fresh = subst (λ xs. AreFresh p (map (λ s. s.items) xs) (length p.nodes) nodes) c.deref.ensures.value c.in-Ok.ensures in
    let stand = fresh_stand told faults p samples seeds nodes sources fresh c.in-Ok-sources_of.ensures c.requires.sources in
    let by = opens_by told faults p samples seeds nodes sources fresh c.in-Ok-sources_of.ensures c.requires.sources g.S.Samples.reads c.in-Ok-open_all.all.nodes.items c.in-Ok-open_all.all.sources.items
    c.nodes-tree.ensures.range c.nodes-tree.ensures.tree (length-map c.args.seeds.items (λ s. s.items) ∙ c.requires.seeds)
    (c.in-Ok-open_all.ensures.opened (given told faults p samples seeds) refl stand) in by.opens

pub returns-clause-made : goal.returns-clause-made
returns-clause-made g c =
    let told = g.S.Samples.told in let faults = g.S.Samples.faults in let p = c.args.plan in
    let seeds = map (λ s. s.items) c.args.seeds.items in let samples = c.args.sources.items in
    let nodes = c.in-Ok.nodes.items in let sources = c.in-Ok-sources_of.sources.items in
    let fresh = subst (λ xs. AreFresh p (map (λ s. s.items) xs) (length p.nodes) nodes) c.deref.ensures.value c.in-Ok.ensures in
    let stand = fresh_stand told faults p samples seeds nodes sources fresh c.in-Ok-sources_of.ensures c.requires.sources in
    let by = opens_by told faults p samples seeds nodes sources fresh c.in-Ok-sources_of.ensures c.requires.sources g.S.Samples.reads c.in-Ok-open_all.all.nodes.items c.in-Ok-open_all.all.sources.items
    c.nodes-tree.ensures.range c.nodes-tree.ensures.tree (length-map c.args.seeds.items (λ s. s.items) ∙ c.requires.seeds)
    (c.in-Ok-open_all.ensures.opened (given told faults p samples seeds) refl stand) in by
