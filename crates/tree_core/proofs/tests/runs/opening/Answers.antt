use Rattle.std.proofs.Common.{◌^◌, List, sym, subst}
use Rattle.tree_config.specs.Tree.{Tree}
use Rattle.entropy_source.specs.Views.{SourceView}
use Rattle.rbg_nodes.specs.Views.{NodeView}
use Rattle.tree_core.specs.Solo.{HaveHistory}
use Rattle.tree_core.specs.Whole.{AreAtMost}
use Rattle.tree_core.proofs.Together.{have_few, have_history}
use Rattle.tree_core.proofs.tests.runs.opening.Goals as goal

pub of_parts-requires-clause-history : goal.of_parts-requires-clause-history
of_parts-requires-clause-history g c =
    let told = g.S.Samples.told in let faults = g.S.Samples.faults in let t = c.in-Ok.tree in let parts = c.into_parts.result in
    subst (λ (p : Tree). HaveHistory told faults p parts.nodes.items parts.sources.items) (sym c.into_parts.ensures.plan)
    (subst (λ (ns : List NodeView). HaveHistory told faults t.plan ns parts.sources.items) (sym c.into_parts.ensures.nodes)
    (subst (λ (ss : List (SourceView g.row.S.Denot)). HaveHistory told faults t.plan t.nodes ss) (sym c.into_parts.ensures.sources)
    (have_history told faults _ _ _ t c.in-Ok.ensures.opened)))

pub of_parts-requires-clause-few : goal.of_parts-requires-clause-few
of_parts-requires-clause-few g c =
    let t = c.in-Ok.tree in
    subst (λ (ns : List NodeView). AreAtMost ns (2 ^ 61)) (sym c.into_parts.ensures.nodes)
    (have_few g.S.Samples.told g.S.Samples.faults _ _ _ t c.in-Ok.ensures.opened c.counts_are_small.ensures.history)
