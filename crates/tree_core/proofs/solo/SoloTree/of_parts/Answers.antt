use Rattle.std.proofs.Common.{subst}
use Rattle.tree_config.specs.Tree.{Tree}
use Rattle.tree_rules.specs.Openings.{states_behind}
use Rattle.tree_core.specs.Whole.{AreOfPlan}
use Rattle.tree_core.proofs.Opens.{stand_of_plan}
use Rattle.tree_core.proofs.solo.SoloTree.of_parts.Goals as goal

pub invariant_of-result : goal.invariant_of-result
invariant_of-result g c =
    let h = c.requires.history in
    let nodes = c.args.parts.nodes.items in let sources = c.args.parts.sources.items in (
      subst (λ (p : Tree). AreOfPlan p nodes sources) h.plan_is (stand_of_plan g.S.Samples.told g.S.Samples.faults h.f.plan (states_behind h.f h.o h.es) nodes sources h.stand),
      c.requires.few,
    )
