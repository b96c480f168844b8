use Rattle.std.proofs.Common.{◌≡◌, ◌≤◌, ◌*◌, length, take}
use Rattle.tree_rules.specs.History.{Opening, opened}
use Rattle.tree_core.specs.Made.{samples_in}
use Rattle.tree_core.specs.Opened.{OpenedBy}
use Rattle.tree_core.specs.Solo.{StandIn}
use Rattle.tree_core.specs.Whole.{AreAtMost, AreOfPlan}
use Rattle.tree_core.proofs.opening.make.Given as goal

abbrev pub invariant-loop-call : goal.invariant-loop-call
invariant-loop-call g l = record {
  opened : (f : Opening) → f.plan ≡ l.plan → StandIn g.S.Samples.told g.S.Samples.faults f.plan (opened f) l.initial.all.nodes.items l.initial.all.sources.items
      → OpenedBy g.S.Samples.told g.S.Samples.faults g.S.Samples.reads f (samples_in l.initial.all.sources.items) (take l.call-index l.calls) l.all.nodes.items l.all.sources.items;
  plan : AreOfPlan l.plan l.all.nodes.items l.all.sources.items;
  few : AreAtMost l.all.nodes.items (256 * l.call-index);
  room : 65536 ≤ length l.out;
}
