use Rattle.std.proofs.Common.{◌≡◌, ◌≤◌, ◌+◌, ◌^◌}
use Rattle.std.specs.Prelude.{IsSome}
use Rattle.entropy_source.proofs.Joining.{Left}
use Rattle.entropy_source.proofs.intake.Intake.warm_up.Given as goal

abbrev pub invariant-loop-lacks : goal.invariant-loop-lacks
invariant-loop-lacks g l = record {
  row : l.self.row ≡ l.fn.self.row;
  tested : IsSome l.self.tail;
  room : l.self.taken + l.lacks ≤ 2 ^ 60;
  leads : Left g.S.Samples.told g.S.Samples.faults g.S.Samples.reads l.fn.self.row l.fn.self l.fn.self.row.startup l.self l.lacks;
}

abbrev pub decreases-loop-lacks : goal.decreases-loop-lacks
decreases-loop-lacks g l = l.lacks
