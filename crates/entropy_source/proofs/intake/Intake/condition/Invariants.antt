use Rattle.std.proofs.Common.{◌≡◌, ◌+◌}
use Rattle.std.specs.Prelude.{IsSome}
use Rattle.entropy_source.specs.Source.{need_of_block}
use Rattle.entropy_source.proofs.Conditioning.{Held}
use Rattle.entropy_source.proofs.intake.Intake.condition.Given as goal

abbrev pub invariant-loop-lacks : goal.invariant-loop-lacks
invariant-loop-lacks g l = record {
  row : l.self.row ≡ l.fn.self.row;
  tested : IsSome l.self.tail;
  taken : l.self.taken + l.lacks ≡ l.fn.self.taken + need_of_block l.fn.self.row;
  blocks : l.self.blocks ≡ l.fn.self.blocks;
  leads : Held g.S.Samples.told g.S.Samples.faults g.S.Samples.reads l.fn.self.row l.fn.self l.self l.block l.lacks;
}

abbrev pub decreases-loop-lacks : goal.decreases-loop-lacks
decreases-loop-lacks g l = l.lacks
