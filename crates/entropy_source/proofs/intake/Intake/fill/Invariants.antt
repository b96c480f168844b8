use Rattle.std.proofs.Common.{◌≡◌, ◌+◌, ◌*◌}
use Rattle.std.specs.Prelude.{IsSome}
use Rattle.entropy_source.specs.Source.{need_of_block}
use Rattle.entropy_source.proofs.Filling.{Filled}
use Rattle.entropy_source.proofs.intake.Intake.fill.Given as goal

abbrev pub invariant-loop-i : goal.invariant-loop-i
invariant-loop-i g l = record {
  row : l.self.row ≡ l.fn.self.row;
  tested : IsSome l.self.tail;
  taken : l.self.taken ≡ l.fn.self.taken + l.i * need_of_block l.fn.self.row;
  filled : Filled g.S.Samples.told g.S.Samples.faults g.S.Samples.reads l.fn.self.row l.fn.self l.blocks l.len
      l.self l.i l.out;
}
