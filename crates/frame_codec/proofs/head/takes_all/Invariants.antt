use Rattle.std.proofs.Common.{take, []}
use Rattle.frame_codec.specs.Rows.{Takes}
use Rattle.frame_codec.specs.Heads.{fields_of}
use Rattle.frame_codec.proofs.head.takes_all.Given as goal

abbrev pub invariant-loop-index : goal.invariant-loop-index
invariant-loop-index l = Takes (take l.index (fields_of l.table)) [] (take l.index l.numbers)
