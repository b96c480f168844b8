use Rattle.std.proofs.Common.{drop}
use Rattle.frame_codec.specs.Rows.{Reaches}
use Rattle.frame_codec.proofs.head.reaches.Given as goal

abbrev pub invariant-loop-span : goal.invariant-loop-span
invariant-loop-span l = Reaches l.spans l.left l.number → Reaches (drop l.span-index l.spans) l.left l.number
