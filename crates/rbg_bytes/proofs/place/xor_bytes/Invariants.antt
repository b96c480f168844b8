use Rattle.rbg_bytes.proofs.Xoring.{IsXoredUpTo}
use Rattle.rbg_bytes.proofs.place.xor_bytes.Given as goal

abbrev pub invariant-loop-i : goal.invariant-loop-i
invariant-loop-i l = IsXoredUpTo l.fn.out l.bytes l.out l.i
