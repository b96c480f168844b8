use Rattle.std.proofs.Common.{ap, arith, length, List, ℕ}
use Rattle.vector_text.proofs.Trimming.{value_short}
use Rattle.vector_text.proofs.spot.Spot.value.Goals as goal

pub decode-requires : goal.decode-requires
decode-requires c = omega (arith, value_short c.args.line.now, ap (λ (x : List ℕ). length x) c.value_of.ensures, c.requires.line, c.requires.room)
