use Rattle.std.proofs.Common.{◌≡◌, ◌*◌, take, length}
use Rattle.df_core.specs.Df.{turned, turns}
use Rattle.df_core.proofs.derive.output.Given as goal

abbrev pub invariant-turns : goal.invariant-turns
invariant-turns l =
    (length l.out ≡ 64) × (l.x ≡ turned l.aes l.fn.x l.i) × (take (16 * l.i) l.out ≡ turns l.aes l.fn.x l.i)
