use Rattle.std.proofs.Common.{◌≡◌, ◌*◌, take, length}
use Rattle.std.specs.List.{concat}
use Rattle.df_core.proofs.chaining.joined.Given as goal

abbrev pub invariant-chains : goal.invariant-chains
invariant-chains l = (length l.out ≡ 48) × (take (16 * l.i) l.out ≡ concat (take l.i l.chains))
