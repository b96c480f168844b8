use Rattle.std.proofs.Common.{◌≡◌, ◌-◌, ◌*◌, take, length}
use Rattle.aes_core.specs.Aes.{expansion}
use Rattle.aes_core.proofs.keys.expanded.Given as goal

abbrev pub invariant-words : goal.invariant-words
invariant-words l = (length l.keys ≡ 240) × (take (4 * l.i) l.keys ≡ expansion l.key (l.i - l.words))
