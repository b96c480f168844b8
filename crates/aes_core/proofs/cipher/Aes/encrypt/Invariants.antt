use Rattle.std.proofs.Common.{◌≡◌, ◌-◌}
use Rattle.aes_core.specs.Aes.{after_rounds, expanded}
use Rattle.aes_core.proofs.cipher.Aes.encrypt.Given as goal

abbrev pub invariant-rounds : goal.invariant-rounds
invariant-rounds l = l.s ≡ after_rounds (expanded l.self) l.block (l.n - 1)
