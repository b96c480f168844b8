use Rattle.std.proofs.Common.{◌≡◌, ◌-◌}
use Rattle.aes_core.specs.Aes.{after_rounds, expanded}
use Rattle.aes_core.proofs.Rows.{each_of}
use Rattle.aes_core.proofs.cipher.Aes.encrypt4.Given as goal

abbrev pub invariant-rounds : goal.invariant-rounds
invariant-rounds l = l.s ≡ each_of (λ b. after_rounds (expanded l.self) b (l.n - 1)) l.blocks
