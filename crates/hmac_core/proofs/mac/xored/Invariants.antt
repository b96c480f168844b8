use Rattle.std.proofs.Common.{◌≡◌, take, length}
use Rattle.hmac_core.specs.Hmac.{xor_each}
use Rattle.hmac_core.proofs.mac.xored.Given as goal

abbrev pub invariant-loop-i : goal.invariant-loop-i
invariant-loop-i l =
    (length l.block ≡ 128) × (length l.padded ≡ 128) × (take l.i l.padded ≡ xor_each l.pad (take l.i l.block))
