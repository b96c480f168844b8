use Rattle.std.proofs.Common.{◌≡◌, ◌*◌, take}
use Rattle.ctr_drbg.specs.CtrDrbg.{counted, stream}
use Rattle.ctr_drbg.proofs.stream.fill_fours.Given as goal

abbrev pub invariant-fours : goal.invariant-fours
invariant-fours l =
    (l.last ≡ counted l.fn.v (4 * l.i)) × (take (64 * l.i) l.out ≡ stream l.aes l.fn.v (4 * l.i))
