use Rattle.std.proofs.Common.{◌≡◌, ◌*◌, take}
use Rattle.ctr_drbg.specs.CtrDrbg.{counted, stream}
use Rattle.ctr_drbg.proofs.stream.fill_ones.Given as goal

abbrev pub invariant-ones : goal.invariant-ones
invariant-ones l =
    (l.last ≡ counted l.fn.v l.i) × (take (16 * l.i) l.out ≡ stream l.aes l.fn.v l.i)
