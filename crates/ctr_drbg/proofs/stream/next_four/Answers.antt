use Rattle.std.proofs.Common.{refl}
use Rattle.ctr_drbg.specs.CtrDrbg.{counted}
use Rattle.ctr_drbg.proofs.stream.next_four.Goals as goal

pub returns : goal.returns
unfolding counted
returns c = rw (c.next.ensures, c.next-third.ensures, c.next-second.ensures, c.next-first.ensures) refl
