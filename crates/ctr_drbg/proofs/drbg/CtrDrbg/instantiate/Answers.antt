use Rattle.ctr_drbg.specs.CtrDrbg.{instantiated}
use Rattle.ctr_drbg.proofs.drbg.CtrDrbg.instantiate.Goals as goal

pub returns-clause-state : goal.returns-clause-state
unfolding instantiated
returns-clause-state c = rw (c.as_slice.ensures.bytes, c.in_ok-seed.ensures.seed, c.bytes.ensures) at c.begun.ensures.state
