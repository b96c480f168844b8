use Rattle.ctr_drbg.specs.CtrDrbg.{reseeded}
use Rattle.ctr_drbg.proofs.SeedLemmas.{first_seed-nonce}
use Rattle.ctr_drbg.proofs.drbg.CtrDrbg.reseed.Goals as goal

pub returns-clause-state : goal.returns-clause-state
unfolding reseeded
returns-clause-state c =
    rw (c.as_slice-2.ensures.bytes, c.in_ok-seed.ensures.seed, c.keylen_of-keylen.ensures, c.as_slice.ensures.bytes, first_seed-nonce) at c.update.ensures.state
