-- What the update is given.
use Rattle.std.proofs.Common.{◌≡◌, ℕ, List, [], refl, append-nil}
use Rattle.ctr_drbg.specs.declared.seeds.Mode.{Mode}
use Rattle.ctr_drbg.specs.declared.seeds.Mode.TheVariants.{UseDf, NoDf}
use Rattle.ctr_drbg.specs.CtrDrbg.{first_seed, next_seed, update}

-- a reseed is given what an instantiation without a nonce is
pub first_seed-nonce : (mode : Mode) (keylen : ℕ) (entropy string : List ℕ) → first_seed mode keylen entropy [] string ≡ next_seed mode keylen entropy string
first_seed-nonce UseDf keylen entropy string = rw append-nil refl
first_seed-nonce NoDf keylen entropy string = refl
