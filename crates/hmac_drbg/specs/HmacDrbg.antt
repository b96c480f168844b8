-- HMAC_DRBG on Key and V, without the reseed counter.
-- SP 800-90A Rev. 1, 10.1.2.
use Rattle.std.specs.Prelude.{ℕ, zero, suc, ◌+◌, ◌-◌, ◌/◌, List, [], ◌∷◌, ◌++◌, take, replicate}
use Rattle.hmac_core.specs.declared.hash.Hash.{Hash}
use Rattle.hmac_core.specs.Hmac.{hmac, out_len}

-- Key and V of the working state (10.1.2.1)
pub record Working : Type 0 where
  pub key : List ℕ
  pub value : List ℕ

-- K = HMAC(K, V || mark || provided), V = HMAC(K, V)
abbrev pub half_update : Hash → ℕ → List ℕ → Working → Working
half_update h mark provided s =
    let k = hmac h s.key (s.value ++ mark ∷ provided) in
    record { key = k; value = hmac h k s.value }

-- the second half, which runs only where there is provided data (10.1.2.2, steps 3 to 5)
abbrev pub second_half : Hash → List ℕ → Working → Working
second_half h [] s = s
second_half h (b ∷ provided) s = half_update h 1 (b ∷ provided) s

-- HMAC_DRBG_Update (10.1.2.2)
unfoldable pub update : Hash → List ℕ → Working → Working
update h provided s = second_half h provided (half_update h 0 provided s)

-- HMAC_DRBG_Instantiate_algorithm (10.1.2.3)
unfoldable pub instantiated : Hash → List ℕ → List ℕ → List ℕ → Working
instantiated h entropy nonce personalization =
    update h (entropy ++ nonce ++ personalization)
    (record { key = replicate (out_len h) 0; value = replicate (out_len h) 1 })

-- HMAC_DRBG_Reseed_algorithm (10.1.2.4)
unfoldable pub reseeded : Hash → List ℕ → List ℕ → Working → Working
reseeded h entropy additional s = update h (entropy ++ additional) s

-- V after so many turns of V = HMAC(K, V) (10.1.2.5, step 4.1)
unfoldable pub turned : Hash → List ℕ → List ℕ → ℕ → List ℕ
turned h key value zero = value
turned h key value (suc n) = hmac h key (turned h key value n)

-- temp: the V of each of so many turns, one after another (10.1.2.5, step 4.2)
unfoldable pub gathered : Hash → List ℕ → List ℕ → ℕ → List ℕ
gathered h key value zero = []
gathered h key value (suc n) = gathered h key value n ++ turned h key value (suc n)

-- additional input, where there is any, goes into the state first (10.1.2.5, step 2)
abbrev pub with_additional : Hash → List ℕ → Working → Working
with_additional h [] s = s
with_additional h (b ∷ additional) s = update h (b ∷ additional) s

-- how many digests hold n bytes
abbrev pub blocks_for : Hash → ℕ → ℕ
blocks_for h n = (n + (out_len h - 1)) / out_len h

-- the n bytes that HMAC_DRBG_Generate_algorithm returns (10.1.2.5, steps 2 to 5)
unfoldable pub generated : Hash → List ℕ → ℕ → Working → List ℕ
generated h additional n s =
    let w = with_additional h additional s in
    take n (gathered h w.key w.value (blocks_for h n))

-- the state that it leaves (10.1.2.5, step 6)
unfoldable pub after_generate : Hash → List ℕ → ℕ → Working → Working
after_generate h additional n s =
    let w = with_additional h additional s in
    update h additional (record { key = w.key; value = turned h w.key w.value (blocks_for h n) })
