-- The bytes of many generates, one after another.
-- SP 800-90A Rev. 1, 10.1.2.4, 10.1.2.5, 10.2.1.4.2 and 10.2.1.5.2, with no additional input.
use Rattle.std.specs.Prelude.{ℕ, zero, suc, ◌+◌, List, [], ◌∷◌, ◌++◌}
use Rattle.hmac_core.specs.declared.hash.Hash.{Hash}
use Rattle.hmac_drbg.specs.HmacDrbg as hmac_drbg
use Rattle.ctr_drbg.specs.declared.seeds.Mode.TheVariants.{UseDf}
use Rattle.ctr_drbg.specs.CtrDrbg as ctr_drbg

-- so many bytes that count up from a first one
abbrev pub counting_from : ℕ → ℕ → List ℕ
counting_from first zero = []
counting_from first (suc n) = first ∷ counting_from (first + 1) n

-- Key and V of HMAC_DRBG over a hash function, or of CTR_DRBG with AES and the derivation function
pub data State : Type 0 where
  OfHmac : Hash → hmac_drbg.Working → State
  OfCtr : ctr_drbg.Working → State

-- the bytes of a generate of n bytes
abbrev pub generated : ℕ → State → List ℕ
generated n (OfHmac h s) = hmac_drbg.generated h [] n s
generated n (OfCtr s) = ctr_drbg.generated UseDf [] n s

-- the state after it
abbrev pub after_generate : ℕ → State → State
after_generate n (OfHmac h s) = OfHmac h (hmac_drbg.after_generate h [] n s)
after_generate n (OfCtr s) = OfCtr (ctr_drbg.after_generate UseDf [] n s)

-- the state after so many generates of n bytes
unfoldable pub state_after : ℕ → ℕ → State → State
state_after n zero s = s
state_after n (suc times) s = after_generate n (state_after n times s)

-- their bytes
unfoldable pub outputs : ℕ → ℕ → State → List ℕ
outputs n zero s = []
outputs n (suc times) s = outputs n times s ++ generated n (state_after n times s)

-- the state after a reseed with 32 bytes of entropy that count up from 0
abbrev pub after_reseed : State → State
after_reseed (OfHmac h s) = OfHmac h (hmac_drbg.reseeded h (counting_from 0 32) [] s)
after_reseed (OfCtr s) = OfCtr (ctr_drbg.reseeded UseDf (counting_from 0 32) [] s)

-- the state after so many generates of n bytes, each after a reseed
unfoldable pub state_after_reseeds : ℕ → ℕ → State → State
state_after_reseeds n zero s = s
state_after_reseeds n (suc times) s = after_generate n (after_reseed (state_after_reseeds n times s))

-- their bytes
unfoldable pub reseeded_outputs : ℕ → ℕ → State → List ℕ
reseeded_outputs n zero s = []
reseeded_outputs n (suc times) s = reseeded_outputs n times s ++ generated n (after_reseed (state_after_reseeds n times s))
