-- The mechanism at work: its state, its reseed counter, and the state that the work begins with.
-- SP 800-90A Rev. 1, 10.1.2.3 and 10.2.1.3.2.
use Rattle.std.specs.Prelude.{◌≡◌, ℕ, []}
use Rattle.hmac_drbg.specs.HmacDrbg as hmac
use Rattle.hmac_drbg.specs.State as hmac_drbg
use Rattle.ctr_drbg.specs.declared.seeds.Mode.TheVariants.{UseDf}
use Rattle.ctr_drbg.specs.CtrDrbg as ctr
use Rattle.ctr_drbg.specs.State as ctr_drbg
use Rattle.df_core.specs.KeyLen.{key_bytes}
use Rattle.rbg_bench.specs.declared.job.Mechanism.{Mechanism}
use Rattle.rbg_bench.specs.declared.job.Mechanism.TheVariants.{OverHash, OverAes}
use Rattle.rbg_bench.specs.declared.worker.Worker.{Worker}
use Rattle.rbg_bench.specs.declared.worker.Worker.TheVariants.{Hmac, Ctr}
use Rattle.rbg_bench.specs.Outputs.{State, OfHmac, OfCtr, counting_from}

-- what 32 bytes of entropy and 16 of nonce, which count up from 0, make of a mechanism, with no personalization string
abbrev pub instantiated : Mechanism → State
instantiated (OverHash h) = OfHmac h (hmac.instantiated h (counting_from 0 32) (counting_from 32 16) [])
instantiated (OverAes k) = OfCtr (ctr.instantiated UseDf (key_bytes k) (counting_from 0 32) (counting_from 32 16) [])

-- its hash function, Key and V
abbrev pub state_of : Worker → State
state_of (Hmac d) = OfHmac d.hash (hmac_drbg.working d)
state_of (Ctr d) = OfCtr (ctr_drbg.working d)

-- its reseed counter
abbrev pub counter_of : Worker → ℕ
counter_of (Hmac d) = d.counter
counter_of (Ctr d) = d.counter

-- Key and V have the lengths of the mechanism, and CTR_DRBG uses the derivation function
abbrev pub IsWellFormed : Worker → Type 0
IsWellFormed (Hmac d) = hmac_drbg.IsWellFormed d
IsWellFormed (Ctr d) = ctr_drbg.IsWellFormed d × (d.mode ≡ UseDf)
