-- The functions of a DRBG by its kind, on Key and V, without the reseed counter.
-- SP 800-90A Rev. 1, 10.1.2 for the kinds over a hash function, 10.2.1 for those with AES and the derivation function.
use Rattle.std.specs.Prelude.{ℕ, List}
use Rattle.rbg_bytes.specs.declared.kind.Kind.{Kind}
use Rattle.rbg_bytes.specs.declared.kind.Kind.TheVariants.{HmacSha256, HmacSha384, HmacSha512, CtrAes128, CtrAes192, CtrAes256}
use Rattle.hmac_core.specs.declared.hash.Hash.{Hash}
use Rattle.hmac_core.specs.declared.hash.Hash.TheVariants.{Sha256, Sha384, Sha512}
use Rattle.hmac_drbg.specs.HmacDrbg as hmac_drbg
use Rattle.ctr_drbg.specs.declared.seeds.Mode.TheVariants.{UseDf}
use Rattle.ctr_drbg.specs.CtrDrbg as ctr_drbg

-- Key and V of a working state
pub record Working : Type 0 where
  pub key : List ℕ
  pub value : List ℕ

-- what a kind is made of: a hash function, or AES with a key of so many bytes
pub data Mechanism : Type 0 where
  OverHash : Hash → Mechanism
  OverAes : ℕ → Mechanism

abbrev pub mechanism : Kind → Mechanism
mechanism HmacSha256 = OverHash Sha256
mechanism HmacSha384 = OverHash Sha384
mechanism HmacSha512 = OverHash Sha512
mechanism CtrAes128 = OverAes 16
mechanism CtrAes192 = OverAes 24
mechanism CtrAes256 = OverAes 32

-- a state of HMAC_DRBG, seen as any state and back
abbrev pub from_hmac : hmac_drbg.Working → Working
from_hmac s = record { key = s.key; value = s.value }

abbrev pub as_hmac : Working → hmac_drbg.Working
as_hmac s = record { key = s.key; value = s.value }

-- a state of CTR_DRBG, seen as any state and back
abbrev pub from_ctr : ctr_drbg.Working → Working
from_ctr s = record { key = s.key; value = s.value }

abbrev pub as_ctr : Working → ctr_drbg.Working
as_ctr s = record { key = s.key; value = s.value }

abbrev pub instantiated_by : Mechanism → List ℕ → List ℕ → List ℕ → Working
instantiated_by (OverHash h) entropy nonce personalization = from_hmac (hmac_drbg.instantiated h entropy nonce personalization)
instantiated_by (OverAes n) entropy nonce personalization = from_ctr (ctr_drbg.instantiated UseDf n entropy nonce personalization)

abbrev pub reseeded_by : Mechanism → List ℕ → List ℕ → Working → Working
reseeded_by (OverHash h) entropy additional s = from_hmac (hmac_drbg.reseeded h entropy additional (as_hmac s))
reseeded_by (OverAes n) entropy additional s = from_ctr (ctr_drbg.reseeded UseDf entropy additional (as_ctr s))

abbrev pub generated_by : Mechanism → List ℕ → ℕ → Working → List ℕ
generated_by (OverHash h) additional n s = hmac_drbg.generated h additional n (as_hmac s)
generated_by (OverAes k) additional n s = ctr_drbg.generated UseDf additional n (as_ctr s)

abbrev pub after_generate_by : Mechanism → List ℕ → ℕ → Working → Working
after_generate_by (OverHash h) additional n s = from_hmac (hmac_drbg.after_generate h additional n (as_hmac s))
after_generate_by (OverAes k) additional n s = from_ctr (ctr_drbg.after_generate UseDf additional n (as_ctr s))

-- the state that entropy, a nonce and a personalization string give
unfoldable pub instantiated : Kind → List ℕ → List ℕ → List ℕ → Working
instantiated k entropy nonce personalization = instantiated_by (mechanism k) entropy nonce personalization

-- the state after entropy and additional input were mixed in
unfoldable pub reseeded : Kind → List ℕ → List ℕ → Working → Working
reseeded k entropy additional s = reseeded_by (mechanism k) entropy additional s

-- the n bytes that a generate with additional input returns
unfoldable pub generated : Kind → List ℕ → ℕ → Working → List ℕ
generated k additional n s = generated_by (mechanism k) additional n s

-- the state that it leaves
unfoldable pub after_generate : Kind → List ℕ → ℕ → Working → Working
after_generate k additional n s = after_generate_by (mechanism k) additional n s
