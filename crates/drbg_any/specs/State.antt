-- What contracts see of a Drbg: its kind, its working state and its reseed counter.
-- SP 800-90A Rev. 1, 9 and 10.
use Rattle.std.specs.Prelude.{◌≡◌, ℕ, length, if◌then◌else◌, nat_eq}
use Rattle.rbg_bytes.specs.declared.kind.Kind.{Kind}
use Rattle.rbg_bytes.specs.declared.kind.Kind.TheVariants.{HmacSha256, HmacSha384, HmacSha512, CtrAes128, CtrAes192, CtrAes256}
use Rattle.hmac_core.specs.declared.hash.Hash.{Hash}
use Rattle.hmac_core.specs.declared.hash.Hash.TheVariants.{Sha224, Sha256, Sha384, Sha512, Sha512_224, Sha512_256}
use Rattle.hmac_drbg.specs.State as hmac_drbg
use Rattle.ctr_drbg.specs.declared.seeds.Mode.TheVariants.{UseDf}
use Rattle.ctr_drbg.specs.State as ctr_drbg
use Rattle.drbg_any.specs.declared.drbg.Drbg.{Drbg}
use Rattle.drbg_any.specs.declared.drbg.Drbg.TheVariants.{Hmac, Ctr}
use Rattle.drbg_any.specs.Drbg.{Working, OverHash, OverAes, mechanism, from_hmac, from_ctr}

-- the kind over a hash function; over one of which no kind is served it is of no use
abbrev pub kind_over : Hash → Kind
kind_over Sha224 = HmacSha256
kind_over Sha256 = HmacSha256
kind_over Sha384 = HmacSha384
kind_over Sha512 = HmacSha512
kind_over Sha512_224 = HmacSha512
kind_over Sha512_256 = HmacSha512

-- the kind with a key of AES of so many bytes; with one of another length it is of no use
abbrev pub kind_keyed : ℕ → Kind
kind_keyed n = if nat_eq n 16 then CtrAes128 else if nat_eq n 24 then CtrAes192 else CtrAes256

-- the kind of a value that is well formed
abbrev pub kind_of : Drbg → Kind
kind_of (Hmac d) = kind_over d.hash
kind_of (Ctr d) = kind_keyed (length d.key)

-- its Key and V
abbrev pub working : Drbg → Working
working (Hmac d) = from_hmac (hmac_drbg.working d)
working (Ctr d) = from_ctr (ctr_drbg.working d)

-- its reseed counter
abbrev pub counter_of : Drbg → ℕ
counter_of (Hmac d) = d.counter
counter_of (Ctr d) = d.counter

-- it is of a kind that is served, and its Key and V are as long as they are in this kind
abbrev pub IsWellFormed : Drbg → Type 0
IsWellFormed (Hmac d) = (mechanism (kind_over d.hash) ≡ OverHash d.hash) × hmac_drbg.IsWellFormed d
IsWellFormed (Ctr d) = (mechanism (kind_keyed (length d.key)) ≡ OverAes (length d.key)) × (d.mode ≡ UseDf)
