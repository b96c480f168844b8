-- What the two hash states of an HMAC in progress hold.
-- FIPS 198-1, section 4: the inner hash begins with K0 xor ipad, the outer one with K0 xor opad.
use Rattle.std.specs.Prelude.{◌≡◌, ℕ, List, ◌++◌}
use Rattle.sha2.specs.Hashers.{Holds224, Holds256, Holds384, Holds512, Holds512_224, Holds512_256}
use Rattle.hmac_core.specs.declared.hash.Hash.{Hash}
use Rattle.hmac_core.specs.declared.hash.Hash.TheVariants.{Sha224, Sha256, Sha384, Sha512, Sha512_224, Sha512_256}
use Rattle.hmac_core.specs.Hmac.{block_key, xor_each}
use Rattle.hmac_core.specs.declared.states.States.{States}
use Rattle.hmac_core.specs.declared.states.States.TheVariants.{OfSha224, OfSha256, OfSha384, OfSha512, OfSha512_224, OfSha512_256}
use Rattle.hmac_core.specs.declared.mac.Mac.{Mac}

-- the states are of this hash function, and hold the inner and the outer message
abbrev pub HoldBoth : States → Hash → List ℕ → List ℕ → Type 0
HoldBoth (OfSha224 s t) hash inner outer = (hash ≡ Sha224) × Holds224 s inner × Holds224 t outer
HoldBoth (OfSha256 s t) hash inner outer = (hash ≡ Sha256) × Holds256 s inner × Holds256 t outer
HoldBoth (OfSha384 s t) hash inner outer = (hash ≡ Sha384) × Holds384 s inner × Holds384 t outer
HoldBoth (OfSha512 s t) hash inner outer = (hash ≡ Sha512) × Holds512 s inner × Holds512 t outer
HoldBoth (OfSha512_224 s t) hash inner outer = (hash ≡ Sha512_224) × Holds512_224 s inner × Holds512_224 t outer
HoldBoth (OfSha512_256 s t) hash inner outer = (hash ≡ Sha512_256) × Holds512_256 s inner × Holds512_256 t outer

-- the HMAC in progress is one over this hash function and under this key, and holds the text
pub record HoldsText (mac : Mac) (hash : Hash) (key text : List ℕ) : Type 0 where
  pub states : HoldBoth mac.states hash (xor_each 0x36 (block_key hash key) ++ text) (xor_each 0x5c (block_key hash key))

-- the HMAC in progress holds this block as its key, and no text yet
abbrev pub StartsFrom : Mac → Hash → List ℕ → Type 0
StartsFrom mac hash block = HoldBoth mac.states hash (xor_each 0x36 block) (xor_each 0x5c block)
