-- How long digests and HMACs are.
use Rattle.std.proofs.Common.{◌≡◌, ℕ, List, ◌++◌, length}
use Rattle.sha2.proofs.Facts256.{length-sha224, length-sha256}
use Rattle.sha2.proofs.Facts512.{length-sha384, length-sha512, length-sha512_224, length-sha512_256}
use Rattle.hmac_core.specs.declared.hash.Hash.{Hash}
use Rattle.hmac_core.specs.declared.hash.Hash.TheVariants.{Sha224, Sha256, Sha384, Sha512, Sha512_224, Sha512_256}
use Rattle.hmac_core.specs.Hmac.{hash_of, out_len, block_key, hmac, xor_each}

pub length-hash_of : (h : Hash) (message : List ℕ) → length (hash_of h message) ≡ out_len h
length-hash_of Sha224 message = length-sha224 message
length-hash_of Sha256 message = length-sha256 message
length-hash_of Sha384 message = length-sha384 message
length-hash_of Sha512 message = length-sha512 message
length-hash_of Sha512_224 message = length-sha512_224 message
length-hash_of Sha512_256 message = length-sha512_256 message

pub length-hmac : (h : Hash) (key text : List ℕ) → length (hmac h key text) ≡ out_len h
unfolding hmac
length-hmac h key text = length-hash_of h (xor_each 0x5c (block_key h key) ++ hash_of h (xor_each 0x36 (block_key h key) ++ text))
