-- The hash functions by name with their lengths, and HMAC over them.
-- FIPS 180-4, sections 1 and 6; FIPS 198-1, section 4.
use Rattle.std.specs.Prelude.{ℕ, ◌-◌, List, ◌++◌, length, map, replicate, bit_xor, if◌then◌else◌, nat_lt}
use Rattle.sha2.specs.Sha256.{sha224, sha256}
use Rattle.sha2.specs.Sha512.{sha384, sha512, sha512_224, sha512_256}
use Rattle.hmac_core.specs.declared.hash.Hash.{Hash}
use Rattle.hmac_core.specs.declared.hash.Hash.TheVariants.{Sha224, Sha256, Sha384, Sha512, Sha512_224, Sha512_256}

-- the digest of a message (FIPS 180-4, 6.2 to 6.7)
abbrev pub hash_of : Hash → List ℕ → List ℕ
hash_of Sha224 message = sha224 message
hash_of Sha256 message = sha256 message
hash_of Sha384 message = sha384 message
hash_of Sha512 message = sha512 message
hash_of Sha512_224 message = sha512_224 message
hash_of Sha512_256 message = sha512_256 message

-- L: the length of a digest in bytes (FIPS 180-4, figure 1)
abbrev pub out_len : Hash → ℕ
out_len Sha224 = 28
out_len Sha256 = 32
out_len Sha384 = 48
out_len Sha512 = 64
out_len Sha512_224 = 28
out_len Sha512_256 = 32

-- B: the length of an input block in bytes (FIPS 180-4, figure 1)
abbrev pub block_len : Hash → ℕ
block_len Sha224 = 64
block_len Sha256 = 64
block_len Sha384 = 128
block_len Sha512 = 128
block_len Sha512_224 = 128
block_len Sha512_256 = 128

-- zero bytes added at the end, up to so many bytes
abbrev pub zero_padded : ℕ → List ℕ → List ℕ
zero_padded len bytes = bytes ++ replicate (len - length bytes) 0

-- K0: the key, hashed where it is longer than a block, with zeros up to a block (FIPS 198-1, 4, steps 1 to 3)
unfoldable pub block_key : Hash → List ℕ → List ℕ
block_key h key = zero_padded (block_len h) (if nat_lt (block_len h) (length key) then hash_of h key else key)

-- each byte xor the byte that a pad repeats
abbrev pub xor_each : ℕ → List ℕ → List ℕ
xor_each pad bytes = map (λ b. bit_xor b pad) bytes

-- H((K0 xor opad) || H((K0 xor ipad) || text)) (FIPS 198-1, 4, steps 4 to 9)
unfoldable pub hmac : Hash → List ℕ → List ℕ → List ℕ
hmac h key text =
    hash_of h (xor_each 0x5c (block_key h key) ++ hash_of h (xor_each 0x36 (block_key h key) ++ text))
