-- The names of mechanisms and of fields, and the numbers that decimal digits write.
-- This project's own, after the names that NIST's DRBGVS response files use.
use Rattle.std.specs.Prelude.{ℕ, ◌^◌, List, [], ◌∷◌, codes, nat_lt, if◌then◌else◌, option_map, Option, Some, None}
use Rattle.std.specs.Str.{bytes_eq, all_ascii_digits}
use Rattle.std.specs.Str.Parse.{digits_value}
use Rattle.hmac_core.specs.declared.hash.Hash.{Hash}
use Rattle.hmac_core.specs.declared.hash.Hash.TheVariants.{Sha224, Sha256, Sha384, Sha512, Sha512_224, Sha512_256}
use Rattle.df_core.specs.declared.key_len.KeyLen.{KeyLen}
use Rattle.df_core.specs.declared.key_len.KeyLen.TheVariants.{K16, K24, K32}
use Rattle.ctr_drbg.specs.declared.seeds.Mode.{Mode}
use Rattle.ctr_drbg.specs.declared.seeds.Mode.TheVariants.{UseDf, NoDf}
use Rattle.vector_text.specs.declared.case.Family as families
use Rattle.vector_text.specs.declared.case.Mech as mechs
use Rattle.vector_text.specs.declared.case.Mech.{Mech}
use Rattle.vector_text.specs.declared.shape.Field.{Field}
use Rattle.vector_text.specs.declared.shape.Field.TheVariants.{EntropyInput, Nonce, PersonalizationString, EntropyInputReseed, AdditionalInputReseed, AdditionalInput, EntropyInputPr, ReturnedBits}

-- the hash function of HMAC_DRBG with a name
abbrev pub hash_named : List ℕ → Option Hash
hash_named t =
    if bytes_eq t (codes "SHA-224") then Some Sha224
    else if bytes_eq t (codes "SHA-256") then Some Sha256
    else if bytes_eq t (codes "SHA-384") then Some Sha384
    else if bytes_eq t (codes "SHA-512") then Some Sha512
    else if bytes_eq t (codes "SHA-512/224") then Some Sha512_224
    else if bytes_eq t (codes "SHA-512/256") then Some Sha512_256
    else None

-- the key length and the mode of CTR_DRBG with a name
abbrev pub cipher_named : List ℕ → Option (KeyLen × Mode)
cipher_named t =
    if bytes_eq t (codes "AES-128 use df") then Some (K16, UseDf)
    else if bytes_eq t (codes "AES-192 use df") then Some (K24, UseDf)
    else if bytes_eq t (codes "AES-256 use df") then Some (K32, UseDf)
    else if bytes_eq t (codes "AES-128 no df") then Some (K16, NoDf)
    else if bytes_eq t (codes "AES-192 no df") then Some (K24, NoDf)
    else if bytes_eq t (codes "AES-256 no df") then Some (K32, NoDf)
    else None

-- the mechanism of a family with a name
abbrev pub mechanism_named : families.Family → List ℕ → Option Mech
mechanism_named families.TheVariants.Hmac t = option_map (λ h. mechs.TheVariants.Hmac h) (hash_named t)
mechanism_named families.TheVariants.Ctr t = option_map (λ c. mechs.TheVariants.Ctr c.0 c.1) (cipher_named t)

-- the field with a name
abbrev pub field_named : List ℕ → Option Field
field_named t =
    if bytes_eq t (codes "EntropyInput") then Some EntropyInput
    else if bytes_eq t (codes "Nonce") then Some Nonce
    else if bytes_eq t (codes "PersonalizationString") then Some PersonalizationString
    else if bytes_eq t (codes "EntropyInputReseed") then Some EntropyInputReseed
    else if bytes_eq t (codes "AdditionalInputReseed") then Some AdditionalInputReseed
    else if bytes_eq t (codes "AdditionalInput") then Some AdditionalInput
    else if bytes_eq t (codes "EntropyInputPR") then Some EntropyInputPr
    else if bytes_eq t (codes "ReturnedBits") then Some ReturnedBits
    else None

-- the number of digits, of which there must be some, where it is below 2 ^ 64
abbrev pub count_below : List ℕ → Option ℕ
count_below [] = None
count_below (digit ∷ digits) = if nat_lt (digits_value 10 (digit ∷ digits)) (2 ^ 64) then Some (digits_value 10 (digit ∷ digits)) else None

-- the number that decimal digits write, where it is below 2 ^ 64
abbrev pub count_of : List ℕ → Option ℕ
count_of t = if all_ascii_digits t then count_below t else None
