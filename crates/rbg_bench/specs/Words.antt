-- The words: the names of mechanisms, primitives and forms, and the numbers that words write.
-- This project's own.
use Rattle.std.specs.Prelude.{◌≡◌, ℕ, List, codes}
use Rattle.std.specs.Str.Parse.{IsNumeral, digits_value, without_leading_plus}
use Rattle.hmac_core.specs.declared.hash.Hash.TheVariants.{Sha224, Sha256, Sha384, Sha512, Sha512_224, Sha512_256}
use Rattle.df_core.specs.declared.key_len.KeyLen.TheVariants.{K16, K24, K32}
use Rattle.rbg_bench.specs.declared.job.Mechanism.{Mechanism}
use Rattle.rbg_bench.specs.declared.job.Mechanism.TheVariants.{OverHash, OverAes}
use Rattle.rbg_bench.specs.declared.job.Primitive.{Primitive}
use Rattle.rbg_bench.specs.declared.job.Primitive.TheVariants.{AesBlock, FourAesBlocks, HashOfZeros}
use Rattle.rbg_bench.specs.declared.job.Form.{Form}
use Rattle.rbg_bench.specs.declared.job.Form.TheVariants.{Step, Slice}

-- the word for a mechanism
abbrev pub mechanism_name : Mechanism → List ℕ
mechanism_name (OverHash Sha224) = codes "hmac-sha-224"
mechanism_name (OverHash Sha256) = codes "hmac-sha-256"
mechanism_name (OverHash Sha384) = codes "hmac-sha-384"
mechanism_name (OverHash Sha512) = codes "hmac-sha-512"
mechanism_name (OverHash Sha512_224) = codes "hmac-sha-512-224"
mechanism_name (OverHash Sha512_256) = codes "hmac-sha-512-256"
mechanism_name (OverAes K16) = codes "ctr-aes-128"
mechanism_name (OverAes K24) = codes "ctr-aes-192"
mechanism_name (OverAes K32) = codes "ctr-aes-256"

-- the word for a primitive
abbrev pub primitive_name : Primitive → List ℕ
primitive_name AesBlock = codes "aes-128-block"
primitive_name FourAesBlocks = codes "aes-256-four-blocks"
primitive_name HashOfZeros = codes "sha-256"

-- the word for a form of the health tests
abbrev pub form_name : Form → List ℕ
form_name Step = codes "health-step"
form_name Slice = codes "health-slice"

-- a word that writes this number in decimal
abbrev pub Writes : List ℕ → ℕ → Type 0
Writes word n = IsNumeral 10 (without_leading_plus word) × (digits_value 10 (without_leading_plus word) ≡ n)
