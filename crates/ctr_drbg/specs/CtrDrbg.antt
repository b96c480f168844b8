-- CTR_DRBG on lists of bytes, without the reseed counter. The counter field has 128 bits.
-- SP 800-90A Rev. 1, 10.2.1.
use Rattle.std.specs.Prelude.{ℕ, zero, suc, ◌+◌, ◌-◌, ◌%◌, ◌^◌, List, [], ◌∷◌, ◌++◌, length, take, drop, replicate}
use Rattle.std.specs.Int.{w128, to_be_bytes, from_be_bytes}
use Rattle.rbg_bytes.specs.Xor.{xor_bytes}
use Rattle.ctr_drbg.specs.declared.seeds.Mode.{Mode}
use Rattle.ctr_drbg.specs.declared.seeds.Mode.TheVariants.{UseDf, NoDf}
use Rattle.aes_core.specs.Aes.{aes}
use Rattle.df_core.specs.Df.{blocks_for, df}

-- Key and V of the working state (10.2.1.1)
pub record Working : Type 0 where
  pub key : List ℕ
  pub value : List ℕ

-- V + 1 modulo 2 ^ 128 (10.2.1.2, step 2.1, where ctr_len is the length of a block)
abbrev pub plus_one : List ℕ → List ℕ
plus_one v = to_be_bytes w128 ((from_be_bytes w128 v + 1) % 2 ^ 128)

-- V after n turns of V = V + 1
unfoldable pub counted : List ℕ → ℕ → List ℕ
counted v zero = v
counted v (suc n) = plus_one (counted v n)

-- the encryption of V in each of n turns, one after another
unfoldable pub stream : List ℕ → List ℕ → ℕ → List ℕ
stream key v zero = []
stream key v (suc n) = stream key v n ++ aes key (counted v (suc n))

-- seedlen, for a key of so many bytes
abbrev pub seed_len : ℕ → ℕ
seed_len keylen = keylen + 16

-- zero bytes added at the end, up to n bytes
abbrev pub zero_padded : ℕ → List ℕ → List ℕ
zero_padded n bytes = bytes ++ replicate (n - length bytes) 0

-- CTR_DRBG_Update (10.2.1.2)
unfoldable pub update : List ℕ → Working → Working
update provided s =
    let n = seed_len (length s.key) in
    let temp = xor_bytes (take n (stream s.key s.value (blocks_for n))) provided in
    record { key = take (length s.key) temp; value = drop (length s.key) temp }

-- what an instantiation gives the update (10.2.1.3.1 without df, 10.2.1.3.2 with df)
abbrev pub first_seed : Mode → ℕ → List ℕ → List ℕ → List ℕ → List ℕ
first_seed UseDf keylen entropy nonce personalization = df keylen (entropy ++ nonce ++ personalization) (seed_len keylen)
first_seed NoDf keylen entropy nonce personalization = xor_bytes entropy (zero_padded (seed_len keylen) personalization)

-- CTR_DRBG_Instantiate_algorithm (10.2.1.3)
unfoldable pub instantiated : Mode → ℕ → List ℕ → List ℕ → List ℕ → Working
instantiated mode keylen entropy nonce personalization =
    update (first_seed mode keylen entropy nonce personalization) (record { key = replicate keylen 0; value = replicate 16 0 })

-- what a reseed gives the update (10.2.1.4)
abbrev pub next_seed : Mode → ℕ → List ℕ → List ℕ → List ℕ
next_seed UseDf keylen entropy additional = df keylen (entropy ++ additional) (seed_len keylen)
next_seed NoDf keylen entropy additional = xor_bytes entropy (zero_padded (seed_len keylen) additional)

-- CTR_DRBG_Reseed_algorithm (10.2.1.4)
unfoldable pub reseeded : Mode → List ℕ → List ℕ → Working → Working
reseeded mode entropy additional s = update (next_seed mode (length s.key) entropy additional) s

-- what a generate gives the update, where there is additional input (10.2.1.5.1 and 10.2.1.5.2, step 2)
abbrev pub stretched : Mode → ℕ → List ℕ → List ℕ
stretched UseDf keylen additional = df keylen additional (seed_len keylen)
stretched NoDf keylen additional = zero_padded (seed_len keylen) additional

-- what a generate gives the update: zeros where there is no additional input
abbrev pub additional_seed : Mode → ℕ → List ℕ → List ℕ
additional_seed mode keylen [] = replicate (seed_len keylen) 0
additional_seed mode keylen (b ∷ additional) = stretched mode keylen (b ∷ additional)

-- the additional input, where there is any, goes into the state first
abbrev pub with_additional : Mode → List ℕ → Working → Working
with_additional mode [] s = s
with_additional mode (b ∷ additional) s = update (stretched mode (length s.key) (b ∷ additional)) s

-- the bytes of a generate (10.2.1.5, steps 2 to 5)
unfoldable pub generated : Mode → List ℕ → ℕ → Working → List ℕ
generated mode additional n s =
    let w = with_additional mode additional s in take n (stream w.key w.value (blocks_for n))

-- the state after a generate (10.2.1.5, steps 2 to 6)
unfoldable pub after_generate : Mode → List ℕ → ℕ → Working → Working
after_generate mode additional n s =
    let w = with_additional mode additional s in
    update (additional_seed mode (length s.key) additional) (record { key = w.key; value = counted w.value (blocks_for n) })
