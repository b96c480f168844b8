-- Words of an expanded key as vectors of four bytes.
use Rattle.std.proofs.Common.{lit<, ◌≡◌, ◌≤◌, ◌+◌, ◌*◌, ℕ, List, [], ◌∷◌, ◌++◌, length, map, refl, ◌∙◌}
use Rattle.std.specs.Prelude.{bit_xor}
use Rattle.std.specs.Simd.Lanes.{chunk, pick_l, zip2}
use Rattle.std.proofs.lemmas.Simd.{get_or-chunk, length-chunk}
use Rattle.aes_core.specs.Field.{sub_byte}
use Rattle.aes_core.specs.Aes.{rot_word, sub_word, word, xor_words}
use Rattle.aes_core.proofs.Lanes.{of_each}

-- a list of four bytes is the word of its bytes
four : (t : List ℕ) → length t ≡ 4 → t ≡ word t 0
four t long = of_each 4 (λ t. t ≡ word t 0) (λ a b c d. refl) t long

pub word_is : (w : List ℕ) (i : ℕ) → 4 * i + 4 ≤ length w → chunk (4 * i) 4 w ≡ word w i
word_is w i within =
    four (chunk (4 * i) 4 w) (length-chunk (4 * i) 4 w within)
    ∙ rw (
      get_or-chunk (4 * i) 4 w 0 0 (lit< tt),
      get_or-chunk (4 * i) 4 w 1 0 (lit< tt),
      get_or-chunk (4 * i) 4 w 2 0 (lit< tt),
      get_or-chunk (4 * i) 4 w 3 0 (lit< tt),
    ) refl

pub rotated_is : (t : List ℕ) → length t ≡ 4 → pick_l 0 (t ++ t) (1 ∷ 2 ∷ 3 ∷ 0 ∷ []) ≡ rot_word t
rotated_is t long = of_each 4 (λ t. pick_l 0 (t ++ t) (1 ∷ 2 ∷ 3 ∷ 0 ∷ []) ≡ rot_word t) (λ a b c d. refl) t long

pub summed_is : (s t : List ℕ) → length s ≡ 4 → length t ≡ 4 → zip2 bit_xor s t ≡ xor_words s t
summed_is s t ls lt =
    of_each 4 (λ s. zip2 bit_xor s t ≡ xor_words s t)
    (λ a b c d. of_each 4 (λ t. zip2 bit_xor (a ∷ b ∷ c ∷ d ∷ []) t ≡ xor_words (a ∷ b ∷ c ∷ d ∷ []) t) (λ p q r s. refl) t lt) s ls

abbrev pub over_a_block : List ℕ
over_a_block = 0 ∷ 1 ∷ 2 ∷ 3 ∷ 0 ∷ 1 ∷ 2 ∷ 3 ∷ 0 ∷ 1 ∷ 2 ∷ 3 ∷ 0 ∷ 1 ∷ 2 ∷ 3 ∷ []

-- a word, four times in each of four blocks, through the S-box
pub substituted_is : (t : List ℕ) → length t ≡ 4 →
    chunk 0 4 (map sub_byte (let b = pick_l 0 (t ++ t) over_a_block in b ++ b ++ b ++ b)) ≡ sub_word t
substituted_is t long = of_each 4 (λ t. chunk 0 4 (map sub_byte (let b = pick_l 0 (t ++ t) over_a_block in b ++ b ++ b ++ b)) ≡ sub_word t) (λ a b c d. refl) t long
