-- AES on lists of bytes: the steps of a round, the expansion of a key, and the encryption of a block.
-- FIPS 197, 3.4, 5.1 and 5.2.
use Rattle.std.specs.Prelude.{ℕ, zero, suc, ◌+◌, ◌-◌, ◌*◌, ◌/◌, ◌%◌, ◌==◌, ◌&&◌, List, [], ◌∷◌, ◌++◌, length, map, slice_index, bit_xor, if◌then◌else◌}
use Rattle.std.specs.List.{range_with_len}
use Rattle.aes_core.specs.Field.{times, sub_byte}

-- the byte in row r and column c of a state (3.4)
abbrev pub at : List ℕ → ℕ → ℕ → ℕ
at s r c = slice_index s (r + 4 * c)

-- the state that has f r c in row r and column c
abbrev pub state : (ℕ → ℕ → ℕ) → List ℕ
state f = map (λ i. f (i % 4) (i / 4)) (range_with_len 0 16)

-- SubBytes (5.1.1)
unfoldable pub sub_bytes : List ℕ → List ℕ
sub_bytes s = state (λ r c. sub_byte (at s r c))

-- ShiftRows: row r moves left by r places, cyclically (5.1.2)
unfoldable pub shift_rows : List ℕ → List ℕ
shift_rows s = state (λ r c. at s r ((c + r) % 4))

-- row r of the circulant matrix: the row before it moved one place to the right (5.1.3)
abbrev pub circulant : ℕ → ℕ → ℕ
circulant r k = slice_index (2 ∷ 3 ∷ 1 ∷ 1 ∷ []) ((k + 4 - r) % 4)

-- column c of a state
abbrev pub column : List ℕ → ℕ → List ℕ
column s c = at s 0 c ∷ at s 1 c ∷ at s 2 c ∷ at s 3 c ∷ []

-- row r of the matrix times a column
abbrev pub mixed_byte : List ℕ → ℕ → ℕ
mixed_byte a r =
    bit_xor (bit_xor (bit_xor (times (circulant r 0) (slice_index a 0)) (times (circulant r 1) (slice_index a 1)))
    (times (circulant r 2) (slice_index a 2))) (times (circulant r 3) (slice_index a 3))

-- MixColumns: each column is multiplied by the matrix (5.1.3)
unfoldable pub mix_columns : List ℕ → List ℕ
mix_columns s = state (λ r c. mixed_byte (column s c) r)

-- AddRoundKey: with round n's four words of the expanded key w (5.1.4)
unfoldable pub add_round_key : List ℕ → ℕ → List ℕ → List ℕ
add_round_key w n s = state (λ r c. bit_xor (at s r c) (slice_index w (16 * n + (r + 4 * c))))

-- the word of four bytes f 0, f 1, f 2 and f 3
abbrev pub word_of : (ℕ → ℕ) → List ℕ
word_of f = f 0 ∷ f 1 ∷ f 2 ∷ f 3 ∷ []

-- word i of an expanded key, which is a row of words (5.2)
abbrev pub word : List ℕ → ℕ → List ℕ
word w i = word_of (λ k. slice_index w (4 * i + k))

-- the sum of two words
abbrev pub xor_words : List ℕ → List ℕ → List ℕ
xor_words s t = word_of (λ k. bit_xor (slice_index s k) (slice_index t k))

-- SubWord
abbrev pub sub_word : List ℕ → List ℕ
sub_word t = word_of (λ k. sub_byte (slice_index t k))

-- RotWord: the four bytes move left by one
abbrev pub rot_word : List ℕ → List ℕ
rot_word t = word_of (λ k. slice_index t ((k + 1) % 4))

-- x ^ j in the field
abbrev pub power_of_x : ℕ → ℕ
power_of_x zero = 1
power_of_x (suc j) = times 2 (power_of_x j)

-- Rcon[j]
abbrev pub rcon : ℕ → List ℕ
rcon j = power_of_x (j - 1) ∷ 0 ∷ 0 ∷ 0 ∷ []

-- what word i - 1 becomes before it is added to word i - nk, nk being the key's number of words
abbrev pub turned_word : ℕ → ℕ → List ℕ → List ℕ
turned_word nk i t =
    if i % nk == 0 then xor_words (sub_word (rot_word t)) (rcon (i / nk))
    else if nk == 8 && i % 8 == 4 then sub_word t
    else t

-- word i, from those before it
unfoldable pub next_word : ℕ → List ℕ → ℕ → List ℕ
next_word nk w i = xor_words (word w (i - nk)) (turned_word nk i (word w (i - 1)))

-- the words of a key and the next n after them (5.2)
unfoldable pub expansion : List ℕ → ℕ → List ℕ
expansion key zero = key
expansion key (suc n) = expansion key n ++ next_word (length key / 4) (expansion key n) (length key / 4 + n)

-- the number of rounds: 10, 12 or 14 for a key of 4, 6 or 8 words (5)
abbrev pub rounds : List ℕ → ℕ
rounds key = length key / 4 + 6

-- the expanded key: four words for each round, and four at first (5.2)
unfoldable pub expanded : List ℕ → List ℕ
expanded key = expansion key (4 * (rounds key + 1) - length key / 4)

-- a block after n whole rounds (5.1)
unfoldable pub after_rounds : List ℕ → List ℕ → ℕ → List ℕ
after_rounds w block zero = add_round_key w 0 block
after_rounds w block (suc n) =
    add_round_key w (suc n) (mix_columns (shift_rows (sub_bytes (after_rounds w block n))))

-- the encryption of a block under an expanded key for n + 1 rounds, the last without MixColumns (5.1)
unfoldable pub encrypted : List ℕ → List ℕ → ℕ → List ℕ
encrypted w block n = add_round_key w (suc n) (shift_rows (sub_bytes (after_rounds w block n)))

-- AES of a block of 16 bytes under a key of 16, 24 or 32
unfoldable pub aes : List ℕ → List ℕ → List ℕ
aes key block = encrypted (expanded key) block (rounds key - 1)
