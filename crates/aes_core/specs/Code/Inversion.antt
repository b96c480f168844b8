-- The values on the way from a byte to its S-box value by inversion over GF(16), as functions of the byte.
-- This project's own, by the method of Hamburg, "Accelerating AES with Vector Permute Instructions" (CHES 2009).
use Rattle.std.specs.Prelude.{ℕ, ◌/◌, ◌^◌, ◌||◌, List, IsTrue, slice_index, bit_and, bit_xor, nat_lt, nat_le, if◌then◌else◌}
use Rattle.aes_core.specs.declared.tables.TheConstants.{IN_LOW, IN_HIGH, INVERSE, SHARE, OUT_FIRST, OUT_SECOND}

-- a place at which a table of sixteen may be read: below 16, or from 128 on
abbrev pub IsRead : ℕ → Type 0
IsRead j = IsTrue (nat_le 128 j || nat_lt j 16)

-- the entry at a place, and 0 from 128 on
abbrev pub look : List ℕ → ℕ → ℕ
look table j = if nat_le 128 j then 0 else slice_index table j

-- the halves of a byte
abbrev pub lower_of : ℕ → ℕ
lower_of b = bit_and b 15

abbrev pub upper_of : ℕ → ℕ
upper_of b = b / 2 ^ 4

-- a byte as two halves over GF(16)
abbrev pub entered_of : ℕ → ℕ
entered_of b = bit_xor (look IN_LOW (lower_of b)) (look IN_HIGH (upper_of b))

-- of the two halves of y: their sum, and a constant over the lower one
abbrev pub sum_of : ℕ → ℕ
sum_of y = bit_xor (upper_of y) (lower_of y)

abbrev pub share_of : ℕ → ℕ
share_of y = look SHARE (lower_of y)

-- the two quotients that are inverted again
abbrev pub first_place : ℕ → ℕ
first_place y = bit_xor (look INVERSE (upper_of y)) (share_of y)

abbrev pub second_place : ℕ → ℕ
second_place y = bit_xor (look INVERSE (sum_of y)) (share_of y)

-- the halves of the inverse
abbrev pub first_of : ℕ → ℕ
first_of y = bit_xor (look INVERSE (first_place y)) (sum_of y)

abbrev pub second_of : ℕ → ℕ
second_of y = bit_xor (look INVERSE (second_place y)) (upper_of y)

-- the inverse through the affine map
abbrev pub result_of : ℕ → ℕ
result_of y = bit_xor (bit_xor (look OUT_FIRST (first_of y)) (look OUT_SECOND (second_of y))) 0x63
