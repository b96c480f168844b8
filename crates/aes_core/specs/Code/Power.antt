-- The values on the way from a byte to its S-box value by the 254th power, as functions of the byte.
-- This project's own.
use Rattle.std.specs.Prelude.{ℕ, ◌+◌, ◌-◌, ◌*◌, ◌/◌, ◌%◌, ◌^◌, bit_and, bit_xor}

-- the multiple where bit k is set, and 0 elsewhere: the mask is 0, or 0 - 1
abbrev pub term_of : ℕ → ℕ → ℕ → ℕ
term_of k x multiple = bit_and ((0 + (2 ^ 8 - bit_and (x / 2 ^ k) 1)) % 2 ^ 8) multiple

-- the byte with its bits turned left by k places
abbrev pub turned_of : ℕ → ℕ → ℕ
turned_of k y = bit_xor (y * 2 ^ k % 2 ^ 8) (y / 2 ^ (8 - k))
