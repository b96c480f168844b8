-- The bitwise exclusive-or of two rows of bytes.
-- SP 800-90A Rev. 1, 4 (the symbol of exclusive-or).
use Rattle.std.specs.Prelude.{ℕ, List, bit_xor}
use Rattle.std.specs.Simd.Lanes.{zip2}

-- each byte of one row xor that of another of the same length
abbrev pub xor_bytes : List ℕ → List ℕ → List ℕ
xor_bytes a b = zip2 bit_xor a b
