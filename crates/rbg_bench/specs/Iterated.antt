-- A block encrypted again and again.
-- FIPS 197; the iteration is this project's own.
use Rattle.std.specs.Prelude.{ℕ, zero, suc, List, [], ◌∷◌}
use Rattle.aes_core.specs.Aes.{aes}

-- the bytes 00 to 0f
abbrev pub counting_key : List ℕ
counting_key = 0 ∷ 1 ∷ 2 ∷ 3 ∷ 4 ∷ 5 ∷ 6 ∷ 7 ∷ 8 ∷ 9 ∷ 10 ∷ 11 ∷ 12 ∷ 13 ∷ 14 ∷ 15 ∷ []

-- the bytes 00 to 1f
abbrev pub long_counting_key : List ℕ
long_counting_key =
    0 ∷ 1 ∷ 2 ∷ 3 ∷ 4 ∷ 5 ∷ 6 ∷ 7 ∷ 8 ∷ 9 ∷ 10 ∷ 11 ∷ 12 ∷ 13 ∷ 14 ∷ 15
    ∷ 16 ∷ 17 ∷ 18 ∷ 19 ∷ 20 ∷ 21 ∷ 22 ∷ 23 ∷ 24 ∷ 25 ∷ 26 ∷ 27 ∷ 28 ∷ 29 ∷ 30 ∷ 31 ∷ []

-- a block, encrypted so many times with this key
unfoldable pub iterated : List ℕ → ℕ → List ℕ → List ℕ
iterated key zero block = block
iterated key (suc times) block = aes key (iterated key times block)
