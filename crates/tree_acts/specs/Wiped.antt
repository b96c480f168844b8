-- What is left behind an answer in the buffer that it was put into.
-- This project's own.
use Rattle.std.specs.Prelude.{◌≡◌, ◌⊎◌, ℕ, List, [], ◌∷◌, drop}

-- each byte is what it was, or 0
abbrev pub AreKeptOrZeros : List ℕ → List ℕ → Type 0
AreKeptOrZeros [] [] = Unit {0}
AreKeptOrZeros (x ∷ xs) (y ∷ ys) = ((y ≡ x) ⊎ (y ≡ 0)) × AreKeptOrZeros xs ys
AreKeptOrZeros _ _ = ⊥

-- this is so of all bytes behind the first ones
abbrev pub IsWipedBehind : ℕ → List ℕ → List ℕ → Type 0
IsWipedBehind len old new = AreKeptOrZeros (drop len old) (drop len new)
