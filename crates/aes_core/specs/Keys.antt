-- The lengths of keys, and what a value of Aes keeps.
-- FIPS 197, 5 and 5.2.
use Rattle.std.specs.Prelude.{◌≡◌, ◌≤◌, ℕ, ◌+◌, ◌-◌, ◌*◌, ◌%◌, List, take, length}
use Rattle.aes_core.specs.Aes.{expanded}

-- 16, 24 or 32 bytes
pub record IsKeyLength (n : ℕ) : Type 0 where
  pub low : 16 ≤ n
  pub high : n ≤ 32
  pub whole : n % 8 ≡ 0

-- the key of an expanded key for so many rounds
abbrev pub key_of : ℕ → List ℕ → List ℕ
key_of rounds keys = take (4 * (rounds - 6)) keys

-- the bytes begin with the expanded key of a key for so many rounds
pub record IsExpanded (rounds : ℕ) (keys : List ℕ) : Type 0 where
  pub low : 10 ≤ rounds
  pub high : rounds ≤ 14
  pub even : rounds % 2 ≡ 0
  pub len : length keys ≡ 240
  pub bytes : take (16 * (rounds + 1)) keys ≡ expanded (key_of rounds keys)
