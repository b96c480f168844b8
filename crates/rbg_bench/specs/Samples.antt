-- The samples: the top bytes of the states of a linear congruential generator, with Knuth's numbers for 64 bits.
-- This project's own.
use Rattle.std.specs.Prelude.{ℕ, zero, suc, ◌+◌, ◌*◌, ◌/◌, ◌%◌, ◌^◌, List, [], ◌∷◌}

-- the generator's next state
abbrev pub next : ℕ → ℕ
next state = (state * 6364136223846793005 + 1442695040888963407) % 2 ^ 64

-- so many samples, from the states after this one
unfoldable pub generated : ℕ → ℕ → List ℕ
generated zero state = []
generated (suc n) state = next state / 2 ^ 56 ∷ generated n (next state)
