-- The work of a call: a linear congruential generator, with Knuth's numbers for 64 bits.
-- This project's own.
use Rattle.std.specs.Prelude.{ℕ, zero, suc, ◌+◌, ◌*◌, ◌%◌, ◌^◌}

-- the generator's next state
abbrev pub next : ℕ → ℕ
next state = (state * 6364136223846793005 % 2 ^ 64 + 1442695040888963407) % 2 ^ 64

-- the state so many rounds after this one
unfoldable pub state_after : ℕ → ℕ → ℕ
state_after zero state = state
state_after (suc n) state = next (state_after n state)
