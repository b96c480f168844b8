-- The load generator: the numbers that a seed gives, one behind the other, and the calls that they state on a tree of so many nodes.
-- This project's own; a linear congruential generator modulo 2^64.
use Rattle.std.specs.Prelude.{ℕ, zero, suc, ◌+◌, ◌*◌, ◌/◌, ◌%◌, ◌^◌, List, map, false}
use Rattle.std.specs.List.{range_with_len}
use Rattle.tree_rules.specs.declared.call.Call.{Call}
use Rattle.tree_rules.specs.declared.call.Call.TheVariants.{Generate}

-- the number behind another one
abbrev pub next_number : ℕ → ℕ
next_number x = (x * 6364136223846793005 + 1442695040888963407) % 2 ^ 64

-- the number that so many steps from the seed lead to
unfoldable pub reached : ℕ → ℕ → ℕ
reached seed zero = seed
reached seed (suc i) = next_number (reached seed i)

-- x_i, the number of call i: a step from the seed for call 0, and one more for each further call
abbrev pub number : ℕ → ℕ → ℕ
number seed i = next_number (reached seed i)

-- the call that a number states: which node its high bits choose, and how many bytes those below
abbrev pub stated_call : ℕ → ℕ → Call
stated_call nodes x = Generate (x / 2 ^ 33 % nodes) (x / 2 ^ 20 % 65) 0 false

-- the first calls, in order
unfoldable pub stated_calls : ℕ → ℕ → ℕ → List Call
stated_calls nodes seed count = map (λ i. stated_call nodes (number seed i)) (range_with_len 0 count)
