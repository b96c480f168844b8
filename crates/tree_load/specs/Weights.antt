-- What is counted of a length that is asked, and a reseed counter by how many there are. Private functions hand these to one another.
-- This project's own.
use Rattle.std.specs.Prelude.{◌<◌, ◌+◌, ◌-◌, ◌*◌, ℕ, zero, suc, max, if◌then◌else◌}
use Rattle.std.specs.Int.{div_ceil}
use Rattle.rbg_nodes.specs.declared.node.NodeRow.{NodeRow}
use Rattle.tree_rules.specs.Links.{is_rs}
use Rattle.tree_load.specs.declared.tally.Weight.{Weight}
use Rattle.tree_load.specs.declared.tally.Weight.TheVariants.{One, Chunks, Blocks}

-- what is counted of a length: that it is one, its chunks, or its blocks
abbrev pub weigh : Weight → ℕ → ℕ
weigh One len = 1
weigh (Chunks size) len = max 1 (div_ceil len size)
weigh (Blocks size) len = div_ceil len size

abbrev pub IsWeight : Weight → Type 0
IsWeight One = Unit {0}
IsWeight (Chunks size) = 0 < size
IsWeight (Blocks size) = 0 < size

-- a reseed counter behind so many lengths and reseeds
abbrev pub by_length : NodeRow → ℕ → ℕ → ℕ → ℕ
by_length row c r zero = c
by_length row c r (suc n) = if is_rs row.kind then 2 else c + suc n - row.interval * r
