use Rattle.std.proofs.Common.{◌≡◌, ℕ, ◌-◌, ◌<◌, ◌≤◌, false, get_or, map, take, vec_capacity, vec_len, Some}
use Rattle.std.specs.Slots.{slots_filled, slots_items, slots_len}
use Rattle.std.specs.Slots.Ownership.{Filled}
use Rattle.turn_table.proofs.table.Turns.finish.Given as goal

abbrev pub invariant-loop-next : goal.invariant-loop-next
invariant-loop-next g l = (slots_items l.closed.slots ≡ slots_items l.initial.closed.slots) × (slots_len l.closed.slots ≡ slots_len l.initial.closed.slots) × (l.closed.words ≡ l.initial.closed.words) × (l.next ≤ slots_len l.closed.slots)
    × Filled (slots_filled l.closed.slots) l.next (slots_len l.closed.slots) × ((k : ℕ) → k < l.next → get_or (slots_filled l.closed.slots) k false ≡ false)
    × (map Some l.values.items ≡ take l.next (slots_items l.closed.slots)) × (vec_capacity l.values ≡ vec_capacity l.initial.values) × (vec_len l.values ≡ l.next)

abbrev pub decreases-loop-next : goal.decreases-loop-next
decreases-loop-next g l = slots_len l.closed.slots - l.next
