-- How many places of two are free.
-- This project's own.
use Rattle.std.specs.Prelude.{ℕ, ◌+◌}
use Rattle.shared_tree.specs.declared.places.Two.{Two}

abbrev pub room_both : {P : Type 0} → (P → ℕ) → Two P → ℕ
room_both room h = room h.one + room h.other
