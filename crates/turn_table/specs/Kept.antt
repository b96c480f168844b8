-- The fact that a table keeps from its making on: it is not open yet, and is as it was made, or the rule of turns holds.
-- This project's own.
use Rattle.std.specs.Prelude.{◌≡◌, ℕ, ◌+◌, ◌*◌, ◌⊎◌, List, length, replicate}
use Rattle.std.specs.declared.option.Option.{Option}
use Rattle.atomic_table.specs.Table.{State, opening}
use Rattle.turn_table.specs.declared.view.View.{View}
use Rattle.turn_table.specs.Meaning.{Meaning}
use Rattle.turn_table.specs.Views.{blank}
use Rattle.turn_table.specs.TurnRule.{TurnRule}

-- by the number of callers, and by the values that it was made of
abbrev pub Kept : {V : Type 0} → Meaning V → ℕ × List (Option V) → State (Option V) View → Type 0
Kept M given s = (s ≡ opening (replicate (8 + 8 * length given.1) 0) given.1 (blank given.0)) ⊎ TurnRule M s
