use Rattle.std.proofs.Common.{ℕ, List, ◌++◌, ◌-◌, ◌≤◌, length, take}
use Rattle.df_core.specs.Holds.{HoldsText}
use Rattle.df_core.proofs.derive.Df.push_text.Given as goal

abbrev pub invariant-pieces : goal.invariant-pieces
invariant-pieces l =
    (l.at ≤ length l.bytes)
    × ((keylen want : ℕ) (text : List ℕ) → HoldsText l.initial.self keylen want text
    → HoldsText l.self keylen want (text ++ take l.at l.bytes))

abbrev pub decreases-pieces : goal.decreases-pieces
decreases-pieces l = length l.bytes - l.at
