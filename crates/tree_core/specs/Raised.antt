-- By how much a call raises the counts of what is held.
-- This project's own.
use Rattle.std.specs.Prelude.{◌≡◌, ℕ, Some}
use Rattle.rbg_nodes.specs.Views.{NodeView}
use Rattle.tree_rules.specs.Counts.{IsRaised}
use Rattle.tree_acts.specs.Hold.{Hold}

-- each node was seeded, and gave, at most 256 times more often
abbrev pub AreRaised : {V : Type 0} → Hold V → Hold V → Type 0
AreRaised h t = (k : ℕ) (v w : NodeView) → h.nodes k ≡ Some v → t.nodes k ≡ Some w → IsRaised 256 v.state w.state
