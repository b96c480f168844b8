-- Nodes and their parents: `ps` holds the number of each node's parent, where it has one.
-- This project's own.
use Rattle.std.specs.Prelude.{◌≡◌, ℕ, zero, suc, ◌+◌, ◌<◌, ◌≤◌, List, length, slice_get, Option, Some, None, option_and_then, unwrap_or, MatchOption}

-- the parent of node n
abbrev pub parent_at : List (Option ℕ) → ℕ → Option ℕ
parent_at ps n = unwrap_or (slice_get ps n) None

-- where following parents k times leads from node n
abbrev pub after : List (Option ℕ) → ℕ → ℕ → Option ℕ
after ps zero n = Some n
after ps (suc k) n = option_and_then (parent_at ps) (after ps k n)

-- the parent of node n isn't there
abbrev pub LacksParent : List (Option ℕ) → ℕ → Type 0
LacksParent ps n = (p : ℕ) × (parent_at ps n ≡ Some p) × (length ps ≤ p)

-- following parents from node n comes back to it
abbrev pub IsOnCycle : List (Option ℕ) → ℕ → Type 0
IsOnCycle ps n = (k : ℕ) × (after ps (suc k) n ≡ Some n)

-- node n stands d deep: d - 1 parents lead to a node that has none
abbrev pub HasDepth : List (Option ℕ) → ℕ → ℕ → Type 0
HasDepth ps n d = (edges root : ℕ) × (d ≡ edges + 1) × (after ps edges n ≡ Some root) × (parent_at ps root ≡ None)

abbrev pub IsDeeper : ℕ → List (Option ℕ) → ℕ → Type 0
IsDeeper limit ps n = (d : ℕ) × HasDepth ps n d × (limit < d)

-- n is the least number of which P holds
pub record IsLeast (P : ℕ → Type 0) (n : ℕ) : Type 0 where
  pub holds : P n
  pub least : (m : ℕ) → m < n → ¬ P m

-- P holds of no number
abbrev pub IsNever : (ℕ → Type 0) → Type 0
IsNever P = (n : ℕ) → ¬ P n

-- the least number of which P holds was found, if there is one
abbrev pub FindsLeast : (ℕ → Type 0) → Option ℕ → Type 0
FindsLeast P result = MatchOption result (IsNever P) (IsLeast P)
