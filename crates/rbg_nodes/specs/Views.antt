-- What contracts see of a node, and what is true of every node.
-- This project's own.
use Rattle.std.specs.Prelude.{◌≡◌, ◌≤◌, ◌^◌, ℕ, List, length, Bool, true, false, Option, Some, None, nat_lt, if◌then◌else◌}
pub use Rattle.rbg_bytes.specs.Xor.{xor_bytes}
use Rattle.drbg_any.specs.declared.drbg.Drbg.{Drbg}
use Rattle.drbg_any.specs.Drbg.{Working}
use Rattle.drbg_any.specs.State.{kind_of, working, counter_of, IsWellFormed}
use Rattle.tree_config.specs.declared.plan.NodeKind.{NodeKind}
use Rattle.tree_config.specs.declared.plan.NodeKind.TheVariants.{Rbg1}
use Rattle.tree_config.specs.declared.plan.NodePlan.{NodePlan}
use Rattle.rbg_nodes.specs.declared.node.NodeRow.{NodeRow}
use Rattle.rbg_nodes.specs.declared.node.NodeCounts.{NodeCounts}
use Rattle.rbg_nodes.specs.declared.node.SeedShort.{SeedShort}
use Rattle.rbg_nodes.specs.Node.{NodeState, New, no_working, seed_len}

-- a node: what is set of it, and its state
pub record NodeView : Type 0 where
  pub row : NodeRow
  pub state : NodeState

-- what is set of a node by its plan
abbrev pub row_of : NodePlan → NodeRow
row_of plan = record { kind = plan.kind; drbg = plan.drbg; interval = plan.interval }

-- what the DRBG of a node comes to, of which there is one while the node is instantiated
abbrev pub is_there : Option Drbg → Bool
is_there None = false
is_there (Some d) = true

abbrev pub working_in : Option Drbg → Working
working_in None = no_working
working_in (Some d) = working d

abbrev pub counter_in : Option Drbg → ℕ
counter_in None = 0
counter_in (Some d) = counter_of d

-- the DRBG is of this kind
abbrev pub IsOfKind : NodeRow → Option Drbg → Type 0
IsOfKind row None = Unit {0}
IsOfKind row (Some d) = IsWellFormed d × (kind_of d ≡ row.drbg)

-- the seed is as long as an instantiation takes
abbrev pub IsSeed : NodeRow → Option (List ℕ) → Type 0
IsSeed row None = Unit {0}
IsSeed row (Some seed) = length seed ≡ seed_len row New

-- a node that is instantiated keeps no seed
abbrev pub IsUsed : Bool → Option (List ℕ) → Type 0
IsUsed live kept = live ≡ true → kept ≡ None

-- what is true of every node
pub record IsNode (v : NodeView) : Type 0 where
  pub interval_low : 1 ≤ v.row.interval
  pub interval_high : v.row.interval ≤ 2 ^ 48
  pub kept : IsSeed v.row v.state.kept
  pub used : IsUsed v.state.live v.state.kept
  pub cleared : v.state.live ≡ false → (v.state.counter ≡ 0) × (v.state.working ≡ no_working)

-- what is read off a node
abbrev pub counts_of : NodeState → NodeCounts
counts_of s = record { live = s.live; counter = s.counter; seeds = s.seeds; gives = s.gives }

-- whether an RBG1's seed is too short, and by how much
abbrev pub short_by : NodeKind → ℕ → ℕ → Option SeedShort
short_by Rbg1 need have = if nat_lt have need then Some (record { have = have; need = need }) else None
short_by _ need have = None

abbrev pub too_short : NodeRow → List ℕ → Option SeedShort
too_short row seed = short_by row.kind (seed_len row New) (length seed)
