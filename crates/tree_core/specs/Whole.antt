-- A tree all of whose nodes and sources are held, in the order of their slots.
-- This project's own.
use Rattle.std.specs.Prelude.{◌≡◌, ◌-◌, ◌+◌, ◌*◌, ◌^◌, ◌≤◌, ℕ, List, length, Option, None, Some, slice_get, nat_lt, if◌then◌else◌}
use Rattle.tree_config.specs.Tree.{Tree}
use Rattle.entropy_source.specs.Views.{SourceView}
use Rattle.rbg_nodes.specs.Views.{NodeView}
use Rattle.tree_rules.specs.History.{States}
use Rattle.tree_acts.specs.Hold.{Hold, IsOfPlan, states_held}

-- the nodes stand at the first slots, and the sources behind them
abbrev pub source_behind : {V : Type 0} → ℕ → List V → ℕ → Option V
source_behind nodes sources k = if nat_lt k nodes then None else slice_get sources (k - nodes)

abbrev pub all_held : {V : Type 0} → List NodeView → List V → Hold V
all_held nodes sources = record { nodes = λ k. slice_get nodes k; sources = λ k. source_behind (length nodes) sources k }

-- the states of them all
abbrev pub states_of : {S : Type 0} → (S → Option (List ℕ)) → (S → ℕ) → List NodeView → List (SourceView S) → States
states_of told faults nodes sources = states_held told faults (all_held nodes sources)

-- they are the nodes and the sources of the plan
pub record AreOfPlan {S : Type 0} (p : Tree) (nodes : List NodeView) (sources : List (SourceView S)) : Type 0 where
  pub node_count : length nodes ≡ length p.nodes
  pub source_count : length sources ≡ length p.sources
  pub rows : IsOfPlan p (all_held nodes sources)

-- no node was seeded, or gave, more often
pub record AreAtMost (nodes : List NodeView) (limit : ℕ) : Type 0 where
  pub seeds : (k : ℕ) (v : NodeView) → slice_get nodes k ≡ Some v → v.state.seeds ≤ limit
  pub gives : (k : ℕ) (v : NodeView) → slice_get nodes k ≡ Some v → v.state.gives ≤ limit

-- as often as so many calls may have it do, on top of 2^61 times
abbrev pub most_after : ℕ → ℕ
most_after calls = 2 ^ 61 + 256 * calls
