-- What a call holds of a tree: some of its nodes and sources, at their slots, and the states that they stand for.
-- This project's own.
use Rattle.std.specs.Prelude.{◌≡◌, ◌≢◌, ◌≤◌, ◌⊎◌, ◌^◌, ◌+◌, ℕ, List, Option, Some, None, IsSome, true}
use Rattle.tree_config.specs.Tree.{Tree}
use Rattle.entropy_source.specs.Views.{SourceView, source_state}
use Rattle.rbg_nodes.specs.Node.{NodeState, fresh_node}
use Rattle.entropy_source.specs.Source.{SourceState}
use Rattle.rbg_nodes.specs.Views.{NodeView}
use Rattle.tree_rules.specs.History.{SlotState, NodeIs, SourceIs, States, node_in, source_in, has}
pub use Rattle.tree_rules.specs.Stands.{IsNodeOf, IsSourceOf}

-- what is held at each slot
pub record Hold (V : Type 0) : Type 0 where
  pub nodes : ℕ → Option NodeView
  pub sources : ℕ → Option V

-- one node is put in place of another, and one source
pub record PutsNode {V : Type 0} (h t : Hold V) (k : ℕ) (w : NodeView) : Type 0 where
  pub there : t.nodes k ≡ Some w
  pub others : (j : ℕ) → j ≢ k → t.nodes j ≡ h.nodes j
  pub sources : (j : ℕ) → t.sources j ≡ h.sources j

pub record PutsSource {V : Type 0} (h t : Hold V) (k : ℕ) (w : V) : Type 0 where
  pub there : t.sources k ≡ Some w
  pub others : (j : ℕ) → j ≢ k → t.sources j ≡ h.sources j
  pub nodes : (j : ℕ) → t.nodes j ≡ h.nodes j

-- the states of what is held; what stands for the others is never read
abbrev pub state_held : {S : Type 0} → (S → Option (List ℕ)) → (S → ℕ) → Option NodeView → Option (SourceView S) → SlotState
state_held told faults (Some v) _ = NodeIs v.state
state_held told faults None (Some v) = SourceIs (source_state told faults v)
state_held told faults None None = NodeIs (fresh_node None)

abbrev pub states_held : {S : Type 0} → (S → Option (List ℕ)) → (S → ℕ) → Hold (SourceView S) → States
states_held told faults h k = state_held told faults (h.nodes k) (h.sources k)

abbrev pub IsHeld : {V : Type 0} → Hold V → ℕ → Type 0
IsHeld h k = IsSome (h.nodes k) ⊎ IsSome (h.sources k)

-- what is held is of the plan
pub record IsOfPlan {S : Type 0} (p : Tree) (h : Hold (SourceView S)) : Type 0 where
  pub node : (k : ℕ) (v : NodeView) → h.nodes k ≡ Some v → IsNodeOf p k v
  pub source : (k : ℕ) (v : SourceView S) → h.sources k ≡ Some v → IsSourceOf p k v

-- all slots of a list are held
abbrev pub AreHeld : {V : Type 0} → Hold V → List ℕ → Type 0
AreHeld h slots = (k : ℕ) → has slots k ≡ true → IsHeld h k

-- no count of a node is near its limit
abbrev pub FewCounts : {V : Type 0} → Hold V → Type 0
FewCounts h = (k : ℕ) (v : NodeView) → h.nodes k ≡ Some v → (v.state.seeds + 256 ≤ 2 ^ 62) × (v.state.gives + 256 ≤ 2 ^ 62)

-- the state of the node, and of the source, at a slot
abbrev pub node_held : {S : Type 0} → (S → Option (List ℕ)) → (S → ℕ) → Hold (SourceView S) → ℕ → NodeState
node_held told faults h k = node_in (states_held told faults h k)

abbrev pub source_held : {S : Type 0} → (S → Option (List ℕ)) → (S → ℕ) → Hold (SourceView S) → ℕ → SourceState
source_held told faults h k = source_in (states_held told faults h k)
