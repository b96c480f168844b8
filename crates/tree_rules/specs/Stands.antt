-- What stands at the slots of a tree: a node's or a source's value, as the plan has it, for the state that a history leaves.
-- This project's own.
use Rattle.std.specs.Prelude.{◌≡◌, ◌<◌, ◌≤◌, ℕ, ◌-◌, List, length, map, slice_get, Option, Some}
use Rattle.tree_config.specs.Tree.{Tree}
use Rattle.entropy_source.specs.Views.{SourceView, source_state}
use Rattle.rbg_nodes.specs.Views.{NodeView}
use Rattle.tree_rules.specs.Slots.{node_row, source_row, source_slot}
use Rattle.tree_rules.specs.History.{Entry, Opening, SlotState, States, NodeIs, SourceIs}
use Rattle.tree_rules.specs.Openings.{states_behind}
use Rattle.tree_rules.specs.Table.{Tells}

-- a node is the plan's at a slot, and a source
pub record IsNodeOf (p : Tree) (k : ℕ) (v : NodeView) : Type 0 where
  pub low : k < length p.nodes
  pub row : v.row ≡ node_row p k

pub record IsSourceOf {S : Type 0} (p : Tree) (k : ℕ) (v : SourceView S) : Type 0 where
  pub high : length p.nodes ≤ k
  pub low : k - length p.nodes < length p.sources
  pub row : v.row ≡ source_row p (k - length p.nodes)

-- what one slot holds
pub data SlotView (S : Type 0) : Type 0 where
  NodeAt : NodeView → SlotView S
  SourceAt : SourceView S → SlotView S

abbrev pub view_state : {S : Type 0} → (S → Option (List ℕ)) → (S → ℕ) → SlotView S → SlotState
view_state told faults (NodeAt v) = NodeIs v.state
view_state told faults (SourceAt v) = SourceIs (source_state told faults v)

abbrev pub IsOf : {S : Type 0} → Tree → ℕ → SlotView S → Type 0
IsOf p k (NodeAt v) = IsNodeOf p k v
IsOf p k (SourceAt v) = IsSourceOf p k v

-- the value is that of a slot whose list is this one: as the plan has it, and in the state that the list tells
pub record StandsAt {S : Type 0} (told : S → Option (List ℕ)) (faults : S → ℕ) (f : Opening) (o : List Entry) (k : ℕ)
    (s : List ℕ) (x : SlotView S) : Type 0 where
  pub tells : Tells f o k s (view_state told faults x)
  pub is_of : IsOf f.plan k x

pub record StandsFor {S : Type 0} (told : S → Option (List ℕ)) (faults : S → ℕ) (x : SlotView S) (s : List ℕ) : Type 0 where
  pub f : Opening
  pub o : List Entry
  pub k : ℕ
  pub at : StandsAt told faults f o k s x

-- what a tree is opened over is what was given: a plan, samples, and seeds
pub record IsGiven {S : Type 0} (told : S → Option (List ℕ)) (faults : S → ℕ) (p : Tree) (samples : List S) (seeds : List (List ℕ)) (f : Opening) : Type 0 where
  pub plan_is : f.plan ≡ p
  pub seeds_are : f.seeds ≡ seeds
  pub told_are : f.told ≡ map told samples
  pub faults_are : f.faults ≡ map faults samples

-- each node and each source is the plan's, and has its state of these
pub record StandIn {S : Type 0} (told : S → Option (List ℕ)) (faults : S → ℕ) (p : Tree) (s : States) (nodes : List NodeView) (sources : List (SourceView S)) : Type 0 where
  pub node_count : length nodes ≡ length p.nodes
  pub source_count : length sources ≡ length p.sources
  pub nodes_are : (k : ℕ) (v : NodeView) → slice_get nodes k ≡ Some v → (v.row ≡ node_row p k) × (NodeIs v.state ≡ s k)
  pub sources_are : (j : ℕ) (v : SourceView S) → slice_get sources j ≡ Some v → (v.row ≡ source_row p j) × (SourceIs (source_state told faults v) ≡ s (source_slot p j))

-- they stand after these entries behind the opening calls
abbrev pub StandAfter : {S : Type 0} → (S → Option (List ℕ)) → (S → ℕ) → Opening → List Entry → List Entry → List NodeView → List (SourceView S) → Type 0
StandAfter told faults f o h nodes sources = StandIn told faults f.plan (states_behind f o h) nodes sources
