-- What the row of a call holds, as places see it and as the tree's calls do.
-- This project's own.
use Rattle.std.specs.Prelude.{◌≡◌, ◌≢◌, ◌<◌, ◌+◌, ℕ, ◌==◌, if◌then◌else◌, Option, Some, None}
use Rattle.entropy_source.specs.Views.{SourceView}
use Rattle.rbg_nodes.specs.Views.{NodeView}
use Rattle.tree_rules.specs.Stands.{SlotView, NodeAt, SourceAt}
use Rattle.tree_acts.specs.Hold.{Hold}
use Rattle.shared_tree.specs.declared.row.SourcePlace.{SourcePlace}
use Rattle.shared_tree.specs.declared.row.SourcePlace.TheVariants.{Empty, Holds}
use Rattle.shared_tree.specs.declared.row.Row.{Row}
use Rattle.shared_tree.specs.declared.places.Two.{Two}
use Rattle.shared_tree.specs.declared.places.Place.{Place}
use Rattle.shared_tree.specs.declared.machine.SlotValue.{SlotValue}
use Rattle.shared_tree.specs.declared.machine.SlotValue.TheVariants.{Node, Source}
use Rattle.shared_tree.specs.One.{node_in, with_node, room_in}
use Rattle.shared_tree.specs.Both.{in_both, with_both}
use Rattle.shared_tree.specs.Sums.{room_both}

-- eight places for nodes
abbrev pub in_eight : Two (Two (Two Place)) → ℕ → Option NodeView
in_eight = in_both (in_both (in_both node_in))

abbrev pub with_eight : Two (Two (Two Place)) → ℕ → NodeView → Two (Two (Two Place))
with_eight = with_both (in_both (in_both node_in)) (with_both (in_both node_in) (with_both node_in with_node))

-- the value is what is held at the slot; where a node is held, no source is
abbrev pub IsAt : {S : Type 0} → Hold (SourceView S) → ℕ → SlotView S → Type 0
IsAt h k (NodeAt v) = h.nodes k ≡ Some v
IsAt h k (SourceAt v) = (h.nodes k ≡ None) × (h.sources k ≡ Some v)

-- the other slots hold what they held
pub record Others {S : Type 0} (h t : Hold (SourceView S)) (k : ℕ) : Type 0 where
  pub nodes : (j : ℕ) → j ≢ k → t.nodes j ≡ h.nodes j
  pub sources : (j : ℕ) → j ≢ k → t.sources j ≡ h.sources j

-- the place for the source
abbrev pub source_in : {E : Type 0} → SourcePlace E → ℕ → Option E
source_in Empty k = None
source_in (Holds slot source) k = if slot == k then Some source else None

abbrev pub with_source : {E : Type 0} → SourcePlace E → ℕ → E → SourcePlace E
with_source Empty k w = Empty
with_source (Holds slot source) k w = Holds slot w

abbrev pub source_room : {E : Type 0} → SourcePlace E → ℕ
source_room Empty = 1
source_room (Holds slot source) = 0

module _ {S : Type 0} where
  -- the row
  abbrev pub nodes_of : Row S → ℕ → Option NodeView
  nodes_of r k = in_eight r.nodes k

  abbrev pub sources_of : Row S → ℕ → Option (SourceView S)
  sources_of r k = source_in r.source k

  abbrev pub what_of : Row S → Hold (SourceView S)
  what_of r = record { nodes = nodes_of r; sources = sources_of r }

  abbrev pub with_node_of : Row S → ℕ → NodeView → Row S
  with_node_of r k w = record r { nodes = with_eight r.nodes k w }

  abbrev pub with_source_of : Row S → ℕ → SourceView S → Row S
  with_source_of r k w = record r { source = with_source r.source k w }

  -- how many more nodes there is room for
  abbrev pub room_of : Row S → ℕ
  room_of r = room_both (room_both (room_both room_in)) r.nodes

  -- how many places are free
  abbrev pub places_of : Row S → ℕ
  places_of r = room_of r + source_room r.source

  -- there is a place for the value
  abbrev pub HasRoom : Row S → SlotValue S → Type 0
  HasRoom r (Node v) = 0 < room_of r
  HasRoom r (Source v) = (j : ℕ) → sources_of r j ≡ None

  -- where a node is held there is no source
  abbrev pub IsAlone : Row S → ℕ → SlotValue S → Type 0
  IsAlone r k (Node v) = sources_of r k ≡ None
  IsAlone r k (Source v) = Unit {0}

  -- how many of the nodes' places it takes
  abbrev pub cost : SlotValue S → ℕ
  cost (Node v) = 1
  cost (Source v) = 0
