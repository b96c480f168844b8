-- One place for a node.
-- This project's own.
use Rattle.std.specs.Prelude.{ℕ, ◌==◌, if◌then◌else◌, Option, Some, None}
use Rattle.rbg_nodes.specs.Views.{NodeView}
use Rattle.shared_tree.specs.declared.places.Place.{Place}
use Rattle.shared_tree.specs.declared.places.Place.TheVariants.{Empty, Holds}

-- the node that is held at a slot
abbrev pub node_in : Place → ℕ → Option NodeView
node_in Empty k = None
node_in (Holds slot node) k = if slot == k then Some node else None

abbrev pub with_node : Place → ℕ → NodeView → Place
with_node Empty k w = Empty
with_node (Holds slot node) k w = Holds slot w

-- how many places are free
abbrev pub room_in : Place → ℕ
room_in Empty = 1
room_in (Holds slot node) = 0
