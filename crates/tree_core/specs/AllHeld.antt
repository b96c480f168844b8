-- What a tree holds whose nodes and sources are all there, and what it holds with another one of them.
-- This project's own.
use Rattle.std.specs.Prelude.{◌-◌, ℕ, length}
use Rattle.std.specs.Vec.{with_item}
use Rattle.entropy_source.specs.Views.{SourceView}
use Rattle.rbg_nodes.specs.Views.{NodeView}
use Rattle.tree_core.specs.declared.all.All.{All}
use Rattle.tree_acts.specs.Hold.{Hold}
use Rattle.tree_core.specs.Whole.{all_held}

abbrev pub what_all : {S : Type 0} → All S → Hold (SourceView S)
what_all h = all_held h.nodes.items h.sources.items

abbrev pub with_node_in : {S : Type 0} → All S → ℕ → NodeView → All S
with_node_in h k w = record h { nodes = with_item h.nodes k w }

abbrev pub with_source_in : {S : Type 0} → All S → ℕ → SourceView S → All S
with_source_in h k w = record h { sources = with_item h.sources (k - length h.nodes.items) w }
