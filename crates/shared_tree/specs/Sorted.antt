-- The nodes and the sources among values.
-- This project's own.
use Rattle.std.specs.Prelude.{List, [], ◌∷◌}
use Rattle.entropy_source.specs.Views.{SourceView}
use Rattle.rbg_nodes.specs.Views.{NodeView}
use Rattle.shared_tree.specs.declared.machine.SlotValue.{SlotValue}
use Rattle.shared_tree.specs.declared.machine.SlotValue.TheVariants.{Node, Source}

abbrev pub nodes_in : {S : Type 0} → List (SlotValue S) → List NodeView
nodes_in [] = []
nodes_in (Node v ∷ xs) = v ∷ nodes_in xs
nodes_in (Source v ∷ xs) = nodes_in xs

abbrev pub sources_in : {S : Type 0} → List (SlotValue S) → List (SourceView S)
sources_in [] = []
sources_in (Node v ∷ xs) = sources_in xs
sources_in (Source v ∷ xs) = v ∷ sources_in xs
