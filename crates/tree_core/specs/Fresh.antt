-- The nodes and the sources of a plan, as a tree is opened over seeds and samples.
-- This project's own.
use Rattle.std.specs.Prelude.{◌≡◌, ℕ, suc, List, [], ◌∷◌, length, slice_get, Some}
use Rattle.health_tests.specs.Numbers.{no_tail}
use Rattle.tree_config.specs.Tree.{Tree}
use Rattle.entropy_source.specs.Views.{SourceView, opened_view}
use Rattle.rbg_nodes.specs.Node.{fresh_node, kept_seed}
use Rattle.rbg_nodes.specs.Views.{NodeView}
use Rattle.tree_rules.specs.Slots.{node_row, source_row}
use Rattle.tree_core.specs.Solo.{AreLong, seed_in}

-- the first nodes, none of them instantiated, with seeds that are long enough
pub record AreFresh (p : Tree) (seeds : List (List ℕ)) (count : ℕ) (nodes : List NodeView) : Type 0 where
  pub len : length nodes ≡ count
  pub long : AreLong p seeds count
  pub at : (k : ℕ) (v : NodeView) → slice_get nodes k ≡ Some v → v ≡ record { row = node_row p k; state = fresh_node (kept_seed (node_row p k) (seed_in seeds k)) }

-- sources over samples, from number j on, none of them started
abbrev pub sources_from : {S : Type 0} → Tree → ℕ → List S → List (SourceView S)
sources_from p j [] = []
sources_from p j (s ∷ samples) = opened_view (source_row p j) no_tail s ∷ sources_from p (suc j) samples

abbrev pub AreOpened : {S : Type 0} → Tree → List S → List (SourceView S) → Type 0
AreOpened p samples sources = sources ≡ sources_from p 0 samples
