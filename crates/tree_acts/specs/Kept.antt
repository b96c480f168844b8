-- What stays of what is held.
use Rattle.std.specs.Prelude.{◌≡◌, ℕ}
use Rattle.std.specs.Option.{option_map}
use Rattle.entropy_source.specs.Views.{SourceView}
use Rattle.rbg_nodes.specs.Views.{NodeView}
use Rattle.tree_acts.specs.Hold.{Hold}

-- the same slots are held, with the same rows
pub record SameRows {S : Type 0} (h t : Hold (SourceView S)) : Type 0 where
  pub nodes : (k : ℕ) → option_map (λ (v : NodeView). v.row) (t.nodes k) ≡ option_map (λ (v : NodeView). v.row) (h.nodes k)
  pub sources : (k : ℕ) → option_map (λ (v : SourceView S). v.row) (t.sources k) ≡ option_map (λ (v : SourceView S). v.row) (h.sources k)
