-- The places of two.
-- This project's own.
use Rattle.std.specs.Prelude.{ℕ, Option, Some, None}
use Rattle.rbg_nodes.specs.Views.{NodeView}
use Rattle.shared_tree.specs.declared.places.Two.{Two}

abbrev pub or_in : Option NodeView → Option NodeView → Option NodeView
or_in (Some v) x = Some v
or_in None x = x

module _ {P : Type 0} (at : P → ℕ → Option NodeView) where
  abbrev pub in_both : Two P → ℕ → Option NodeView
  in_both h k = or_in (at h.one k) (at h.other k)

  module _ (with : P → ℕ → NodeView → P) where
    abbrev pub with_by : Option NodeView → Two P → ℕ → NodeView → Two P
    with_by (Some v) h k w = record h { one = with h.one k w }
    with_by None h k w = record h { other = with h.other k w }

    abbrev pub with_both : Two P → ℕ → NodeView → Two P
    with_both h k w = with_by (at h.one k) h k w
