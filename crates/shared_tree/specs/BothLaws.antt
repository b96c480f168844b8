-- A node put in place of another, in the places of two.
-- This project's own.
use Rattle.std.proofs.Common.{◌≡◌, ◌≢◌, ℕ, refl, sym, ap, ◌∙◌, subst}
use Rattle.std.specs.Prelude.{Option, Some, None, IsSome}
use Rattle.rbg_nodes.specs.Views.{NodeView}
use Rattle.shared_tree.specs.declared.places.Two.{Two}
use Rattle.shared_tree.specs.Both.{or_in, in_both, with_by, with_both}

module _ {P : Type 0} (at : P → ℕ → Option NodeView) (with : P → ℕ → NodeView → P)
    (put_there : (h : P) (k : ℕ) (w : NodeView) → IsSome (at h k) → at (with h k w) k ≡ Some w)
    (put_else : (h : P) (j k : ℕ) (w : NodeView) → IsSome (at h k) → j ≢ k → at (with h k w) j ≡ at h j) where
  there_by : (x : Option NodeView) (h : Two P) (k : ℕ) (w : NodeView) → at h.one k ≡ x → IsSome (or_in x (at h.other k)) → in_both at (with_by at with x h k w) k ≡ Some w
  there_by (Some v) h k w e is = ap (λ z. or_in z (at h.other k)) (put_there h.one k w (subst (λ z. IsSome z) (sym e) is))
  there_by None h k w e is = ap (λ z. or_in z (at (with h.other k w) k)) e ∙ put_there h.other k w is

  pub there : (h : Two P) (k : ℕ) (w : NodeView) → IsSome (in_both at h k) → in_both at (with_both at with h k w) k ≡ Some w
  there h k w is = there_by (at h.one k) h k w refl is

  else_by : (x : Option NodeView) (h : Two P) (j k : ℕ) (w : NodeView) → at h.one k ≡ x → IsSome (or_in x (at h.other k)) → j ≢ k → in_both at (with_by at with x h k w) j ≡ in_both at h j
  else_by (Some v) h j k w e is ne = ap (λ z. or_in z (at h.other j)) (put_else h.one j k w (subst (λ z. IsSome z) (sym e) is) ne)
  else_by None h j k w e is ne = ap (λ z. or_in (at h.one j) z) (put_else h.other j k w is ne)

  pub elsewhere : (h : Two P) (j k : ℕ) (w : NodeView) → IsSome (in_both at h k) → j ≢ k → in_both at (with_both at with h k w) j ≡ in_both at h j
  elsewhere h j k w is ne = else_by (at h.one k) h j k w refl is ne
