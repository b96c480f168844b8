-- A node put in place of another, in one place.
-- This project's own.
use Rattle.std.proofs.Common.{◌≡◌, ◌≢◌, ℕ, refl, sym, ap, ◌∙◌, eqb-true, ne_eqb, true≢false}
use Rattle.std.specs.Prelude.{Bool, true, false, ◌==◌, if◌then◌else◌, Some, None, IsSome}
use Rattle.rbg_nodes.specs.Views.{NodeView}
use Rattle.shared_tree.specs.declared.places.Place.{Place}
use Rattle.shared_tree.specs.declared.places.Place.TheVariants.{Empty, Holds}
use Rattle.shared_tree.specs.One.{node_in, with_node}

same_test : (b : Bool) (v w : NodeView) → IsSome (if b then Some v else None) → ((if b then Some w else None) ≡ Some w) × (b ≡ true)
same_test true v w is = (refl, refl)
same_test false v w is = absurd (true≢false (sym is))

pub there : (h : Place) (k : ℕ) (w : NodeView) → IsSome (node_in h k) → node_in (with_node h k w) k ≡ Some w
there Empty k w is = absurd (true≢false (sym is))
there (Holds slot node) k w is = (same_test (slot == k) node w is).0

if_no : (b : Bool) (v w : NodeView) → b ≡ false → (if b then Some w else None) ≡ (if b then Some v else None)
if_no b v w e = ap (λ (c : Bool). if c then Some w else None) e ∙ sym (ap (λ (c : Bool). if c then Some v else None) e)

pub elsewhere : (h : Place) (j k : ℕ) (w : NodeView) → IsSome (node_in h k) → j ≢ k → node_in (with_node h k w) j ≡ node_in h j
elsewhere Empty j k w is ne = refl
elsewhere (Holds slot node) j k w is ne =
    let own : slot ≡ k = eqb-true slot k (same_test (slot == k) node w is).1 in
    if_no (slot == j) node w (ne_eqb slot j (λ e. ne (sym e ∙ own)))
