-- What is held is of the plan, before the work and after it.
use Rattle.std.proofs.Common.{◌≡◌, ⊎_elim, ℕ, refl, sym, ap, ◌∙◌, inl, inr}
use Rattle.std.specs.Prelude.{Option, Some, None, IsSome}
use Rattle.std.specs.Option.{option_map}
use Rattle.entropy_source.specs.Views.{SourceView}
use Rattle.rbg_nodes.specs.Views.{NodeView}
use Rattle.tree_config.specs.Tree.{Tree}
use Rattle.tree_rules.specs.Stands.{SlotView, NodeAt, SourceAt, IsOf}
use Rattle.tree_acts.specs.Hold.{Hold, IsHeld, IsNodeOf, IsSourceOf, IsOfPlan}
use Rattle.tree_acts.specs.Kept.{SameRows}
use Rattle.shared_tree.specs.Rows.{IsAt}
use Rattle.shared_tree.proofs.Maps.{some_or, none_isnt}

some_one : {A : Type 0} (x y : A) → ◌≡◌ {A = Option A} (Some x) (Some y) → x ≡ y
some_one {A} x y e = cc

row_back : {A B : Type 0} (f : A → B) (o q : Option A) → option_map f o ≡ option_map f q → (v : A) → o ≡ Some v → (w : A) × (q ≡ Some w) × (f v ≡ f w)
row_back f o (Some w) e v is = (w, refl, some_one (f v) (f w) (sym (ap (option_map f) is) ∙ e))
row_back f o None e v is = let bad : ◌≡◌ (Some (f v)) None = sym (ap (option_map f) is) ∙ e in cc

stays_some : {A B : Type 0} (f : A → B) (o q : Option A) → option_map f o ≡ option_map f q → IsSome q → IsSome o
stays_some f (Some v) q e is = refl
stays_some f None (Some w) e is = cc
stays_some f None None e is = is

of_node : (S : Type 0) (p : Tree) (k : ℕ) (v : NodeView) → IsNodeOf p k v → IsOf {S = S} p k (NodeAt v)
of_node S p k v was = record { low = was.low; row = was.row }

module _ {S : Type 0} where
  of_source : (p : Tree) (k : ℕ) (v : SourceView S) → IsSourceOf p k v → IsOf p k (SourceAt v)
  of_source p k v was = record { high = was.high; low = was.low; row = was.row }

  -- what is held at a slot is a value of the plan
  pub value_at : (p : Tree) (h : Hold (SourceView S)) (k : ℕ) → IsOfPlan p h → IsHeld h k → (x : SlotView S) × IsAt h k x × IsOf p k x
  value_at p h k plan held = ⊎_elim
      (λ (none : h.nodes k ≡ None). ⊎_elim
      (λ (other : h.sources k ≡ None). ⊎_elim (λ a. absurd (none_isnt (h.nodes k) none a)) (λ a. absurd (none_isnt (h.sources k) other a)) held)
      (λ (v : (y : SourceView S) × (h.sources k ≡ Some y)). (SourceAt v.0, (none, v.1), of_source p k v.0 (plan.source k v.0 v.1)))
      (some_or (h.sources k)))
      (λ (v : (y : NodeView) × (h.nodes k ≡ Some y)). (NodeAt v.0, v.1, of_node S p k v.0 (plan.node k v.0 v.1)))
      (some_or (h.nodes k))

  pub plan_on : (p : Tree) (h t : Hold (SourceView S)) → SameRows h t → IsOfPlan p h → IsOfPlan p t
  plan_on p h t same is = record {
    node = λ k v at.
        let w = row_back (λ (n : NodeView). n.row) (t.nodes k) (h.nodes k) (same.nodes k) v at in
        let was = is.node k w.0 w.1 in record { low = was.low; row = w.2 ∙ was.row };
    source = λ k v at.
        let w = row_back (λ (n : SourceView S). n.row) (t.sources k) (h.sources k) (same.sources k) v at in
        let was = is.source k w.0 w.1 in record { high = was.high; low = was.low; row = w.2 ∙ was.row };
  }

  pub held_on : (h t : Hold (SourceView S)) (k : ℕ) → SameRows h t → IsHeld h k → IsHeld t k
  held_on h t k same is = ⊎_elim
      (λ a. inl (stays_some (λ (n : NodeView). n.row) (t.nodes k) (h.nodes k) (same.nodes k) a))
      (λ a. inr (stays_some (λ (n : SourceView S). n.row) (t.sources k) (h.sources k) (same.sources k) a)) is

  pub same_rows : (h : Hold (SourceView S)) → SameRows h h
  same_rows h = record { nodes = λ k. refl; sources = λ k. refl }
