-- A node, or the source, put in place of another in a row.
-- This project's own.
use Rattle.std.proofs.Common.{◌≡◌, ◌≢◌, ℕ, refl, sym, ap, ◌∙◌, eqb-true, ne_eqb, true≢false}
use Rattle.std.specs.Prelude.{Bool, true, false, ◌==◌, if◌then◌else◌, Some, None, IsSome}
use Rattle.rbg_nodes.specs.Views.{NodeView}
use Rattle.entropy_source.specs.Views.{SourceView}
use Rattle.shared_tree.specs.declared.row.SourcePlace.{SourcePlace}
use Rattle.shared_tree.specs.declared.row.SourcePlace.TheVariants.{Empty, Holds}
use Rattle.shared_tree.specs.declared.row.Row.{Row}
use Rattle.tree_acts.specs.Hold.{PutsNode, PutsSource}
use Rattle.shared_tree.specs.One.{node_in, with_node}
use Rattle.shared_tree.specs.OneLaws as one
use Rattle.shared_tree.specs.Both.{in_both, with_both}
use Rattle.shared_tree.specs.BothLaws as both
use Rattle.shared_tree.specs.Rows.{what_of, source_in, with_source, nodes_of, sources_of, with_node_of, with_source_of}

module _ {S : Type 0} where
  same_test : (b : Bool) (v w : SourceView S) → IsSome (if b then Some v else None) → ((if b then Some w else None) ≡ Some w) × (b ≡ true)
  same_test true v w is = (refl, refl)
  same_test false v w is = absurd (true≢false (sym is))

  if_no : (b : Bool) (v w : SourceView S) → b ≡ false → (if b then Some w else None) ≡ (if b then Some v else None)
  if_no b v w e = ap (λ (c : Bool). if c then Some w else None) e ∙ sym (ap (λ (c : Bool). if c then Some v else None) e)

  there : (h : SourcePlace (SourceView S)) (k : ℕ) (w : SourceView S) → IsSome (source_in h k) → source_in (with_source h k w) k ≡ Some w
  there Empty k w is = absurd (true≢false (sym is))
  there (Holds slot source) k w is = (same_test (slot == k) source w is).0

  elsewhere : (h : SourcePlace (SourceView S)) (j k : ℕ) (w : SourceView S) → IsSome (source_in h k) → j ≢ k → source_in (with_source h k w) j ≡ source_in h j
  elsewhere Empty j k w is ne = refl
  elsewhere (Holds slot source) j k w is ne =
      let own : slot ≡ k = eqb-true slot k (same_test (slot == k) source w is).1 in
      if_no (slot == j) source w (ne_eqb slot j (λ e. ne (sym e ∙ own)))

  pub node_there_of : (r : Row S) (k : ℕ) (w : NodeView) → IsSome (nodes_of r k) → nodes_of (with_node_of r k w) k ≡ Some w
  node_there_of r k w is = both.there (in_both (in_both node_in)) (with_both (in_both node_in) (with_both node_in with_node))
      (both.there (in_both node_in) (with_both node_in with_node) (both.there node_in with_node one.there one.elsewhere) (both.elsewhere node_in with_node one.there one.elsewhere))
      (both.elsewhere (in_both node_in) (with_both node_in with_node) (both.there node_in with_node one.there one.elsewhere) (both.elsewhere node_in with_node one.there one.elsewhere))
      r.nodes k w is

  pub node_else_of : (r : Row S) (j k : ℕ) (w : NodeView) → IsSome (nodes_of r k) → j ≢ k → nodes_of (with_node_of r k w) j ≡ nodes_of r j
  node_else_of r j k w is ne = both.elsewhere (in_both (in_both node_in)) (with_both (in_both node_in) (with_both node_in with_node))
      (both.there (in_both node_in) (with_both node_in with_node) (both.there node_in with_node one.there one.elsewhere) (both.elsewhere node_in with_node one.there one.elsewhere))
      (both.elsewhere (in_both node_in) (with_both node_in with_node) (both.there node_in with_node one.there one.elsewhere) (both.elsewhere node_in with_node one.there one.elsewhere))
      r.nodes j k w is ne

  pub node_sources_of : (r : Row S) (j k : ℕ) (w : NodeView) → sources_of (with_node_of r k w) j ≡ sources_of r j
  node_sources_of r j k w = refl

  pub source_there_of : (r : Row S) (k : ℕ) (w : SourceView S) → IsSome (sources_of r k) → sources_of (with_source_of r k w) k ≡ Some w
  source_there_of r k w is = there r.source k w is

  pub source_else_of : (r : Row S) (j k : ℕ) (w : SourceView S) → IsSome (sources_of r k) → j ≢ k → sources_of (with_source_of r k w) j ≡ sources_of r j
  source_else_of r j k w is ne = elsewhere r.source j k w is ne

  pub source_nodes_of : (r : Row S) (j k : ℕ) (w : SourceView S) → nodes_of (with_source_of r k w) j ≡ nodes_of r j
  source_nodes_of r j k w = refl

  pub node_put : (r : Row S) (k : ℕ) (w : NodeView) → IsSome (nodes_of r k) → PutsNode (what_of r) (what_of (with_node_of r k w)) k w
  node_put r k w is = record { there = node_there_of r k w is; others = λ j ne. node_else_of r j k w is ne; sources = λ j. refl }

  pub source_put : (r : Row S) (k : ℕ) (w : SourceView S) → IsSome (sources_of r k) → PutsSource (what_of r) (what_of (with_source_of r k w)) k w
  source_put r k w is = record { there = source_there_of r k w is; others = λ j ne. source_else_of r j k w is ne; nodes = λ j. refl }
