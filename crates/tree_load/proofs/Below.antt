-- No node stands further below another one than there are nodes.
use Rattle.std.proofs.Common.{◌≡◌, ◌∙◌, ◌+◌, ◌<◌, ℕ, List, zero, suc, Bool, true, false, length, refl, ap, subst, arith, eqb-true}
use Rattle.std.proofs.lemmas.List.{length-map}
use Rattle.std.specs.Prelude.{Option, Some, None}
use Rattle.tree_config.proofs.Paths.{after-more, from_never, way_ends}
use Rattle.tree_config.specs.Graph.{after}
use Rattle.tree_config.specs.Tree.{IsTree, Tree, parent_in, parents}
use Rattle.tree_config.specs.declared.plan.NodePlan.{NodePlan}
use Rattle.tree_rules.proofs.Depths.{same_parent}
use Rattle.tree_rules.specs.Slots.{node_plan}
use Rattle.tree_load.specs.Tally.{is_child, is_parent}
use Rattle.tree_load.proofs.Asking.{Low}

module _ (limit : ℕ) (p : Tree) (tree : IsTree limit p.nodes) where
  abbrev ps : List (Option ℕ)
  ps = parents p.nodes

  -- a child's parent
  parent_of : (k : ℕ) (o : Option ℕ) → is_parent k o ≡ true → o ≡ Some k
  parent_of k None h = cc
  parent_of k (Some q) h = ap Some (eqb-true q k h)

  count : length ps ≡ length p.nodes
  count = length-map p.nodes (λ (x : NodePlan). parent_in x.origin)

  -- where a way of so many edges leads up from a node, and `far` more are as many as there are nodes
  below : (far edges k root : ℕ) → edges + far ≡ length ps → after ps edges k ≡ Some root → Low far p k
  below zero edges k root all way = λ m. by m (is_child p k m) refl where
    by : (m : ℕ) (b : Bool) → is_child p k m ≡ b → b ≡ false
    by m false is = refl
    by m true is =
        let parent = parent_of k (parent_in (node_plan p m).origin) is in
        let low : k < length ps = from_never ps tree.parent m k (same_parent p.nodes m ∙ parent) in
        let whole : edges ≡ length ps = omega (arith, all) in
        absurd (way_ends ps k root (from_never ps tree.parent) low tree.cycle (subst (λ e. after ps e k ≡ Some root) whole way))
  below (suc far) edges k root all way = λ m child.
      (let parent = parent_of k (parent_in (node_plan p m).origin) child in
      below far (edges + 1) m root (omega (arith, all)) (after-more ps 1 edges m k (same_parent p.nodes m ∙ parent) ∙ way))

  pub all_low : (k : ℕ) → Low (length p.nodes) p k
  all_low k = subst (λ far. Low far p k) count (below (length ps) 0 k k (omega arith) refl)
