-- The depth of a node is the number of nodes along its path.
use Rattle.std.proofs.Common.{◌≡◌, ◌∙◌, ◌∷◌, ◌+◌, ◌<◌, ◌≤◌, ℕ, List, [], zero, suc, length, refl, sym, ap, arith, inl, inr}
use Rattle.std.specs.Prelude.{option_and_then, ◌⊎◌, Option, Some, None, slice_get, unwrap_or}
use Rattle.tree_config.proofs.Paths.{HasParents, after-more, from_never, visits, way_ends}
use Rattle.tree_config.specs.Graph.{HasDepth, IsNever, IsOnCycle, parent_at}
use Rattle.tree_config.specs.Tree.{IsTree, Tree, parent_in, parents}
use Rattle.tree_config.specs.declared.plan.NodePlan.{NodePlan}
use Rattle.tree_rules.specs.History.{has}
use Rattle.tree_rules.specs.Openings.{depth}
use Rattle.tree_rules.specs.Slots.{ancestors, no_node, node_plan}
use Rattle.tree_config.specs.Graph.{after}
use Rattle.std.proofs.lemmas.List.{length-map}

pub same_parent : (nodes : List NodePlan) (n : ℕ) → parent_at (parents nodes) n ≡ parent_in (unwrap_or (slice_get nodes n) no_node).origin
same_parent [] n = refl
same_parent (x ∷ xs) zero = refl
same_parent (x ∷ xs) (suc n) = same_parent xs n

none_on : (ps : List (Option ℕ)) (n k : ℕ) → parent_at ps n ≡ None → after ps (suc k) n ≡ None
none_on ps n zero h = h
none_on ps n (suc k) h = ap (λ (o : Option ℕ). option_and_then (parent_at ps) o) (none_on ps n k h)

of_none : (far : ℕ) (p : Tree) → ancestors far p None ≡ []
of_none zero p = refl
of_none (suc far) p = refl

module _ (p : Tree) where
  abbrev ps : List (Option ℕ)
  ps = parents p.nodes

  counted : (edges far n root : ℕ) → after ps edges n ≡ Some root → parent_at ps root ≡ None → edges ≤ far
      → length (ancestors far p (parent_in (node_plan p n).origin)) ≡ edges
  counted zero far n root h r l =
      let is : n ≡ root = cc in
      let none : parent_in (node_plan p n).origin ≡ None = sym (same_parent p.nodes n) ∙ (ap (λ k. parent_at ps k) is ∙ r) in
      ap (λ (o : Option ℕ). length (ancestors far p o)) none ∙ ap (λ (xs : List ℕ). length xs) (of_none far p)
  counted (suc edges) zero n root h r l = absurd (omega arith)
  counted (suc edges) (suc far) n root h r l = by (parent_at ps n) refl (λ m i. counted edges far m root i r (omega arith)) where
    by : (o : Option ℕ) → parent_at ps n ≡ o
        → ((m : ℕ) → after ps edges m ≡ Some root → length (ancestors far p (parent_in (node_plan p m).origin)) ≡ edges)
        → length (ancestors (suc far) p (parent_in (node_plan p n).origin)) ≡ suc edges
    by None is ih = let gone : after ps (suc edges) n ≡ None = none_on ps n edges is in cc
    by (Some m) is ih =
        let on : after ps (edges + 1) n ≡ after ps edges m = after-more ps 1 edges n m is in
        let one : edges + 1 ≡ suc edges = omega arith in
        let rest = ih m (sym on ∙ (ap (λ k. after ps k n) one ∙ h)) in
        ap (λ (z : Option ℕ). length (ancestors (suc far) p z)) (sym (same_parent p.nodes n) ∙ is) ∙ ap (λ k. suc k) rest

pub depth_is : (limit : ℕ) (p : Tree) (n d : ℕ) → IsTree limit p.nodes → n < length p.nodes → HasDepth (parents p.nodes) n d → depth p n ≡ d
depth_is limit p n d tree low (edges, root, is, ends, none) =
    let few : length (parents p.nodes) ≡ length p.nodes = length-map p.nodes (λ (x : NodePlan). parent_in x.origin) in
    let has = from_never (parents p.nodes) tree.parent in
    let there : n < length (parents p.nodes) = omega (arith, few, low) in
    let within : edges ≤ length p.nodes = by (parents p.nodes) few has there ends tree.cycle (edges_or (length p.nodes) edges) in
    ap (λ k. suc k) (counted p edges (length p.nodes) n root ends none within) ∙ (let e : suc edges ≡ d = omega (arith, is) in e) where
      edges_or : (a b : ℕ) → (b ≤ a) ⊎ (a < b)
      edges_or a b = search arith

      by : (ps : List (Option ℕ)) → length ps ≡ length p.nodes → HasParents ps → n < length ps → after ps edges n ≡ Some root → IsNever (IsOnCycle ps)
          → (edges ≤ length p.nodes) ⊎ (length p.nodes < edges) → edges ≤ length p.nodes
      by ps few has there ends never o = elim o [
        | inl l ↦ l
        | inr m ↦ absurd (way_ends ps n (unwrap_or (after ps (length ps) n) 0) has there never (visits ps n root edges has there ends (length ps) (omega (arith, few, m))).there)
      ]
