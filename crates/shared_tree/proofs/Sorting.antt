-- The values of all slots, taken apart.
use Rattle.std.proofs.Common.{◌≡◌, ◌≤◌, ◌+◌, ◌-◌, ℕ, zero, suc, List, [], ◌∷◌, ◌++◌, length, refl, sym, ap, subst, arith}
use mathlib.Core.Option.{some, some-injective, some-ne-none}
use lib.ListN.{get_elem?}
use Rattle.tree_config.specs.Tree.{Tree}
use Rattle.entropy_source.specs.Views.{SourceView}
use Rattle.rbg_nodes.specs.Views.{NodeView}
use Rattle.shared_tree.specs.declared.machine.SlotValue.{SlotValue}
use Rattle.shared_tree.specs.declared.machine.SlotValue.TheVariants.{Node, Source}
use Rattle.tree_rules.specs.Stands.{IsOf}
use Rattle.shared_tree.specs.Machine.{slot_view}
use Rattle.shared_tree.specs.Sorted.{nodes_in, sources_in}

module _ {S : Type 0} where
  abbrev one_node : SlotValue S → List NodeView
  one_node x = nodes_in (x ∷ [])

  pub nodes_snoc : (xs : List (SlotValue S)) (v : NodeView) → nodes_in (xs ++ Node v ∷ []) ≡ nodes_in xs ++ v ∷ []
  nodes_snoc [] v = refl
  nodes_snoc (Node x ∷ xs) v = ap (λ l. x ∷ l) (nodes_snoc xs v)
  nodes_snoc (Source x ∷ xs) v = nodes_snoc xs v

  pub nodes_same : (xs : List (SlotValue S)) (v : SourceView S) → nodes_in (xs ++ Source v ∷ []) ≡ nodes_in xs
  nodes_same [] v = refl
  nodes_same (Node x ∷ xs) v = ap (λ l. x ∷ l) (nodes_same xs v)
  nodes_same (Source x ∷ xs) v = nodes_same xs v

  pub sources_snoc : (xs : List (SlotValue S)) (v : SourceView S) → sources_in (xs ++ Source v ∷ []) ≡ sources_in xs ++ v ∷ []
  sources_snoc [] v = refl
  sources_snoc (Node x ∷ xs) v = sources_snoc xs v
  sources_snoc (Source x ∷ xs) v = ap (λ l. x ∷ l) (sources_snoc xs v)

  pub sources_same : (xs : List (SlotValue S)) (v : NodeView) → sources_in (xs ++ Node v ∷ []) ≡ sources_in xs
  sources_same [] v = refl
  sources_same (Node x ∷ xs) v = sources_same xs v
  sources_same (Source x ∷ xs) v = ap (λ l. x ∷ l) (sources_same xs v)

  pub both_counts : (xs : List (SlotValue S)) → length (nodes_in xs) + length (sources_in xs) ≡ length xs
  both_counts [] = omega arith
  both_counts (Node x ∷ xs) = let i = both_counts xs in omega arith
  both_counts (Source x ∷ xs) = let i = both_counts xs in omega arith

  pub nodes_few : (xs : List (SlotValue S)) → length (nodes_in xs) ≤ length xs
  nodes_few xs = let i = both_counts xs in omega arith

  pub sources_few : (xs : List (SlotValue S)) → length (sources_in xs) ≤ length xs
  sources_few xs = let i = both_counts xs in omega arith

  module _ (p : Tree) where
    abbrev AreOf : ℕ → List (SlotValue S) → Type 0
    AreOf b xs = (k : ℕ) (x : SlotValue S) → get_elem? xs k ≡ some x → IsOf p (b + k) (slot_view x)

    rest_of : (b : ℕ) (x : SlotValue S) (xs : List (SlotValue S)) → AreOf b (x ∷ xs) → AreOf (b + 1) xs
    rest_of b x xs all k y at = let e : b + suc k ≡ (b + 1) + k = omega arith in subst (λ (n : ℕ). IsOf p n (slot_view y)) e (all (suc k) y at)

    head_of : (b : ℕ) (x : SlotValue S) (xs : List (SlotValue S)) → AreOf b (x ∷ xs) → IsOf p b (slot_view x)
    head_of b x xs all = let e : b + 0 ≡ b = omega arith in subst (λ (n : ℕ). IsOf p n (slot_view x)) e (all 0 x refl)

    no_nodes : (b : ℕ) (xs : List (SlotValue S)) → AreOf b xs → length p.nodes ≤ b → nodes_in xs ≡ []
    no_nodes b [] all high = refl
    no_nodes b (Node x ∷ xs) all high = let h = (head_of b (Node x) xs all).low in absurd (omega arith)
    no_nodes b (Source x ∷ xs) all high = no_nodes (b + 1) xs (rest_of b (Source x) xs all) (omega arith)

    pub node_count : (b : ℕ) (xs : List (SlotValue S)) → AreOf b xs → b ≤ length p.nodes → length p.nodes ≤ b + length xs → length (nodes_in xs) ≡ length p.nodes - b
    node_count b [] all low high = omega arith
    node_count b (Node x ∷ xs) all low high = let h = (head_of b (Node x) xs all).low in let i = node_count (b + 1) xs (rest_of b (Node x) xs all) (omega arith) (omega arith) in omega arith
    node_count b (Source x ∷ xs) all low high = let h = (head_of b (Source x) xs all).high in
        let i = ap (λ (l : List NodeView). length l) (no_nodes (b + 1) xs (rest_of b (Source x) xs all) (omega arith)) in omega arith

    pub node_at : (b : ℕ) (xs : List (SlotValue S)) → AreOf b xs → (k : ℕ) (v : NodeView) → get_elem? (nodes_in xs) k ≡ some v → get_elem? xs k ≡ some (Node v)
    node_at b [] all k v at = absurd (some-ne-none v (sym at))
    node_at b (Node x ∷ xs) all zero v at = ap (λ (z : NodeView). some (Node z)) (some-injective x v at)
    node_at b (Node x ∷ xs) all (suc k) v at = node_at (b + 1) xs (rest_of b (Node x) xs all) k v at
    node_at b (Source x ∷ xs) all k v at = let h = (head_of b (Source x) xs all).high in
        absurd (some-ne-none v (sym (subst (λ (l : List NodeView). get_elem? l k ≡ some v) (no_nodes (b + 1) xs (rest_of b (Source x) xs all) (omega arith)) at)))

    pub source_at : (b : ℕ) (xs : List (SlotValue S)) → AreOf b xs → (j i : ℕ) (v : SourceView S) → i ≡ j + (length p.nodes - b) → get_elem? (sources_in xs) j ≡ some v → get_elem? xs i ≡ some (Source v)
    source_at b [] all j i v is at = absurd (some-ne-none v (sym at))
    source_at b (Node x ∷ xs) all j zero v is at = let h = (head_of b (Node x) xs all).low in absurd (omega arith)
    source_at b (Node x ∷ xs) all j (suc i) v is at = let h = (head_of b (Node x) xs all).low in source_at (b + 1) xs (rest_of b (Node x) xs all) j i v (omega arith) at
    source_at b (Source x ∷ xs) all zero zero v is at = ap (λ (z : SourceView S). some (Source z)) (some-injective x v at)
    source_at b (Source x ∷ xs) all zero (suc i) v is at = let h = (head_of b (Source x) xs all).high in absurd (omega arith)
    source_at b (Source x ∷ xs) all (suc j) zero v is at = absurd (omega arith)
    source_at b (Source x ∷ xs) all (suc j) (suc i) v is at = let h = (head_of b (Source x) xs all).high in source_at (b + 1) xs (rest_of b (Source x) xs all) j i v (omega arith) at
