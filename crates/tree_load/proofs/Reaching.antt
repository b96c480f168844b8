-- What is asked of a node does not grow where its children are followed further than the tree reaches.
use Rattle.std.proofs.Common.{◌≡◌, ◌∙◌, ◌++◌, ◌∷◌, ℕ, List, [], zero, suc, Bool, true, false, length, refl, sym, ap, append-nil}
use Rattle.std.proofs.Math.ListN.{replicate}
use Rattle.std.specs.Prelude.{if◌then◌else◌, flat_map}
use Rattle.std.specs.List.{range_with_len}
use Rattle.rbg_nodes.specs.Node.{entropy_len}
use Rattle.tree_config.specs.Tree.{IsTree, Tree}
use Rattle.tree_rules.specs.Slots.{node_row}
use Rattle.tree_load.specs.Tally.{all_asks, asks, is_child, reseeds_for}
use Rattle.tree_load.proofs.Asking.{Low}
use Rattle.tree_load.proofs.Below.{all_low}
use Rattle.tree_load.proofs.Tallying.{all_empty}

same_parts : (g h : ℕ → List ℕ) → ((m : ℕ) → g m ≡ h m) → (xs : List ℕ) → flat_map g xs ≡ flat_map h xs
same_parts g h same [] = refl
same_parts g h same (x ∷ xs) = ap (λ z. z ++ flat_map g xs) (same x) ∙ ap (λ z. h x ++ z) (same_parts g h same xs)

module _ (p : Tree) (c : ℕ → ℕ) (own : ℕ → List ℕ) where
  abbrev all : List ℕ
  all = range_with_len 0 (length p.nodes)

  -- what the children of a node ask, where they are followed so far
  abbrev pub kids : ℕ → ℕ → ℕ → List ℕ
  kids far n m = if is_child p n m then replicate (reseeds_for (node_row p m) (c m) (asks far p c own m)) (entropy_len (node_row p m)) else []

  pub further : (far n : ℕ) → asks (suc far) p c own n ≡ own n ++ flat_map (kids far n) all
  unfolding asks
  further far n = refl

  none : (n : ℕ) → asks 0 p c own n ≡ own n
  unfolding asks
  none n = refl

  enough : (far n : ℕ) → Low far p n → asks far p c own n ≡ asks (suc far) p c own n
  enough zero n low =
      let empty : flat_map (kids 0 n) all ≡ [] = all_empty (kids 0 n) (λ m. ap (λ b. if b then replicate (reseeds_for (node_row p m) (c m) (asks 0 p c own m)) (entropy_len (node_row p m)) else []) (low m)) all in
      none n ∙ (sym (append-nil (own n)) ∙ (ap (λ z. own n ++ z) (sym empty) ∙ sym (further 0 n)))
  enough (suc far) n low =
      further far n ∙ (ap (λ z. own n ++ z) (same_parts (kids far n) (kids (suc far) n) (λ m. by m (is_child p n m) refl (λ child. enough far m (low m child))) all) ∙ sym (further (suc far) n)) where
        by : (m : ℕ) (b : Bool) → is_child p n m ≡ b → (is_child p n m ≡ true → asks far p c own m ≡ asks (suc far) p c own m)
            → (if b then replicate (reseeds_for (node_row p m) (c m) (asks far p c own m)) (entropy_len (node_row p m)) else [])
            ≡ (if b then replicate (reseeds_for (node_row p m) (c m) (asks (suc far) p c own m)) (entropy_len (node_row p m)) else [])
        by m true is h = ap (λ z. replicate (reseeds_for (node_row p m) (c m) z) (entropy_len (node_row p m))) (h is)
        by m false is h = refl

pub whole : (limit : ℕ) (p : Tree) → IsTree limit p.nodes → (c : ℕ → ℕ) (own : ℕ → List ℕ) (n : ℕ)
    → all_asks p c own n ≡ own n ++ flat_map (λ m. if is_child p n m then replicate (reseeds_for (node_row p m) (c m) (all_asks p c own m)) (entropy_len (node_row p m)) else [])
    (range_with_len 0 (length p.nodes))
whole limit p tree c own n = enough p c own (length p.nodes) n (all_low limit p tree n) ∙ further p c own (length p.nodes) n
