-- Paths of a plan in range: their slots are there, they have at most eight nodes, and one source.
use Rattle.std.proofs.Common.{◌≡◌, ◌∙◌, ◌∷◌, ◌+◌, ◌<◌, ◌≤◌, ℕ, List, [], zero, suc, Bool, true, false, length, refl, sym, subst, arith, eqb-true, inl, inr}
use Rattle.std.proofs.lemmas.Bool.{cases_lt}
use Rattle.std.proofs.lemmas.Bool.Decides.{nat_tests}
use Rattle.std.proofs.lemmas.List.{length-map}
use Rattle.std.specs.Prelude.{◌==◌, ◌||◌, ◌⊎◌, if◌then◌else◌, nat_lt, option_and_then, Option, Some, None, slice_get, unwrap_or}
use Rattle.tree_config.proofs.Paths.{HasParents, from_never, way_ends}
use Rattle.tree_config.specs.Graph.{HasDepth, after, parent_at}
use Rattle.tree_config.specs.Planned as planned
use Rattle.tree_config.specs.Planned.{IsPlanned}
use Rattle.tree_config.specs.Tree.{IsTree, Tree, parent_in, parents}
use Rattle.tree_config.specs.declared.plan.NodeKind.{NodeKind}
use Rattle.tree_config.specs.declared.plan.NodeKind.TheVariants.{Child, Rbg1, Rbg2, Rbg3Rs, Rbg3Xor}
use Rattle.tree_config.specs.declared.plan.NodePlan.{NodePlan}
use Rattle.tree_config.specs.declared.plan.Origin.{Origin}
use Rattle.tree_config.specs.declared.plan.Origin.TheVariants.{Parent, SeedFile, Source}
use Rattle.tree_rules.specs.Chain.{slots_of, target}
use Rattle.tree_rules.specs.History.{Distinct, States, has}
use Rattle.tree_rules.specs.Openings.{depth}
use Rattle.tree_rules.specs.Replies.{chain_by, chain_of, first_reply, plain_rows, there_are}
use Rattle.tree_rules.specs.Slots.{ancestors, lineage, no_node, node_plan, path, slot_count, slots_of_origin, source_slot, with_source}
use Rattle.tree_rules.specs.Chain.{named}
use Rattle.tree_rules.specs.declared.call.Call.{Call}
use Rattle.tree_rules.specs.declared.call.Call.TheVariants.{Generate, Instantiate, Reseed, Start, Status, Uninstantiate}
use Rattle.tree_rules.specs.declared.reply.Reply.{Reply}
use Rattle.tree_rules.proofs.Depths.{depth_is, same_parent}
use Rattle.tree_rules.proofs.Freeing.{lt_of}
use Rattle.tree_rules.proofs.Near.{has_first, has_rest}
use Rattle.tree_rules.proofs.Paths.{on_path}
use Rattle.tree_rules.proofs.Pigeons.{eight, few_among}
use Rattle.tree_rules.proofs.Sources.{none_stands}

-- following parents ends at a node that has none
root_of : (ps : List (Option ℕ)) (n k : ℕ) → after ps k n ≡ None → (edges root : ℕ) × (after ps edges n ≡ Some root) × (parent_at ps root ≡ None)
root_of ps n zero h = cc
root_of ps n (suc k) h = by (after ps k n) refl (λ i. root_of ps n k i) h where
  by : (o : Option ℕ) → after ps k n ≡ o
      → (o ≡ None → (edges root : ℕ) × (after ps edges n ≡ Some root) × (parent_at ps root ≡ None))
      → option_and_then (parent_at ps) o ≡ None → (edges root : ℕ) × (after ps edges n ≡ Some root) × (parent_at ps root ≡ None)
  by None is ih h = ih refl
  by (Some m) is ih h = (k, m, is, h)

module _ (p : Tree) where
  abbrev ps : List (Option ℕ)
  ps = parents p.nodes

  count : length ps ≡ length p.nodes
  count = length-map p.nodes (λ (x : NodePlan). parent_in x.origin)

  ends : (limit n : ℕ) → IsTree limit p.nodes → n < length p.nodes → after ps (length ps) n ≡ None
  ends limit n tree low = by (after ps (length ps) n) refl where
    by : (o : Option ℕ) → after ps (length ps) n ≡ o → o ≡ None
    by None is = refl
    by (Some m) is = let c = count in absurd (way_ends ps n m (from_never ps tree.parent) (omega (arith, c, low)) tree.cycle is)

  -- a path has at most as many nodes as the tree is deep
  pub short : (limit n : ℕ) → IsTree limit p.nodes → n < length p.nodes → length (lineage p n) ≤ limit
  short limit n tree low =
      let (edges, root, way, last) = root_of ps n (length ps) (ends limit n tree low) in
      let has_depth : HasDepth ps n (edges + 1) = (edges, root, refl, way, last) in
      let is = depth_is limit p n (edges + 1) tree low has_depth in
      by (cases_lt limit (edges + 1)) (λ more. tree.depth n (edges + 1, has_depth, more)) is where
        by : {d : ℕ} → (limit < d) ⊎ (d ≤ limit) → (limit < d → ⊥) → depth p n ≡ d → length (lineage p n) ≤ limit
        by (inl more) f is = absurd (f more)
        by (inr few) f is = omega (arith, is, few)

  module _ (tree : HasParents ps) where
    -- each node of a path is there
    parent_low : (n m : ℕ) → parent_in (node_plan p n).origin ≡ Some m → m < length p.nodes
    parent_low n m h = let c = count in let l = tree n m (same_parent p.nodes n ∙ h) in omega (arith, c, l)

    ancestors_low : (far : ℕ) (o : Option ℕ) → ((m : ℕ) → o ≡ Some m → m < length p.nodes) → (k : ℕ) → has (ancestors far p o) k ≡ true → k < length p.nodes
    ancestors_low zero o low k h = cc
    ancestors_low (suc far) None low k h = cc
    ancestors_low (suc far) (Some n) low k h =
        by (n == k) refl h (λ i. ancestors_low far (parent_in (node_plan p n).origin) (parent_low n) k i) where
          by : (b : Bool) → (n == k) ≡ b → (b || has (ancestors far p (parent_in (node_plan p n).origin)) k) ≡ true
              → (has (ancestors far p (parent_in (node_plan p n).origin)) k ≡ true → k < length p.nodes) → k < length p.nodes
          by true is h ih = let same = eqb-true n k is in let l = low n refl in omega (arith, same, l)
          by false is h ih = ih h

    lineage_low : (n k : ℕ) → n < length p.nodes → has (lineage p n) k ≡ true → k < length p.nodes
    lineage_low n k low h = by (n == k) refl h where
      by : (b : Bool) → (n == k) ≡ b → (b || has (ancestors (length p.nodes) p (parent_in (node_plan p n).origin)) k) ≡ true → k < length p.nodes
      by true is h = let same = eqb-true n k is in omega (arith, same, low)
      by false is h = ancestors_low (length p.nodes) (parent_in (node_plan p n).origin) (parent_low n) k h

    module _ (least : ℕ) (plan : IsPlanned least p) where
      -- a node's source is there
      of_kind : (kind : NodeKind) (j : ℕ) → planned.Fits least (length p.sources) (length p.nodes) kind (Source j) → j < length p.sources
      of_kind Rbg1 j h = absurd h
      of_kind Rbg2 j h = h
      of_kind Rbg3Xor j h = h
      of_kind Rbg3Rs j h = h
      of_kind Child j h = absurd h

      source_low : (n j : ℕ) → (node_plan p n).origin ≡ Source j → j < length p.sources
      source_low n j is = by (slice_get p.nodes n) (plan.node n) is where
        by : (o : Option NodePlan) → ((x : NodePlan) → o ≡ Some x → planned.IsNode least (length p.sources) (length p.nodes) x)
            → (unwrap_or o no_node).origin ≡ Source j → j < length p.sources
        by None f is = cc
        by (Some x) f is = of_kind x.kind j (subst (λ o. planned.Fits least (length p.sources) (length p.nodes) x.kind o) is (f x refl).origin)

      origin_low : (n k : ℕ) → has (slots_of_origin p (node_plan p n).origin) k ≡ true → (length p.nodes ≤ k) × (k < slot_count p)
      origin_low n k h = by (node_plan p n).origin refl h where
        by : (o : Origin) → (node_plan p n).origin ≡ o → has (slots_of_origin p o) k ≡ true → (length p.nodes ≤ k) × (k < slot_count p)
        by (Source j) is h = at (source_slot p j == k) refl h where
          at : (b : Bool) → (source_slot p j == k) ≡ b → (b || false) ≡ true → (length p.nodes ≤ k) × (k < slot_count p)
          at true same h = let e = eqb-true (source_slot p j) k same in let l = source_low n j is in (omega (arith, e), omega (arith, e, l))
          at false same h = cc
        by (SeedFile name) is h = cc
        by (Parent q) is h = cc

      with_low : (ns : List ℕ) (k : ℕ) → ((n : ℕ) → has ns n ≡ true → n < length p.nodes) → has (with_source p ns) k ≡ true → k < slot_count p
      with_low [] k low h = cc
      with_low (n ∷ []) k low h = by (n == k) refl h where
        by : (b : Bool) → (n == k) ≡ b → (b || has (slots_of_origin p (node_plan p n).origin) k) ≡ true → k < slot_count p
        by true is h = let same = eqb-true n k is in let l = low n (has_first n []) in omega (arith, same, l)
        by false is h = (origin_low n k h).1
      with_low (n ∷ m ∷ up) k low h = by (n == k) refl h (λ i. with_low (m ∷ up) k (λ q j. low q (has_rest n (m ∷ up) q j)) i) where
        by : (b : Bool) → (n == k) ≡ b → (b || has (with_source p (m ∷ up)) k) ≡ true → (has (with_source p (m ∷ up)) k ≡ true → k < slot_count p) → k < slot_count p
        by true is h ih = let same = eqb-true n k is in let l = low n (has_first n (m ∷ up)) in omega (arith, same, l)
        by false is h ih = ih h

      -- each slot of a path is there
      path_low : (t k : ℕ) → t < slot_count p → has (path p t) k ≡ true → k < slot_count p
      path_low t k low h = by (cases_lt t (length p.nodes)) (nat_lt t (length p.nodes)) refl h where
        by : (t < length p.nodes) ⊎ (length p.nodes ≤ t) → (b : Bool) → nat_lt t (length p.nodes) ≡ b
            → has (if b then with_source p (lineage p t) else t ∷ []) k ≡ true → k < slot_count p
        by (inl at) true is h = with_low (lineage p t) k (λ n i. lineage_low t n at i) h
        by (inl at) false is h = let yes : nat_lt t (length p.nodes) ≡ true = grind (arith, nat_tests) in cc
        by (inr at) true is h = let other : nat_lt t (length p.nodes) ≡ false = grind (arith, nat_tests) in cc
        by (inr at) false is h = one (t == k) refl h where
          one : (b : Bool) → (t == k) ≡ b → (b || false) ≡ true → k < slot_count p
          one true same h = let e = eqb-true t k same in omega (arith, e, low)
          one false same h = cc

      -- two sources on a path are one
      one_source : (ns : List ℕ) (j k : ℕ) → ((n : ℕ) → has ns n ≡ true → n < length p.nodes) → length p.nodes ≤ j → length p.nodes ≤ k
          → has (with_source p ns) j ≡ true → has (with_source p ns) k ≡ true → j ≡ k
      one_source [] j k low a b h i = cc
      one_source (n ∷ []) j k low a b h i = of_origin (node_plan p n).origin (behind j a h) (behind k b i) where
        behind : (k : ℕ) → length p.nodes ≤ k → has (n ∷ slots_of_origin p (node_plan p n).origin) k ≡ true → has (slots_of_origin p (node_plan p n).origin) k ≡ true
        behind k high h = by (n == k) refl h where
          by : (b : Bool) → (n == k) ≡ b → (b || has (slots_of_origin p (node_plan p n).origin) k) ≡ true → has (slots_of_origin p (node_plan p n).origin) k ≡ true
          by true is h = let same = eqb-true n k is in let l = low n (has_first n []) in absurd (omega (arith, same, l, high))
          by false is h = h

        of_origin : (o : Origin) → has (slots_of_origin p o) j ≡ true → has (slots_of_origin p o) k ≡ true → j ≡ k
        of_origin (Source i) h g = sym (at (source_slot p i) j h) ∙ at (source_slot p i) k g where
          at : (x k : ℕ) → has (x ∷ []) k ≡ true → x ≡ k
          at x k h = by (x == k) refl h where
            by : (b : Bool) → (x == k) ≡ b → (b || false) ≡ true → x ≡ k
            by true is h = eqb-true x k is
            by false is h = cc
        of_origin (SeedFile name) h g = cc
        of_origin (Parent q) h g = cc
      one_source (n ∷ m ∷ up) j k low a b h i =
          one_source (m ∷ up) j k (λ q g. low q (has_rest n (m ∷ up) q g)) a b (behind j a h) (behind k b i) where
            behind : (k : ℕ) → length p.nodes ≤ k → has (n ∷ with_source p (m ∷ up)) k ≡ true → has (with_source p (m ∷ up)) k ≡ true
            behind k high h = by (n == k) refl h where
              by : (b : Bool) → (n == k) ≡ b → (b || has (with_source p (m ∷ up)) k) ≡ true → has (with_source p (m ∷ up)) k ≡ true
              by true is h = let same = eqb-true n k is in let l = low n (has_first n (m ∷ up)) in absurd (omega (arith, same, l, high))
              by false is h = h

-- the slot that a call names is there, and so is its whole chain
target_low : (p : Tree) (c : Call) → named c < there_are p c → target p c < slot_count p
target_low p (Start j) h = omega (arith, h)
target_low p (Instantiate n x) h = omega (arith, h)
target_low p (Generate n x y z) h = omega (arith, h)
target_low p (Reseed n z) h = omega (arith, h)
target_low p (Uninstantiate n) h = omega (arith, h)
target_low p (Status n) h = omega (arith, h)

-- a call whose chain has a slot names something that there is
named_low : (p : Tree) (s : States) (c : Call) (string : List ℕ) (k : ℕ) → has (slots_of (chain_of p s c string)) k ≡ true → named c < there_are p c
named_low p s c string k h = by (first_reply (plain_rows p c string)) refl h where
  by : (r : Option Reply) → first_reply (plain_rows p c string) ≡ r → has (slots_of (chain_by p s c r)) k ≡ true → named c < there_are p c
  by (Some r) is h = cc
  by None is h = lt_of (there_are p c) (named c) (none_stands (plain_rows p c string) is).0

pub in_range : (limit least : ℕ) (p : Tree) (s : States) (c : Call) (string : List ℕ) (k : ℕ) → IsTree limit p.nodes → IsPlanned least p
    → has (slots_of (chain_of p s c string)) k ≡ true → (has (path p (target p c)) k ≡ true) × (k < slot_count p) × (target p c < slot_count p)
in_range limit least p s c string k tree plan h =
    let on = on_path p s k c string h in
    let low = target_low p c (named_low p s c string k h) in
    (on, path_low p (from_never (parents p.nodes) tree.parent) least plan (target p c) k low on, low)

pub sources_are_one : (limit least : ℕ) (p : Tree) (t j k : ℕ) → IsTree limit p.nodes → IsPlanned least p → length p.nodes ≤ j → length p.nodes ≤ k
    → has (path p t) j ≡ true → has (path p t) k ≡ true → j ≡ k
sources_are_one limit least p t j k tree plan a b h i = by (cases_lt t (length p.nodes)) (nat_lt t (length p.nodes)) refl h i where
  parent : HasParents (parents p.nodes)
  parent = from_never (parents p.nodes) tree.parent

  one : (k : ℕ) → has (t ∷ []) k ≡ true → t ≡ k
  one k h = at (t == k) refl h where
    at : (b : Bool) → (t == k) ≡ b → (b || false) ≡ true → t ≡ k
    at true is h = eqb-true t k is
    at false is h = cc

  by : (t < length p.nodes) ⊎ (length p.nodes ≤ t) → (b : Bool) → nat_lt t (length p.nodes) ≡ b
      → has (if b then with_source p (lineage p t) else t ∷ []) j ≡ true → has (if b then with_source p (lineage p t) else t ∷ []) k ≡ true → j ≡ k
  by (inl at) true is h i = one_source p parent least plan (lineage p t) j k (λ n g. lineage_low p parent t n at g) a b h i
  by (inl at) false is h i = let yes : nat_lt t (length p.nodes) ≡ true = grind (arith, nat_tests) in cc
  by (inr at) true is h i = let other : nat_lt t (length p.nodes) ≡ false = grind (arith, nat_tests) in cc
  by (inr at) false is h i = sym (one j h) ∙ one k i

pub few_nodes : (p : Tree) (t : ℕ) → IsTree 8 p.nodes → (ks : List ℕ) → Distinct ks
    → ((k : ℕ) → has ks k ≡ true → (k < length p.nodes) × (has (path p t) k ≡ true)) → length ks ≤ 8
few_nodes p t tree ks d all = by (cases_lt t (length p.nodes)) where
  by : (t < length p.nodes) ⊎ (length p.nodes ≤ t) → length ks ≤ 8
  by (inl at) = eight p t (short p 8 t tree at) ks d all
  by (inr at) = beyond (nat_lt t (length p.nodes)) (λ k h. (all k h).1) (grind (arith, nat_tests)) where
    beyond : (b : Bool) → ((k : ℕ) → has ks k ≡ true → has (if b then with_source p (lineage p t) else t ∷ []) k ≡ true) → b ≡ false → length ks ≤ 8
    beyond true on is = cc
    beyond false on is = let i = few_among ks (t ∷ []) d on in omega (arith, i)

pub few_slots : (least : ℕ) (p : Tree) → IsPlanned least p → slot_count p ≤ 67
few_slots least p plan = let n = plan.few_nodes in let m = plan.few_sources in omega (arith, n, m)
