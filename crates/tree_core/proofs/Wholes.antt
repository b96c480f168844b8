-- A tree all of whose nodes and sources are held.
use Rattle.std.proofs.Common.{◌≡◌, ◌∙◌, ◌<◌, ◌≤◌, ◌+◌, ◌-◌, ◌∷◌, ℕ, List, [], length, Bool, refl, sym, ap, subst, arith, inl, inr}
use Rattle.std.specs.Prelude.{◌^◌, Option, Some, None, IsSome, is_some, slice_get, if◌then◌else◌}
use Rattle.std.specs.Option.{option_map}
use Rattle.std.proofs.lemmas.Bool.{cases_lt}
use Rattle.std.proofs.lemmas.Option.{slice_get_past, slice_get_cases}
use Rattle.tree_config.specs.Tree.{Tree, IsTree}
use Rattle.tree_config.specs.Planned.{IsPlanned}
use Rattle.entropy_source.specs.Views.{SourceView}
use Rattle.rbg_nodes.specs.Views.{NodeView}
use Rattle.tree_rules.specs.declared.call.Call.{Call}
use Rattle.tree_rules.specs.History.{States}
use Rattle.tree_rules.specs.Chain.{slots_of}
use Rattle.tree_rules.specs.Replies.{chain_of}
use Rattle.tree_rules.proofs.Parting.{place_of, high}
use Rattle.tree_rules.proofs.Ranges.{in_range}
use Rattle.tree_acts.specs.Hold.{Hold, AreHeld, IsHeld, IsOfPlan, IsNodeOf, IsSourceOf, FewCounts}
use Rattle.tree_acts.specs.Kept.{SameRows}
use Rattle.tree_core.specs.Names.{IsFirstMissing}
use Rattle.tree_core.specs.Whole.{AreAtMost, AreOfPlan, all_held, source_behind}
use Rattle.tree_core.proofs.Nexts.{held_first, held_rest}

pub within : {A : Type 0} (xs : List A) (k : ℕ) → k < length xs → (x : A) × (slice_get xs k ≡ Some x)
within {A} xs k less = elim (slice_get_cases xs k).1 [
  | inl (x, l, e, f) ↦ (x, e)
  | inr (ge, e) ↦ absurd (omega (arith, ge, less))
]

some_is : {A : Type 0} (o : Option A) (x : A) → o ≡ Some x → IsSome o
some_is o x e = rw e refl

-- source j stands behind the nodes
pub behind_at : {V : Type 0} (n : ℕ) (sources : List V) (j : ℕ) → source_behind n sources (n + j) ≡ slice_get sources j
behind_at {V} n sources j = ap (λ (b : Bool). if b then None else slice_get sources (n + j - n)) (high n j) ∙ ap (λ k. slice_get sources k) (place_of n j)

module _ {S : Type 0} (p : Tree) (nodes : List NodeView) (sources : List (SourceView S)) (are : AreOfPlan p nodes sources) where
  pub slot_held : (k : ℕ) → k < length p.nodes + length p.sources → IsHeld (all_held nodes sources) k
  slot_held k low = elim (cases_lt k (length p.nodes)) [
    | inl less ↦ (let c = are.node_count in let w = within nodes k (omega (arith, c, less)) in inl (some_is (slice_get nodes k) w.0 w.1))
    | inr ge ↦ (let c = are.source_count in let d = are.node_count in let w = within sources (k - length nodes) (omega (arith, c, d, low, ge)) in
        let at : length nodes + (k - length nodes) ≡ k = omega (arith, d, ge) in
        inr (some_is (source_behind (length nodes) sources k) w.0 (subst (λ i. source_behind (length nodes) sources i ≡ Some w.0) at (behind_at (length nodes) sources (k - length nodes) ∙ w.1))))
  ]

  -- all that a call needs is held, so nothing is missing
  pub chain_held : IsPlanned 0 p → IsTree 8 p.nodes → (s : States) (c : Call) (string : List ℕ) → AreHeld (all_held nodes sources) (slots_of (chain_of p s c string))
  chain_held range tree s c string k h = slot_held k (in_range 8 0 p s c string k tree range h).1

pub none_missing : {V : Type 0} (h : Hold V) (k : ℕ) (xs : List ℕ) → AreHeld h xs → IsFirstMissing h k xs → ⊥
none_missing h k [] held m = absurd m
none_missing h k (x ∷ xs) held m = elim m [
  | inl (e, none) ↦ none (held_first h x xs held)
  | inr (a, more) ↦ none_missing h k xs (held_rest h x xs held) more
]

-- the same places hold something, so there are as many
same_length : {A B : Type 0} (xs : List A) (ys : List B) → ((k : ℕ) → is_some (slice_get xs k) ≡ is_some (slice_get ys k)) → length xs ≡ length ys
same_length xs ys same = elim (cases_lt (length xs) (length ys)) [
  | inl less ↦ absurd (let w = within ys (length xs) less in let e = slice_get_past xs (length xs) (omega arith) in let s = same (length xs) in cc)
  | inr ge ↦ elim (cases_lt (length ys) (length xs)) [
    | inl less ↦ absurd (let w = within xs (length ys) less in let e = slice_get_past ys (length ys) (omega arith) in let s = same (length ys) in cc)
    | inr le ↦ omega (arith, ge, le)
  ]
]

some_mapped : {A B : Type 0} (f : A → B) (o q : Option A) → option_map f o ≡ option_map f q → is_some o ≡ is_some q
some_mapped f (Some x) (Some y) e = refl
some_mapped f (Some x) None e = cc
some_mapped f None (Some y) e = cc
some_mapped f None None e = refl

module _ {S : Type 0} (p : Tree) where
  pub rows_still : (h t : Hold (SourceView S)) → SameRows h t → IsOfPlan p h → IsOfPlan p t
  rows_still h t same plan = record { node = λ k v e. by_node k v e (h.nodes k) refl; source = λ k v e. by_source k v e (h.sources k) refl } where
    by_node : (k : ℕ) (v : NodeView) → t.nodes k ≡ Some v → (o : Option NodeView) → h.nodes k ≡ o → IsNodeOf p k v
    by_node k v e None f = let s = same.nodes k in absurd (cc)
    by_node k v e (Some w) f =
        let s = same.nodes k in
        let row : v.row ≡ w.row = cc in
        let was = plan.node k w f in record { low = was.low; row = row ∙ was.row }

    by_source : (k : ℕ) (v : SourceView S) → t.sources k ≡ Some v → (o : Option (SourceView S)) → h.sources k ≡ o → IsSourceOf p k v
    by_source k v e None f = let s = same.sources k in absurd (cc)
    by_source k v e (Some w) f =
        let s = same.sources k in
        let row : v.row ≡ w.row = cc in
        let was = plan.source k w f in record { high = was.high; low = was.low; row = row ∙ was.row }

  pub same_count : (nodes ns : List NodeView) (sources ss : List (SourceView S)) → SameRows (all_held nodes sources) (all_held ns ss) → length ns ≡ length nodes
  same_count nodes ns sources ss same = same_length ns nodes (λ k. some_mapped (λ (v : NodeView). v.row) (slice_get ns k) (slice_get nodes k) (same.nodes k))

  pub still_of_plan : (nodes ns : List NodeView) (sources ss : List (SourceView S)) → AreOfPlan p nodes sources → SameRows (all_held nodes sources) (all_held ns ss) → AreOfPlan p ns ss
  still_of_plan nodes ns sources ss are same = record {
    node_count = count ∙ are.node_count;
    source_count = same_length ss sources (λ j. some_mapped (λ (v : SourceView S). v.row) (slice_get ss j) (slice_get sources j) (at j)) ∙ are.source_count;
    rows = rows_still (all_held nodes sources) (all_held ns ss) same are.rows;
  } where
    count : length ns ≡ length nodes
    count = same_count nodes ns sources ss same

    at : (j : ℕ) → option_map (λ (v : SourceView S). v.row) (slice_get ss j) ≡ option_map (λ (v : SourceView S). v.row) (slice_get sources j)
    at j = ap (λ (o : Option (SourceView S)). option_map (λ (v : SourceView S). v.row) o) (sym (behind_at (length nodes) ss j) ∙ ap (λ n. source_behind n ss (length nodes + j)) (sym count))
        ∙ (same.sources (length nodes + j) ∙ ap (λ (o : Option (SourceView S)). option_map (λ (v : SourceView S). v.row) o) (behind_at (length nodes) sources j))

  pub few_counts : (nodes : List NodeView) (sources : List (SourceView S)) (limit : ℕ) → limit + 256 ≤ 2 ^ 62 → AreAtMost nodes limit → FewCounts (all_held nodes sources)
  few_counts nodes sources limit low few k v e = (let a = few.seeds k v e in omega (arith, a, low), let b = few.gives k v e in omega (arith, b, low))
