-- Different numbers of a list are no more than the list has, and what that says of paths.
use Rattle.std.proofs.Common.{◌≡◌, ◌∙◌, ◌∷◌, ◌<◌, ◌≤◌, ℕ, suc, List, [], Bool, true, false, length, refl, sym, ap, subst, arith, eq-eqb, eqb-true}
use Rattle.std.specs.Prelude.{◌==◌, ◌||◌, if◌then◌else◌, nat_lt}
use Rattle.tree_config.specs.Tree.{Tree}
use Rattle.tree_config.specs.declared.plan.Origin.{Origin}
use Rattle.tree_config.specs.declared.plan.Origin.TheVariants.{Parent, SeedFile, Source}
use Rattle.tree_rules.specs.History.{Distinct, has}
use Rattle.tree_rules.specs.Slots.{lineage, node_plan, path, slots_of_origin, source_slot, with_source}
use Rattle.tree_rules.proofs.Near.{has_first, has_rest, or_more}

-- a list without the first of this number
abbrev drop_one : ℕ → List ℕ → List ℕ
drop_one k [] = []
drop_one k (x ∷ xs) = if x == k then xs else x ∷ drop_one k xs

dropped_len : (k : ℕ) (xs : List ℕ) → has xs k ≡ true → suc (length (drop_one k xs)) ≡ length xs
dropped_len k [] h = cc
dropped_len k (x ∷ xs) h = by (x == k) (λ i. dropped_len k xs i) h where
  by : (b : Bool) → (has xs k ≡ true → suc (length (drop_one k xs)) ≡ length xs) → (b || has xs k) ≡ true
      → suc (length (if b then xs else x ∷ drop_one k xs)) ≡ suc (length xs)
  by true ih h = refl
  by false ih h = ap suc (ih h)

-- every other number stays
dropped_has : (k j : ℕ) (xs : List ℕ) → (j == k) ≡ false → has xs j ≡ true → has (drop_one k xs) j ≡ true
dropped_has k j [] other h = h
dropped_has k j (x ∷ xs) other h = by (x == k) refl (λ i. dropped_has k j xs other i) h where
  first : x ≡ k → (b : Bool) → (x == j) ≡ b → (b || has xs j) ≡ true → has xs j ≡ true
  first is true at h = let same : (j == k) ≡ true = eq-eqb j k (sym (eqb-true x j at) ∙ is) in cc
  first is false at h = h

  by : (b : Bool) → (x == k) ≡ b → (has xs j ≡ true → has (drop_one k xs) j ≡ true) → ((x == j) || has xs j) ≡ true
      → has (if b then xs else x ∷ drop_one k xs) j ≡ true
  by true is ih h = first (eqb-true x k is) (x == j) refl h
  by false is ih h = or_more (x == j) (has xs j) (has (drop_one k xs) j) ih h

other_than : (k j : ℕ) (ks : List ℕ) → has ks k ≡ false → has ks j ≡ true → (j == k) ≡ false
other_than k j ks off on = by (j == k) refl where
  by : (b : Bool) → (j == k) ≡ b → b ≡ false
  by false is = refl
  by true is = let same : has ks k ≡ true = subst (λ z. has ks z ≡ true) (eqb-true j k is) on in cc

pub few_among : (ks xs : List ℕ) → Distinct ks → ((k : ℕ) → has ks k ≡ true → has xs k ≡ true) → length ks ≤ length xs
few_among [] xs d all = omega arith
few_among (k ∷ ks) xs (off, d) all =
    let len = dropped_len k xs (all k (has_first k ks)) in
    let rest = few_among ks (drop_one k xs) d (λ j on. dropped_has k j xs (other_than k j ks off on) (all j (has_rest k ks j on))) in
    omega (arith, len, rest)

-- a node on a path is one of its nodes, and not its source
on_nodes : (p : Tree) (o : Origin) (k : ℕ) → k < length p.nodes → has (slots_of_origin p o) k ≡ true → ⊥
on_nodes p (Source j) k low h = by (source_slot p j == k) refl h where
  by : (b : Bool) → (source_slot p j == k) ≡ b → (b || false) ≡ true → ⊥
  by true is h = let same = eqb-true (source_slot p j) k is in absurd (omega (arith, same, low))
  by false is h = cc
on_nodes p (SeedFile name) k low h = cc
on_nodes p (Parent q) k low h = cc

node_among : (p : Tree) (ns : List ℕ) (k : ℕ) → k < length p.nodes → has (with_source p ns) k ≡ true → has ns k ≡ true
node_among p [] k low h = h
node_among p (n ∷ []) k low h =
    or_more (n == k) (has (slots_of_origin p (node_plan p n).origin) k) false (λ i. absurd (on_nodes p (node_plan p n).origin k low i)) h
node_among p (n ∷ m ∷ up) k low h = or_more (n == k) (has (with_source p (m ∷ up)) k) (has (m ∷ up) k) (λ i. node_among p (m ∷ up) k low i) h

-- where a path has eight nodes at most, so many different nodes of it are eight at most
pub eight : (p : Tree) (t : ℕ) → length (lineage p t) ≤ 8 → (ks : List ℕ) → Distinct ks
    → ((k : ℕ) → has ks k ≡ true → (k < length p.nodes) × (has (path p t) k ≡ true)) → length ks ≤ 8
eight p t few ks d all = by (nat_lt t (length p.nodes)) (λ k h. (all k h).1) where
  by : (b : Bool) → ((k : ℕ) → has ks k ≡ true → has (if b then with_source p (lineage p t) else t ∷ []) k ≡ true) → length ks ≤ 8
  by true on = let i = few_among ks (lineage p t) d (λ k h. node_among p (lineage p t) k (all k h).0 (on k h)) in omega (arith, i, few)
  by false on = let i = few_among ks (t ∷ []) d on in omega (arith, i)
