-- Seeds that are read from files, one for each node, and the least one that is too short.
use Rattle.std.proofs.Common.{◌≡◌, ◌≤◌, ◌<◌, ◌+◌, ◌++◌, ◌∷◌, ◌∙◌, ℕ, List, [], zero, suc, length, length-append, take, refl, sym, ap, subst, inl, inr, arith}
use Rattle.std.specs.Prelude.{Option, Some, None, option_map, slice_get, unwrap_or}
use Rattle.std.proofs.lemmas.Bool.{cases_lt}
use Rattle.std.proofs.lemmas.List.{length-take, take_all, take-append-le}
use Rattle.rbg_nodes.specs.declared.node.SeedShort.{SeedShort}
use Rattle.rbg_nodes.specs.Node.{New, seed_len}
use Rattle.rbg_nodes.specs.Views.{row_of, short_by, too_short}
use Rattle.tree_config.specs.Tree.{Tree}
use Rattle.tree_config.specs.declared.plan.NodePlan.{NodePlan}
use Rattle.tree_rules.specs.Slots.{no_node, node_row}
use Rattle.tree_core.specs.Solo.{AreLong, seed_in}
use Rattle.rbgtree.specs.declared.status.Status.{Status}
use Rattle.rbgtree.specs.declared.status.Status.TheVariants as statuses
use Rattle.rbgtree.specs.Files.{Entries, BeginsFile, IsWholeFile}
use Rattle.rbgtree.specs.Seeds.{IsFront, IsSeedOf, AreSeeds}
use Rattle.rbgtree.specs.Trees.{IsShort}

-- what was read of a file is a front of it, or all
pub front_read : (files : Option Entries) (name front : List ℕ) (need have : ℕ) → length front ≡ need → have ≤ need → (have ≡ need → BeginsFile files name front)
    → (have < need → IsWholeFile files name (take have front)) → IsFront files name need (take have front)
front_read files name front need have len most full short = elim (cases_lt have need) [
  | inl less ↦ inr (omega (arith, less, length-take have front), short less)
  | inr all ↦
      let same : have ≡ need = omega (arith, most, all) in
      let whole : take have front ≡ front = take_all have front (omega (arith, same, len)) in
      inl (omega (arith, length-take have front, same, len), subst (λ (x : List ℕ). BeginsFile files name x) (sym whole) (full same))
]

pub taken_back : (front rest : List ℕ) (n : ℕ) → length front ≡ n → take n (front ++ rest) ≡ front
taken_back front rest n len = take-append-le n front rest (omega (arith, len)) ∙ take_all n front (omega (arith, len))

seed_before : (xs : List (List ℕ)) (x : List ℕ) (k : ℕ) → k < length xs → seed_in (xs ++ x ∷ []) k ≡ seed_in xs k
seed_before [] x k less = absurd (omega (arith, less))
seed_before (y ∷ xs) x zero less = refl
seed_before (y ∷ xs) x (suc k) less = seed_before xs x k (omega (arith, less))

seed_last : (xs : List (List ℕ)) (x : List ℕ) → seed_in (xs ++ x ∷ []) (length xs) ≡ x
seed_last [] x = refl
seed_last (y ∷ xs) x = seed_last xs x

-- the seeds of the first nodes
pub record AreFirst (files : Option Entries) (file : NodePlan → Option (List ℕ)) (nodes : List NodePlan) (n : ℕ) (seeds : List (List ℕ)) : Type 0 where
  pub count : length seeds ≡ n
  pub each : (k : ℕ) (plan : NodePlan) → k < n → slice_get nodes k ≡ Some plan → IsSeedOf files (file plan) plan (seed_in seeds k)

pub one_first : (files : Option Entries) (file : NodePlan → Option (List ℕ)) (nodes : List NodePlan) (n : ℕ) (seeds : List (List ℕ)) (seed : List ℕ) (plan : NodePlan) → AreFirst files file nodes n seeds
    → slice_get nodes n ≡ Some plan → IsSeedOf files (file plan) plan seed → AreFirst files file nodes (n + 1) (seeds ++ seed ∷ [])
one_first files file nodes n seeds seed plan first at is = record {
  count = count seeds first.count;
  each = λ k other less there. elim (cases_lt k n) [
    | inl low ↦
        let before : seed_in (seeds ++ seed ∷ []) k ≡ seed_in seeds k = seed_before seeds seed k (let c = first.count in omega (arith, low, c)) in
        subst (λ (s : List ℕ). IsSeedOf files (file other) other s) (sym before) (first.each k other low there)
    | inr ge ↦
        let last : length seeds ≡ k = (let c = first.count in omega (arith, less, ge, c)) in
        let here : n ≡ k = omega (arith, less, ge) in
        let same : plan ≡ other = ap (λ (o : Option NodePlan). unwrap_or o plan) (sym at ∙ (ap (slice_get nodes) here ∙ there)) in
        let seed_is : seed_in (seeds ++ seed ∷ []) k ≡ seed = ap (seed_in (seeds ++ seed ∷ [])) (sym last) ∙ seed_last seeds seed in
        subst (λ (s : List ℕ). IsSeedOf files (file other) other s) (sym seed_is) (subst (λ (p : NodePlan). IsSeedOf files (file p) p seed) same is)
  ];
} where
  count : (seeds : List (List ℕ)) → length seeds ≡ n → length (seeds ++ seed ∷ []) ≡ n + 1
  count seeds is = omega (arith, is, length-append seeds (seed ∷ []))

within : {A : Type 0} (xs : List A) (k : ℕ) (x : A) → slice_get xs k ≡ Some x → k < length xs
within [] k x h = absurd cc
within (y ∷ xs) zero x h = omega arith
within (y ∷ xs) (suc k) x h = omega (arith, within xs k x h)

pub all_first : (files : Option Entries) (file : NodePlan → Option (List ℕ)) (nodes : List NodePlan) (n : ℕ) (seeds : List (List ℕ)) → AreFirst files file nodes n seeds → length nodes ≡ n
    → AreSeeds files file nodes seeds
all_first files file nodes n seeds first all = record {
  count = first.count ∙ sym all;
  each = λ k plan at. first.each k plan (omega (arith, all, within nodes k plan at)) at;
}

abbrev pub ended : ℕ → SeedShort → Status
ended n s = statuses.SeedShort n s.have s.need

module _ (p : Tree) (seeds : List (List ℕ)) (n have : ℕ) (planned : NodePlan) (at : slice_get p.nodes n ≡ Some planned) (seed : length (seed_in seeds n) ≡ have) (before : AreLong p seeds n) where
  row : node_row p n ≡ row_of planned
  row = ap (λ (o : Option NodePlan). row_of (unwrap_or o no_node)) at

  is : too_short (node_row p n) (seed_in seeds n) ≡ short_by planned.kind (seed_len (row_of planned) New) have
  is = ap (λ (r : _). too_short r (seed_in seeds n)) row ∙ ap (λ (m : ℕ). short_by planned.kind (seed_len (row_of planned) New) m) seed

  no_short : (o : Option SeedShort) → option_map (ended n) o ≡ None → o ≡ None
  no_short None h = refl
  no_short (Some s) h = absurd cc

  pub long_more : option_map (ended n) (short_by planned.kind (seed_len (row_of planned) New) have) ≡ None → AreLong p seeds (n + 1)
  long_more none k less = elim (cases_lt k n) [
    | inl low ↦ before k low
    | inr ge ↦
        let here : n ≡ k = omega (arith, less, ge) in
        subst (λ (k : ℕ). too_short (node_row p k) (seed_in seeds k) ≡ None) here (is ∙ no_short _ none)
  ]

  pub short_here : (status : Status) → option_map (ended n) (short_by planned.kind (seed_len (row_of planned) New) have) ≡ Some status → IsShort p seeds status
  short_here status some = by (short_by planned.kind (seed_len (row_of planned) New) have) is some where
    by : (o : Option SeedShort) → too_short (node_row p n) (seed_in seeds n) ≡ o → option_map (ended n) o ≡ Some status → IsShort p seeds status
    by None e h = absurd cc
    by (Some s) e h =
        let same : ended n s ≡ status = ap (λ (o : Option Status). unwrap_or o status) h in
        subst (IsShort p seeds) same (within p.nodes n planned at, e, before)
