-- One more node, or source, of a plan that is opened; and the states in which they all stand.
use Rattle.std.proofs.Common.{◌≡◌, ◌∙◌, ◌<◌, ◌+◌, ◌++◌, ◌∷◌, ℕ, List, [], suc, length, map, refl, sym, ap, subst, arith, inl, inr, length-append, get_or}
use Rattle.std.specs.Prelude.{◌⊎◌, Option, Some, None, MatchOption, Result, Ok, Err, slice_get, unwrap_or, get_or}
use Rattle.std.specs.Option.{option_map}
use Rattle.std.proofs.lemmas.Bool.{cases_lt}
use Rattle.std.proofs.lemmas.Option.{slice_get-map, slice_get_within, get_or_from_slice_get, slice_get-get_or, slice_get_read}
use Rattle.std.proofs.Math.ListN.{get_or-append}
use Rattle.std.proofs.Math.Seq.{get_or-append_seam}
use Rattle.health_tests.specs.Numbers.{no_tail}
use Rattle.tree_config.specs.Tree.{Tree}
use Rattle.tree_config.specs.declared.plan.NodePlan.{NodePlan}
use Rattle.entropy_source.specs.Views.{opened_view}
use Rattle.rbg_nodes.specs.declared.node.SeedShort.{SeedShort}
use Rattle.rbg_nodes.specs.Node.{fresh_node, kept_seed}
use Rattle.rbg_nodes.specs.Views.{NodeView, row_of, too_short}
use Rattle.tree_rules.specs.Slots.{no_node, node_row, source_row}
use Rattle.tree_core.specs.Fresh.{AreFresh, sources_from}
use Rattle.tree_core.specs.Solo.{seed_in}

-- an item of a list with one more
pub one_more : {A : Type 0} (xs : List A) (x : A) (k : ℕ) (v : A) → slice_get (xs ++ x ∷ []) k ≡ Some v → (slice_get xs k ≡ Some v) ⊎ ((k ≡ length xs) × (v ≡ x))
one_more {A} xs x k v e =
    let low = slice_get_within (xs ++ x ∷ []) k v e in
    let len : length (xs ++ x ∷ []) ≡ length xs + 1 = length-append xs (x ∷ []) in
    let is : get_or (xs ++ x ∷ []) k v ≡ v = get_or_from_slice_get (xs ++ x ∷ []) k v v e in
    elim (cases_lt k (length xs)) [
      | inl less ↦ inl (slice_get-get_or xs k v less ∙ ap Some (sym (get_or-append xs (x ∷ []) v k less) ∙ is))
      | inr ge ↦ (let at : k ≡ length xs = omega (arith, low, len, ge) in
          inr (at, sym is ∙ (ap (λ (i : ℕ). get_or (xs ++ x ∷ []) i v) at ∙ get_or-append_seam xs x [] v)))
    ]

module _ (p : Tree) (seeds : List (List ℕ)) (n : ℕ) (nodes : List NodeView) (fresh : AreFresh p seeds n nodes) (planned : NodePlan) (at : slice_get p.nodes n ≡ Some planned)
    (seed : List ℕ) (is : seed_in seeds n ≡ seed) where
  row : row_of planned ≡ node_row p n
  row = sym (ap (λ (o : Option NodePlan). row_of (unwrap_or o no_node)) at)

  pub one_fresh : (v : NodeView) (result : Result NodeView SeedShort) → result ≡ Ok v
      → MatchOption (too_short (row_of planned) seed) (result ≡ Ok (record { row = row_of planned; state = fresh_node (kept_seed (row_of planned) seed) })) (λ short. result ≡ Err short)
      → AreFresh p seeds (n + 1) (nodes ++ v ∷ [])
  one_fresh v result ok m = by (too_short (row_of planned) seed) refl m where
    by : (o : Option SeedShort) → too_short (row_of planned) seed ≡ o
        → MatchOption o (result ≡ Ok (record { row = row_of planned; state = fresh_node (kept_seed (row_of planned) seed) })) (λ short. result ≡ Err short)
        → AreFresh p seeds (n + 1) (nodes ++ v ∷ [])
    by (Some short) e f = cc
    by None e f = record {
      len = length-append nodes (v ∷ []) ∙ ap (λ k. k + 1) fresh.len;
      long = λ k low. elim (cases_lt k n) [
        | inl less ↦ fresh.long k less
        | inr ge ↦ (let same : n ≡ k = omega (arith, low, ge) in
            subst (λ (k : ℕ). too_short (node_row p k) (seed_in seeds k) ≡ None) same (ap (λ z. too_short (node_row p n) z) is ∙ (ap (λ r. too_short r seed) (sym row) ∙ e)))
      ];
      at = λ k w g. elim (one_more nodes v k w g) [
        | inl old ↦ fresh.at k w old
        | inr (last, new) ↦ (let same : n ≡ k = (let len = fresh.len in omega (arith, last, len)) in
            let view : v ≡ record { row = row_of planned; state = fresh_node (kept_seed (row_of planned) seed) } = cc in
            subst (λ (k : ℕ). w ≡ record { row = node_row p k; state = fresh_node (kept_seed (node_row p k) (seed_in seeds k)) }) same
            (new ∙ (view ∙ (ap (λ (r : _). record { row = r; state = fresh_node (kept_seed r seed) }) row
            ∙ ap (λ z. record { row = node_row p n; state = fresh_node (kept_seed (node_row p n) z) }) (sym is)))))
      ];
    }

-- the seed of a node among those that were given
pub seed_of : {A : Type 0} (f : A → List ℕ) (seeds : List A) (n : ℕ) (x : A) → n < length seeds → x ≡ get_or seeds n x → seed_in (map f seeds) n ≡ f x
seed_of f seeds n x low is = ap (λ (o : Option (List ℕ)). unwrap_or o []) (slice_get-map f seeds n ∙ ap (λ o. option_map f o) (slice_get_read seeds (length seeds) n x refl low is))

-- one more source
pub one_opened : {S : Type 0} (p : Tree) (j : ℕ) (xs : List S) (s : S) → sources_from p j (xs ++ s ∷ []) ≡ sources_from p j xs ++ opened_view (source_row p (j + length xs)) no_tail s ∷ []
one_opened p j [] s = let e : j + 0 ≡ j = omega arith in ap (λ k. opened_view (source_row p k) no_tail s ∷ []) (sym e)
one_opened p j (x ∷ xs) s =
    let e : suc j + length xs ≡ j + length (x ∷ xs) = omega arith in
    ap (λ z. opened_view (source_row p j) no_tail x ∷ z) (one_opened p (suc j) xs s ∙ ap (λ k. sources_from p (suc j) xs ++ opened_view (source_row p k) no_tail s ∷ []) e)
