-- The lists of the opening calls, one call longer; they are few.
use Rattle.std.proofs.Common.{◌≡◌, ◌≢◌, ◌∙◌, ◌≤◌, ◌+◌, ◌*◌, ◌++◌, ◌∷◌, ℕ, List, [], zero, suc, length, map, Bool, true, false, refl, sym, ap, arith, length-append, append_assoc, append-nil, suc-mul}
use Rattle.std.specs.Prelude.{◌==◌, filter, flat_map, not, take, get_or, ◌<◌, if◌then◌else◌}
use Rattle.std.specs.List.{range_with_len}
use Rattle.std.proofs.lemmas.Bool.Decides.{nat_tests}
use Rattle.std.proofs.lemmas.List.FromFn.{length-range_with_len, length-map-range_with_len}
use Rattle.std.proofs.lemmas.List.Elements.{filter-append}
use Rattle.std.proofs.lemmas.List.{length-map, map-append}
use Rattle.std.proofs.lemmas.List.Filters.{length-filter_both}
use Rattle.std.proofs.lemmas.List.Concat.{flat_map-cons}
use Rattle.std.proofs.lemmas.Grind.{flat_map-append}
use Rattle.tree_config.specs.Tree.{Tree}
use Rattle.tree_config.specs.Planned.{IsPlanned}
use Rattle.tree_rules.specs.declared.call.Call.{Call}
use Rattle.tree_rules.specs.declared.call.Call.TheVariants.{Instantiate, Start}
use Rattle.tree_rules.specs.Openings.{depth, opening_calls}
use Rattle.tree_core.specs.Opened.{calls_at, one_at}

range_more : (a n : ℕ) → range_with_len a (suc n) ≡ range_with_len a n ++ (a + n) ∷ []
range_more a zero = let e : a + 0 ≡ a = omega arith in ap (λ k. k ∷ []) (sym e)
range_more a (suc n) =
    let e : a + 1 + n ≡ a + suc n = omega arith in
    ap (λ z. a ∷ z) (range_more (a + 1) n ∙ ap (λ k. range_with_len (a + 1) n ++ k ∷ []) e)

pub range_next : (n : ℕ) → range_with_len 0 (n + 1) ≡ range_with_len 0 n ++ n ∷ []
range_next n =
    let e : n + 1 ≡ suc n = omega arith in let z : 0 + n ≡ n = omega arith in
    ap (λ k. range_with_len 0 k) e ∙ (range_more 0 n ∙ ap (λ k. range_with_len 0 n ++ k ∷ []) z)

pub starts_next : (n : ℕ) → map (λ (j : ℕ). Start j) (range_with_len 0 (n + 1)) ≡ map (λ (j : ℕ). Start j) (range_with_len 0 n) ++ Start n ∷ []
starts_next n = ap (λ z. map (λ (j : ℕ). Start j) z) (range_next n) ∙ map-append (λ (j : ℕ). Start j) (range_with_len 0 n) (n ∷ [])

-- one node more, and one depth more
module _ (p : Tree) where
  abbrev at_depth : ℕ → List ℕ → List ℕ
  at_depth d ns = filter (λ n. depth p n == d) ns

  pub nodes_next : (before : List Call) (d n : ℕ)
      → (before ++ map (λ (n : ℕ). Instantiate n 0) (at_depth d (range_with_len 0 n))) ++ one_at p d n ≡ before ++ map (λ (n : ℕ). Instantiate n 0) (at_depth d (range_with_len 0 (n + 1)))
  nodes_next before d n =
      append_assoc before (map (λ (n : ℕ). Instantiate n 0) (at_depth d (range_with_len 0 n))) (one_at p d n)
      ∙ ap (λ z. before ++ z) (sym (ap (λ ns. map (λ (n : ℕ). Instantiate n 0) (at_depth d ns)) (range_next n)
      ∙ (ap (λ ns. map (λ (n : ℕ). Instantiate n 0) ns) (filter-append (λ n. depth p n == d) (range_with_len 0 n) (n ∷ []))
      ∙ map-append (λ (n : ℕ). Instantiate n 0) (at_depth d (range_with_len 0 n)) (at_depth d (n ∷ [])))))

  abbrev up_to : ℕ → List ℕ
  up_to d = flat_map (λ d. at_depth (d + 1) (range_with_len 0 (length p.nodes))) (range_with_len 0 d)

  pub depths_next : (before : List Call) (d : ℕ)
      → (before ++ map (λ (n : ℕ). Instantiate n 0) (up_to d)) ++ calls_at p (d + 1) ≡ before ++ map (λ (n : ℕ). Instantiate n 0) (up_to (d + 1))
  depths_next before d =
      append_assoc before (map (λ (n : ℕ). Instantiate n 0) (up_to d)) (calls_at p (d + 1))
      ∙ ap (λ z. before ++ z) (sym (ap (λ ds. map (λ (n : ℕ). Instantiate n 0) (flat_map (λ d. at_depth (d + 1) (range_with_len 0 (length p.nodes))) ds)) (range_next d)
      ∙ (ap (λ ns. map (λ (n : ℕ). Instantiate n 0) ns) (flat_map-append (λ d. at_depth (d + 1) (range_with_len 0 (length p.nodes))) (range_with_len 0 d) (d ∷ []))
      ∙ (map-append (λ (n : ℕ). Instantiate n 0) (up_to d) (flat_map (λ d. at_depth (d + 1) (range_with_len 0 (length p.nodes))) (d ∷ []))
      ∙ ap (λ z. map (λ (n : ℕ). Instantiate n 0) (up_to d) ++ map (λ (n : ℕ). Instantiate n 0) z) (append-nil (at_depth (d + 1) (range_with_len 0 (length p.nodes))))))))

filter_few : (f : ℕ → Bool) (xs : List ℕ) → length (filter f xs) ≤ length xs
filter_few f xs = let e = length-filter_both f (λ x. not (f x)) (λ x. refl) xs in omega (arith, e)

flat_few : (f : ℕ → List ℕ) (most : ℕ) → ((x : ℕ) → length (f x) ≤ most) → (xs : List ℕ) → length (flat_map f xs) ≤ length xs * most
flat_few f most few [] = omega arith
flat_few f most few (x ∷ xs) =
    let e : length (flat_map f (x ∷ xs)) ≡ length (f x) + length (flat_map f xs) = ap (λ (z : List ℕ). length z) (flat_map-cons f x xs) ∙ length-append (f x) (flat_map f xs) in
    let a = few x in let b = flat_few f most few xs in
    let m : suc (length xs) * most ≡ length xs * most + most = suc-mul (length xs) most in
    omega (arith, a, b, e, m)

pub calls_few : (p : Tree) → IsPlanned 0 p → length (opening_calls p) ≤ 4096
calls_few p range = by p.opens_all where
  all : List ℕ
  all = range_with_len 0 (length p.nodes)

  nodes : List ℕ
  nodes = flat_map (λ d. filter (λ n. depth p n == d + 1) all) all

  few_nodes : length nodes ≤ 63 * 63
  few_nodes =
      let len : length all ≡ length p.nodes = length-range_with_len 0 (length p.nodes) in
      let low = range.few_nodes in
      let a = flat_few (λ d. filter (λ n. depth p n == d + 1) all) 63 (λ d. (let b = filter_few (λ n. depth p n == d + 1) all in omega (arith, b, len, low))) all in
      omega (arith, a, len, low)

  by : (b : Bool) → length (if b then map (λ (j : ℕ). Start j) (range_with_len 0 (length p.sources)) ++ map (λ (n : ℕ). Instantiate n 0) nodes else []) ≤ 4096
  by false = omega arith
  by true =
      let a : length (map (λ (j : ℕ). Start j) (range_with_len 0 (length p.sources))) ≡ length p.sources = length-map-range_with_len (λ (j : ℕ). Start j) 0 (length p.sources) in
      let b : length (map (λ (n : ℕ). Instantiate n 0) nodes) ≡ length nodes = length-map nodes (λ (n : ℕ). Instantiate n 0) in
      let e = length-append (map (λ (j : ℕ). Start j) (range_with_len 0 (length p.sources))) (map (λ (n : ℕ). Instantiate n 0) nodes) in
      let low = range.few_sources in let few = few_nodes in
      omega (arith, a, b, e, low, few)

pub take_whole : {A : Type 0} (xs : List A) (n : ℕ) → length xs ≤ n → take n xs ≡ xs
take_whole [] zero l = refl
take_whole [] (suc n) l = refl
take_whole (x ∷ xs) zero l = absurd (omega arith)
take_whole (x ∷ xs) (suc n) l = ap (λ z. x ∷ z) (take_whole xs n (omega (arith, l)))

take_suc : {A : Type 0} (xs : List A) (n : ℕ) (d : A) → n < length xs → take (suc n) xs ≡ take n xs ++ get_or xs n d ∷ []
take_suc [] n d l = absurd (omega (arith, l))
take_suc (x ∷ xs) zero d l = refl
take_suc (x ∷ xs) (suc n) d l = ap (λ z. x ∷ z) (take_suc xs n d (omega (arith, l)))

pub take_next : {A : Type 0} (xs : List A) (n : ℕ) (d : A) → n < length xs → take (n + 1) xs ≡ take n xs ++ get_or xs n d ∷ []
take_next xs n d l = let e : n + 1 ≡ suc n = omega arith in ap (λ k. take k xs) e ∙ take_suc xs n d l

-- a node that stands so deep, and one that doesn't
pub one_some : (p : Tree) (d n : ℕ) → depth p n ≡ d → one_at p d n ≡ Instantiate n 0 ∷ []
one_some p d n e = let b : (depth p n == d) ≡ true = grind (arith, nat_tests) in rw b refl

pub one_none : (p : Tree) (d n : ℕ) (calls : List Call) → depth p n ≢ d → calls ≡ calls ++ one_at p d n
one_none p d n calls e = let b : (depth p n == d) ≡ false = grind (arith, nat_tests) in rw b (sym (append-nil calls))
