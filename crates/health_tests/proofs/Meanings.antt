-- What the tests at a place say, sample by sample.
use Rattle.std.proofs.Common.{◌≡◌, ℕ, ◌+◌, ◌-◌, ◌*◌, ◌<◌, ◌≤◌, Bool, true, List, length, drop, get_or, sym, ap, ◌∙◌, arith, length-take, length-drop}
use Rattle.std.specs.Prelude.{◌==◌, ◌&&◌, ◌↔◌, nat_le, slice_index, slice_range, IsTrue}
use Rattle.std.specs.List.{list_all, AllPass}
use Rattle.std.proofs.lemmas.List.{get_or-take, get_or-drop, get_or_default}
use Rattle.std.proofs.lemmas.List.Sums.{AllPass-from_list_all, list_all-from_AllPass}
use Rattle.std.proofs.lemmas.Nat.{div-mul-add}
use Rattle.std.proofs.lemmas.Bool.{and_parts, and_from, leb-true, le-leb, eqb-true, eq-eqb}
use Rattle.health_tests.specs.Windows.{repeats, window_start}

-- a window has the places from its start on
pub start_of_window : (w n r : ℕ) → r < w → window_start w (n * w + r) ≡ n * w
start_of_window w n r h = ap (λ q. q * w) (div-mul-add n w r h)

-- the samples of the range of c places that ends at k
range_at : (c : ℕ) (x : List ℕ) (k i d : ℕ) → c ≤ k + 1 → k < length x → i < c → get_or (slice_range x (k + 1 - c) (k + 1)) i d ≡ slice_index x (k + 1 - c + i)
range_at c x k i d a b h =
    get_or-take (k + 1 - (k + 1 - c)) (drop (k + 1 - c) x) i d (omega arith)
    ∙ (get_or-drop (k + 1 - c) x i d ∙ get_or_default x (k + 1 - c + i) d 0 (omega arith))

range_len : (c : ℕ) (x : List ℕ) (k : ℕ) → c ≤ k + 1 → k < length x → length (slice_range x (k + 1 - c) (k + 1)) ≡ c
range_len c x k a b = omega (arith, length-take (k + 1 - (k + 1 - c)) (drop (k + 1 - c) x), length-drop (k + 1 - c) x)

pub repeats_means : (c : ℕ) (x : List ℕ) (k : ℕ) → k < length x
    → IsTrue (repeats c x k) ↔ ((c ≤ k + 1) × ((j : ℕ) → j < c → slice_index x (k - j) ≡ slice_index x k))
unfolding repeats
repeats_means c x k h = (forth, λ (a, each). and_from (nat_le c (k + 1)) (list_all like (slice_range x (k + 1 - c) (k + 1))) (le-leb c (k + 1) a) (list_all-from_AllPass like (slice_range x (k + 1 - c) (k + 1)) (back a each))) where
  like : ℕ → Bool
  like s = s == slice_index x k

  forth : (nat_le c (k + 1) && list_all like (slice_range x (k + 1 - c) (k + 1))) ≡ true
      → (c ≤ k + 1) × ((j : ℕ) → j < c → slice_index x (k - j) ≡ slice_index x k)
  forth t = by (and_parts (nat_le c (k + 1)) (list_all like (slice_range x (k + 1 - c) (k + 1))) t) where
    by : (nat_le c (k + 1) ≡ true) × (list_all like (slice_range x (k + 1 - c) (k + 1)) ≡ true)
        → (c ≤ k + 1) × ((j : ℕ) → j < c → slice_index x (k - j) ≡ slice_index x k)
    by (some, all) =
        let a = leb-true c (k + 1) some in (
          a,
          λ j l.
              let i = c - 1 - j in
              let place : k + 1 - c + i ≡ k - j = omega arith in
              let within : i < c = omega arith in
              let same = AllPass-from_list_all like (slice_range x (k + 1 - c) (k + 1)) all i 0 (omega (arith, range_len c x k a h)) in
              ap (slice_index x) (sym place) ∙ (sym (range_at c x k i 0 a h within) ∙ eqb-true (get_or (slice_range x (k + 1 - c) (k + 1)) i 0) (slice_index x k) same),
        )

  back : c ≤ k + 1 → ((j : ℕ) → j < c → slice_index x (k - j) ≡ slice_index x k) → AllPass like (slice_range x (k + 1 - c) (k + 1))
  back a each i d l =
      let within : i < c = omega (arith, range_len c x k a h) in
      let place : k + 1 - c + i ≡ k - (c - 1 - i) = omega arith in
      eq-eqb (get_or (slice_range x (k + 1 - c) (k + 1)) i d) (slice_index x k)
      (range_at c x k i d a h within ∙ (ap (slice_index x) place ∙ each (c - 1 - i) (omega arith)))
