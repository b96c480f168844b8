-- The five numbers of a list with one sample more are those of the list, stepped.
use Rattle.std.proofs.Common.{◌≡◌, ◌≢◌, ℕ, zero, suc, ◌+◌, ◌-◌, ◌%◌, ◌<◌, ◌≤◌, Bool, true, false, cond, List, [], ◌∷◌, ◌++◌, length, drop, refl, sym, ap, ◌∙◌, arith, add-one, zero-add, append_assoc, append-nil}
use Rattle.std.specs.Prelude.{◌==◌, slice_index, count_by}
use Rattle.std.specs.List.{suffix_len}
use Rattle.std.proofs.Math.Nat.{suc-mod, mod-zero, zero-mod, mod_self, mod-eq_of_lt}
use Rattle.std.proofs.lemmas.Nat.{div-add-mod', mod_below}
use Rattle.std.proofs.lemmas.List.{length_push, get_or_push, get_or_append_left, drop_at, drop_all, drop-append-le}
use Rattle.std.proofs.lemmas.List.Sums.{sum_by_push}
use Rattle.std.proofs.lemmas.Bool.{eq-eqb, eqb-true, eqb-false}
use Rattle.health_tests.specs.declared.numbers.Tail.{Tail}
use Rattle.health_tests.specs.Windows.{window_start}
use Rattle.health_tests.specs.Numbers.{no_tail, tail_of, tail_step, tail_after}
use Rattle.health_tests.proofs.Runs.{run_more}

-- the place in its window, one sample further
place_more : (w n : ℕ) → (n + 1) % w ≡ cond (n % w + 1 == w) 0 (n % w + 1)
place_more w n = ap (λ k. k % w) (add-one n) ∙ (suc-mod n w ∙ (ap (λ k. k % w) (sym (add-one (n % w))) ∙ by (n % w + 1 == w) refl)) where
  below : (v : ℕ) → (n % v + 1 ≡ v → ⊥) → (n % v + 1) % v ≡ n % v + 1
  below zero h = mod-zero (n % 0 + 1)
  below (suc v) h = mod-eq_of_lt (omega (arith, mod_below n (suc v)))

  by : (b : Bool) → (n % w + 1 == w) ≡ b → (n % w + 1) % w ≡ cond b 0 (n % w + 1)
  by true h = ap (λ k. k % w) (eqb-true (n % w + 1) w h) ∙ mod_self w
  by false h = below w (eqb-false (n % w + 1) w h)

-- a window that is not full goes on
same_start : (w n : ℕ) → n % w ≢ 0 → window_start w n ≡ window_start w (n - 1)
same_start w zero h = absurd (h (zero-mod w))
same_start w (suc m) h =
    let next = by (m % w + 1 == w) (place_more w m) in
    let before : window_start w (suc m) ≡ window_start w m = omega (arith, next, div-add-mod' (suc m) w, div-add-mod' m w) in
    let place : m ≡ suc m - 1 = omega arith in
    before ∙ ap (window_start w) place where
      by : (b : Bool) → (m + 1) % w ≡ cond b 0 (m % w + 1) → suc m % w ≡ m % w + 1
      by true e = absurd (h (ap (λ k. k % w) (sym (add-one m)) ∙ e))
      by false e = ap (λ k. k % w) (sym (add-one m)) ∙ e

-- a window that is full has the next one begin
next_start : (w n : ℕ) → n % w ≡ 0 → window_start w n ≡ n
next_start w n h = omega (arith, div-add-mod' n w)

start_before : (w n : ℕ) → window_start w n ≤ n
start_before w n = omega (arith, div-add-mod' n w)

same_tail : (a b : Tail) → a.last ≡ b.last → a.run ≡ b.run → a.place ≡ b.place → a.first ≡ b.first → a.equal ≡ b.equal → a ≡ b
same_tail a b p q r s t =
    let whole : ℕ → ℕ → ℕ → ℕ → ℕ → Tail = λ l m n o e. record { last = l; run = m; place = n; first = o; equal = e } in
    let same : whole a.last a.run a.place a.first a.equal ≡ whole b.last b.run b.place b.first b.equal = rw (p, q, r, s, t) refl in
    same

begun : (w : ℕ) (x : List ℕ) → length x % w ≢ 0 → window_start w (length x - 1) < length x
begun w x h = by (length x) h where
  by : (n : ℕ) → n % w ≢ 0 → window_start w (n - 1) < n
  by zero h = absurd (h (zero-mod w))
  by (suc m) h = omega (arith, start_before w (suc m - 1))

added : (b : Bool) (n : ℕ) → n + cond b 1 0 ≡ cond b (n + 1) n
added true n = refl
added false n = omega arith

module _ (w : ℕ) (x : List ℕ) (s : ℕ) where
  last_place : length (x ++ s ∷ []) - 1 ≡ length x
  last_place = omega (arith, length_push x s)

  last_is : slice_index (x ++ s ∷ []) (length (x ++ s ∷ []) - 1) ≡ s
  last_is = ap (slice_index (x ++ s ∷ [])) last_place ∙ get_or_push x s 0 (length x) refl

  start_is : window_start w (length (x ++ s ∷ []) - 1) ≡ window_start w (length x)
  start_is = ap (window_start w) last_place

  first_more : slice_index (x ++ s ∷ []) (window_start w (length x))
      ≡ cond (length x % w == 0) s (slice_index x (window_start w (length x - 1)))
  first_more = by (length x % w == 0) refl where
    by : (b : Bool) → (length x % w == 0) ≡ b → slice_index (x ++ s ∷ []) (window_start w (length x))
        ≡ cond b s (slice_index x (window_start w (length x - 1)))
    by true h =
        ap (slice_index (x ++ s ∷ [])) (next_start w (length x) (eqb-true (length x % w) 0 h)) ∙ get_or_push x s 0 (length x) refl
    by false h =
        ap (slice_index (x ++ s ∷ [])) (same_start w (length x) (eqb-false (length x % w) 0 h))
        ∙ get_or_append_left x (s ∷ []) 0 (window_start w (length x - 1)) (begun w x (eqb-false (length x % w) 0 h))

  equal_more : (first : ℕ) → count_by (λ q. q == first) (drop (window_start w (length x)) (x ++ s ∷ []))
      ≡ cond (length x % w == 0) (cond (s == first) 1 0)
      (cond (s == first) (count_by (λ q. q == first) (drop (window_start w (length x - 1)) x) + 1) (count_by (λ q. q == first) (drop (window_start w (length x - 1)) x)))
  equal_more first = by (length x % w == 0) refl where
    by : (b : Bool) → (length x % w == 0) ≡ b → count_by (λ q. q == first) (drop (window_start w (length x)) (x ++ s ∷ []))
        ≡ cond b (cond (s == first) 1 0)
        (cond (s == first) (count_by (λ q. q == first) (drop (window_start w (length x - 1)) x) + 1) (count_by (λ q. q == first) (drop (window_start w (length x - 1)) x)))
    by true h =
        ap (λ k. count_by (λ q. q == first) (drop k (x ++ s ∷ []))) (next_start w (length x) (eqb-true (length x % w) 0 h))
        ∙ (ap (count_by (λ q. q == first)) (drop_at x (s ∷ []) (length x) refl) ∙ zero-add (cond (s == first) 1 0))
    by false h =
        ap (λ k. count_by (λ q. q == first) (drop k (x ++ s ∷ []))) (same_start w (length x) (eqb-false (length x % w) 0 h))
        ∙ (ap (count_by (λ q. q == first)) (drop-append-le (window_start w (length x - 1)) x (s ∷ []) (let b = begun w x (eqb-false (length x % w) 0 h) in omega arith))
        ∙ (sum_by_push (λ q. cond (q == first) 1 0) (drop (window_start w (length x - 1)) x) s ∙ added (s == first) (count_by (λ q. q == first) (drop (window_start w (length x - 1)) x))))

-- the numbers of a list with one sample more
pub tail_more : (w : ℕ) (x : List ℕ) (s : ℕ) → tail_step w (tail_of w x) s ≡ tail_of w (x ++ s ∷ [])
unfolding tail_of
tail_more w x s = sym (same_tail (tail_of w (x ++ s ∷ [])) (tail_step w (tail_of w x) s) last run place first equal) where
  last : (tail_of w (x ++ s ∷ [])).last ≡ s
  last = last_is w x s

  run : (tail_of w (x ++ s ∷ [])).run ≡ (tail_step w (tail_of w x) s).run
  run = ap (λ l. suffix_len (λ q. q == l) (x ++ s ∷ [])) (last_is w x s) ∙ run_more s x

  place : (tail_of w (x ++ s ∷ [])).place ≡ (tail_step w (tail_of w x) s).place
  place = ap (λ k. k % w) (length_push x s) ∙ place_more w (length x)

  first : (tail_of w (x ++ s ∷ [])).first ≡ (tail_step w (tail_of w x) s).first
  first = ap (slice_index (x ++ s ∷ [])) (start_is w x s) ∙ first_more w x s

  begins : (b : Bool) (other : ℕ) (count : ℕ → ℕ)
      → cond b (cond (s == cond b s other) 1 0) (cond (s == cond b s other) (count (cond b s other) + 1) (count (cond b s other)))
      ≡ cond b 1 (cond (s == other) (count other + 1) (count other))
  begins true other count = ap (λ b. cond b 1 0) (eq-eqb s s refl)
  begins false other count = refl

  equal : (tail_of w (x ++ s ∷ [])).equal ≡ (tail_step w (tail_of w x) s).equal
  equal =
      ap (λ f. count_by (λ q. q == slice_index (x ++ s ∷ []) f) (drop f (x ++ s ∷ []))) (start_is w x s)
      ∙ (ap (λ l. count_by (λ q. q == l) (drop (window_start w (length x)) (x ++ s ∷ []))) (first_more w x s)
      ∙ (equal_more w x s (cond (length x % w == 0) s (slice_index x (window_start w (length x - 1)))) ∙
      begins (length x % w == 0) (slice_index x (window_start w (length x - 1))) (λ l. count_by (λ q. q == l) (drop (window_start w (length x - 1)) x))))

-- the numbers of a list that goes on
pub tail_grows : (w : ℕ) (x y : List ℕ) → tail_after w (tail_of w x) y ≡ tail_of w (x ++ y)
tail_grows w x [] = ap (tail_of w) (sym (append-nil x))
tail_grows w x (s ∷ y) =
    ap (λ t. tail_after w t y) (tail_more w x s) ∙ (tail_grows w (x ++ s ∷ []) y ∙ ap (tail_of w) (append_assoc x (s ∷ []) y))

-- the numbers of the empty list
pub tail_begins : (w : ℕ) → tail_of w [] ≡ no_tail
unfolding tail_of
tail_begins w =
    same_tail (tail_of w []) no_tail refl refl (zero-mod w) refl
    (ap (count_by (λ q. q == slice_index [] (window_start w (length {A = ℕ} [] - 1)))) (drop_all (window_start w (length {A = ℕ} [] - 1)) [] (omega arith)))
