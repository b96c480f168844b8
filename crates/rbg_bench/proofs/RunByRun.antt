-- One sample more, and one run more.
use Rattle.std.proofs.Common.{◌≡◌, ℕ, ◌+◌, ◌-◌, ◌<◌, ◌≤◌, List, [], ◌∷◌, ◌++◌, length, take, drop, refl, sym, ap, ◌∙◌, add-one, arith, append_assoc, append-nil}
use Rattle.std.specs.Prelude.{◌/◌, ◌%◌, ◌^◌, slice_set, slice_index, Option, Some}
use Rattle.std.proofs.lemmas.List.{take_more_set, drop_more, take_all, length-set, take-append-drop, length-take}
use Rattle.health_tests.specs.Cutoffs.{Limits}
use Rattle.health_tests.specs.Windows.{first_alarm}
use Rattle.health_tests.specs.Stands.{placed}
use Rattle.health_tests.specs.declared.windows.Test.{Test}
use Rattle.health_tests.specs.declared.windows.Alarm.{Alarm}
use Rattle.rbg_bench.specs.declared.runs.Totals.{Totals}
use Rattle.rbg_bench.specs.Samples.{next, generated}
use Rattle.rbg_bench.specs.Runs.{samples_of, with_run, totals_of}

pub generated-none : (state : ℕ) → generated 0 state ≡ []
unfolding generated
generated-none state = refl

pub generated-more : (n state : ℕ) → generated (n + 1) state ≡ next state / 2 ^ 56 ∷ generated n (next state)
unfolding generated
generated-more n state = rw (add-one n) refl

pub totals-none : (c : Limits) (x : List ℕ) → totals_of c 0 x ≡ record { samples = 0; alarms = 0 }
unfolding totals_of
totals-none c x = refl

pub totals-more : (c : Limits) (times : ℕ) (x : List ℕ)
    → totals_of c (times + 1) x ≡ with_run (first_alarm c (samples_of times x)) (length x) (totals_of c times x)
unfolding totals_of
totals-more c times x = rw (add-one times) refl

-- the first of some samples is put in place
pub put_first : (x y : List ℕ) (v : ℕ) → 1 ≤ length x → drop 1 x ≡ drop 1 y → slice_set x 0 v ≡ v ∷ drop 1 y
put_first [] y v h e = absurd (omega arith)
put_first (a ∷ x) y v h e = ap (λ z. v ∷ z) e

-- a sample more is filled in
pub fill_more : (x : List ℕ) (at s t : ℕ) → at < length x → t ≡ next s
    → take at x ++ generated (length x - at) s ≡ generated (length x) 0
    → take (at + 1) (slice_set x at (t / 2 ^ 56)) ++ generated (length (slice_set x at (t / 2 ^ 56)) - (at + 1)) t ≡ generated (length (slice_set x at (t / 2 ^ 56))) 0
fill_more x at s t h e so_far =
    let v = t / 2 ^ 56 in
    let n = length x - (at + 1) in
    let len : length (slice_set x at v) ≡ length x = length-set x at v in
    let left : n + 1 ≡ length x - at = omega arith in
    let more : generated (length x - at) s ≡ v ∷ generated n t =
    ap (λ k. generated k s) (sym left) ∙ (generated-more n s ∙ ap (λ q. q / 2 ^ 56 ∷ generated n q) (sym e)) in
    ap (λ k. take (at + 1) (slice_set x at v) ++ generated (k - (at + 1)) t) len
    ∙ (ap (λ z. z ++ generated n t) (take_more_set x at v h)
    ∙ (append_assoc (take at x) (v ∷ []) (generated n t)
    ∙ (ap (λ z. take at x ++ z) (sym more) ∙ (so_far ∙ ap (λ k. generated k 0) (sym len)))))

-- the first alarm of the samples up to a place is that of all
pub found : (c : Limits) (x : List ℕ) (at : ℕ) (test : Test) → at < length x
    → ((y z : List ℕ) (a : Alarm) → first_alarm c y ≡ Some a → first_alarm c (y ++ z) ≡ Some a)
    → first_alarm c (take at x ++ slice_index x at ∷ []) ≡ placed (length (take at x)) (Some test)
    → Some (record { at = at; test = test }) ≡ first_alarm c x
found c x at test h stays first =
    let len : length (take at x) ≡ at = omega (arith, length-take at x) in
    let here : first_alarm c (take at x ++ slice_index x at ∷ []) ≡ Some (record { at = at; test = test }) =
    first ∙ ap (λ k. placed k (Some test)) len in
    let whole : (take at x ++ slice_index x at ∷ []) ++ drop (at + 1) x ≡ x =
    append_assoc (take at x) (slice_index x at ∷ []) (drop (at + 1) x)
    ∙ (ap (λ z. take at x ++ z) (sym (drop_more x at 0 h)) ∙ take-append-drop at x) in
    sym (ap (first_alarm c) (sym whole) ∙ stays (take at x ++ slice_index x at ∷ []) (drop (at + 1) x) (record { at = at; test = test }) here)

-- and with all of them nothing is left
pub filled : (x : List ℕ) (at s : ℕ) → length x ≤ at → take at x ++ generated (length x - at) s ≡ generated (length x) 0 → x ≡ generated (length x) 0
filled x at s h so_far =
    let none : length x - at ≡ 0 = omega arith in
    sym (append-nil x)
    ∙ (ap (λ z. z ++ []) (sym (take_all at x h))
    ∙ (ap (λ z. take at x ++ z) (sym (ap (λ k. generated k s) none ∙ generated-none s)) ∙ so_far))

-- a run more
pub run_more : (c : Limits) (x y : List ℕ) (n : ℕ) (t r : Totals) (a : Option Alarm) → 1 ≤ length x → length x ≡ length y → drop 1 x ≡ drop 1 y
    → t ≡ totals_of c n y → a ≡ first_alarm c (slice_set x 0 (n % 256)) → r ≡ with_run a (length (slice_set x 0 (n % 256))) t → r ≡ totals_of c (n + 1) y
run_more c x y n t r a some len rest so_far alarm sum =
    let placed_first : slice_set x 0 (n % 256) ≡ samples_of n y = put_first x y (n % 256) some rest in
    let same : length (slice_set x 0 (n % 256)) ≡ length y = length-set x 0 (n % 256) ∙ len in
    sum ∙ (ap (λ q. with_run q (length (slice_set x 0 (n % 256))) t) (alarm ∙ ap (first_alarm c) placed_first)
    ∙ (ap (λ k. with_run (first_alarm c (samples_of n y)) k t) same
    ∙ (ap (λ u. with_run (first_alarm c (samples_of n y)) (length y) u) so_far ∙ sym (totals-more c n y))))
