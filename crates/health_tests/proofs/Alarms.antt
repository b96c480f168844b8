-- The first alarm of a list that goes on, by places and by the five numbers.
use Rattle.std.proofs.Common.{◌≡◌, ℕ, ◌+◌, ◌-◌, ◌<◌, ◌≤◌, Bool, List, [], ◌∷◌, ◌++◌, length, take, drop, refl, sym, ap, ◌∙◌, arith, length-drop, append_assoc}
use Rattle.std.specs.Prelude.{◌==◌, ◌&&◌, nat_le, slice_index, slice_range, count_by, if◌then◌else◌, Some, None}
use Rattle.std.specs.List.{list_all, suffix_len}
use Rattle.std.proofs.lemmas.Nat.{div-add-mod'}
use Rattle.std.proofs.lemmas.List.{length_push, take_rest, take-append-le, drop-append-le, get_or_append_left}
use Rattle.health_tests.specs.declared.windows.Test.TheVariants.{Repetition, Proportion}
use Rattle.health_tests.specs.Cutoffs.{Limits}
use Rattle.health_tests.specs.Windows.{repeats, crowded, window_start, alarm_at, alarm_among, alarm_in, or_later}
use Rattle.health_tests.specs.Numbers.{tail_of, alarm_by, alarm_from}
use Rattle.health_tests.proofs.Runs.{run_long}
use Rattle.health_tests.proofs.Counting.{tail_more}

-- what stands behind a place does not enter the tests at it
range_before : (x y : List ℕ) (i j : ℕ) → i ≤ j → j ≤ length x → slice_range (x ++ y) i j ≡ slice_range x i j
range_before x y i j h k =
    ap (take (j - i)) (drop-append-le i x y (omega arith))
    ∙ take-append-le (j - i) (drop i x) y (omega (arith, length-drop i x))

repeats_before : (c : ℕ) (x y : List ℕ) (k : ℕ) → k < length x → repeats c (x ++ y) k ≡ repeats c x k
unfolding repeats
repeats_before c x y k h =
    ap (λ l. nat_le c (k + 1) && list_all (λ s. s == slice_index (x ++ y) k) l) (range_before x y (k + 1 - c) (k + 1) (omega arith) (omega arith))
    ∙ ap (λ v. nat_le c (k + 1) && list_all (λ s. s == v) (slice_range x (k + 1 - c) (k + 1))) (get_or_append_left x y 0 k h)

start_before : (w n : ℕ) → window_start w n ≤ n
start_before w n = omega (arith, div-add-mod' n w)

crowded_before : (w c : ℕ) (x y : List ℕ) (k : ℕ) → k < length x → crowded w c (x ++ y) k ≡ crowded w c x k
unfolding crowded
crowded_before w c x y k h =
    let from = window_start w k in
    let start : from ≤ k = start_before w k in
    ap (λ l. nat_le c (count_by (λ s. s == slice_index (x ++ y) from) l)) (range_before x y from (k + 1) (omega arith) (omega arith))
    ∙ ap (λ v. nat_le c (count_by (λ s. s == v) (slice_range x from (k + 1)))) (get_or_append_left x y 0 from (omega arith))

pub alarm_before : (c : Limits) (x y : List ℕ) (k : ℕ) → k < length x → alarm_at c (x ++ y) k ≡ alarm_at c x k
alarm_before c x y k h =
    ap (λ b. if b then Some Repetition else if crowded c.window c.apt (x ++ y) k then Some Proportion else None) (repeats_before c.rct x y k h)
    ∙ ap (λ b. if repeats c.rct x k then Some Repetition else if b then Some Proportion else None) (crowded_before c.window c.apt x y k h)

-- the tests at the last place, by the numbers
repeats_last : (w c : ℕ) (z : List ℕ) (k : ℕ) → k + 1 ≡ length z → repeats c z k ≡ nat_le c (tail_of w z).run
unfolding repeats tail_of
repeats_last w c z k h =
    let p : ℕ → Bool = λ s. s == slice_index z k in
    let end : k ≡ length z - 1 = omega (arith, h) in
    ap (λ n. nat_le c n && list_all p (take (n - (n - c)) (drop (n - c) z))) h
    ∙ (ap (λ l. nat_le c (length z) && list_all p l) (take_rest z (length z - c))
    ∙ (run_long p c z ∙ ap (λ j. nat_le c (suffix_len (λ s. s == slice_index z j) z)) end))

crowded_last : (w c : ℕ) (z : List ℕ) (k : ℕ) → k + 1 ≡ length z → crowded w c z k ≡ nat_le c (tail_of w z).equal
unfolding crowded tail_of
crowded_last w c z k h =
    let from = window_start w k in
    let end : k ≡ length z - 1 = omega (arith, h) in
    ap (λ n. nat_le c (count_by (λ s. s == slice_index z from) (take (n - from) (drop from z)))) h
    ∙ (ap (λ l. nat_le c (count_by (λ s. s == slice_index z from) l)) (take_rest z from)
    ∙ ap (λ j. nat_le c (count_by (λ s. s == slice_index z (window_start w j)) (drop (window_start w j) z))) end)

pub alarm_last : (c : Limits) (z : List ℕ) (k : ℕ) → k + 1 ≡ length z → alarm_at c z k ≡ alarm_by c (tail_of c.window z)
alarm_last c z k h =
    ap (λ b. if b then Some Repetition else if crowded c.window c.apt z k then Some Proportion else None) (repeats_last c.window c.rct z k h)
    ∙ ap (λ b. if nat_le c.rct (tail_of c.window z).run then Some Repetition else if b then Some Proportion else None) (crowded_last c.window c.apt z k h)

-- the first alarm among samples that follow is that of the next one, or else a later one
pub alarm_in_more : (c : Limits) (x : List ℕ) (s : ℕ) (y : List ℕ)
    → alarm_in c x (s ∷ y) ≡ or_later (alarm_at c (x ++ s ∷ []) (length x)) (alarm_in c (x ++ s ∷ []) y)
alarm_in_more c x s y =
    let now = x ++ s ∷ [] in
    ap (λ z. or_later (alarm_at c z (length x)) (alarm_among c z (length x + 1) (length y))) (sym (append_assoc x (s ∷ []) y))
    ∙ (ap (λ a. or_later a (alarm_among c (now ++ y) (length x + 1) (length y))) (alarm_before c now y (length x) (omega (arith, length_push x s)))
    ∙ ap (λ n. or_later (alarm_at c now (length x)) (alarm_among c (now ++ y) n (length y))) (sym (length_push x s)))

-- and by the numbers
pub alarm_tells : (c : Limits) (x y : List ℕ) → alarm_from c (tail_of c.window x) y ≡ alarm_in c x y
alarm_tells c x [] = refl
alarm_tells c x (s ∷ y) =
    let now = x ++ s ∷ [] in
    ap (λ t. or_later (alarm_by c t) (alarm_from c t y)) (tail_more c.window x s)
    ∙ (ap (λ a. or_later a (alarm_from c (tail_of c.window now) y)) (sym (alarm_last c now (length x) (sym (length_push x s))))
    ∙ (ap (or_later (alarm_at c now (length x))) (alarm_tells c now y) ∙ sym (alarm_in_more c x s y)))
