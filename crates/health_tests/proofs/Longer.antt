-- The first alarm is the least place that alarms, and how it goes on as a list grows.
use Rattle.std.proofs.Common.{◌≡◌, ℕ, zero, suc, ◌+◌, ◌<◌, ◌≤◌, List, ◌++◌, length, refl, sym, ap, ◌∙◌, arith, zero-add, length-append}
use Rattle.std.specs.Prelude.{Option, Some, None}
use Rattle.std.specs.Prelude.{◌⊎◌}
use Rattle.std.proofs.Common.{inl, inr}
use Rattle.std.proofs.lemmas.Bool.{cases_order}
use Rattle.health_tests.specs.declared.windows.Test.{Test}
use Rattle.health_tests.specs.declared.windows.Alarm.{Alarm}
use Rattle.health_tests.specs.Cutoffs.{Limits}
use Rattle.health_tests.specs.Windows.{alarm_at, alarm_among, alarm_in, first_alarm, further, or_later, IsFirst}
use Rattle.health_tests.proofs.Alarms.{alarm_before}

module _ (c : Limits) where
  among_before : (x y : List ℕ) (k n : ℕ) → k + n ≤ length x → alarm_among c (x ++ y) k n ≡ alarm_among c x k n
  among_before x y k zero h = refl
  among_before x y k (suc n) h =
      ap (λ a. or_later a (alarm_among c (x ++ y) (k + 1) n)) (alarm_before c x y k (omega arith))
      ∙ ap (or_later (alarm_at c x k)) (among_before x y (k + 1) n (omega arith))

  abbrev or_further : ℕ → Option Alarm → Option Alarm → Option Alarm
  or_further n (Some a) later = Some a
  or_further n None later = further n later

  further-zero : (o : Option Alarm) → o ≡ further 0 o
  further-zero None = refl
  further-zero (Some a) = ap (λ n. Some (record { at = n; test = a.test })) (omega arith)

  or_later-or_further : (m : ℕ) (t : Option Test) (u v : Option Alarm) → or_later t (or_further m u v) ≡ or_further (suc m) (or_later t u) v
  or_later-or_further m (Some t) u v = refl
  or_later-or_further m None (Some a) v = refl
  or_later-or_further m None None None = refl
  or_later-or_further m None None (Some a) = ap (λ n. Some (record { at = n; test = a.test })) (omega arith)

  split : (z : List ℕ) (k m n : ℕ) → alarm_among c z k (m + n) ≡ or_further m (alarm_among c z k m) (alarm_among c z (k + m) n)
  split z k zero n =
      let here : k ≡ k + 0 = omega arith in
      ap (alarm_among c z k) (zero-add n) ∙ (ap (λ j. alarm_among c z j n) here ∙ further-zero (alarm_among c z (k + 0) n))
  split z k (suc m) n =
      let count : suc m + n ≡ suc (m + n) = omega arith in
      let from : k + 1 + m ≡ k + suc m = omega arith in
      ap (alarm_among c z k) count
      ∙ (ap (or_later (alarm_at c z k)) (split z (k + 1) m n)
      ∙ (or_later-or_further m (alarm_at c z k) (alarm_among c z (k + 1) m) (alarm_among c z (k + 1 + m) n)
      ∙ ap (λ j. or_further (suc m) (alarm_among c z k (suc m)) (alarm_among c z j n)) from))

  joined : (x y : List ℕ) → first_alarm c (x ++ y) ≡ or_further (length x) (first_alarm c x) (alarm_in c x y)
  joined x y =
      ap (alarm_among c (x ++ y) 0) (length-append x y)
      ∙ (split (x ++ y) 0 (length x) (length y)
      ∙ (ap (λ o. or_further (length x) o (alarm_among c (x ++ y) (0 + length x) (length y))) (among_before x y 0 (length x) (omega arith))
      ∙ ap (λ j. or_further (length x) (first_alarm c x) (alarm_among c (x ++ y) j (length y))) (zero-add (length x))))

  -- an alarm stays the first, whatever follows
  pub first_stays : (x y : List ℕ) (a : Alarm) → first_alarm c x ≡ Some a → first_alarm c (x ++ y) ≡ Some a
  first_stays x y a h = joined x y ∙ ap (λ o. or_further (length x) o (alarm_in c x y)) h

  -- behind samples without an alarm it is the first of those that follow
  pub first_later : (x y : List ℕ) → first_alarm c x ≡ None → first_alarm c (x ++ y) ≡ further (length x) (alarm_in c x y)
  first_later x y h = joined x y ∙ ap (λ o. or_further (length x) o (alarm_in c x y)) h

  abbrev LeastAmong : List ℕ → ℕ → ℕ → Option Alarm → Type 0
  LeastAmong x k n None = (j : ℕ) → j < n → alarm_at c x (k + j) ≡ None
  LeastAmong x k n (Some a) =
      (a.at < n) × (alarm_at c x (k + a.at) ≡ Some a.test) × ((j : ℕ) → j < a.at → alarm_at c x (k + j) ≡ None)

  least_step : (x : List ℕ) (k m : ℕ) (t : Option Test) → alarm_at c x k ≡ t → (o : Option Alarm) → LeastAmong x (k + 1) m o
      → LeastAmong x k (suc m) (or_later t o)
  least_step x k m (Some t) e o h =
      let here : k + 0 ≡ k = omega arith in (omega arith, ap (alarm_at c x) here ∙ e, λ j l. absurd (omega arith))
  least_step x k m None e None h = at where
    at : (j : ℕ) → j < suc m → alarm_at c x (k + j) ≡ None
    at zero l = let here : k + 0 ≡ k = omega arith in ap (alarm_at c x) here ∙ e
    at (suc i) l = let next : k + suc i ≡ k + 1 + i = omega arith in ap (alarm_at c x) next ∙ h i (omega arith)
  least_step x k m None e (Some a) (p, q, r) = (omega arith, ap (alarm_at c x) place ∙ q, at) where
    place : k + (1 + a.at) ≡ k + 1 + a.at
    place = omega arith

    at : (j : ℕ) → j < 1 + a.at → alarm_at c x (k + j) ≡ None
    at zero l = let here : k + 0 ≡ k = omega arith in ap (alarm_at c x) here ∙ e
    at (suc i) l = let next : k + suc i ≡ k + 1 + i = omega arith in ap (alarm_at c x) next ∙ r i (omega arith)

  least_among : (x : List ℕ) (k n : ℕ) → LeastAmong x k n (alarm_among c x k n)
  least_among x k zero = λ j l. absurd (omega arith)
  least_among x k (suc m) = least_step x k m (alarm_at c x k) refl (alarm_among c x (k + 1) m) (least_among x (k + 1) m)

  -- the first alarm is the least place that alarms
  pub first_is_least : (x : List ℕ) → IsFirst c x (first_alarm c x)
  first_is_least x = by (first_alarm c x) (least_among x 0 (length x)) where
    from_zero : (j : ℕ) (o : Option Test) → alarm_at c x (0 + j) ≡ o → alarm_at c x j ≡ o
    from_zero j o h = ap (alarm_at c x) (sym (zero-add j)) ∙ h

    by : (o : Option Alarm) → LeastAmong x 0 (length x) o → IsFirst c x o
    by None h = λ k l. from_zero k None (h k l)
    by (Some a) (p, q, r) = (p, from_zero a.at (Some a.test) q, λ k l. from_zero k None (r k l))

  unique : (x : List ℕ) (o p : Option Alarm) → IsFirst c x o → IsFirst c x p → o ≡ p
  unique x None None h k = refl
  unique x None (Some b) h (l, e, r) = let n = h b.at l in cc
  unique x (Some a) None (l, e, r) k = let n = k a.at l in cc
  unique x (Some a) (Some b) (l, e, r) (m, f, q) = by (cases_order a.at b.at) where
    by : ((a.at ≡ b.at) ⊎ ((a.at < b.at) ⊎ (b.at < a.at))) → Some a ≡ Some b
    by (inl same) =
        let tests : Some a.test ≡ Some b.test = sym e ∙ (ap (alarm_at c x) same ∙ f) in
        let test : a.test ≡ b.test = cc in
        let whole : ℕ → Test → Option Alarm = λ n t. Some (record { at = n; test = t }) in
        let both : whole a.at a.test ≡ whole b.at b.test = rw (same, test) refl in both
    by (inr (inl less)) = let n = q a.at less in cc
    by (inr (inr more)) = let n = r b.at more in cc

  -- and no other answer is
  pub least_is_first : (x : List ℕ) (o : Option Alarm) → IsFirst c x o → first_alarm c x ≡ o
  least_is_first x o h = unique x (first_alarm c x) o (first_is_least x) h
