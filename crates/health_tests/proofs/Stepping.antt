-- What the tests keep where they stand for a list, and how they go on.
use Rattle.std.proofs.Common.{◌≡◌, ℕ, ◌+◌, ◌<◌, ◌≤◌, Bool, true, false, List, [], ◌∷◌, ◌++◌, length, refl, sym, ap, ◌∙◌, subst, arith}
use Rattle.std.specs.Prelude.{Option, Some, None, IfNone, OnSome, is_some, not, nat_le, if◌then◌else◌}
use Rattle.std.proofs.lemmas.Nat.{mod_below}
use Rattle.std.proofs.lemmas.Bool.{leb-false}
use Rattle.health_tests.specs.declared.windows.Test.{Test}
use Rattle.health_tests.specs.declared.windows.Test.TheVariants.{Repetition, Proportion}
use Rattle.health_tests.specs.declared.windows.Alarm.{Alarm}
use Rattle.health_tests.specs.declared.numbers.Tail.{Tail}
use Rattle.health_tests.specs.Cutoffs.{Limits, AreSound}
use Rattle.health_tests.specs.Windows.{first_alarm, alarm_in, further, or_later, IsFirst}
use Rattle.health_tests.specs.Numbers.{IsBelow, tail_of, no_tail, tail_step, tail_after, alarm_by, alarm_from}
use Rattle.health_tests.specs.Stands.{Standing, StandsFor, StandsForSome, placed}
use Rattle.health_tests.proofs.Counting.{tail_begins, tail_more, tail_grows}
use Rattle.health_tests.proofs.Alarms.{alarm_last, alarm_tells}
use Rattle.health_tests.proofs.Longer.{first_is_least, first_later}

place_below : (w : ℕ) (x : List ℕ) → 0 < w → (tail_of w x).place < w
unfolding tail_of
place_below w x h = mod_below (length x) w h

no_alarm : (c : Limits) (t : Tail) → alarm_by c t ≡ None → (t.run < c.rct) × (t.equal < c.apt)
no_alarm c t h = by (nat_le c.rct t.run) refl (nat_le c.apt t.equal) refl h where
  by : (a : Bool) → nat_le c.rct t.run ≡ a → (b : Bool) → nat_le c.apt t.equal ≡ b
      → (if a then Some Repetition else if b then Some Proportion else None) ≡ None → (t.run < c.rct) × (t.equal < c.apt)
  by true p b q h = cc
  by false p true q h = cc
  by false p false q h = (leb-false c.rct t.run p, leb-false c.apt t.equal q)

below_last : (c : Limits) → 2 ≤ c.rct → 2 ≤ c.apt → (x : List ℕ) → first_alarm c x ≡ None
    → ((tail_of c.window x).run < c.rct) × ((tail_of c.window x).equal < c.apt)
below_last c r a [] h =
    let begins = tail_begins c.window in
    (subst (λ (t : Tail). t.run < c.rct) (sym begins) (omega arith), subst (λ (t : Tail). t.equal < c.apt) (sym begins) (omega arith))
below_last c r a (s ∷ x) h =
    let z = s ∷ x in
    let end : length x + 1 ≡ length z = omega arith in
    let least = subst (IsFirst c z) h (first_is_least c z) in
    no_alarm c (tail_of c.window z) (sym (alarm_last c z (length x) end) ∙ least (length x) (omega arith))

pub below : (t : Standing) → AreSound t.cutoffs → (x : List ℕ) → StandsFor t x → IsBelow t.cutoffs t.tail
below t sound x h =
    let last = below_last t.cutoffs sound.rct sound.apt x h.quiet in
    let some : 0 < t.cutoffs.window = omega (arith, sound.apt, sound.within) in
    let numbers : IsBelow t.cutoffs (tail_of t.cutoffs.window x) =
    record { run = last.0; equal = last.1; place = place_below t.cutoffs.window x some } in
    subst (λ (n : Tail). IsBelow t.cutoffs n) (sym h.counted) numbers

-- the first alarm with one sample more
pub answers : (t : Standing) (x : List ℕ) (s : ℕ) → StandsFor t x
    → first_alarm t.cutoffs (x ++ s ∷ []) ≡ placed (length x) (alarm_by t.cutoffs (tail_step t.cutoffs.window t.tail s))
answers t x s h =
    first_later t.cutoffs x (s ∷ []) h.quiet
    ∙ (ap (further (length x)) (sym (alarm_tells t.cutoffs x (s ∷ [])))
    ∙ (ap (λ n. further (length x) (alarm_from t.cutoffs n (s ∷ []))) (sym h.counted)
    ∙ by (alarm_by t.cutoffs (tail_step t.cutoffs.window t.tail s)))) where
      by : (a : Option Test) → further (length x) (or_later a None) ≡ placed (length x) a
      by None = refl
      by (Some test) = let here : length x + 0 ≡ length x = omega arith in ap (λ n. Some (record { at = n; test = test })) here

-- without an alarm the tests stand for the longer list
pub goes_on : (t : Standing) (x : List ℕ) (s : ℕ) → StandsFor t x → alarm_by t.cutoffs (tail_step t.cutoffs.window t.tail s) ≡ None
    → StandsFor (record { cutoffs = t.cutoffs; tail = tail_step t.cutoffs.window t.tail s }) (x ++ s ∷ [])
goes_on t x s h none = record {
  quiet = answers t x s h ∙ ap (placed (length x)) none;
  counted = ap (λ n. tail_step t.cutoffs.window n s) h.counted ∙ tail_more t.cutoffs.window x s;
}

-- the empty list has no alarm
pub stands_fresh : (c : Limits) → StandsFor (record { cutoffs = c; tail = no_tail }) []
stands_fresh c = record { quiet = refl; counted = sym (tail_begins c.window) }

-- a call of the tests that stood before with the cutoffs c and the numbers t: it answered the sample s, and left the numbers n
module _ (old : Standing) (c : Limits) (t n : Tail) (s : ℕ) (answer : Option Test)
    (is_old : record { cutoffs = c; tail = t } ≡ old) (tells : answer ≡ alarm_by c (tail_step c.window t s))
    (counts : IfNone answer (n ≡ tail_step c.window t s)) where
  limits_are : c ≡ old.cutoffs
  limits_are = ap (λ (o : Standing). o.cutoffs) is_old

  told : answer ≡ alarm_by old.cutoffs (tail_step old.cutoffs.window old.tail s)
  told = tells ∙ (ap (λ m. alarm_by m (tail_step m.window t s)) limits_are ∙ ap (λ (o : Standing). alarm_by old.cutoffs (tail_step old.cutoffs.window o.tail s)) is_old)

  pub answered : (x : List ℕ) → StandsFor old x → first_alarm old.cutoffs (x ++ s ∷ []) ≡ placed (length x) answer
  answered x h = answers old x s h ∙ ap (placed (length x)) (sym told)

  pub stood : answer ≡ None → n ≡ tail_step c.window t s → (x : List ℕ) → StandsFor old x → StandsFor (record { cutoffs = c; tail = n }) (x ++ s ∷ [])
  stood none numbers x h =
      let whole : Limits → Tail → Standing = λ m k. record { cutoffs = m; tail = k } in
      let cutoffs : old.cutoffs ≡ c = sym (ap (λ (o : Standing). o.cutoffs) is_old) in
      let next : tail_step old.cutoffs.window old.tail s ≡ n = sym (numbers ∙ (ap (λ (m : Limits). tail_step m.window t s) limits_are ∙ ap (λ (o : Standing). tail_step old.cutoffs.window o.tail s) is_old)) in
      let view : whole old.cutoffs (tail_step old.cutoffs.window old.tail s) ≡ whole c n = ap (λ m. whole m (tail_step old.cutoffs.window old.tail s)) cutoffs ∙ ap (whole c) next in
      subst (λ v. StandsFor v (x ++ s ∷ [])) view (goes_on old x s h (sym told ∙ none))

  pub stood_if : IfNone answer ((x : List ℕ) → StandsFor old x → StandsFor (record { cutoffs = c; tail = n }) (x ++ s ∷ []))
  stood_if = by answer refl counts where
    by : (o : Option Test) → answer ≡ o → IfNone o (n ≡ tail_step c.window t s)
        → IfNone o ((x : List ℕ) → StandsFor old x → StandsFor (record { cutoffs = c; tail = n }) (x ++ s ∷ []))
    by None e m = stood e m
    by (Some test) e m = tt

  pub still_stands : OnSome answer (n ≡ t) → StandsForSome (record { cutoffs = c; tail = t }) → StandsForSome (record { cutoffs = c; tail = n })
  still_stands kept (x, stands) = by answer refl counts kept where
    by : (o : Option Test) → answer ≡ o → IfNone o (n ≡ tail_step c.window t s) → OnSome o (n ≡ t) → StandsForSome (record { cutoffs = c; tail = n })
    by None e m k = (x ++ s ∷ [], stood e m x (subst (λ v. StandsFor v x) is_old stands))
    by (Some test) e m k = (x, subst (λ m. StandsFor (record { cutoffs = c; tail = m }) x) (sym k) stands)

none_from : {A : Type 0} (a : Option A) (b : Bool) → is_some a ≡ not b → b ≡ true → a ≡ None
none_from None b h e = refl
none_from (Some x) b h e = let no : not b ≡ false = ap not e in cc

-- the same for the samples y
module _ (old : Standing) (c : Limits) (t n : Tail) (y : List ℕ) (answer : Option Alarm)
    (is_old : record { cutoffs = c; tail = t } ≡ old) (tells : answer ≡ alarm_from c t y)
    (counts : IfNone answer (n ≡ tail_after c.window t y)) where
  pub answered_all : (x : List ℕ) → StandsFor old x → alarm_in old.cutoffs x y ≡ answer
  answered_all x h =
      sym (alarm_tells old.cutoffs x y)
      ∙ (ap (λ m. alarm_from old.cutoffs m y) (sym h.counted)
      ∙ (ap (λ (o : Standing). alarm_from o.cutoffs o.tail y) (sym is_old) ∙ sym tells))

  pub stood_all : answer ≡ None → n ≡ tail_after c.window t y → (x : List ℕ) → StandsFor old x → StandsFor (record { cutoffs = c; tail = n }) (x ++ y)
  stood_all none numbers x h =
      let stands = subst (λ v. StandsFor v x) (sym is_old) h in
      let cutoffs : c ≡ old.cutoffs = ap (λ (o : Standing). o.cutoffs) is_old in
      record {
        quiet = first_later c x y stands.quiet ∙ ap (further (length x)) (ap (λ m. alarm_in m x y) cutoffs ∙ (answered_all x h ∙ none));
        counted =
            numbers ∙ (ap (λ m. tail_after c.window m y) stands.counted ∙ tail_grows c.window x y);
      }

  pub stood_all_if : IfNone answer ((x : List ℕ) → StandsFor old x → StandsFor (record { cutoffs = c; tail = n }) (x ++ y))
  stood_all_if = by answer refl counts where
    by : (o : Option Alarm) → answer ≡ o → IfNone o (n ≡ tail_after c.window t y)
        → IfNone o ((x : List ℕ) → StandsFor old x → StandsFor (record { cutoffs = c; tail = n }) (x ++ y))
    by None e m = stood_all e m
    by (Some alarm) e m = tt

  pub still_stands_all : (b : Bool) → is_some answer ≡ not b → b ≡ true → StandsForSome (record { cutoffs = c; tail = t }) → StandsForSome (record { cutoffs = c; tail = n })
  still_stands_all b h e (x, stands) = (x ++ y, by answer (none_from answer b h e) stood_all_if x (subst (λ v. StandsFor v x) is_old stands)) where
    by : (o : Option Alarm) → o ≡ None → IfNone o ((z : List ℕ) → StandsFor old z → StandsFor (record { cutoffs = c; tail = n }) (z ++ y))
        → (z : List ℕ) → StandsFor old z → StandsFor (record { cutoffs = c; tail = n }) (z ++ y)
    by None e f = f
    by (Some alarm) e f = cc
