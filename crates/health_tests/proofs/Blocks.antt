-- Samples added in blocks.
use Rattle.std.proofs.Common.{◌≡◌, ℕ, ◌+◌, ◌-◌, ◌*◌, ◌<◌, ◌≤◌, false, List, [], ◌∷◌, ◌++◌, length, take, drop, refl, sym, ap, ◌∙◌, subst, arith}
use Rattle.std.specs.Prelude.{◌≢◌, ◌==◌, Option, Some, None, nat_le, slice_index, slice_range}
use Rattle.std.proofs.lemmas.List.{drop-drop, take-append-drop, length-take, length-drop}
use Rattle.std.proofs.lemmas.Bool.{ne_eqb, lt-leb}
use Rattle.health_tests.specs.declared.windows.Test.{Test}
use Rattle.health_tests.specs.declared.windows.Alarm.{Alarm}
use Rattle.health_tests.specs.declared.numbers.Tail.{Tail}
use Rattle.health_tests.specs.Cutoffs.{Limits}
use Rattle.health_tests.specs.Windows.{further, or_later}
use Rattle.health_tests.specs.Numbers.{IsBelow, tail_step, tail_after, alarm_by, alarm_from}
use Rattle.health_tests.specs.Blocks.{AllDiffer, GoesPast}

-- the numbers with a sample that differs
abbrev beside : Tail → ℕ → Tail
beside t s = record { run = 1; place = t.place + 1; equal = t.equal; last = s; first = t.first }

abbrev passed : Tail → List ℕ → Tail
passed t [] = t
passed t (s ∷ x) = passed (beside t s) x

step_is : (w : ℕ) (t : Tail) (s : ℕ) → s ≢ t.last → s ≢ t.first → 0 < t.place → t.place + 1 < w → tail_step w t s ≡ beside t s
step_is w t s a b p q =
    let last : (s == t.last) ≡ false = ne_eqb s t.last a in
    let first : (s == t.first) ≡ false = ne_eqb s t.first b in
    let begun : (t.place == 0) ≡ false = ne_eqb t.place 0 (omega arith) in
    let within : (t.place + 1 == w) ≡ false = ne_eqb (t.place + 1) w (omega arith) in
    rw (last, first, begun, within) refl

tail_passed : (w : ℕ) (t : Tail) (x : List ℕ) → AllDiffer t.last t.first x → 0 < t.place → t.place + length x < w → tail_after w t x ≡ passed t x
tail_passed w t [] d p q = refl
tail_passed w t (s ∷ x) (a, b, more) p q =
    ap (λ n. tail_after w n x) (step_is w t s a b p (omega arith)) ∙ tail_passed w (beside t s) x more (omega arith) (omega arith)

no_alarm_beside : (c : Limits) (t : Tail) (s : ℕ) → 2 ≤ c.rct → t.equal < c.apt → alarm_by c (beside t s) ≡ None
no_alarm_beside c t s r e =
    let run : nat_le c.rct 1 ≡ false = lt-leb c.rct 1 (omega arith) in
    let equal : nat_le c.apt t.equal ≡ false = lt-leb c.apt t.equal e in
    rw (run, equal) refl

no_alarm_passed : (c : Limits) (t : Tail) (x : List ℕ) → 2 ≤ c.rct → t.equal < c.apt → AllDiffer t.last t.first x → 0 < t.place → t.place + length x < c.window
    → alarm_from c t x ≡ None
no_alarm_passed c t [] r e d p q = refl
no_alarm_passed c t (s ∷ x) r e (a, b, more) p q =
    ap (λ n. or_later (alarm_by c n) (alarm_from c n x)) (step_is c.window t s a b p (omega arith))
    ∙ (ap (λ o. or_later o (alarm_from c (beside t s) x)) (no_alarm_beside c t s r e)
    ∙ ap (further 1) (no_alarm_passed c (beside t s) x r e more (omega arith) (omega arith)))

passed_is : (t : Tail) (s : ℕ) (x : List ℕ)
    → passed t (s ∷ x) ≡ record { run = 1; place = t.place + length (s ∷ x); equal = t.equal; last = slice_index (s ∷ x) (length x); first = t.first }
passed_is t s [] = refl
passed_is t s (r ∷ x) =
    let place : t.place + 1 + length (r ∷ x) ≡ t.place + length (s ∷ r ∷ x) = omega arith in
    passed_is (beside t s) r x
    ∙ ap (λ k. record { run = 1; place = k; equal = t.equal; last = slice_index (r ∷ x) (length x); first = t.first }) place

-- a block that goes past raises no alarm, and leaves the numbers that its samples leave
pub goes_past_means : (c : Limits) (t : Tail) (x : List ℕ) (n : Tail) → IsBelow c t → GoesPast c t x n
    → (alarm_from c t x ≡ None) × (n ≡ tail_after c.window t x) × IsBelow c n
goes_past_means c t [] n below past = let long = past.long in absurd (omega arith)
goes_past_means c t (s ∷ x) n below past =
    let long = past.long in
    let fifteen : length x ≡ 15 = omega arith in
    let fits : t.place + length (s ∷ x) < c.window = omega (arith, past.within) in
    let place : t.place + length (s ∷ x) ≡ t.place + 16 = omega arith in
    let whole : ℕ → ℕ → Tail = λ p l. record { run = 1; place = p; equal = t.equal; last = l; first = t.first } in
    let is : passed t (s ∷ x) ≡ whole (t.place + 16) (slice_index (s ∷ x) 15) =
    passed_is t s x ∙ (ap (λ p. whole p (slice_index (s ∷ x) (length x))) place ∙ ap (λ k. whole (t.place + 16) (slice_index (s ∷ x) k)) fifteen) in (
      no_alarm_passed c t (s ∷ x) past.single below.equal past.differ past.begun fits,
      past.numbers ∙ sym (tail_passed c.window t (s ∷ x) past.differ past.begun fits ∙ is),
      subst (λ m. IsBelow c m) (sym past.numbers) (record { run = omega (arith, past.single); equal = below.equal; place = past.within }),
    )

-- samples behind others
pub tail_both : (w : ℕ) (t : Tail) (x y : List ℕ) → tail_after w t (x ++ y) ≡ tail_after w (tail_after w t x) y
tail_both w t [] y = refl
tail_both w t (s ∷ x) y = tail_both w (tail_step w t s) x y

further_both : (m n : ℕ) (o : Option Alarm) → further m (further n o) ≡ further (m + n) o
further_both m n None = refl
further_both m n (Some a) = let sum : m + (n + a.at) ≡ m + n + a.at = omega arith in ap (λ k. Some (record { at = k; test = a.test })) sum

-- they alarm where the first ones do
pub alarm_first : (c : Limits) (t : Tail) (x y : List ℕ) (a : Alarm) → alarm_from c t x ≡ Some a → alarm_from c t (x ++ y) ≡ Some a
alarm_first c t [] y a h = cc
alarm_first c t (s ∷ x) y a h =
    let n = tail_step c.window t s in
    by (alarm_by c n) (alarm_from c n x) refl h (λ b e. alarm_first c n x y b e) where
      by : (o : Option Test) (l : Option Alarm) → alarm_from c (tail_step c.window t s) x ≡ l → or_later o l ≡ Some a
          → ((b : Alarm) → alarm_from c (tail_step c.window t s) x ≡ Some b → alarm_from c (tail_step c.window t s) (x ++ y) ≡ Some b)
          → or_later o (alarm_from c (tail_step c.window t s) (x ++ y)) ≡ Some a
      by (Some test) l e k f = k
      by None None e k f = cc
      by None (Some b) e k f = ap (further 1) (f b e) ∙ k

-- or else later
pub alarm_later : (c : Limits) (t : Tail) (x y : List ℕ) → alarm_from c t x ≡ None → alarm_from c t (x ++ y) ≡ further (length x) (alarm_from c (tail_after c.window t x) y)
alarm_later c t [] y h = by (alarm_from c t y) where
  by : (o : Option Alarm) → o ≡ further 0 o
  by None = refl
  by (Some a) = let sum : a.at ≡ 0 + a.at = omega arith in ap (λ k. Some (record { at = k; test = a.test })) sum
alarm_later c t (s ∷ x) y h =
    let n = tail_step c.window t s in
    by (alarm_by c n) (alarm_from c n x) refl h (λ e. alarm_later c n x y e) where
      by : (o : Option Test) (l : Option Alarm) → alarm_from c (tail_step c.window t s) x ≡ l → or_later o l ≡ None
          → (alarm_from c (tail_step c.window t s) x ≡ None → alarm_from c (tail_step c.window t s) (x ++ y) ≡ further (length x) (alarm_from c (tail_after c.window (tail_step c.window t s) x) y))
          → or_later o (alarm_from c (tail_step c.window t s) (x ++ y)) ≡ further (length (s ∷ x)) (alarm_from c (tail_after c.window (tail_step c.window t s) x) y)
      by (Some test) l e k f = cc
      by None (Some b) e k f = cc
      by None None e k f =
          let len : 1 + length x ≡ length (s ∷ x) = omega arith in
          ap (further 1) (f e)
          ∙ (further_both 1 (length x) (alarm_from c (tail_after c.window (tail_step c.window t s) x) y)
          ∙ ap (λ m. further m (alarm_from c (tail_after c.window (tail_step c.window t s) x) y)) len)

-- a list from a place on is a block and what is behind it
block_split : (x : List ℕ) (i : ℕ) → i * 16 + 16 ≤ length x → slice_range x (i * 16) (i * 16 + 16) ++ drop ((i + 1) * 16) x ≡ drop (i * 16) x
block_split x i h =
    let sixteen : i * 16 + 16 - i * 16 ≡ 16 = omega arith in
    let next : i * 16 + 16 ≡ (i + 1) * 16 = omega arith in
    ap (λ k. take k (drop (i * 16) x) ++ drop ((i + 1) * 16) x) sixteen
    ∙ (ap (λ y. take 16 (drop (i * 16) x) ++ y) (ap (λ k. drop k x) (sym next) ∙ sym (drop-drop 16 (i * 16) x))
    ∙ take-append-drop 16 (drop (i * 16) x))

block_long : (x : List ℕ) (i : ℕ) → i * 16 + 16 ≤ length x → length (slice_range x (i * 16) (i * 16 + 16)) ≡ 16
block_long x i h = omega (arith, length-take (i * 16 + 16 - i * 16) (drop (i * 16) x), length-drop (i * 16) x)

pub block_alarm : (c : Limits) (t : Tail) (x : List ℕ) (i : ℕ) (a : Alarm) → i * 16 + 16 ≤ length x
    → alarm_from c t (slice_range x (i * 16) (i * 16 + 16)) ≡ Some a
    → further (i * 16) (alarm_from c t (drop (i * 16) x)) ≡ Some (record { at = i * 16 + a.at; test = a.test })
block_alarm c t x i a h e =
    ap (further (i * 16)) (ap (alarm_from c t) (sym (block_split x i h)) ∙ alarm_first c t (slice_range x (i * 16) (i * 16 + 16)) (drop ((i + 1) * 16) x) a e)

pub block_quiet : (c : Limits) (t n : Tail) (x : List ℕ) (i : ℕ) → i * 16 + 16 ≤ length x
    → alarm_from c t (slice_range x (i * 16) (i * 16 + 16)) ≡ None → n ≡ tail_after c.window t (slice_range x (i * 16) (i * 16 + 16))
    → further (i * 16) (alarm_from c t (drop (i * 16) x)) ≡ further ((i + 1) * 16) (alarm_from c n (drop ((i + 1) * 16) x))
block_quiet c t n x i h e m =
    let block = slice_range x (i * 16) (i * 16 + 16) in
    let rest = drop ((i + 1) * 16) x in
    let sum : i * 16 + length block ≡ (i + 1) * 16 = omega (arith, block_long x i h) in
    ap (further (i * 16)) (ap (alarm_from c t) (sym (block_split x i h)) ∙ alarm_later c t block rest e)
    ∙ (further_both (i * 16) (length block) (alarm_from c (tail_after c.window t block) rest)
    ∙ (ap (λ k. further k (alarm_from c (tail_after c.window t block) rest)) sum ∙ ap (λ q. further ((i + 1) * 16) (alarm_from c q rest)) (sym m)))

pub block_tail : (w : ℕ) (t n : Tail) (x : List ℕ) (i : ℕ) → i * 16 + 16 ≤ length x → n ≡ tail_after w t (slice_range x (i * 16) (i * 16 + 16))
    → tail_after w t (drop (i * 16) x) ≡ tail_after w n (drop ((i + 1) * 16) x)
block_tail w t n x i h m =
    ap (tail_after w t) (sym (block_split x i h))
    ∙ (tail_both w t (slice_range x (i * 16) (i * 16 + 16)) (drop ((i + 1) * 16) x) ∙ ap (λ q. tail_after w q (drop ((i + 1) * 16) x)) (sym m))
