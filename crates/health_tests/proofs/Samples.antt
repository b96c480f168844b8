-- Numbers that have one of the forms are those of some samples without an alarm: one sample after another is taken off.
use Rattle.std.proofs.Common.{◌≡◌, ℕ, zero, suc, ◌+◌, ◌-◌, ◌*◌, ◌<◌, ◌≤◌, Bool, true, false, [], ◌∷◌, ◌++◌, refl, sym, ap, ◌∙◌, subst, arith, inl, inr, zero-mul, suc-mul}
use Rattle.std.proofs.Math.Nat.{le-mul_of_pos_right}
use Rattle.std.specs.Prelude.{◌==◌, if◌then◌else◌, nat_le, nat_lt, Some, None}
use Rattle.std.proofs.lemmas.Bool.{eqb-true, eqb-false, eq-eqb, leb-false, leb-true, ltb-true, ltb-false}
use Rattle.health_tests.specs.declared.windows.Test.TheVariants.{Repetition, Proportion}
use Rattle.health_tests.specs.declared.numbers.Tail.{Tail}
use Rattle.health_tests.specs.Cutoffs.{Limits, AreSound}
use Rattle.health_tests.specs.Numbers.{no_tail, tail_step, alarm_by}
use Rattle.health_tests.specs.Stands.{Standing, StandsFor, StandsForSome}
use Rattle.health_tests.proofs.Stepping.{goes_on, stands_fresh}
use Rattle.health_tests.specs.Left.{filled}
use Rattle.health_tests.proofs.Shapes.{Shape, Full, Like, Unlike}
use Rattle.health_tests.proofs.Reaching.{Begun, Reached, filled_pos, filled_zero, filled_low}

is_quiet : (c : Limits) (t : Tail) → t.run < c.rct → t.equal < c.apt → alarm_by c t ≡ None
is_quiet c t h k = by (nat_le c.rct t.run) refl (nat_le c.apt t.equal) refl where
  by : (a : Bool) → nat_le c.rct t.run ≡ a → (b : Bool) → nat_le c.apt t.equal ≡ b → (if a then Some Repetition else if b then Some Proportion else None) ≡ None
  by true p b q = absurd (omega (arith, leb-true c.rct t.run p))
  by false p true q = absurd (omega (arith, leb-true c.apt t.equal q))
  by false p false q = refl

-- some samples, with one more
extend : (c : Limits) (before t : Tail) (s : ℕ) → StandsForSome (record { cutoffs = c; tail = before }) → tail_step c.window before s ≡ t
    → t.run < c.rct → t.equal < c.apt → StandsForSome (record { cutoffs = c; tail = t })
extend c before t s (x, stands) e high count =
    let quiet : alarm_by c (tail_step c.window before s) ≡ None = ap (λ n. alarm_by c n) e ∙ is_quiet c t high count in
    let whole : Tail → Standing = λ n. record { cutoffs = c; tail = n } in
    (x ++ s ∷ [], subst (λ n. StandsFor (whole n) (x ++ s ∷ [])) e (goes_on (whole before) x s stands quiet))

same_tail : (a b : Tail) → a.last ≡ b.last → a.run ≡ b.run → a.place ≡ b.place → a.first ≡ b.first → a.equal ≡ b.equal → a ≡ b
same_tail a b p q r s t =
    let whole : ℕ → ℕ → ℕ → ℕ → ℕ → Tail = λ l m n o e. record { last = l; run = m; place = n; first = o; equal = e } in
    let same : whole a.last a.run a.place a.first a.equal ≡ whole b.last b.run b.place b.first b.equal = rw (p, q, r, s, t) refl in
    same

otherwise : (b : Bool) (x y : ℕ) → b ≡ false → (if b then x else y) ≡ y
otherwise true x y h = cc
otherwise false x y h = refl

taken : (b : Bool) (x y : ℕ) → b ≡ true → (if b then x else y) ≡ x
taken true x y h = refl
taken false x y h = cc

not_equal : (a b : ℕ) → (a ≡ b → ⊥) → (a == b) ≡ false
not_equal a b h = by (a == b) refl where
  by : (x : Bool) → (a == b) ≡ x → (a == b) ≡ false
  by true e = absurd (h (eqb-true a b e))
  by false e = e

place_back : (w p : ℕ) → p < w → 2 ≤ filled w p → (if filled w p - 1 + 1 == w then 0 else filled w p - 1 + 1) ≡ p
place_back w p h i = by (p == 0) refl (filled w p - 1 + 1 == w) refl where
  by : (b : Bool) → (p == 0) ≡ b → (g : Bool) → (filled w p - 1 + 1 == w) ≡ g → (if g then 0 else filled w p - 1 + 1) ≡ p
  by true j true k = sym (eqb-true p 0 j)
  by true j false k = absurd (eqb-false (filled w p - 1 + 1) w k (omega (arith, filled_zero w p (eqb-true p 0 j))))
  by false j true k =
      let no = eqb-false p 0 j in
      let pos : 0 < p = omega arith in
      absurd (omega (arith, eqb-true (filled w p - 1 + 1) w k, filled_pos w p pos))
  by false j false k =
      let no = eqb-false p 0 j in
      let pos : 0 < p = omega arith in
      omega (arith, filled_pos w p pos)

filled_high : (w p : ℕ) → p < w → filled w p ≤ w
filled_high w p h = by (p == 0) refl where
  by : (b : Bool) → (p == 0) ≡ b → (if b then w else p) ≤ w
  by true e = omega arith
  by false e = omega arith

-- the numbers before the last sample of a window, which is not its first
within : (w : ℕ) (t : Tail) (l r e : ℕ) → 1 < w → t.place < w → 2 ≤ filled w t.place
    → (if t.last == l then r + 1 else 1) ≡ t.run → (if t.last == t.first then e + 1 else e) ≡ t.equal
    → tail_step w (record { last = l; run = r; place = filled w t.place - 1; first = t.first; equal = e }) t.last ≡ t
within w t l r e wide place more run equal =
    let inner : (filled w t.place - 1 == 0) ≡ false = not_equal (filled w t.place - 1) 0 (λ z. omega arith) in
    same_tail (tail_step w (record { last = l; run = r; place = filled w t.place - 1; first = t.first; equal = e }) t.last) t
    refl run (place_back w t.place place more)
    (otherwise (filled w t.place - 1 == 0) t.last t.first inner)
    (otherwise (filled w t.place - 1 == 0) 1 (if t.last == t.first then e + 1 else e) inner ∙ equal)

-- what stands before it, in its form
before : (c : Limits) → AreSound c → (t : Tail) → Begun c t → 2 ≤ filled c.window t.place → (l r e : ℕ) → 1 ≤ r → r < c.rct → e < c.apt
    → Shape c.rct c.window (filled c.window t.place - 1) r e l t.first
    → Begun c (record { last = l; run = r; place = filled c.window t.place - 1; first = t.first; equal = e })
before c sound t old more l r e low high count shape =
    let m = filled c.window t.place in
    let pos : 0 < m - 1 = omega arith in
    let tall = filled_high c.window t.place old.place in
    record {
      low = low;
      high = high;
      place = omega arith;
      count = count;
      shape = subst (λ n. Shape c.rct c.window n r e l t.first) (sym (filled_pos c.window (m - 1) pos)) shape;
    }

-- one less of a run
shape_back : (R w m r e l f : ℕ) → 2 ≤ m → 2 ≤ r → (b : Bool) → (l == f) ≡ b → Shape R w m r e l f
    → Shape R w (m - 1) (r - 1) (if b then e - 1 else e) l f
shape_back R w m r e l f i j true k (Full a b c d) = Full (omega arith) b (omega arith) (omega arith)
shape_back R w m r e l f i j true k (Like n o b c d g h) = Like n o b (omega arith) d (omega arith) h
shape_back R w m r e l f i j true k (Unlike n o b c d g h) = absurd (b (eqb-true l f k))
shape_back R w m r e l f i j false k (Full a b c d) = absurd (eqb-false l f k b)
shape_back R w m r e l f i j false k (Like n o b c d g h) = absurd (eqb-false l f k b)
shape_back R w m r e l f i j false k (Unlike n o b c d g h) = Unlike n o b c d (omega arith) h

equal_back : (R w m r e l f : ℕ) → 1 ≤ m → 2 ≤ r → Shape R w m r e l f → (b : Bool) → (l == f) ≡ b
    → (if b then (if b then e - 1 else e) + 1 else (if b then e - 1 else e)) ≡ e
equal_back R w m r e l f i j (Full a b c d) true k = omega arith
equal_back R w m r e l f i j (Like n o b c d g h) true k = omega arith
equal_back R w m r e l f i j (Unlike n o b c d g h) true k = absurd (b (eqb-true l f k))
equal_back R w m r e l f i j s false k = refl

count_back : (b : Bool) (e a : ℕ) → e < a → (if b then e - 1 else e) < a
count_back true e a h = omega arith
count_back false e a h = h

-- the last sample of a run of two or more taken off
run_off : (c : Limits) → AreSound c → (t : Tail) → Begun c t → 2 ≤ filled c.window t.place → 2 ≤ t.run
    → ((n : Tail) → Begun c n → n.run ≡ t.run - 1 → n.place ≡ filled c.window t.place - 1 → StandsForSome (record { cutoffs = c; tail = n }))
    → StandsForSome (record { cutoffs = c; tail = t })
run_off c sound t old more long some =
    let m = filled c.window t.place in
    let wide : 1 < c.window = omega (arith, sound.apt, sound.within) in
    let e = if t.last == t.first then t.equal - 1 else t.equal in
    let high = old.high in
    let low : 1 ≤ t.run - 1 = omega arith in
    let below : t.run - 1 < c.rct = omega arith in
    let one : 1 ≤ m = omega arith in
    let n : Tail = record { last = t.last; run = t.run - 1; place = m - 1; first = t.first; equal = e } in
    let begun : Begun c n = before c sound t old more t.last (t.run - 1) e low below
    (count_back (t.last == t.first) t.equal c.apt old.count)
    (shape_back c.rct c.window m t.run t.equal t.last t.first more long (t.last == t.first) refl old.shape) in
    let run : (if t.last == t.last then t.run - 1 + 1 else 1) ≡ t.run =
    taken (t.last == t.last) (t.run - 1 + 1) 1 (eq-eqb t.last t.last refl) ∙ omega arith in
    extend c n t t.last (some n begun refl refl)
    (within c.window t t.last (t.run - 1) e wide old.place more run
    (equal_back c.rct c.window m t.run t.equal t.last t.first one long old.shape (t.last == t.first) refl))
    old.high old.count

-- a run of one taken off, where l and r are the last sample and the run before it
turn_off : (c : Limits) → AreSound c → (t : Tail) → Begun c t → 2 ≤ filled c.window t.place → t.run ≡ 1 → (l r e : ℕ)
    → (t.last ≡ l → ⊥) → 1 ≤ r → r < c.rct → e < c.apt → (if t.last == t.first then e + 1 else e) ≡ t.equal
    → Shape c.rct c.window (filled c.window t.place - 1) r e l t.first
    → ((n : Tail) → Begun c n → n.run ≡ r → n.place ≡ filled c.window t.place - 1 → StandsForSome (record { cutoffs = c; tail = n }))
    → StandsForSome (record { cutoffs = c; tail = t })
turn_off c sound t old more single l r e differs low high count equal shape some =
    let m = filled c.window t.place in
    let wide : 1 < c.window = omega (arith, sound.apt, sound.within) in
    let n : Tail = record { last = l; run = r; place = m - 1; first = t.first; equal = e } in
    let begun : Begun c n = before c sound t old more l r e low high count shape in
    let run : (if t.last == l then r + 1 else 1) ≡ t.run = otherwise (t.last == l) (r + 1) 1 (not_equal t.last l differs) ∙ sym single in
    extend c n t t.last (some n begun refl refl) (within c.window t l r e wide old.place more run equal) old.high old.count

-- the one sample of a first window
only_one : (c : Limits) → AreSound c → (t : Tail) → Begun c t → filled c.window t.place ≡ 1 → t.run ≡ 1 → StandsForSome (record { cutoffs = c; tail = t })
only_one c sound t old one single =
    let wide : 1 < c.window = omega (arith, sound.apt, sound.within) in
    let place : 1 ≡ t.place = by (t.place == 0) refl in
    let begins : (0 + 1 == c.window) ≡ false = not_equal (0 + 1) c.window (λ e. omega arith) in
    let same = shape old.shape in
    let run = single_run (t.last == 0) in
    extend c no_tail t t.last ([], stands_fresh c)
    (same_tail (tail_step c.window no_tail t.last) t refl (run ∙ sym single)
    (otherwise (0 + 1 == c.window) 0 (0 + 1) begins ∙ place) same.0 (sym same.1))
    old.high old.count where
      by : (b : Bool) → (t.place == 0) ≡ b → 1 ≡ t.place
      by true e = absurd (omega (arith, sound.apt, sound.within, filled_zero c.window t.place (eqb-true t.place 0 e)))
      by false e =
          let no = eqb-false t.place 0 e in
          let pos : 0 < t.place = omega arith in
          sym one ∙ filled_pos c.window t.place pos

      shape : Shape c.rct c.window (filled c.window t.place) t.run t.equal t.last t.first → (t.last ≡ t.first) × (t.equal ≡ 1)
      shape (Full a b d g) = (b, d ∙ one)
      shape (Like n k b d g h i) = absurd (omega arith)
      shape (Unlike n k b d g h i) = absurd (omega arith)

      single_run : (b : Bool) → (if b then 0 + 1 else 1) ≡ 1
      single_run true = refl
      single_run false = refl

-- a run of one in a window of two or more
one_off : (c : Limits) → AreSound c → (t : Tail) → Begun c t → 2 ≤ filled c.window t.place → t.run ≡ 1
    → ((n : Tail) → Begun c n → n.run ≤ filled c.window t.place - 1 → n.place ≡ filled c.window t.place - 1 → StandsForSome (record { cutoffs = c; tail = n }))
    → StandsForSome (record { cutoffs = c; tail = t })
one_off c sound t old more single some = by old.shape where
  R : ℕ
  R = c.rct

  m : ℕ
  m = filled c.window t.place

  by : Shape c.rct c.window (filled c.window t.place) t.run t.equal t.last t.first → StandsForSome (record { cutoffs = c; tail = t })
  by (Full a b d g) = absurd (omega arith)
  by (Like n k b d g h i) =
      turn_off c sound t old more single (t.first + 1) 1 n (λ q. omega arith) (omega arith) (omega (arith, sound.rct)) (omega (arith, old.count))
      (taken (t.last == t.first) (n + 1) n (eq-eqb t.last t.first b) ∙ omega arith)
      (Unlike n k (λ q. omega arith) refl g (omega arith) i)
      (λ a begun run place. some a begun (omega arith) place)
  by (Unlike n zero b d g h i) =
      turn_off c sound t old more single t.first (m - 1) t.equal b (omega arith) (omega (arith, zero-mul R)) old.count
      (otherwise (t.last == t.first) (t.equal + 1) t.equal (not_equal t.last t.first b))
      (Full (omega arith) refl (omega arith) (omega (arith, sound.apt, sound.within)))
      (λ a begun run place. some a begun (omega arith) place)
  by (Unlike n (suc j) b d g h i) = two (nat_lt (n + j) (j * R + R)) refl where
    two : (x : Bool) → nat_lt (n + j) (j * R + R) ≡ x → StandsForSome (record { cutoffs = c; tail = t })
    two true e =
        turn_off c sound t old more single (t.last + t.first + 1) 1 t.equal (λ q. omega arith) (omega arith) (omega (arith, sound.rct)) old.count
        (otherwise (t.last == t.first) (t.equal + 1) t.equal (not_equal t.last t.first b))
        (Unlike n j (λ q. omega arith) d g (omega arith) (ltb-true (n + j) (j * R + R) e))
        (λ a begun run place. some a begun (omega arith) place)
    two false e =
        let wide = ltb-false (n + j) (j * R + R) e in
        let rows = suc-mul j R in
        let pos : 0 < R = omega (arith, sound.rct) in
        let grows = le-mul_of_pos_right {m = R} j pos in
        let r = n + suc j - (j * R + R) in
        turn_off c sound t old more single t.first r t.equal b (omega (arith, wide)) (omega (arith, rows, i)) old.count
        (otherwise (t.last == t.first) (t.equal + 1) t.equal (not_equal t.last t.first b))
        (Like (n - r) j refl (omega (arith, wide, grows, sound.rct)) (omega (arith, wide, grows, sound.rct))
        (omega (arith, wide, grows, sound.rct)) (omega (arith, wide, grows, sound.rct)))
        (λ a begun run place. some a begun (omega (arith, wide, grows, sound.rct)) place)

-- a run within its window
inner_step : (k : ℕ) (c : Limits) → AreSound c
    → ((n : Tail) → Begun c n → n.run ≤ filled c.window n.place → filled c.window n.place ≤ k → StandsForSome (record { cutoffs = c; tail = n }))
    → (t : Tail) → Begun c t → t.run ≤ filled c.window t.place → filled c.window t.place ≤ suc k → StandsForSome (record { cutoffs = c; tail = t })
inner_step k c sound less t old inside fuel = by (nat_le (filled c.window t.place) 1) refl (nat_le 2 t.run) refl where
  filling : (n : Tail) → 2 ≤ filled c.window t.place → n.place ≡ filled c.window t.place - 1 → filled c.window n.place ≡ filled c.window t.place - 1
  filling n more place = let pos : 0 < n.place = omega arith in filled_pos c.window n.place pos ∙ place

  by : (a : Bool) → nat_le (filled c.window t.place) 1 ≡ a → (b : Bool) → nat_le 2 t.run ≡ b → StandsForSome (record { cutoffs = c; tail = t })
  by true p b q =
      let low = leb-true (filled c.window t.place) 1 p in
      let wide : 0 < c.window = omega (arith, sound.apt, sound.within) in
      let some = filled_low c.window t.place wide in
      only_one c sound t old (omega arith) (omega (arith, old.low))
  by false p true q =
      let more : 2 ≤ filled c.window t.place = omega (arith, leb-false (filled c.window t.place) 1 p) in
      run_off c sound t old more (leb-true 2 t.run q)
      (λ n begun run place. less n begun (omega (arith, filling n more place)) (omega (arith, filling n more place)))
  by false p false q =
      let more : 2 ≤ filled c.window t.place = omega (arith, leb-false (filled c.window t.place) 1 p) in
      one_off c sound t old more (omega (arith, old.low, leb-false 2 t.run q))
      (λ n begun run place. less n begun (omega (arith, filling n more place)) (omega (arith, filling n more place)))

inner : (k : ℕ) (c : Limits) → AreSound c → (t : Tail) → Begun c t → t.run ≤ filled c.window t.place → filled c.window t.place ≤ k
    → StandsForSome (record { cutoffs = c; tail = t })
inner zero c sound t old inside fuel =
    let wide : 0 < c.window = omega (arith, sound.apt, sound.within) in
    absurd (omega (arith, filled_low c.window t.place wide))
inner (suc k) c sound t old inside fuel = inner_step k c sound (λ n. inner k c sound n) t old inside fuel

-- the first sample of a window whose run began in the window before
crossing : (c : Limits) → AreSound c → (t : Tail) → Begun c t → filled c.window t.place ≡ 1 → 2 ≤ t.run → StandsForSome (record { cutoffs = c; tail = t })
crossing c sound t old one long =
    let wide : 1 < c.window = omega (arith, sound.apt, sound.within) in
    let facts = full old.shape in
    let j = c.window - t.run in
    let pos : 0 < c.rct = omega (arith, sound.rct) in
    let grows = le-mul_of_pos_right {m = c.rct} j pos in
    let n : Tail = record { last = t.last; run = t.run - 1; place = 0; first = t.last + 1; equal = 1 } in
    let begun : Begun c n = record {
      low = omega arith;
      high = omega (arith, old.high);
      place = omega arith;
      count = omega (arith, sound.apt);
      shape = Unlike 1 j (λ q. omega arith) refl (omega arith) (omega (arith, facts.2)) (omega (arith, grows, sound.rct));
    } in
    let begins : (0 + 1 == c.window) ≡ false = not_equal (0 + 1) c.window (λ e. omega arith) in
    let place : 1 ≡ t.place = by (t.place == 0) refl in
    extend c n t t.last (inner c.window c sound n begun (omega (arith, facts.2)) (omega arith))
    (same_tail (tail_step c.window n t.last) t refl
    (taken (t.last == t.last) (t.run - 1 + 1) 1 (eq-eqb t.last t.last refl) ∙ omega arith)
    (otherwise (0 + 1 == c.window) 0 (0 + 1) begins ∙ place) facts.0 (sym facts.1))
    old.high old.count where
      by : (b : Bool) → (t.place == 0) ≡ b → 1 ≡ t.place
      by true e = absurd (omega (arith, sound.apt, sound.within, filled_zero c.window t.place (eqb-true t.place 0 e)))
      by false e =
          let no = eqb-false t.place 0 e in
          let pos : 0 < t.place = omega arith in
          sym one ∙ filled_pos c.window t.place pos

      full : Shape c.rct c.window (filled c.window t.place) t.run t.equal t.last t.first → (t.last ≡ t.first) × (t.equal ≡ 1) × (t.run ≤ c.window)
      full (Full a b d g) = (b, d ∙ one, omega arith)
      full (Like n k b d g h i) = absurd (omega arith)
      full (Unlike n k b d g h i) = absurd (omega arith)

-- a run that began in the window before
outer_step : (k : ℕ) (c : Limits) → AreSound c
    → ((n : Tail) → Begun c n → filled c.window n.place ≤ n.run → filled c.window n.place ≤ k → StandsForSome (record { cutoffs = c; tail = n }))
    → (t : Tail) → Begun c t → filled c.window t.place ≤ t.run → filled c.window t.place ≤ suc k → StandsForSome (record { cutoffs = c; tail = t })
outer_step k c sound less t old outside fuel = by (nat_le t.run (filled c.window t.place)) refl (nat_le (filled c.window t.place) 1) refl where
  filling : (n : Tail) → 2 ≤ filled c.window t.place → n.place ≡ filled c.window t.place - 1 → filled c.window n.place ≡ filled c.window t.place - 1
  filling n more place = let pos : 0 < n.place = omega arith in filled_pos c.window n.place pos ∙ place

  by : (a : Bool) → nat_le t.run (filled c.window t.place) ≡ a → (b : Bool) → nat_le (filled c.window t.place) 1 ≡ b → StandsForSome (record { cutoffs = c; tail = t })
  by true p b q = inner (filled c.window t.place) c sound t old (leb-true t.run (filled c.window t.place) p) (omega arith)
  by false p true q =
      let wide : 0 < c.window = omega (arith, sound.apt, sound.within) in
      let some = filled_low c.window t.place wide in
      let high = leb-true (filled c.window t.place) 1 q in
      let long = leb-false t.run (filled c.window t.place) p in
      crossing c sound t old (omega arith) (omega arith)
  by false p false q =
      let long = leb-false t.run (filled c.window t.place) p in
      let more : 2 ≤ filled c.window t.place = omega (arith, leb-false (filled c.window t.place) 1 q) in
      run_off c sound t old more (omega arith)
      (λ n begun run place. less n begun (omega (arith, filling n more place)) (omega (arith, filling n more place)))

outer : (k : ℕ) (c : Limits) → AreSound c → (t : Tail) → Begun c t → filled c.window t.place ≤ t.run → filled c.window t.place ≤ k
    → StandsForSome (record { cutoffs = c; tail = t })
outer zero c sound t old outside fuel =
    let wide : 0 < c.window = omega (arith, sound.apt, sound.within) in
    absurd (omega (arith, filled_low c.window t.place wide))
outer (suc k) c sound t old outside fuel = outer_step k c sound (λ n. outer k c sound n) t old outside fuel

-- each form is left by some samples
pub some_samples : (c : Limits) (t : Tail) → AreSound c → Reached c t → StandsForSome (record { cutoffs = c; tail = t })
some_samples c t sound (inl e) =
    let whole : Tail → Standing = λ n. record { cutoffs = c; tail = n } in
    ([], subst (λ n. StandsFor (whole n) []) (sym e) (stands_fresh c))
some_samples c t sound (inr old) = by (nat_le t.run (filled c.window t.place)) refl where
  by : (a : Bool) → nat_le t.run (filled c.window t.place) ≡ a → StandsForSome (record { cutoffs = c; tail = t })
  by true p = inner (filled c.window t.place) c sound t old (leb-true t.run (filled c.window t.place) p) (omega arith)
  by false p =
      let long = leb-false t.run (filled c.window t.place) p in
      outer (filled c.window t.place) c sound t old (omega arith) (omega arith)
