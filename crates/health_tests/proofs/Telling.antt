-- The test on the numbers tells the forms.
use Rattle.std.proofs.Common.{◌≡◌, ℕ, ◌+◌, ◌-◌, ◌*◌, ◌<◌, ◌≤◌, Bool, true, false, refl, sym, ◌∙◌, subst, arith, inl, inr}
use Rattle.std.specs.Prelude.{◌==◌, ◌&&◌, ◌||◌, ◌⊎◌, if◌then◌else◌, nat_le, nat_lt}
use Rattle.std.proofs.lemmas.Bool.{and_parts, and_from, eqb-true, eqb-false, eq-eqb, leb-true, le-leb, ltb-true, lt-ltb}
use Rattle.health_tests.specs.declared.numbers.Tail.{Tail}
use Rattle.health_tests.specs.Cutoffs.{Limits, AreSound}
use Rattle.health_tests.specs.Numbers.{no_tail}
use Rattle.health_tests.specs.Left.{is_blank, filled, can_spread, fits_window, is_begun, is_left}
use Rattle.health_tests.proofs.Shapes.{Shape, Full, Like, Unlike}
use Rattle.health_tests.specs.Stands.{StandsForSome}
use Rattle.health_tests.proofs.Reaching.{Begun, Reached, reached}
use Rattle.health_tests.proofs.Samples.{some_samples}

not_le : (a b : ℕ) → b < a → nat_le a b ≡ false
not_le a b h = by (nat_le a b) refl where
  by : (x : Bool) → nat_le a b ≡ x → nat_le a b ≡ false
  by true e = absurd (omega (arith, leb-true a b e))
  by false e = e

not_equal : (a b : ℕ) → (a ≡ b → ⊥) → (a == b) ≡ false
not_equal a b h = by (a == b) refl where
  by : (x : Bool) → (a == b) ≡ x → (a == b) ≡ false
  by true e = absurd (h (eqb-true a b e))
  by false e = e

-- spreading, both ways
spread_parts : (R many n : ℕ) → can_spread R many n ≡ true → (1 ≤ n) × (n ≤ many) × (many < (many - n) * R + R)
spread_parts R many n h = by (and_parts (nat_le 1 n && nat_le n many) (nat_lt many ((many - n) * R + R)) h) where
  by : ((nat_le 1 n && nat_le n many) ≡ true) × (nat_lt many ((many - n) * R + R) ≡ true) → (1 ≤ n) × (n ≤ many) × (many < (many - n) * R + R)
  by (p, q) =
      let parts = and_parts (nat_le 1 n) (nat_le n many) p in
      (leb-true 1 n parts.0, leb-true n many parts.1, ltb-true many ((many - n) * R + R) q)

spreads : (R many n k : ℕ) → 1 ≤ n → many ≡ n + k → n + k < k * R + R → can_spread R many n ≡ true
spreads R many n k h e i =
    let rest : many - n ≡ k = omega arith in
    let bound : many < (many - n) * R + R = subst (λ x. many < x * R + R) (sym rest) (subst (λ x. x < k * R + R) (sym e) i) in
    and_from (nat_le 1 n && nat_le n many) (nat_lt many ((many - n) * R + R))
    (and_from (nat_le 1 n) (nat_le n many) (le-leb 1 n h) (le-leb n many (omega arith)))
    (lt-ltb many ((many - n) * R + R) bound)

-- a window's test tells its form
shape_told : (R w m : ℕ) (t : Tail) → fits_window R w m t ≡ true → Shape R w m t.run t.equal t.last t.first
shape_told R w m t h = by (nat_le m t.run) refl (t.last == t.first) refl h where
  by : (a : Bool) → nat_le m t.run ≡ a → (b : Bool) → (t.last == t.first) ≡ b
      → (if a then b && t.equal == m && nat_lt t.run (m + w) else if b then can_spread R (m - 1 - t.run) (t.equal - t.run) else can_spread R (m - t.run) t.equal) ≡ true
      → Shape R w m t.run t.equal t.last t.first
  by true p b q i =
      let parts = and_parts (b && t.equal == m) (nat_lt t.run (m + w)) i in
      let both = and_parts b (t.equal == m) parts.0 in
      Full (leb-true m t.run p) (eqb-true t.last t.first (q ∙ both.0)) (eqb-true t.equal m both.1) (ltb-true t.run (m + w) parts.1)
  by false p true q i =
      let parts = spread_parts R (m - 1 - t.run) (t.equal - t.run) i in
      let n = t.equal - t.run in
      let k = m - 1 - t.run - n in
      let sum : n + k ≡ m - 1 - t.run = omega (arith, parts.1) in
      Like n k (eqb-true t.last t.first q) (omega (arith, parts.0)) parts.0 (omega (arith, parts.0, parts.1))
      (subst (λ x. x < k * R + R) (sym sum) parts.2)
  by false p false q i =
      let parts = spread_parts R (m - t.run) t.equal i in
      let k = m - t.run - t.equal in
      let sum : t.equal + k ≡ m - t.run = omega (arith, parts.1) in
      Unlike t.equal k (eqb-false t.last t.first q) refl parts.0 (omega (arith, parts.0, parts.1))
      (subst (λ x. x < k * R + R) (sym sum) parts.2)

shape_tested : (R w m : ℕ) (t : Tail) → Shape R w m t.run t.equal t.last t.first → fits_window R w m t ≡ true
shape_tested R w m t (Full a b d g) =
    by (nat_le m t.run) (le-leb m t.run a) where
      by : (x : Bool) → x ≡ true → (if x then t.last == t.first && t.equal == m && nat_lt t.run (m + w)
          else if t.last == t.first then can_spread R (m - 1 - t.run) (t.equal - t.run) else can_spread R (m - t.run) t.equal) ≡ true
      by true e = and_from (t.last == t.first && t.equal == m) (nat_lt t.run (m + w))
          (and_from (t.last == t.first) (t.equal == m) (eq-eqb t.last t.first b) (eq-eqb t.equal m d)) (lt-ltb t.run (m + w) g)
      by false e = cc
shape_tested R w m t (Like n k b d g h i) =
    by (nat_le m t.run) (not_le m t.run (omega arith)) (t.last == t.first) (eq-eqb t.last t.first b) where
      by : (x : Bool) → x ≡ false → (y : Bool) → y ≡ true → (if x then y && t.equal == m && nat_lt t.run (m + w)
          else if y then can_spread R (m - 1 - t.run) (t.equal - t.run) else can_spread R (m - t.run) t.equal) ≡ true
      by true e y f = cc
      by false e true f =
          let rest : t.equal - t.run ≡ n = omega arith in
          let many : m - 1 - t.run ≡ n + k = omega arith in
          subst (λ x. can_spread R (m - 1 - t.run) x ≡ true) (sym rest) (spreads R (m - 1 - t.run) n k g many i)
      by false e false f = cc
shape_tested R w m t (Unlike n k b d g h i) =
    by (nat_le m t.run) (not_le m t.run (omega arith)) (t.last == t.first) (not_equal t.last t.first b) where
      by : (x : Bool) → x ≡ false → (y : Bool) → y ≡ false → (if x then y && t.equal == m && nat_lt t.run (m + w)
          else if y then can_spread R (m - 1 - t.run) (t.equal - t.run) else can_spread R (m - t.run) t.equal) ≡ true
      by true e y f = cc
      by false e true f = cc
      by false e false f =
          let many : m - t.run ≡ n + k = omega arith in
          subst (λ x. can_spread R (m - t.run) x ≡ true) (sym d) (spreads R (m - t.run) n k g many i)

begun_told : (c : Limits) (t : Tail) → is_begun c t ≡ true → Begun c t
begun_told c t h =
    let fits = fits_window c.rct c.window (filled c.window t.place) t in
    let one = and_parts (nat_le 1 t.run && nat_lt t.run c.rct && nat_lt t.place c.window && nat_lt t.equal c.apt) fits h in
    let two = and_parts (nat_le 1 t.run && nat_lt t.run c.rct && nat_lt t.place c.window) (nat_lt t.equal c.apt) one.0 in
    let three = and_parts (nat_le 1 t.run && nat_lt t.run c.rct) (nat_lt t.place c.window) two.0 in
    let four = and_parts (nat_le 1 t.run) (nat_lt t.run c.rct) three.0 in
    record {
      low = leb-true 1 t.run four.0;
      high = ltb-true t.run c.rct four.1;
      place = ltb-true t.place c.window three.1;
      count = ltb-true t.equal c.apt two.1;
      shape = shape_told c.rct c.window (filled c.window t.place) t one.1;
    }

begun_tested : (c : Limits) (t : Tail) → Begun c t → is_begun c t ≡ true
begun_tested c t old =
    and_from (nat_le 1 t.run && nat_lt t.run c.rct && nat_lt t.place c.window && nat_lt t.equal c.apt) (fits_window c.rct c.window (filled c.window t.place) t)
    (and_from (nat_le 1 t.run && nat_lt t.run c.rct && nat_lt t.place c.window) (nat_lt t.equal c.apt)
    (and_from (nat_le 1 t.run && nat_lt t.run c.rct) (nat_lt t.place c.window)
    (and_from (nat_le 1 t.run) (nat_lt t.run c.rct) (le-leb 1 t.run old.low) (lt-ltb t.run c.rct old.high))
    (lt-ltb t.place c.window old.place))
    (lt-ltb t.equal c.apt old.count))
    (shape_tested c.rct c.window (filled c.window t.place) t old.shape)

blank_told : (t : Tail) → is_blank t ≡ true → t ≡ no_tail
blank_told t h =
    let one = and_parts (t.run == 0 && t.place == 0 && t.equal == 0 && t.last == 0) (t.first == 0) h in
    let two = and_parts (t.run == 0 && t.place == 0 && t.equal == 0) (t.last == 0) one.0 in
    let three = and_parts (t.run == 0 && t.place == 0) (t.equal == 0) two.0 in
    let four = and_parts (t.run == 0) (t.place == 0) three.0 in
    let whole : ℕ → ℕ → ℕ → ℕ → ℕ → Tail = λ l m n o e. record { last = l; run = m; place = n; first = o; equal = e } in
    let run = eqb-true t.run 0 four.0 in
    let place = eqb-true t.place 0 four.1 in
    let equal = eqb-true t.equal 0 three.1 in
    let last = eqb-true t.last 0 two.1 in
    let first = eqb-true t.first 0 one.1 in
    let same : whole t.last t.run t.place t.first t.equal ≡ whole 0 0 0 0 0 = rw (last, run, place, first, equal) refl in
    same

either : (a b : Bool) → (a || b) ≡ true → (a ≡ true) ⊎ (b ≡ true)
either true b h = inl refl
either false b h = inr h

or_right : (a b : Bool) → b ≡ true → (a || b) ≡ true
or_right true b h = refl
or_right false b h = h

pub told : (c : Limits) (t : Tail) → is_left c t ≡ true → Reached c t
told c t h = by (either (is_blank t) (is_begun c t) h) where
  by : (is_blank t ≡ true) ⊎ (is_begun c t ≡ true) → Reached c t
  by (inl e) = inl (blank_told t e)
  by (inr e) = inr (begun_told c t e)

pub tested : (c : Limits) (t : Tail) → Reached c t → is_left c t ≡ true
tested c t (inl e) = subst (λ n. is_left c n ≡ true) (sym e) refl
tested c t (inr old) = or_right (is_blank t) (is_begun c t) (begun_tested c t old)

-- the test's answer b, told of samples
pub passed : (c : Limits) (t : Tail) (b : Bool) → AreSound c → b ≡ is_left c t → b ≡ true → StandsForSome (record { cutoffs = c; tail = t })
passed c t b sound is holds = some_samples c t sound (told c t (sym is ∙ holds))

pub failed : (c : Limits) (t : Tail) (b : Bool) → AreSound c → b ≡ is_left c t → b ≡ false → StandsForSome (record { cutoffs = c; tail = t }) → ⊥
failed c t b sound is fails stands = let holds : b ≡ true = is ∙ tested c t (reached c t sound stands) in cc
