-- What samples without an alarm leave has one of the forms.
use Rattle.std.proofs.Common.{◌≡◌, ℕ, ◌+◌, ◌<◌, ◌≤◌, Bool, true, false, List, [], ◌∷◌, refl, sym, ap, ◌∙◌, subst, arith, inl, inr}
use Rattle.std.specs.Prelude.{◌==◌, ◌⊎◌, if◌then◌else◌, nat_le, Option, Some, None}
use Rattle.std.proofs.lemmas.Bool.{eqb-true, eqb-false, leb-false}
use Rattle.health_tests.specs.declared.windows.Test.{Test}
use Rattle.health_tests.specs.declared.windows.Test.TheVariants.{Repetition, Proportion}
use Rattle.health_tests.specs.declared.windows.Alarm.{Alarm}
use Rattle.health_tests.specs.declared.numbers.Tail.{Tail}
use Rattle.health_tests.specs.Cutoffs.{Limits, AreSound}
use Rattle.health_tests.specs.Windows.{or_later}
use Rattle.health_tests.specs.Numbers.{no_tail, tail_step, tail_after, alarm_by, alarm_from}
use Rattle.health_tests.specs.Stands.{StandsForSome}
use Rattle.health_tests.proofs.Counting.{tail_begins, tail_grows}
use Rattle.health_tests.proofs.Alarms.{alarm_tells}
use Rattle.health_tests.specs.Left.{filled}
use Rattle.health_tests.proofs.Shapes.{Shape, same_like, same_unlike, turn_like, turn_unlike, opens, short}

-- numbers of one sample or more, below the cutoffs and in a form of their window
pub record Begun (c : Limits) (t : Tail) : Type 0 where
  pub low : 1 ≤ t.run
  pub high : t.run < c.rct
  pub place : t.place < c.window
  pub count : t.equal < c.apt
  pub shape : Shape c.rct c.window (filled c.window t.place) t.run t.equal t.last t.first

pub filled_pos : (w n : ℕ) → 0 < n → filled w n ≡ n
filled_pos w n h = by (n == 0) refl where
  by : (b : Bool) → (n == 0) ≡ b → (if b then w else n) ≡ n
  by true e = absurd (omega (arith, eqb-true n 0 e))
  by false e = refl

pub filled_zero : (w n : ℕ) → n ≡ 0 → filled w n ≡ w
filled_zero w n e = ap (λ x. filled w x) e

pub filled_low : (w n : ℕ) → 0 < w → 1 ≤ filled w n
filled_low w n h = by (n == 0) refl where
  by : (b : Bool) → (n == 0) ≡ b → 1 ≤ (if b then w else n)
  by true e = omega arith
  by false e = let no = eqb-false n 0 e in omega arith

filled_next : (w p : ℕ) → 1 < w → p < w → (g : Bool) → (p + 1 == w) ≡ g → (b : Bool) → (p == 0) ≡ b
    → filled w (if g then 0 else p + 1) ≡ (if b then 1 else filled w p + 1)
filled_next w p h i true e true d = absurd (omega (arith, eqb-true (p + 1) w e, eqb-true p 0 d))
filled_next w p h i true e false d =
    let no = eqb-false p 0 d in
    let pos : 0 < p = omega arith in
    omega (arith, eqb-true (p + 1) w e, filled_pos w p pos, filled_zero w 0 refl)
filled_next w p h i false e true d = let pos : 0 < p + 1 = omega arith in omega (arith, filled_pos w (p + 1) pos, eqb-true p 0 d)
filled_next w p h i false e false d =
    let no = eqb-false p 0 d in
    let pos : 0 < p = omega arith in
    let next : 0 < p + 1 = omega arith in
    omega (arith, filled_pos w (p + 1) next, filled_pos w p pos)

next_place : (w p : ℕ) → 1 < w → p < w → (g : Bool) → (p + 1 == w) ≡ g → (if g then 0 else p + 1) < w
next_place w p h i true e = omega arith
next_place w p h i false e = let no = eqb-false (p + 1) w e in omega arith

next_low : (r : ℕ) (a : Bool) → 1 ≤ (if a then r + 1 else 1)
next_low r true = omega arith
next_low r false = omega arith

next_shape : (R w p r e l f s : ℕ) → 1 < w → (p ≡ 0 → r < w)
    → ((p ≡ 0 → ⊥) → (1 ≤ r) × (r < R) × Shape R w (filled w p) r e l f)
    → (a : Bool) → (s == l) ≡ a → (b : Bool) → (p == 0) ≡ b → (d : Bool) → (s == f) ≡ d
    → Shape R w (if b then 1 else filled w p + 1) (if a then r + 1 else 1) (if b then 1 else if d then e + 1 else e) s (if b then s else f)
next_shape R w p r e l f s i run inside true x true j d k = let q = run (eqb-true p 0 j) in opens R w (r + 1) s (omega arith) (omega arith)
next_shape R w p r e l f s i run inside false x true j d k = opens R w 1 s (omega arith) (omega arith)
next_shape R w p r e l f s i run inside true x false j true k =
    let h = inside (eqb-false p 0 j) in same_like R w (filled w p) r e l f s (eqb-true s l x) (eqb-true s f k) h.2
next_shape R w p r e l f s i run inside true x false j false k =
    let h = inside (eqb-false p 0 j) in same_unlike R w (filled w p) r e l f s (eqb-true s l x) (eqb-false s f k) h.2
next_shape R w p r e l f s i run inside false x false j true k =
    let h = inside (eqb-false p 0 j) in turn_like R w (filled w p) r e l f s h.0 h.1 (eqb-false s l x) (eqb-true s f k) h.2
next_shape R w p r e l f s i run inside false x false j false k =
    let h = inside (eqb-false p 0 j) in
    turn_unlike R w (filled w p) r e l f s (filled_low w p (omega arith)) h.0 h.1 (eqb-false s f k) h.2

step_begun : (c : Limits) → AreSound c → (t : Tail) → t.place < c.window → (t.place ≡ 0 → t.run < c.window)
    → ((t.place ≡ 0 → ⊥) → (1 ≤ t.run) × (t.run < c.rct) × Shape c.rct c.window (filled c.window t.place) t.run t.equal t.last t.first)
    → (s : ℕ) → (tail_step c.window t s).run < c.rct → (tail_step c.window t s).equal < c.apt → Begun c (tail_step c.window t s)
step_begun c sound t place run inside s high count =
    let wide : 1 < c.window = omega (arith, sound.apt, sound.within) in
    let n = tail_step c.window t s in
    let filling = filled_next c.window t.place wide place (t.place + 1 == c.window) refl (t.place == 0) refl in
    record {
      low = next_low t.run (s == t.last);
      high = high;
      place = next_place c.window t.place wide place (t.place + 1 == c.window) refl;
      count = count;
      shape = subst (λ m. Shape c.rct c.window m n.run n.equal n.last n.first) (sym filling)
          (next_shape c.rct c.window t.place t.run t.equal t.last t.first s wide run inside (s == t.last) refl (t.place == 0) refl (s == t.first) refl);
    }

no_alarm : (c : Limits) (t : Tail) → alarm_by c t ≡ None → (t.run < c.rct) × (t.equal < c.apt)
no_alarm c t h = by (nat_le c.rct t.run) refl (nat_le c.apt t.equal) refl h where
  by : (a : Bool) → nat_le c.rct t.run ≡ a → (b : Bool) → nat_le c.apt t.equal ≡ b
      → (if a then Some Repetition else if b then Some Proportion else None) ≡ None → (t.run < c.rct) × (t.equal < c.apt)
  by true p b q h = cc
  by false p true q h = cc
  by false p false q h = (leb-false c.rct t.run p, leb-false c.apt t.equal q)

-- no sample, or numbers of some
abbrev pub Reached : Limits → Tail → Type 0
Reached c t = (t ≡ no_tail) ⊎ Begun c t

blank_step : (c : Limits) → AreSound c → (s : ℕ) → alarm_by c (tail_step c.window no_tail s) ≡ None → Begun c (tail_step c.window no_tail s)
blank_step c sound s quiet =
    let below = no_alarm c (tail_step c.window no_tail s) quiet in
    let wide : 0 < c.window = omega (arith, sound.apt, sound.within) in
    step_begun c sound no_tail wide (λ _. wide) (λ no. absurd (no refl)) s below.0 below.1

begun_step : (c : Limits) → AreSound c → (t : Tail) → Begun c t → (s : ℕ) → alarm_by c (tail_step c.window t s) ≡ None → Begun c (tail_step c.window t s)
begun_step c sound t old s quiet =
    let below = no_alarm c (tail_step c.window t s) quiet in
    step_begun c sound t old.place
    (λ z. short c.rct c.window c.apt t.run t.equal t.last t.first old.count sound.within
    (subst (λ m. Shape c.rct c.window m t.run t.equal t.last t.first) (filled_zero c.window t.place z) old.shape))
    (λ _. (old.low, old.high, old.shape)) s below.0 below.1

any_step : (c : Limits) → AreSound c → (t : Tail) → Reached c t → (s : ℕ) → alarm_by c (tail_step c.window t s) ≡ None → Begun c (tail_step c.window t s)
any_step c sound t (inl e) s = subst (λ (n : Tail). alarm_by c (tail_step c.window n s) ≡ None → Begun c (tail_step c.window n s)) (sym e) (blank_step c sound s)
any_step c sound t (inr old) s = begun_step c sound t old s

none_parts : (a : Option Test) (b : Option Alarm) → or_later a b ≡ None → (a ≡ None) × (b ≡ None)
none_parts (Some test) b h = cc
none_parts None None h = (refl, refl)
none_parts None (Some alarm) h = cc

all_steps : (c : Limits) → AreSound c → (x : List ℕ) (t : Tail) → Reached c t → alarm_from c t x ≡ None → Reached c (tail_after c.window t x)
all_steps c sound [] t old quiet = old
all_steps c sound (s ∷ x) t old quiet =
    let parts = none_parts (alarm_by c (tail_step c.window t s)) (alarm_from c (tail_step c.window t s) x) quiet in
    all_steps c sound x (tail_step c.window t s) (inr (any_step c sound t old s parts.0)) parts.1

-- what a list without an alarm leaves
pub reached : (c : Limits) (t : Tail) → AreSound c → StandsForSome (record { cutoffs = c; tail = t }) → Reached c t
reached c t sound (x, stands) =
    let begins = tail_begins c.window in
    let quiet : alarm_from c no_tail x ≡ None =
    ap (λ (n : Tail). alarm_from c n x) (sym begins) ∙ (alarm_tells c [] x ∙ stands.quiet) in
    let ends : tail_after c.window no_tail x ≡ t =
    ap (λ (n : Tail). tail_after c.window n x) (sym begins) ∙ (tail_grows c.window [] x ∙ sym stands.counted) in
    subst (λ n. Reached c n) ends (all_steps c sound x no_tail (inl refl) quiet)
