-- Laws of fields in a row: their bytes and their numbers.
use Rattle.std.proofs.Common.{◌≤◌, ◌≡◌, ◌<◌, inl, inr, ℕ, ◌+◌, ◌*◌, ◌^◌, ◌∷◌, List, [], ◌++◌, length, sym, ap, ◌∙◌, arith, length-append, append_assoc, refl, subst, nat_lt, false, ◌-◌, le-ltb, lt-ltb}
use Rattle.std.specs.List.{AllByRecursion}
use Rattle.std.proofs.lemmas.List.{append-nil}
use Rattle.frame_codec.specs.declared.table.Span.{Span}
use Rattle.frame_codec.specs.Rows.{Field, IsInOne, digits, Takes, spelled, why_at}
use Rattle.frame_codec.proofs.Digits.{fronts, length-digits, digits-one}

-- how many bytes the fields have
abbrev pub size_of : List Field → ℕ
size_of [] = 0
size_of (f ∷ fields) = f.width + size_of fields

-- the spans lie within the width
abbrev pub AreProper : ℕ → List Span → Type 0
AreProper width [] = Unit {0}
AreProper width (s ∷ spans) = (s.low ≤ s.high) × (s.high < 2 ^ (8 * width)) × AreProper width spans

-- whatever came before it, the field may have some number, and its numbers fit its width
pub record IsSound (f : Field) : Type 0 where
  pub wide : 1 ≤ f.width
  pub proper : (before : List ℕ) → AreProper f.width (f.spans before)
  pub some : (before : List ℕ) → (n : ℕ) × IsInOne (f.spans before) n

pub takes-join : (done later : List Field) (before front back : List ℕ) → Takes done before front → Takes later (before ++ front) back →
    Takes (done ++ later) before (front ++ back)
takes-join [] later before [] back all rest = subst (λ (x : List ℕ). Takes later x back) (append-nil before) rest
takes-join [] later before (n ∷ ns) back all rest = absurd (let e : n ∷ ns ≡ [] = all in omega (arith, ap length e))
takes-join (f ∷ done) later before [] back all rest = absurd all
takes-join (f ∷ done) later before (n ∷ ns) back all rest =
    (all.0, all.1, takes-join done later (before ++ n ∷ []) ns back all.2 (subst (λ (x : List ℕ). Takes later x back) (sym (append_assoc before (n ∷ []) ns)) rest))

pub takes-split : (done later : List Field) (before ns : List ℕ) → Takes (done ++ later) before ns →
    (front back : List ℕ) × (ns ≡ front ++ back) × Takes done before front × Takes later (before ++ front) back
takes-split [] later before ns all = ([], ns, refl, refl, subst (λ (x : List ℕ). Takes later x ns) (sym (append-nil before)) all)
takes-split (f ∷ done) later before [] all = absurd all
takes-split (f ∷ done) later before (n ∷ ns) all =
    let r = takes-split done later (before ++ n ∷ []) ns all.2 in
    (n ∷ r.0, r.1, ap (λ (x : List ℕ). n ∷ x) r.2, (all.0, all.1, r.3), subst (λ (x : List ℕ). Takes later x r.1) (append_assoc before (n ∷ []) r.0) r.4)

pub spelled-join : (done later : List Field) (before front back : List ℕ) → Takes done before front →
    spelled (done ++ later) (front ++ back) ≡ spelled done front ++ spelled later back
spelled-join [] later before [] back all = refl
spelled-join [] later before (n ∷ ns) back all = absurd (let e : n ∷ ns ≡ [] = all in omega (arith, ap length e))
spelled-join (f ∷ done) later before [] back all = absurd all
spelled-join (f ∷ done) later before (n ∷ ns) back all =
    ap (λ (x : List ℕ). digits f.width n ++ x) (spelled-join done later (before ++ n ∷ []) ns back all.2)
    ∙ sym (append_assoc (digits f.width n) (spelled done ns) (spelled later back))

pub length-spelled : (fields : List Field) (before ns : List ℕ) → Takes fields before ns → length (spelled fields ns) ≡ size_of fields
length-spelled [] before ns all = refl
length-spelled (f ∷ fields) before [] all = absurd all
length-spelled (f ∷ fields) before (n ∷ ns) all =
    omega (arith, length-append (digits f.width n) (spelled fields ns), length-digits f.width n, length-spelled fields (before ++ n ∷ []) ns all.2)

-- the bytes determine the numbers
pub spelled-one : (fields : List Field) (before before' ns ms x y : List ℕ) → Takes fields before ns → Takes fields before' ms →
    spelled fields ns ++ x ≡ spelled fields ms ++ y → (ns ≡ ms) × (x ≡ y)
spelled-one [] before before' ns ms x y all all' e = (all ∙ sym all', e)
spelled-one (f ∷ fields) before before' [] ms x y all all' e = absurd all
spelled-one (f ∷ fields) before before' (n ∷ ns) [] x y all all' e = absurd all'
spelled-one (f ∷ fields) before before' (n ∷ ns) (m ∷ ms) x y all all' e =
    let regrouped : digits f.width n ++ (spelled fields ns ++ x) ≡ digits f.width m ++ (spelled fields ms ++ y) =
    sym (append_assoc (digits f.width n) (spelled fields ns) x) ∙ (e ∙ append_assoc (digits f.width m) (spelled fields ms) y) in
    let parts = fronts (digits f.width n) (spelled fields ns ++ x) (digits f.width m) (spelled fields ms ++ y) (length-digits f.width n ∙ sym (length-digits f.width m)) regrouped in
    let one : n ≡ m = digits-one f.width n m all.0 all'.0 parts.0 in
    let rest = spelled-one fields (before ++ n ∷ []) (before' ++ m ∷ []) ns ms x y all.2 all'.2 parts.1 in
    (rw (one, rest.0) refl, rest.1)

pub proper-fits : (width : ℕ) (spans : List Span) (n : ℕ) → AreProper width spans → IsInOne spans n → n < 2 ^ (8 * width)
proper-fits width [] n proper one = absurd one
proper-fits width (s ∷ spans) n proper (inl within) = omega (arith, within.1, proper.1)
proper-fits width (s ∷ spans) n proper (inr later) = proper-fits width spans n proper.2 later

-- some numbers for the fields that are left
pub filled : (fields : List Field) (before : List ℕ) → AllByRecursion IsSound fields → (ns : List ℕ) × Takes fields before ns
filled [] before sound = ([], refl)
filled (f ∷ fields) before sound =
    let n = sound.0.some before in
    let rest = filled fields (before ++ n.0 ∷ []) sound.1 in
    (n.0 ∷ rest.0, (proper-fits f.width (f.spans before) n.0 (sound.0.proper before) n.1, n.1, rest.1))

-- in which field a place stands
pub why-here : (done : List Field) (f : Field) (later : List Field) (have : ℕ) → have < f.width → why_at (done ++ f ∷ later) (size_of done + have) ≡ f.why
why-here [] f later have less =
    let sum : 0 + have ≡ have = omega arith in
    rw sum (rw (lt-ltb have f.width less) refl)
why-here (g ∷ done) f later have less =
    let past : nat_lt (g.width + size_of done + have) g.width ≡ false = le-ltb (g.width + size_of done + have) g.width (omega arith) in
    let rest : g.width + size_of done + have - g.width ≡ size_of done + have = omega arith in
    rw past (rw rest (why-here done f later have less))

-- the fields behind some are sound as well
pub sound-behind : (done later : List Field) → AllByRecursion IsSound (done ++ later) → AllByRecursion IsSound later
sound-behind [] later all = all
sound-behind (f ∷ done) later all = sound-behind done later all.1
