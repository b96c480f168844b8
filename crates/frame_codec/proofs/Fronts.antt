-- The first bytes of a head: some head begins so, or none does.
use Rattle.std.proofs.Common.{◌≡◌, ◌≤◌, ◌<◌, inl, inr, ℕ, ◌+◌, ◌*◌, ◌/◌, ◌^◌, ◌∷◌, List, [], ◌++◌, length, sym, ap, ◌∙◌, arith, length-append, append_assoc, subst, pow_pos, le_antisymm, le_refl, le_trans, ◌-◌}
use Rattle.std.specs.List.{AllByRecursion}
use Rattle.std.proofs.lemmas.Nat.{shr_below, le-div, div-mul-add, mul-le}
use Rattle.std.proofs.lemmas.Bool.{cases_lt}
use Rattle.std.proofs.Math.Nat.{div-mul-le_self, div-one}
use Rattle.frame_codec.specs.declared.table.Span.{Span}
use Rattle.frame_codec.specs.Rows.{Field, IsInOne, digits, Takes, spelled, Reaches, IsHeadPart, BeginsNoHead}
use Rattle.frame_codec.proofs.Digits.{fronts, length-digits, digits-one, digits-split}
use Rattle.frame_codec.proofs.Rows.{size_of, AreProper, IsSound, takes-join, takes-split, spelled-join, length-spelled, spelled-one, proper-fits, filled, sound-behind}
use Rattle.std.proofs.Math.Nat.{div-eq_of_lt}

div-mono : (a b k : ℕ) → a ≤ b → a / 2 ^ k ≤ b / 2 ^ k
div-mono a b k le = le-div (a / 2 ^ k) b (2 ^ k) (pow_pos k) (omega (arith, div-mul-le_self a (2 ^ k), le))

pub reaches-of : (spans : List Span) (left n : ℕ) → IsInOne spans n → Reaches spans left (n / 2 ^ (8 * left))
reaches-of [] left n one = absurd one
reaches-of (s ∷ spans) left n (inl within) = inl (div-mono s.low n (8 * left) within.0, div-mono n s.high (8 * left) within.1)
reaches-of (s ∷ spans) left n (inr later) = inr (reaches-of spans left n later)

-- a number between, with its last bytes gone
between : (low high k n : ℕ) → low ≤ high → low / 2 ^ k ≤ n → n ≤ high / 2 ^ k → (m : ℕ) × (low ≤ m) × (m ≤ high) × (m / 2 ^ k ≡ n)
between low high k n order least most = elim (cases_lt (n * 2 ^ k) low) [
  | inl less ↦ (
    low,
    le_refl low,
    order,
    le_antisymm least (le-div n low (2 ^ k) (pow_pos k) (omega (arith, less))),
  )
  | inr ge ↦ (
    n * 2 ^ k,
    ge,
    le_trans (mul-le n (2 ^ k) (high / 2 ^ k) (2 ^ k) most (le_refl (2 ^ k))) (div-mul-le_self high (2 ^ k)),
    (let sum : n * 2 ^ k + 0 ≡ n * 2 ^ k = omega arith in ap (λ (m : ℕ). m / 2 ^ k) (sym sum) ∙ div-mul-add n (2 ^ k) 0 (pow_pos k)),
  )
]

pub reached : (width : ℕ) (spans : List Span) (left n : ℕ) → AreProper width spans → Reaches spans left n →
    (m : ℕ) × IsInOne spans m × (m / 2 ^ (8 * left) ≡ n)
reached width [] left n proper reach = absurd reach
reached width (s ∷ spans) left n proper (inl within) =
    let b = between s.low s.high (8 * left) n proper.0 within.0 within.1 in (b.0, inl (b.1, b.2), b.3)
reached width (s ∷ spans) left n proper (inr later) =
    let r = reached width spans left n proper.2 later in (r.0, inr r.1, r.2)

-- The first bytes of a head, up to within the field f, are the first bytes of some head.
pub head-part : (done : List Field) (f : Field) (later : List Field) (ns : List ℕ) (have left n : ℕ) → Takes done [] ns → IsSound f →
    AllByRecursion IsSound later → have + left ≡ f.width → Reaches (f.spans ns) left n →
    (ms more : List ℕ) × Takes (done ++ f ∷ later) [] ms × ((spelled done ns ++ digits have n) ++ more ≡ spelled (done ++ f ∷ later) ms)
    × (length more ≡ left + size_of later)
head-part done f later ns have left n all sound sounds sum reach =
    let m = reached f.width (f.spans ns) left n (sound.proper ns) reach in
    let rest = filled later (ns ++ m.0 ∷ []) sounds in
    let fits = proper-fits f.width (f.spans ns) m.0 (sound.proper ns) m.1 in
    let back : Takes (f ∷ later) ns (m.0 ∷ rest.0) = (fits, m.1, rest.1) in
    let whole : digits f.width m.0 ≡ digits have n ++ digits left m.0 =
    ap (λ (w : ℕ). digits w m.0) (sym sum) ∙ (digits-split have left m.0 ∙ ap (λ (k : ℕ). digits have k ++ digits left m.0) m.2) in (
      ns ++ m.0 ∷ rest.0,
      digits left m.0 ++ spelled later rest.0,
      takes-join done (f ∷ later) [] ns (m.0 ∷ rest.0) all back,
      append_assoc (spelled done ns) (digits have n) (digits left m.0 ++ spelled later rest.0)
          ∙ (ap (λ (x : List ℕ). spelled done ns ++ x) (sym (append_assoc (digits have n) (digits left m.0) (spelled later rest.0)) ∙ ap (λ (x : List ℕ). x ++ spelled later rest.0) (sym whole))
          ∙ sym (spelled-join done (f ∷ later) [] ns (m.0 ∷ rest.0) all)),
      omega (arith, length-append (digits left m.0) (spelled later rest.0), length-digits left m.0, length-spelled later (ns ++ m.0 ∷ []) rest.0 rest.1),
    )

field-none : (f : Field) (later : List Field) (before ms : List ℕ) (have left n : ℕ) (more string : List ℕ) → have + left ≡ f.width → n < 2 ^ (8 * have) →
    (Reaches (f.spans before) left n → ⊥) → Takes (f ∷ later) before ms → digits have n ++ more ≡ spelled (f ∷ later) ms ++ string → ⊥
field-none f later before [] have left n more string sum fits bad taken e = taken
field-none f later before (m ∷ ms) have left n more string sum fits bad taken e =
    let split : digits f.width m ≡ digits have (m / 2 ^ (8 * left)) ++ digits left m =
    ap (λ (w : ℕ). digits w m) (sym sum) ∙ digits-split have left m in
    let regrouped : digits have n ++ more ≡ digits have (m / 2 ^ (8 * left)) ++ (digits left m ++ (spelled later ms ++ string)) =
    e ∙ (append_assoc (digits f.width m) (spelled later ms) string
    ∙ (ap (λ (x : List ℕ). x ++ (spelled later ms ++ string)) split ∙ append_assoc (digits have (m / 2 ^ (8 * left))) (digits left m) (spelled later ms ++ string))) in
    let parts = fronts (digits have n) more (digits have (m / 2 ^ (8 * left))) (digits left m ++ (spelled later ms ++ string)) (length-digits have n ∙ sym (length-digits have (m / 2 ^ (8 * left)))) regrouped in
    let eight : 8 * f.width ≡ 8 * have + 8 * left = omega (arith, sum) in
    let below : m / 2 ^ (8 * left) < 2 ^ (8 * have) = shr_below m (8 * have) (8 * left) (subst (λ (k : ℕ). m < 2 ^ k) eight taken.0) in
    let same : n ≡ m / 2 ^ (8 * left) = digits-one have n (m / 2 ^ (8 * left)) fits below parts.0 in
    bad (subst (λ (k : ℕ). Reaches (f.spans before) left k) (sym same) (reaches-of (f.spans before) left m taken.1))

-- A byte that leaves the field no number: no head begins so.
pub head-none : (done : List Field) (f : Field) (later : List Field) (ns : List ℕ) (have left n : ℕ) → Takes done [] ns → have + left ≡ f.width →
    n < 2 ^ (8 * have) → (Reaches (f.spans ns) left n → ⊥) →
    (ms more string : List ℕ) → Takes (done ++ f ∷ later) [] ms → (spelled done ns ++ digits have n) ++ more ≡ spelled (done ++ f ∷ later) ms ++ string → ⊥
head-none done f later ns have left n all sum fits bad ms more string taken e =
    let s = takes-split done (f ∷ later) [] ms taken in
    let text : spelled (done ++ f ∷ later) ms ≡ spelled done s.0 ++ spelled (f ∷ later) s.1 =
    ap (λ (x : List ℕ). spelled (done ++ f ∷ later) x) s.2 ∙ spelled-join done (f ∷ later) [] s.0 s.1 s.3 in
    let regrouped : spelled done ns ++ (digits have n ++ more) ≡ spelled done s.0 ++ (spelled (f ∷ later) s.1 ++ string) =
    sym (append_assoc (spelled done ns) (digits have n) more) ∙ (e ∙ (ap (λ (x : List ℕ). x ++ string) text ∙ append_assoc (spelled done s.0) (spelled (f ∷ later) s.1) string)) in
    let front = spelled-one done [] [] ns s.0 (digits have n ++ more) (spelled (f ∷ later) s.1 ++ string) all s.3 regrouped in
    field-none f later ns s.1 have left n more string sum fits bad (subst (λ (x : List ℕ). Takes (f ∷ later) x s.1) (sym front.0) s.4) front.1

-- the next byte of a head: it leaves the field a number
pub byte-part : (fields done : List Field) (f : Field) (later : List Field) (ns : List ℕ) (have left n : ℕ) → AllByRecursion IsSound fields → fields ≡ done ++ f ∷ later →
    Takes done [] ns → have + left ≡ f.width → Reaches (f.spans ns) left n → 0 < left + size_of later → IsHeadPart fields (spelled done ns ++ digits have n)
byte-part fields done f later ns have left n sounds is all sum reach some =
    let parts = sound-behind done (f ∷ later) (subst (AllByRecursion IsSound) is sounds) in
    let p = head-part done f later ns have left n all parts.0 parts.1 sum reach in
    (p.0, p.1, omega (arith, p.4, some), subst (λ (x : List Field). Takes x [] p.0) (sym is) p.2, p.3 ∙ ap (λ (x : List Field). spelled x p.0) (sym is))

-- it leaves none
pub byte-none : (fields done : List Field) (f : Field) (later : List Field) (ns : List ℕ) (have left n : ℕ) → fields ≡ done ++ f ∷ later →
    Takes done [] ns → have + left ≡ f.width → n < 2 ^ (8 * have) → (Reaches (f.spans ns) left n → ⊥) → BeginsNoHead fields (spelled done ns ++ digits have n)
byte-none fields done f later ns have left n is all sum fits bad ms more string taken e =
    head-none done f later ns have left n all sum fits bad ms more string (subst (λ (y : List Field). Takes y [] ms) is taken) (e ∙ ap (λ (y : List Field). spelled y ms ++ string) is)

-- the last byte of a field
pub byte-last : (spans : List Span) (n : ℕ) → Reaches spans 0 n → IsInOne spans n
byte-last [] n reach = reach
byte-last (s ∷ spans) n (inl within) = inl (subst (λ (k : ℕ). k ≤ n) (div-one s.low) within.0, subst (λ (k : ℕ). n ≤ k) (div-one s.high) within.1)
byte-last (s ∷ spans) n (inr later) = inr (byte-last spans n later)

-- a sound field may have some number, of which there is no byte yet
pub sound-reaches : (f : Field) (before : List ℕ) → IsSound f → Reaches (f.spans before) (f.width - 0) 0
sound-reaches f before sound =
    let n = sound.some before in
    let fits : n.0 < 2 ^ (8 * f.width) = proper-fits f.width (f.spans before) n.0 (sound.proper before) n.1 in
    let zero : n.0 / 2 ^ (8 * f.width) ≡ 0 = div-eq_of_lt fits in
    let all : f.width ≡ f.width - 0 = omega arith in
    subst (λ (k : ℕ). Reaches (f.spans before) k 0) all (subst (λ (k : ℕ). Reaches (f.spans before) f.width k) zero (reaches-of (f.spans before) f.width n.0 n.1))
