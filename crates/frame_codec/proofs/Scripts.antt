-- Laws of texts in a row, over any texts of which none begins another.
use Rattle.std.proofs.Common.{◌≡◌, ◌⊎◌, inl, inr, ℕ, ◌∷◌, List, [], ◌++◌, length, sym, ap, ◌∙◌, arith, append_assoc, append-nil, refl, flat_map}
use Rattle.std.specs.List.{AllByRecursion}
use Rattle.frame_codec.specs.Scripts.{IsPartOf, BeginsNoneOf, Splits}

-- No text begins another, and no two values have one text. On this alone the laws of texts in a row rest.
abbrev pub IsFree : {X : Type 0} → (X → List ℕ) → (X → Type 0) → Type 0
IsFree {X} text Served = (x y : X) (more : List ℕ) → Served x → Served y → text x ++ more ≡ text y → (x ≡ y) × (more ≡ [])

tails : (x y : ℕ) (xs ys : List ℕ) → x ∷ xs ≡ y ∷ ys → (x ≡ y) × (xs ≡ ys)
tails x y xs ys e = (cc, cc)

-- of two fronts of a list one begins the other
pub one_begins : (a b c d : List ℕ) → a ++ b ≡ c ++ d →
    ((m : List ℕ) × (c ≡ a ++ m) × (b ≡ m ++ d)) ⊎ ((m : List ℕ) × (a ≡ c ++ m) × (d ≡ m ++ b))
one_begins [] b c d e = inl (c, refl, e)
one_begins (x ∷ a) b [] d e = inr (x ∷ a, refl, sym e)
one_begins (x ∷ a) b (y ∷ c) d e =
    let t = tails x y (a ++ b) (c ++ d) e in
    elim (one_begins a b c d t.1) [
      | inl r ↦ inl (r.0, rw (t.0, r.1) refl, r.2)
      | inr r ↦ inr (r.0, rw (t.0, r.1) refl, r.2)
    ]

none_left : (a b : List ℕ) → a ++ b ≡ [] → b ≡ []
none_left [] b e = e
none_left (x ∷ a) b e = absurd (omega (arith, ap length e))

pub flat-push : {X : Type 0} (text : X → List ℕ) (xs : List X) (x : X) → flat_map text (xs ++ x ∷ []) ≡ flat_map text xs ++ text x
flat-push text [] x = append-nil (text x)
flat-push text (y ∷ xs) x = ap (λ (b : List ℕ). text y ++ b) (flat-push text xs x) ∙ sym (append_assoc (text y) (flat_map text xs) (text x))

pub all-push : {X : Type 0} (P : X → Type 0) (xs : List X) (x : X) → AllByRecursion P xs → P x → AllByRecursion P (xs ++ x ∷ [])
all-push P [] x all one = (one, tt)
all-push P (y ∷ xs) x all one = (all.0, all-push P xs x all.1 one)

-- nothing has been read yet
pub script-none : {X : Type 0} (text : X → List ℕ) (Served : X → Type 0) → IsPartOf text Served [] → Splits text Served [] [] []
script-none text Served part = record { served = tt; bytes = refl; part = part }

-- a byte within a text
pub script-more : {X : Type 0} (text : X → List ℕ) (Served : X → Type 0) (b : List ℕ) (xs : List X) (rest : List ℕ) (z : ℕ) → Splits text Served b xs rest →
    IsPartOf text Served (rest ++ z ∷ []) → Splits text Served (b ++ z ∷ []) xs (rest ++ z ∷ [])
script-more text Served b xs rest z s part = record {
  served = s.served;
  bytes = ap (λ (y : List ℕ). y ++ z ∷ []) s.bytes ∙ append_assoc (flat_map text xs) rest (z ∷ []);
  part = part;
}

-- some text has a byte
pub part-none : {X : Type 0} (text : X → List ℕ) (Served : X → Type 0) (rest : List ℕ) → IsPartOf text Served rest → IsPartOf text Served []
part-none text Served rest (x, more, some, served, e) = (x, rest ++ more, (λ (z : rest ++ more ≡ []). some (none_left rest more z)), served, e)

-- the last byte of a text
pub script-whole : {X : Type 0} (text : X → List ℕ) (Served : X → Type 0) (b : List ℕ) (xs : List X) (rest : List ℕ) (z : ℕ) (x : X) → Splits text Served b xs rest →
    Served x → rest ++ z ∷ [] ≡ text x → Splits text Served (b ++ z ∷ []) (xs ++ x ∷ []) []
script-whole text Served b xs rest z x s served e = record {
  served = all-push Served xs x s.served served;
  bytes = ap (λ (y : List ℕ). y ++ z ∷ []) s.bytes ∙ (append_assoc (flat_map text xs) rest (z ∷ []) ∙ (ap (λ (y : List ℕ). flat_map text xs ++ y) e ∙ (sym (flat-push text xs x) ∙ sym (append-nil (flat_map text (xs ++ x ∷ []))))));
  part = part-none text Served rest s.part;
}

-- no part of a text begins with a whole text
part-short : {X : Type 0} (text : X → List ℕ) (Served : X → Type 0) (free : IsFree text Served) (x : X) (after rest : List ℕ) → Served x → IsPartOf text Served rest → text x ++ after ≡ rest → ⊥
part-short text Served free x after rest served (y, more, some, served', e) whole =
    let longer : text x ++ (after ++ more) ≡ text y = sym (append_assoc (text x) after more) ∙ (ap (λ (b : List ℕ). b ++ more) whole ∙ e) in
    some (none_left after more (free x y (after ++ more) served served' longer).1)

-- texts at the front of one list are one
front-one : {X : Type 0} (text : X → List ℕ) (Served : X → Type 0) (free : IsFree text Served) (x y : X) (a b : List ℕ) → Served x → Served y → text x ++ a ≡ text y ++ b → (x ≡ y) × (a ≡ b)
front-one text Served free x y a b served served' e = elim (one_begins (text x) a (text y) b e) [
  | inl r ↦
      let one = free x y r.0 served served' (sym r.1) in (one.0, r.2 ∙ ap (λ (m : List ℕ). m ++ b) one.1)
  | inr r ↦
      let one = free y x r.0 served' served (sym r.1) in (sym one.0, sym (r.2 ∙ ap (λ (m : List ℕ). m ++ a) one.1))
]

-- a list is texts in a row and a part in one way at most
pub splits-one : {X : Type 0} (text : X → List ℕ) (Served : X → Type 0) (free : IsFree text Served) (xs ys : List X) (rest rest' : List ℕ) → AllByRecursion Served xs →
    AllByRecursion Served ys → IsPartOf text Served rest → IsPartOf text Served rest' → flat_map text xs ++ rest ≡ flat_map text ys ++ rest' → (xs ≡ ys) × (rest ≡ rest')
splits-one text Served free [] [] rest rest' all all' part part' e = (refl, e)
splits-one text Served free [] (y ∷ ys) rest rest' all all' part part' e =
    absurd (part-short text Served free y (flat_map text ys ++ rest') rest all'.0 part (sym (e ∙ append_assoc (text y) (flat_map text ys) rest')))
splits-one text Served free (x ∷ xs) [] rest rest' all all' part part' e =
    absurd (part-short text Served free x (flat_map text xs ++ rest) rest' all.0 part' (sym (append_assoc (text x) (flat_map text xs) rest) ∙ e))
splits-one text Served free (x ∷ xs) (y ∷ ys) rest rest' all all' part part' e =
    let regrouped : text x ++ (flat_map text xs ++ rest) ≡ text y ++ (flat_map text ys ++ rest') =
    sym (append_assoc (text x) (flat_map text xs) rest) ∙ (e ∙ append_assoc (text y) (flat_map text ys) rest') in
    let front = front-one text Served free x y (flat_map text xs ++ rest) (flat_map text ys ++ rest') all.0 all'.0 regrouped in
    let tail = splits-one text Served free xs ys rest rest' all.1 all'.1 part part' front.1 in
    (rw (front.0, tail.0) refl, tail.1)

-- a front of a text is the text or a part of it
front-of : {X : Type 0} (text : X → List ℕ) (Served : X → Type 0) (b m rest : List ℕ) (x : X) (xs : List X) → Served x → IsPartOf text Served rest → text x ≡ b ++ m →
    (ys zs : List X) × (rest' : List ℕ) × (x ∷ xs ≡ ys ++ zs) × Splits text Served b ys rest'
front-of text Served b [] rest x xs served part e = (
  x ∷ [],
  xs,
  [],
  refl,
  record {
    served = (served, tt);
    bytes = sym (append-nil b) ∙ (sym e ∙ (sym (append-nil (text x)) ∙ sym (append-nil (text x ++ []))));
    part = part-none text Served rest part;
  },
)
front-of text Served b (z ∷ m) rest x xs served part e =
    ([], x ∷ xs, b, refl, record { served = tt; bytes = refl; part = (x, z ∷ m, (λ (n : z ∷ m ≡ []). omega (arith, ap length n)), served, sym e) })

-- a front of a script is a script, of the first of its values
pub splits-front : {X : Type 0} (text : X → List ℕ) (Served : X → Type 0) (b more : List ℕ) (xs : List X) (rest : List ℕ) → AllByRecursion Served xs →
    IsPartOf text Served rest → b ++ more ≡ flat_map text xs ++ rest → (ys zs : List X) × (rest' : List ℕ) × (xs ≡ ys ++ zs) × Splits text Served b ys rest'
splits-front {X = X} text Served b more [] rest all part e =
    let longer : b ++ (more ++ part.1) ≡ text part.0 = sym (append_assoc b more part.1) ∙ (ap (λ (y : List ℕ). y ++ part.1) e ∙ part.4) in
    ([], [], b, refl, record { served = tt; bytes = refl; part = (part.0, more ++ part.1, (λ (z : more ++ part.1 ≡ []). part.2 (none_left more part.1 z)), part.3, longer) })
splits-front {X = X} text Served b more (x ∷ xs) rest all part e =
    elim (one_begins b more (text x) (flat_map text xs ++ rest) (e ∙ append_assoc (text x) (flat_map text xs) rest)) [
      | inl r ↦ front-of text Served b r.0 rest x xs all.0 part r.1
      | inr r ↦
          let tail = splits-front text Served r.0 more xs rest all.1 part (sym r.2) in (
            x ∷ tail.0,
            tail.1,
            tail.2,
            ap (λ (y : List X). x ∷ y) tail.3,
            record {
              served = (all.0, tail.4.served);
              bytes = r.1 ∙ (ap (λ (y : List ℕ). text x ++ y) tail.4.bytes ∙ sym (append_assoc (text x) (flat_map text tail.0) tail.2));
              part = tail.4.part;
            },
          )
    ]

-- a text that has the byte last or behind it
last-front : {X : Type 0} (text : X → List ℕ) (Served : X → Type 0) (free : IsFree text Served) (rest m after : List ℕ) (z : ℕ) (y : X) → Served y → IsPartOf text Served rest →
    BeginsNoneOf text Served (rest ++ z ∷ []) → text y ≡ rest ++ m → z ∷ [] ≡ m ++ after → ⊥
last-front text Served free rest [] after z y served part none e end =
    part-short text Served free y [] rest served part (append-nil (text y) ∙ (e ∙ append-nil rest))
last-front text Served free rest (x ∷ m) after z y served part none e end =
    let t = tails z x [] (m ++ after) end in
    let empty : after ≡ [] = none_left m after (sym t.1) in
    let last : m ≡ [] = sym (append-nil m) ∙ (ap (λ (b : List ℕ). m ++ b) (sym empty) ∙ sym t.1) in
    let whole : x ∷ m ≡ z ∷ [] = rw (t.0, last) refl in
    none y [] served (append-nil (rest ++ z ∷ []) ∙ (sym (ap (λ (b : List ℕ). rest ++ b) whole) ∙ sym e))

last-none : {X : Type 0} (text : X → List ℕ) (Served : X → Type 0) (free : IsFree text Served) (rest after : List ℕ) (z : ℕ) (y : X) → Served y → IsPartOf text Served rest →
    BeginsNoneOf text Served (rest ++ z ∷ []) → rest ++ z ∷ [] ≡ text y ++ after → ⊥
last-none text Served free rest after z y served part none e = elim (one_begins rest (z ∷ []) (text y) after e) [
  | inl r ↦ last-front text Served free rest r.0 after z y served part none r.1 r.2
  | inr r ↦ part-short text Served free y r.0 rest served part (sym r.1)
]

-- no script goes on with the byte
pub splits-none : {X : Type 0} (text : X → List ℕ) (Served : X → Type 0) (free : IsFree text Served) (xs ys : List X) (rest : List ℕ) (z : ℕ) (rest' : List ℕ) →
    AllByRecursion Served xs → AllByRecursion Served ys → IsPartOf text Served rest → IsPartOf text Served rest' → BeginsNoneOf text Served (rest ++ z ∷ []) →
    flat_map text xs ++ (rest ++ z ∷ []) ≡ flat_map text ys ++ rest' → ⊥
splits-none text Served free [] [] rest z rest' all all' part part' none e =
    none part'.0 part'.1 part'.3 (ap (λ (y : List ℕ). y ++ part'.1) e ∙ part'.4)
splits-none text Served free [] (y ∷ ys) rest z rest' all all' part part' none e =
    last-none text Served free rest (flat_map text ys ++ rest') z y all'.0 part none (e ∙ append_assoc (text y) (flat_map text ys) rest')
splits-none text Served free (x ∷ xs) [] rest z rest' all all' part part' none e =
    part-short text Served free x (flat_map text xs ++ (rest ++ z ∷ [])) rest' all.0 part' (sym (append_assoc (text x) (flat_map text xs) (rest ++ z ∷ [])) ∙ e)
splits-none text Served free (x ∷ xs) (y ∷ ys) rest z rest' all all' part part' none e =
    let regrouped : text x ++ (flat_map text xs ++ (rest ++ z ∷ [])) ≡ text y ++ (flat_map text ys ++ rest') =
    sym (append_assoc (text x) (flat_map text xs) (rest ++ z ∷ [])) ∙ (e ∙ append_assoc (text y) (flat_map text ys) rest') in
    let front = front-one text Served free x y (flat_map text xs ++ (rest ++ z ∷ [])) (flat_map text ys ++ rest') all.0 all'.0 regrouped in
    splits-none text Served free xs ys rest z rest' all.1 all'.1 part part' none front.1
