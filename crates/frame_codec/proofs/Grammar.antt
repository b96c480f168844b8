-- Frames of a grammar: none begins another, and what the decoder knows of the frame that is begun.
use Rattle.std.proofs.Common.{◌≡◌, ◌<◌, ℕ, ◌-◌, ◌∷◌, List, [], ◌++◌, length, replicate, sym, ap, ◌∙◌, arith, length-append, append_assoc, append-nil, refl, subst}
use Rattle.std.proofs.lemmas.List.{length-replicate}
use Rattle.frame_codec.specs.Rows.{Takes, spelled, IsHeadPart, BeginsNoHead}
use Rattle.frame_codec.specs.Grammar.{Grammar, Framed, text_of, IsFramed, IsFrameOf, IsFramePart, BeginsNoFrame}
use Rattle.frame_codec.proofs.Rows.{spelled-one}
use Rattle.frame_codec.proofs.Scripts.{IsFree}

-- a row of numbers that the fields take is that of its head
abbrev pub IsExact : {R : Type 0} → Grammar R → Type 0
IsExact g = (ns : List ℕ) → Takes g.fields [] ns → g.numbers (g.head ns) ≡ ns

same_framed : {R : Type 0} (x y : Framed R) → x.head ≡ y.head → x.string ≡ y.string → x ≡ y
same_framed {R = R} x y e f =
    let whole : R → List ℕ → Framed R = λ (h : R) (s : List ℕ). record { head = h; string = s } in
    let same : whole x.head x.string ≡ whole y.head y.string = rw (e, f) refl in
    same

none_more : (a b : List ℕ) → length (a ++ b) ≡ length a → b ≡ []
none_more a [] e = refl
none_more a (x ∷ b) e = absurd (omega (arith, length-append a (x ∷ b), e))

-- no frame begins another, and no two heads and strings have one frame
pub framed-free : {R : Type 0} (g : Grammar R) → IsFree (text_of g) (IsFramed g)
framed-free g x y more served served' e =
    let regrouped : spelled g.fields (g.numbers x.head) ++ (x.string ++ more) ≡ spelled g.fields (g.numbers y.head) ++ y.string =
    sym (append_assoc (spelled g.fields (g.numbers x.head)) x.string more) ∙ e in
    let parts = spelled-one g.fields [] [] (g.numbers x.head) (g.numbers y.head) (x.string ++ more) y.string served.taken served'.taken regrouped in
    let head : x.head ≡ y.head = sym served.same ∙ (ap g.head parts.0 ∙ served'.same) in
    let len : length (x.string ++ more) ≡ length x.string = ap length parts.1 ∙ (served'.string ∙ (sym (ap g.len head) ∙ sym served.string)) in
    let none : more ≡ [] = none_more x.string more len in
    let string : x.string ≡ y.string = sym (append-nil x.string) ∙ (ap (λ (m : List ℕ). x.string ++ m) (sym none) ∙ parts.1) in
    (same_framed x y head string, none)

-- no frame begins another, of frames in so many bytes
pub only-one : {R : Type 0} (g : Grammar R) (b more : List ℕ) (x y : Framed R) → IsFrameOf g b x → IsFrameOf g (b ++ more) y → (x ≡ y) × (more ≡ [])
only-one g b more x y frame longer = framed-free g x y more frame.framed longer.framed (ap (λ (z : List ℕ). z ++ more) (sym frame.bytes) ∙ longer.bytes)

-- within the head
pub framed-part : {R : Type 0} (g : Grammar R) (b : List ℕ) → IsExact g → IsHeadPart g.fields b → IsFramePart g b
framed-part {R = R} g b exact p =
    let r : R = g.head p.0 in
    let is : g.numbers r ≡ p.0 = exact p.0 p.3 in
    let string : List ℕ = replicate (g.len r) 0 in
    let framed : Framed R = record { head = r; string = string } in (
      framed,
      p.1 ++ string,
      (λ (z : p.1 ++ string ≡ []). omega (arith, ap length z, length-append p.1 string, p.2)),
      record { taken = subst (λ (x : List ℕ). Takes g.fields [] x) (sym is) p.3; same = ap g.head is; string = length-replicate (g.len r) 0 },
      sym (append_assoc b p.1 string) ∙ (ap (λ (x : List ℕ). x ++ string) p.4 ∙ ap (λ (x : List ℕ). spelled g.fields x ++ string) (sym is)),
    )

-- within the string
pub framed-string : {R : Type 0} (g : Grammar R) (ns string : List ℕ) → IsExact g → Takes g.fields [] ns → length string < g.len (g.head ns) →
    IsFramePart g (spelled g.fields ns ++ string)
framed-string g ns string exact taken less =
    let is : g.numbers (g.head ns) ≡ ns = exact ns taken in
    let more : List ℕ = replicate (g.len (g.head ns) - length string) 0 in
    let long : length more ≡ g.len (g.head ns) - length string = length-replicate (g.len (g.head ns) - length string) 0 in (
      record { head = g.head ns; string = string ++ more },
      more,
      (λ (z : more ≡ []). omega (arith, ap length z, long, less)),
      record {
        taken = subst (λ (x : List ℕ). Takes g.fields [] x) (sym is) taken;
        same = ap g.head is;
        string = omega (arith, length-append string more, long, less);
      },
      append_assoc (spelled g.fields ns) string more ∙ ap (λ (x : List ℕ). spelled g.fields x ++ (string ++ more)) (sym is),
    )

-- the whole frame
pub framed-whole : {R : Type 0} (g : Grammar R) (ns string : List ℕ) → IsExact g → Takes g.fields [] ns → length string ≡ g.len (g.head ns) →
    IsFramed g (record { head = g.head ns; string = string }) × (spelled g.fields ns ++ string ≡ text_of g (record { head = g.head ns; string = string }))
framed-whole g ns string exact taken len =
    let is : g.numbers (g.head ns) ≡ ns = exact ns taken in (
      record { taken = subst (λ (x : List ℕ). Takes g.fields [] x) (sym is) taken; same = ap g.head is; string = len },
      ap (λ (x : List ℕ). spelled g.fields x ++ string) (sym is),
    )

-- a byte that no frame goes on with
pub framed-none : {R : Type 0} (g : Grammar R) (b : List ℕ) → BeginsNoHead g.fields b → BeginsNoFrame g b
framed-none g b none x more served e = none (g.numbers x.head) more x.string served.taken e
