-- The laws of request frames.
use Rattle.std.proofs.Common.{◌≡◌, ◌≤◌, ◌<◌, inl, inr, ℕ, ◌+◌, ◌∷◌, List, [], ◌++◌, length, take, drop, sym, ap, ◌∙◌, arith, length-append, append_assoc, append-nil, refl, subst, take-append-drop, take-take, flat_map, length-take, take_all}
use Rattle.std.proofs.lemmas.List.{take_at, take-append-le, take_min}
use Rattle.std.proofs.lemmas.Bool.{cases_lt}
use Rattle.frame_codec.specs.Rows.{why_at}
use Rattle.frame_codec.specs.Grammar.{text_of, IsFramed}
use Rattle.frame_codec.specs.Frames.{request_fields, requests, Asked, IsPart, BeginsNone, IsScript, BeginsWith, IsBadAt}
use Rattle.frame_codec.proofs.Scripts.{splits-one, splits-front, splits-none, all-push, flat-push, part-none}
use Rattle.frame_codec.proofs.Requests.{requests-free}

abbrev frames : List Asked → List ℕ
frames rs = flat_map (text_of requests) rs

pub one-script : (b : List ℕ) (rs others : List Asked) (rest rest' : List ℕ) → IsScript b rs rest → IsScript b others rest' → (rs ≡ others) × (rest ≡ rest')
one-script b rs others rest rest' s t = splits-one (text_of requests) (IsFramed requests) requests-free rs others rest rest' s.served t.served s.part t.part (sym s.bytes ∙ t.bytes)

-- a front of a script is a script, of the first of its requests
pub script-front : (b more : List ℕ) (rs : List Asked) (rest : List ℕ) → IsScript (b ++ more) rs rest → (first later : List Asked) × (rest' : List ℕ) × (rs ≡ first ++ later) × IsScript b first rest'
script-front b more rs rest s = splits-front (text_of requests) (IsFramed requests) b more rs rest s.served s.part s.bytes

-- the requests of a longer list begin with those of the list
pub script-longer : (b more : List ℕ) (rs others : List Asked) (rest rest' : List ℕ) → IsScript b rs rest → IsScript (b ++ more) others rest' → (later : List Asked) × (others ≡ rs ++ later)
script-longer b more rs others rest rest' s t =
    let front = script-front b more others rest' t in
    let same = one-script b front.0 rs front.2 rest front.4 s in
    (front.1, front.3 ∙ ap (λ (x : List Asked). x ++ front.1) same.0)

-- of two bad bytes none comes first
not-before : (b : List ℕ) (rs others : List Asked) (offset why offset' why' : ℕ) → IsBadAt b rs offset why → IsBadAt b others offset' why' → offset < offset' → ⊥
not-before b rs others offset why offset' why' s t less =
    let le : offset + 1 ≤ offset' = omega (arith, less) in
    let inner : take (offset + 1) (take offset' b) ≡ take (offset + 1) b = take-take (offset + 1) offset' b le in
    let whole : take offset' b ≡ take (offset + 1) b ++ drop (offset + 1) (take offset' b) =
    sym (take-append-drop (offset + 1) (take offset' b)) ∙ ap (λ (x : List ℕ). x ++ drop (offset + 1) (take offset' b)) inner in
    let front = script-front (take (offset + 1) b) (drop (offset + 1) (take offset' b)) others t.rest (subst (λ (x : List ℕ). IsScript x others t.rest) whole t.before) in
    s.bad front.0 front.2 front.4

same-offset : (b : List ℕ) (rs others : List Asked) (offset why offset' why' : ℕ) → IsBadAt b rs offset why → IsBadAt b others offset' why' → offset ≡ offset'
same-offset b rs others offset why offset' why' s t = elim (cases_lt offset offset') [
  | inl less ↦ absurd (not-before b rs others offset why offset' why' s t less)
  | inr ge ↦ elim (cases_lt offset' offset) [
    | inl less ↦ absurd (not-before b others rs offset' why' offset why t s less)
    | inr ge' ↦ omega (arith, ge, ge')
  ]
]

pub one-bad : (b : List ℕ) (rs others : List Asked) (offset why offset' why' : ℕ) → IsBadAt b rs offset why → IsBadAt b others offset' why' →
    (rs ≡ others) × (offset ≡ offset') × (why ≡ why')
one-bad b rs others offset why offset' why' s t =
    let e = same-offset b rs others offset why offset' why' s t in
    let same = one-script (take offset' b) rs others s.rest t.rest (subst (λ (o : ℕ). IsScript (take o b) rs s.rest) e s.before) t.before in
    (same.0, e, s.number ∙ (ap (λ (x : List ℕ). why_at request_fields (length x)) same.1 ∙ sym t.number))

-- a script has no bad byte
pub script-not-bad : (b : List ℕ) (rs others : List Asked) (rest : List ℕ) (offset why : ℕ) → IsScript b rs rest → IsBadAt b others offset why → ⊥
script-not-bad b rs others rest offset why s t =
    let front = script-front (take (offset + 1) b) (drop (offset + 1) b) rs rest (subst (λ (x : List ℕ). IsScript x rs rest) (sym (take-append-drop (offset + 1) b)) s) in
    t.bad front.0 front.2 front.4

-- bytes that a script goes on with, none, or up to within the next frame
pub script-goes : (b : List ℕ) (rs : List Asked) (rest bytes : List ℕ) → IsScript b rs rest → IsPart (rest ++ bytes) → IsScript (b ++ bytes) rs (rest ++ bytes)
script-goes b rs rest bytes s part = record {
  served = s.served;
  bytes = ap (λ (y : List ℕ). y ++ bytes) s.bytes ∙ append_assoc (frames rs) rest bytes;
  part = part;
}

-- a byte that no script goes on with, after such bytes
pub script-bad : (b : List ℕ) (rs : List Asked) (rest : List ℕ) (z : ℕ) (more : List ℕ) → IsScript b rs rest → BeginsNone (rest ++ z ∷ []) →
    IsBadAt (b ++ z ∷ more) rs (length b) (why_at request_fields (length rest))
script-bad b rs rest z more s none =
    let grouped : b ++ z ∷ more ≡ (b ++ z ∷ []) ++ more = sym (append_assoc b (z ∷ []) more) in
    let front : take (length b) (b ++ z ∷ more) ≡ b = take_at b (z ∷ more) (length b) refl in
    let longer : length (b ++ z ∷ []) ≡ length b + 1 = length-append b (z ∷ []) in
    let front2 : take (length b + 1) (b ++ z ∷ more) ≡ b ++ z ∷ [] = ap (λ (y : List ℕ). take (length b + 1) y) grouped ∙ take_at (b ++ z ∷ []) more (length b + 1) longer in
    record {
      within = omega (arith, length-append b (z ∷ more));
      rest = rest;
      before = subst (λ (y : List ℕ). IsScript y rs rest) (sym front) s;
      bad = λ (others : List Asked) (rest' : List ℕ) (t : IsScript (take (length b + 1) (b ++ z ∷ more)) others rest').
          splits-none (text_of requests) (IsFramed requests) requests-free rs others rest z rest' s.served t.served s.part t.part none
          (sym (append_assoc (frames rs) rest (z ∷ [])) ∙ (ap (λ (y : List ℕ). y ++ z ∷ []) (sym s.bytes) ∙ (sym front2 ∙ t.bytes)));
      number = refl;
    }

-- a bad byte stays where it is, whatever follows
pub bad-more : (b more : List ℕ) (rs : List Asked) (offset why : ℕ) → IsBadAt b rs offset why → IsBadAt (b ++ more) rs offset why
bad-more b more rs offset why s =
    let front : take offset (b ++ more) ≡ take offset b = take-append-le offset b more (omega (arith, s.within)) in
    let next : take (offset + 1) (b ++ more) ≡ take (offset + 1) b = take-append-le (offset + 1) b more (omega (arith, s.within)) in
    record {
      within = omega (arith, s.within, length-append b more);
      rest = s.rest;
      before = subst (λ (x : List ℕ). IsScript x rs s.rest) (sym front) s.before;
      bad = λ (others : List Asked) (rest' : List ℕ) (t : IsScript (take (offset + 1) (b ++ more)) others rest'). s.bad others rest' (subst (λ (x : List ℕ). IsScript x others rest') next t);
      number = s.number;
    }

-- whole frames are what bytes begin with
pub script-begins : (b : List ℕ) (rs : List Asked) → IsScript b rs [] → BeginsWith b rs
script-begins b rs s = (length b, subst (λ (x : List ℕ). IsScript x rs []) (sym (take_all (length b) b (omega arith))) s)

-- what bytes begin with stays, whatever follows
pub begins-more : (b more : List ℕ) (rs : List Asked) → BeginsWith b rs → BeginsWith (b ++ more) rs
begins-more b more rs (n, s) =
    let short : take (length (take n b)) (b ++ more) ≡ take n b =
    take-append-le (length (take n b)) b more (omega (arith, length-take n b)) ∙ (ap (λ (k : ℕ). take k b) (length-take n b) ∙ take_min n b) in
    (length (take n b), subst (λ (x : List ℕ). IsScript x rs []) (sym short) s)

-- the bytes that end a frame
pub script-frame : (b : List ℕ) (rs : List Asked) (rest bytes : List ℕ) (a : Asked) → IsScript b rs rest → IsFramed requests a → rest ++ bytes ≡ text_of requests a → IsScript (b ++ bytes) (rs ++ a ∷ []) []
script-frame b rs rest bytes a s framed e = record {
  served = all-push (IsFramed requests) rs a s.served framed;
  bytes = ap (λ (y : List ℕ). y ++ bytes) s.bytes ∙ (append_assoc (frames rs) rest bytes ∙ (ap (λ (y : List ℕ). frames rs ++ y) e ∙ (sym (flat-push (text_of requests) rs a) ∙ sym (append-nil (frames (rs ++ a ∷ []))))));
  part = part-none (text_of requests) (IsFramed requests) rest s.part;
}
