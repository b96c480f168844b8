-- Bytes that are xored with others, place by place.
use Rattle.std.proofs.Common.{◌≡◌, ◌<◌, ◌≤◌, ℕ, ◌+◌, List, [], ◌∷◌, ◌++◌, length, take, drop, get_or, set, refl, sym, ap, ◌∙◌, arith, add-one}
use Rattle.std.specs.Prelude.{bit_xor}
use Rattle.std.specs.Simd.Lanes.{zip2}
use Rattle.std.proofs.Math.Seq.{drop-cons}
use Rattle.std.proofs.lemmas.List.{drop-set-lt, length-set, length-take-le, take_all, take_more, take_more_set}
use Rattle.rbg_bytes.specs.Xor.{xor_bytes}

-- one more place
zip2_push : (xs ys : List ℕ) (x y : ℕ) → length xs ≡ length ys → zip2 bit_xor (xs ++ x ∷ []) (ys ++ y ∷ []) ≡ zip2 bit_xor xs ys ++ bit_xor x y ∷ []
zip2_push [] [] x y e = refl
zip2_push [] (b ∷ ys) x y e = absurd (omega arith)
zip2_push (a ∷ xs) [] x y e = absurd (omega arith)
zip2_push (a ∷ xs) (b ∷ ys) x y e = ap (λ (t : List ℕ). bit_xor a b ∷ t) (zip2_push xs ys x y (omega arith))

-- the places up to i hold the xor, the others what was there
pub record IsXoredUpTo (before bytes now : List ℕ) (i : ℕ) : Type 0 where
  pub len : length now ≡ length before
  pub done : take i now ≡ xor_bytes (take i before) (take i bytes)
  pub rest : drop i now ≡ drop i before

pub xored_none : (before bytes : List ℕ) → IsXoredUpTo before bytes before 0
xored_none before bytes = record { len = refl; done = refl; rest = refl }

next : (before now : List ℕ) (i : ℕ) → i < length now → i < length before → drop i now ≡ drop i before → get_or now i 0 ∷ drop (i + 1) now ≡ get_or before i 0 ∷ drop (i + 1) before
next before now i in_now in_before rest = rw add-one (sym (drop-cons now i 0 in_now) ∙ (rest ∙ drop-cons before i 0 in_before))

pub xored_more : (before bytes now : List ℕ) (i : ℕ) → i < length before → i < length bytes → IsXoredUpTo before bytes now i
    → IsXoredUpTo before bytes (set now i (bit_xor (get_or now i 0) (get_or bytes i 0))) (i + 1)
xored_more before bytes now i in_before in_bytes h =
    let in_now : i < length now = omega (arith, h.len) in
    let both = next before now i in_now in_before h.rest in
    let here : get_or now i 0 ≡ get_or before i 0 = ap (λ (l : List ℕ). get_or l 0 0) both in
    let lb = length-take-le i before (omega arith) in
    let ly = length-take-le i bytes (omega arith) in
    let both_bytes = bit_xor (get_or before i 0) (get_or bytes i 0) in
    rw here (record {
      len = length-set now i both_bytes ∙ h.len;
      done = rw (take_more before i 0 in_before, take_more bytes i 0 in_bytes, zip2_push (take i before) (take i bytes) (get_or before i 0) (get_or bytes i 0) (lb ∙ sym ly))
          (take_more_set now i both_bytes in_now ∙ ap (λ (t : List ℕ). t ++ both_bytes ∷ []) h.done);
      rest = drop-set-lt (i + 1) now i both_bytes (omega arith) ∙ ap (λ (l : List ℕ). drop 1 l) both;
    })

pub xored_all : (before bytes now : List ℕ) (i : ℕ) → length before ≤ i → length bytes ≡ length before → IsXoredUpTo before bytes now i → now ≡ xor_bytes before bytes
xored_all before bytes now i past same h =
    let all : take i now ≡ now = take_all i now (omega (arith, h.len)) in
    let left : take i before ≡ before = take_all i before past in
    let right : take i bytes ≡ bytes = take_all i bytes (omega arith) in
    sym all ∙ (h.done ∙ (ap (λ (l : List ℕ). xor_bytes l (take i bytes)) left ∙ ap (λ (l : List ℕ). xor_bytes before l) right))
