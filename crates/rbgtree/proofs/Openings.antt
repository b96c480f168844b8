-- Samples that are opened one after another.
use Rattle.std.proofs.Common.{◌≡◌, ℕ, zero, suc, ◌+◌, List, [], ◌∷◌, ◌++◌, map, take, refl, ap, ◌∙◌, subst, arith}
use Rattle.std.specs.Prelude.{Option, Some, None, unwrap_or, Ok, slice_get}
use Rattle.rbgtree.specs.Recordings.{Recording, Recordings, recording_of, OpensSamples}
use Rattle.rbgtree.specs.Check.{OpensOne, OpensAll}

pub opens_one : {S : Type 0} (E : Type 0) (told : S → Option (List ℕ)) (faults : S → ℕ) (before now : Option Recordings) (name : List ℕ) (samples : S)
    → OpensSamples {E = E} told faults before now name (Ok samples) → OpensOne before now name (recording_of told faults samples)
opens_one E told faults None now name samples h = h
opens_one E told faults (Some entries) now name samples h = h

-- one opening more
pub opens_more : (before between next : Option Recordings) (names : List (List ℕ)) (opened : List Recording) (name : List ℕ) (one : Recording)
    → OpensAll before between names opened → OpensOne between next name one → OpensAll before next (names ++ name ∷ []) (opened ++ one ∷ [])
opens_more before between next [] [] name one all here = (next, subst (λ (b : Option Recordings). OpensOne b next name one) all here, refl)
opens_more before between next [] (o ∷ opened) name one all here = absurd all
opens_more before between next (n ∷ names) [] name one all here = absurd all
opens_more before between next (n ∷ names) (o ∷ opened) name one (mid, first, rest) here =
    (mid, first, opens_more mid between next names opened name one rest here)

-- one name more of those in front
pub take_next : {A : Type 0} (f : A → List ℕ) (xs : List A) (i : ℕ) (x : A) → slice_get xs i ≡ Some x → take (i + 1) (map f xs) ≡ take i (map f xs) ++ f x ∷ []
take_next f [] i x h = absurd cc
take_next f (y ∷ xs) zero x h = let same : y ≡ x = ap (λ (o : Option _). unwrap_or o y) h in ap (λ (z : _). f z ∷ []) same
take_next f (y ∷ xs) (suc i) x h =
    let next : suc i + 1 ≡ suc (i + 1) = omega arith in
    ap (λ (n : ℕ). take n (f y ∷ map f xs)) next ∙ ap (λ (l : List (List ℕ)). f y ∷ l) (take_next f xs i x h)
