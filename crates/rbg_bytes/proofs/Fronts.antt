-- Pieces that are written one after the other, and a front of all of them where a write fails.
use Rattle.std.proofs.Common.{◌≡◌, ℕ, ◌+◌, ◌<◌, List, [], ◌∷◌, ◌++◌, length, get_or, take, drop, Option, Some, None, append-nil, sym, ap, ◌∙◌, append_assoc, take-append-drop}
use Rattle.std.specs.List.{flat_map}
use Rattle.std.specs.Io.KnownBytes.{Appends}
use Rattle.std.proofs.lemmas.List.{take_more}
use Rattle.std.proofs.lemmas.Grind.{flat_map-append}
use Rattle.rbg_bytes.specs.Streams.{AppendsFront}

-- one piece after the other
pub appends_both : (a b c : Option (List ℕ)) (bs cs : List ℕ) → Appends a b bs → Appends b c cs → Appends a c (bs ++ cs)
appends_both None b c bs cs p q = tt
appends_both (Some x) None c bs cs p q = absurd p
appends_both (Some x) (Some y) None bs cs p q = absurd q
appends_both (Some x) (Some y) (Some z) bs cs p q = q ∙ ap (λ l. l ++ cs) p ∙ append_assoc x bs cs

-- a front of a piece is a front of it and what follows
pub front_within : (a b : Option (List ℕ)) (bs cs : List ℕ) → AppendsFront a b bs → AppendsFront a b (bs ++ cs)
front_within a b bs cs (front, rest, parts, now) =
    (front, rest ++ cs, ap (λ l. l ++ cs) parts ∙ append_assoc front rest cs, now)

-- a front of a piece after a whole one is a front of both
pub front_after : (a b c : Option (List ℕ)) (bs cs : List ℕ) → Appends a b bs → AppendsFront b c cs → AppendsFront a c (bs ++ cs)
front_after a b c bs cs before (front, rest, parts, now) =
    (bs ++ front, rest, ap (λ l. bs ++ l) parts ∙ sym (append_assoc bs front rest), appends_both a b c bs front before now)

-- the lines of the first i + 1 items are those of the first i, and one line more
pub lines_more : {A : Type 0} (f : A → List ℕ) (xs : List A) (i : ℕ) (d : A) → i < length xs
    → flat_map f (take (i + 1) xs) ≡ flat_map f (take i xs) ++ f (get_or xs i d)
lines_more f xs i d lt =
    rw (take_more xs i d lt) (flat_map-append f (take i xs) (get_or xs i d ∷ []) ∙ ap (λ ys. flat_map f (take i xs) ++ ys) (append-nil (f (get_or xs i d))))

-- one line more
pub appends_line : {A : Type 0} (f : A → List ℕ) (xs : List A) (i : ℕ) (d : A) (a b c : Option (List ℕ)) → i < length xs
    → Appends a b (flat_map f (take i xs)) → Appends b c (f (get_or xs i d)) → Appends a c (flat_map f (take (i + 1) xs))
appends_line f xs i d a b c lt before one = rw (lines_more f xs i d lt) (appends_both a b c _ _ before one)

-- a front of a line after whole lines is a front of all lines
pub fails_within : {A : Type 0} (f : A → List ℕ) (xs : List A) (i : ℕ) (d : A) (a b c : Option (List ℕ)) → i < length xs
    → Appends a b (flat_map f (take i xs)) → AppendsFront b c (f (get_or xs i d)) → AppendsFront a c (flat_map f xs)
fails_within f xs i d a b c lt before failed =
    let later = flat_map f (drop (i + 1) xs) in
    let all : flat_map f xs ≡ (flat_map f (take i xs) ++ f (get_or xs i d)) ++ later =
    ap (flat_map f) (sym (take-append-drop (i + 1) xs)) ∙ flat_map-append f (take (i + 1) xs) (drop (i + 1) xs) ∙ ap (λ ys. ys ++ later) (lines_more f xs i d lt) in
    rw all (front_within a c _ later (front_after a b c _ _ before failed))
