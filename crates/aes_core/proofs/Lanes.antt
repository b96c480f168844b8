-- Vectors of bytes, lane by lane.
use Rattle.std.proofs.Common.{◌≡◌, ℕ, zero, suc, ◌+◌, ◌-◌, ◌*◌, ◌/◌, ◌<◌, ◌||◌, Bool, true, false, T, List, [], ◌∷◌, ◌++◌, append-nil, append_assoc, cond, eqb, eqb→eq, leb, ltb, ltb-true, map, length, get_or, replicate, refl, sym, ap, subst, ◌∙◌, arith, w8, Fits}
use Rattle.std.specs.Simd.Lanes.{Each1, zip2}
use Rattle.std.proofs.lemmas.List.{get_or-append_right, get_or-map, get_or_append_left, length-map, ext_get_or}
use Rattle.std.proofs.lemmas.Simd.{Each1-from_get_or, Each1-get_or, Each1-weaker, get_or-swz_l, length-swz_l, map-map, splat_is_map, swz_l, zip2_of_maps}
use mir.Val.{zeroes}
use Rattle.aes_core.specs.Code.Inversion.{IsRead, look}
use Rattle.aes_core.proofs.Bytes.{all_below, every_below, holds}

-- the bytes of one block, and of four in a row
abbrev pub IsBlock : List ℕ → Type 0
IsBlock v = (length v ≡ 16) × Each1 (Fits w8) v

abbrev pub AreBlocks : List ℕ → Type 0
AreBlocks v = (length v ≡ 64) × Each1 (Fits w8) v

pub lane_fits : (v : List ℕ) (i : ℕ) → Each1 (Fits w8) v → get_or v i 0 < 256
lane_fits [] i h = omega arith
lane_fits (x ∷ xs) zero h = h.0.fits
lane_fits (x ∷ xs) (suc i) h = lane_fits xs i h.1

-- a fact of every list of n numbers, over its numbers
abbrev pub OfEach : ℕ → (List ℕ → Type 0) → Type 0
OfEach zero P = P []
OfEach (suc n) P = (x : ℕ) → OfEach n (λ v. P (x ∷ v))

pub of_each : (n : ℕ) (P : List ℕ → Type 0) → OfEach n P → (v : List ℕ) → length v ≡ n → P v
of_each zero P h [] long = h
of_each zero P h (x ∷ v) long = absurd (omega arith)
of_each (suc n) P h [] long = absurd (omega arith)
of_each (suc n) P h (x ∷ v) long = of_each n (λ w. P (x ∷ w)) (h x) v (omega arith)

-- ---- lane by lane from one vector

pub map_same : (v : List ℕ) → v ≡ map (λ x. x) v
map_same [] = refl
map_same (x ∷ v) = ap (λ (t : List ℕ). x ∷ t) (map_same v)

pub with_splat : (f : ℕ → ℕ → ℕ) (g : ℕ → ℕ) (n : ℕ) (v xs : List ℕ) → length v ≡ 64 → xs ≡ map g v → zip2 f xs (replicate 64 n) ≡ map (λ x. f (g x) n) v
with_splat f g n v xs long e = zip2_of_maps f g (λ _. n) v e (splat_is_map v 64 n long)

pub splat_with : (f : ℕ → ℕ → ℕ) (g : ℕ → ℕ) (n : ℕ) (v xs : List ℕ) → length v ≡ 64 → xs ≡ map g v → zip2 f (replicate 64 n) xs ≡ map (λ x. f n (g x)) v
splat_with f g n v xs long e = zip2_of_maps f (λ _. n) g v (splat_is_map v 64 n long) e

pub after : (f g : ℕ → ℕ) (v xs ys : List ℕ) → ys ≡ map f xs → xs ≡ map g v → ys ≡ map (λ x. f (g x)) v
after f g v xs ys e d = e ∙ (ap (map f) d ∙ map-map f g v)

-- two functions that agree below 256 agree on lanes
pub lanes_same : (f g : ℕ → ℕ) (v : List ℕ) → AreBlocks v → T (all_below (λ b. eqb (f b) (g b)) 256) → map f v ≡ map g v
lanes_same f g v fits all =
    ext_get_or 0 _ _ (length-map v f ∙ sym (length-map v g)) (λ i h.
    let within : i < length v = omega (arith, length-map v f) in
    get_or-map f v i 0 0 within ∙ eqb→eq _ _ (every_below (λ b. eqb (f b) (g b)) 256 all (get_or v i 0) (lane_fits v i fits.1)) ∙ sym (get_or-map g v i 0 0 within))

-- ---- look-ups

test_of : (b : Bool) → b ≡ true → T b
test_of b e = subst T (sym e) tt

-- what a look-up asks of its places
pub tests : (v : List ℕ) → Each1 IsRead v → Each1 (λ j. T (zeroes 16 w8 j || ltb j 16)) v
tests v read = Each1-weaker IsRead (λ j. T (zeroes 16 w8 j || ltb j 16)) (λ j h. test_of (leb 128 j || ltb j 16) h) v read

-- a list n times
abbrev copies : ℕ → List ℕ → List ℕ
copies zero s = []
copies (suc n) s = s ++ copies n s

-- each copy has the list's numbers
in_copies : (n q j : ℕ) (s : List ℕ) → length s ≡ 16 → q < n → j < 16 → get_or (copies n s) (16 * q + j) 0 ≡ get_or s j 0
in_copies zero q j s long few below = absurd (omega arith)
in_copies (suc n) zero j s long few below =
    let at : 16 * zero + j ≡ j = omega arith in
    rw at (get_or_append_left s (copies n s) 0 j (omega arith))
in_copies (suc n) (suc q) j s long few below =
    let at : 16 * suc q + j - 16 ≡ 16 * q + j = omega arith in
    get_or-append_right s (copies n s) 16 (16 * suc q + j) 0 long (omega arith) ∙ rw at (in_copies n q j s long (omega arith) below)

four_copies : (s : List ℕ) → ((s ++ s) ++ s) ++ s ≡ copies 4 s
four_copies s = simp (append_assoc, append-nil) refl

either : (b c : Bool) (x y : ℕ) → T (b || c) → (T c → x ≡ y) → cond b 0 x ≡ cond b 0 y
either true c x y t h = refl
either false c x y t h = h t

pub looked_up : (t v : List ℕ) → length t ≡ 16 → length v ≡ 64 → Each1 IsRead v → swz_l w8 16 (((t ++ t) ++ t) ++ t) 0 v ≡ map (look t) v
looked_up t v size long read =
    rw (four_copies t)
    (ext_get_or 0 _ _ (length-swz_l w8 16 (copies 4 t) 0 v ∙ sym (length-map v (look t))) (λ i h.
    let within : i < length v = omega (arith, length-swz_l w8 16 (copies 4 t) 0 v) in
    let few : (0 + i) / 16 < 4 = omega (arith, long) in
    let j = get_or v i 0 in
    get_or-swz_l w8 16 (copies 4 t) 0 v i within
    ∙ either (leb 128 j) (ltb j 16) _ (get_or t j 0) (test_of (leb 128 j || ltb j 16) (Each1-get_or IsRead v i 0 within read))
    (λ low. in_copies 4 ((0 + i) / 16) j t size few (ltb-true _ _ (holds (ltb j 16) low)))
    ∙ sym (get_or-map (look t) v i 0 0 within)))

-- places that are computed from bytes, once for all 256 of them
pub reads : (f : ℕ → ℕ) (v js : List ℕ) → AreBlocks v → js ≡ map f v → T (all_below (λ b. leb 128 (f b) || ltb (f b) 16) 256) → Each1 IsRead js
reads f v js fits is all =
    subst (Each1 IsRead) (sym is) (Each1-from_get_or IsRead (map f v) 0 (λ i lt.
    let within : i < length v = omega (arith, length-map v f) in
    subst IsRead (sym (get_or-map f v i 0 0 within)) (holds _ (every_below (λ b. leb 128 (f b) || ltb (f b) 16) 256 all (get_or v i 0) (lane_fits v i fits.1)))))
