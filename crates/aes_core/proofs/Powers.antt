-- The inverse as the 254th power, and products by doubling.
use Rattle.std.proofs.Common.{◌≡◌, ℕ, zero, suc, T, eqb, eqb→eq, List, [], ◌∷◌, map, length, replicate, refl, ap, arith, w8, Fits}
use Rattle.std.specs.Prelude.{bit_xor}
use Rattle.std.specs.Simd.Lanes.{Each1, zip2}
use Rattle.aes_core.specs.Field.{affine, inverse, times}
use Rattle.aes_core.specs.Code.Power.{term_of, turned_of}
use Rattle.aes_core.proofs.Bytes.{all_below, every_below}
use Rattle.aes_core.proofs.Lanes.{AreBlocks, lanes_same}

-- a times x ^ k, and the product of a with the last k terms of b
abbrev pub multiple_of : ℕ → ℕ → ℕ
multiple_of zero a = a
multiple_of (suc k) a = times 2 (multiple_of k a)

abbrev pub sum_of : ℕ → ℕ → ℕ → ℕ
sum_of zero a b = 0
sum_of (suc k) a b = bit_xor (sum_of k a b) (term_of k b (multiple_of k a))

products : T (all_below (λ a. all_below (λ b. eqb (sum_of 8 a b) (times a b)) 256) 256)
unfolding times
products = tt

-- two functions that agree on all pairs of bytes agree on lanes
pairs_same : (f g : ℕ → ℕ → ℕ) (a b : List ℕ) → Each1 (Fits w8) a → Each1 (Fits w8) b →
    T (all_below (λ x. all_below (λ y. eqb (f x y) (g x y)) 256) 256) → zip2 f a b ≡ zip2 g a b
pairs_same f g [] b fa fb all = refl
pairs_same f g (x ∷ a) [] fa fb all = refl
pairs_same f g (x ∷ a) (y ∷ b) fa fb all =
    let row = every_below (λ x. all_below (λ y. eqb (f x y) (g x y)) 256) 256 all x fa.0.fits in
    let here : f x y ≡ g x y = eqb→eq _ _ (every_below (λ y. eqb (f x y) (g x y)) 256 row y fb.0.fits) in
    rw (here, pairs_same f g a b fa.1 fb.1 all) refl

pub products_are : (a b : List ℕ) → AreBlocks a → AreBlocks b → zip2 (sum_of 8) a b ≡ zip2 times a b
products_are a b fa fb = pairs_same (sum_of 8) times a b fa.1 fb.1 products

-- one term more, lane by lane
pub term_more : (k : ℕ) (a b : List ℕ) → length a ≡ length b →
    zip2 bit_xor (zip2 (sum_of k) a b) (zip2 (term_of k) b (map (multiple_of k) a)) ≡ zip2 (sum_of (suc k)) a b
term_more k [] [] e = refl
term_more k [] (y ∷ b) e = absurd (omega arith)
term_more k (x ∷ a) [] e = absurd (omega arith)
term_more k (x ∷ a) (y ∷ b) e = ap (λ (t : List ℕ). sum_of (suc k) x y ∷ t) (term_more k a b (omega arith))

pub no_terms : (n : ℕ) (a b : List ℕ) → length a ≡ n → length b ≡ n → replicate n 0 ≡ zip2 (sum_of 0) a b
no_terms zero [] [] ea eb = refl
no_terms zero [] (y ∷ b) ea eb = absurd (omega arith)
no_terms zero (x ∷ a) b ea eb = absurd (omega arith)
no_terms (suc n) [] b ea eb = absurd (omega arith)
no_terms (suc n) (x ∷ a) [] ea eb = absurd (omega arith)
no_terms (suc n) (x ∷ a) (y ∷ b) ea eb = ap (λ (t : List ℕ). 0 ∷ t) (no_terms n a b (omega arith) (omega arith))

pub left_map : (f : ℕ → ℕ → ℕ) (g : ℕ → ℕ) (a b : List ℕ) → zip2 f (map g a) b ≡ zip2 (λ x y. f (g x) y) a b
left_map f g [] b = refl
left_map f g (x ∷ a) [] = refl
left_map f g (x ∷ a) (y ∷ b) = ap (λ (t : List ℕ). f (g x) y ∷ t) (left_map f g a b)

-- the powers of a byte
abbrev pub p2 : ℕ → ℕ
p2 x = times x x

abbrev pub p3 : ℕ → ℕ
p3 x = times (p2 x) x

abbrev pub p6 : ℕ → ℕ
p6 x = times (p3 x) (p3 x)

abbrev pub p12 : ℕ → ℕ
p12 x = times (p6 x) (p6 x)

abbrev pub p15 : ℕ → ℕ
p15 x = times (p12 x) (p3 x)

abbrev pub p30 : ℕ → ℕ
p30 x = times (p15 x) (p15 x)

abbrev pub p60 : ℕ → ℕ
p60 x = times (p30 x) (p30 x)

abbrev pub p120 : ℕ → ℕ
p120 x = times (p60 x) (p60 x)

abbrev pub p240 : ℕ → ℕ
p240 x = times (p120 x) (p120 x)

abbrev pub p252 : ℕ → ℕ
p252 x = times (p240 x) (p12 x)

abbrev pub p254 : ℕ → ℕ
p254 x = times (p252 x) (p2 x)

pub powers_are : (v : List ℕ) → AreBlocks v → map p254 v ≡ map inverse v
unfolding times inverse
powers_are v fits = lanes_same p254 inverse v fits tt

-- a byte, and what each turn adds to it
abbrev pub one_turn : ℕ → ℕ
one_turn y = bit_xor y (turned_of 1 y)

abbrev pub two_turns : ℕ → ℕ
two_turns y = bit_xor (one_turn y) (turned_of 2 y)

abbrev pub three_turns : ℕ → ℕ
three_turns y = bit_xor (two_turns y) (turned_of 3 y)

abbrev pub four_turns : ℕ → ℕ
four_turns y = bit_xor (three_turns y) (turned_of 4 y)

pub turns_are : (v : List ℕ) → AreBlocks v → map (λ y. bit_xor (four_turns y) 0x63) v ≡ map affine v
turns_are v fits = lanes_same (λ y. bit_xor (four_turns y) 0x63) affine v fits tt
