-- Bytes that stay, and bytes that are wiped.
use Rattle.std.proofs.Common.{◌≡◌, ◌++◌, ◌∷◌, ℕ, List, [], zero, suc, length, refl, inl, inr, arith}
use Rattle.std.specs.Prelude.{replicate}
use Rattle.std.proofs.lemmas.List.{drop_at}
use Rattle.tree_acts.specs.Wiped.{AreKeptOrZeros, IsWipedBehind}

pub kept : (xs : List ℕ) → AreKeptOrZeros xs xs
kept [] = tt
kept (x ∷ xs) = (inl refl, kept xs)

pub zeros : (xs : List ℕ) (n : ℕ) → n ≡ length xs → AreKeptOrZeros xs (replicate n 0)
zeros [] zero e = tt
zeros [] (suc n) e = absurd (omega (arith, e))
zeros (x ∷ xs) zero e = absurd (omega (arith, e))
zeros (x ∷ xs) (suc n) e = (inr refl, zeros xs n (omega (arith, e)))

pub both : (xs ys us vs : List ℕ) → AreKeptOrZeros xs us → AreKeptOrZeros ys vs → AreKeptOrZeros (xs ++ ys) (us ++ vs)
both [] ys [] vs a b = b
both [] ys (u ∷ us) vs a b = absurd a
both (x ∷ xs) ys [] vs a b = absurd a
both (x ∷ xs) ys (u ∷ us) vs (e, a) b = (e, both xs ys us vs a b)

-- an answer at the front of a buffer, and no answer
pub wiped_behind : (front answer spare rest : List ℕ) (len n : ℕ) → length front ≡ len → length answer ≡ len → n ≡ length spare
    → IsWipedBehind len (front ++ (spare ++ rest)) (answer ++ (replicate n 0 ++ rest))
wiped_behind front answer spare rest len n e f g =
    rw (drop_at front (spare ++ rest) len e, drop_at answer (replicate n 0 ++ rest) len f) (both spare rest (replicate n 0) rest (zeros spare n g) (kept rest))

pub wiped_whole : (front spare rest : List ℕ) (len m n : ℕ) → len ≡ 0 → m ≡ length front → n ≡ length spare
    → IsWipedBehind len (front ++ (spare ++ rest)) (replicate m 0 ++ (replicate n 0 ++ rest))
wiped_whole front spare rest len m n none e f =
    rw none (both front (spare ++ rest) (replicate m 0) (replicate n 0 ++ rest) (zeros front m e) (both spare rest (replicate n 0) rest (zeros spare n f) (kept rest)))
