-- The chaining values of at most three passes.
use Rattle.std.proofs.Common.{◌≡◌, ◌<◌, ℕ, zero, suc, List, [], ◌∷◌, get_or, map, replicate, refl, arith}
use Rattle.aes_core.specs.Aes.{aes}
use Rattle.rbg_bytes.specs.Xor.{xor_bytes}
use Rattle.df_core.specs.Df.{chained, pass_block}
use Rattle.df_core.specs.declared.chaining.TheConstants.{PASS_BLOCKS}

-- a fact of each of three places
of_three : (P : ℕ → Type 0) → P 0 → P 1 → P 2 → (i : ℕ) → i < 3 → P i
of_three P a b c zero lt = a
of_three P a b c (suc zero) lt = b
of_three P a b c (suc (suc zero)) lt = c
of_three P a b c (suc (suc (suc i))) lt = absurd (omega arith)

-- three of four sums that were encrypted
pub step_of_three : (key s0 s1 s2 unused : List ℕ) (chains blocks four : List (List ℕ)) → four ≡ map (aes key) (s0 ∷ s1 ∷ s2 ∷ unused ∷ []) →
    s0 ≡ xor_bytes (get_or chains 0 []) (get_or blocks 0 []) → s1 ≡ xor_bytes (get_or chains 1 []) (get_or blocks 1 []) →
    s2 ≡ xor_bytes (get_or chains 2 []) (get_or blocks 2 []) → (i : ℕ) → i < 3 →
    get_or (get_or four 0 [] ∷ get_or four 1 [] ∷ get_or four 2 [] ∷ []) i [] ≡ chained key (get_or chains i []) (get_or blocks i [])
unfolding chained
step_of_three key s0 s1 s2 unused chains blocks four is e0 e1 e2 =
    of_three (λ i. get_or (get_or four 0 [] ∷ get_or four 1 [] ∷ get_or four 2 [] ∷ []) i [] ≡ chained key (get_or chains i []) (get_or blocks i []))
    (rw (is, e0) refl) (rw (is, e1) refl) (rw (is, e2) refl)

pub same_of_three : (block : List ℕ) (i : ℕ) → i < 3 → get_or (block ∷ block ∷ block ∷ []) i [] ≡ block
same_of_three block = of_three (λ i. get_or (block ∷ block ∷ block ∷ []) i [] ≡ block) refl refl refl

pub pass_block_is : (i : ℕ) → i < 3 → get_or PASS_BLOCKS i [] ≡ pass_block i
pass_block_is = of_three (λ i. get_or PASS_BLOCKS i [] ≡ pass_block i) refl refl refl

pub zeros_of_three : (i : ℕ) → i < 3 → get_or (replicate 3 (replicate {A = ℕ} 16 0)) i [] ≡ replicate {A = ℕ} 16 0
zeros_of_three = of_three (λ i. get_or (replicate 3 (replicate {A = ℕ} 16 0)) i [] ≡ replicate {A = ℕ} 16 0) refl refl refl
