-- Facts of all 256 bytes, each found by computing once.
use Rattle.std.proofs.Common.{◌≡◌, ℕ, zero, suc, ◌-◌, ◌<◌, Bool, true, false, ◌&&◌, T, eqb, get_or, refl, subst, inl, inr, arith, eq-zero-or-pos, eqb-true}
use Rattle.std.specs.Prelude.{bit_xor}
use lib.Ieee.Fits.{and_l, and_r}
use Rattle.aes_core.specs.Field.{times}
use Rattle.aes_core.specs.declared.tables.TheConstants.{RCON}
use Rattle.aes_core.specs.Aes.{power_of_x}

-- the test holds of each number below n
abbrev pub all_below : (ℕ → Bool) → ℕ → Bool
all_below p zero = true
all_below p (suc n) = p n && all_below p n

pub every_below : (p : ℕ → Bool) (n : ℕ) → T (all_below p n) → (i : ℕ) → i < n → T (p i)
every_below p zero h i l = absurd (omega arith)
every_below p (suc n) h i l =
    elim (eq-zero-or-pos (n - i)) [
      | inl z ↦ let e : n ≡ i = omega arith in subst (λ x. T (p x)) e (and_l _ _ h)
      | inr g ↦ every_below p n (and_r (p n) _ h) i (omega arith)
    ]

pub holds : (b : Bool) → T b → b ≡ true
holds true t = refl
holds false t = absurd t

-- two functions that agree below 256
same_below : (f g : ℕ → ℕ) → T (all_below (λ b. eqb (f b) (g b)) 256) → (b : ℕ) → b < 256 → f b ≡ g b
same_below f g all b below = eqb-true (f b) (g b) (holds (eqb (f b) (g b)) (every_below (λ x. eqb (f x) (g x)) 256 all b below))

pub tripled_is : (b : ℕ) → b < 256 → bit_xor (times 2 b) b ≡ times 3 b
unfolding times
tripled_is b below = same_below (λ x. bit_xor (times 2 x) x) (times 3) tt b below

pub once_is : (b : ℕ) → b < 256 → b ≡ times 1 b
unfolding times
once_is b below = same_below (λ x. x) (times 1) tt b below

pub RCON_is : (j : ℕ) → j < 10 → get_or RCON j 0 ≡ power_of_x j
unfolding times
RCON_is j below = eqb-true (get_or RCON j 0) (power_of_x j) (holds (eqb (get_or RCON j 0) (power_of_x j)) (every_below (λ x. eqb (get_or RCON x 0) (power_of_x x)) 10 tt j below))
