-- Each byte other than 0 has an inverse in the field, found by computing it for all of them.
use Rattle.std.proofs.Common.{◌≡◌, ◌≤◌, ◌<◌, ◌+◌, ◌-◌, ℕ, T, eqb, eqb→eq, arith, subst}
use Rattle.aes_core.specs.Field.{inverse, times}
use Rattle.aes_core.proofs.Bytes.{all_below, every_below}

computed : T (all_below (λ b. eqb (times (b + 1) (inverse (b + 1))) 1) 255)
unfolding times inverse
computed = tt

pub times-inverse : (x : ℕ) → 1 ≤ x → x < 256 → times x (inverse x) ≡ 1
times-inverse x some byte =
    let same : x - 1 + 1 ≡ x = omega arith in
    let P : ℕ → Type 0 = λ n. times n (inverse n) ≡ 1 in
    subst P same (eqb→eq _ _ (every_below (λ b. eqb (times (b + 1) (inverse (b + 1))) 1) 255 computed (x - 1) (omega arith)))
