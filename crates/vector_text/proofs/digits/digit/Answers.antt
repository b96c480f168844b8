use Rattle.std.proofs.Common.{zero, suc, ◌≡◌, ◌<◌, ◌≤◌, ℕ, ◌+◌, List, [], ◌∷◌, length, get_or, Bool, true, false, cond, refl, subst, ap, ◌∙◌, arith, Option, Some, None}
use Rattle.std.specs.Prelude.{nat_eq, nat_le}
use Rattle.std.proofs.lemmas.Bool.{le-leb, eqb-true}
use Rattle.hex.specs.Hex.{hex_digit_value}
use Rattle.vector_text.specs.declared.digits.TheConstants.{VALUES}
use Rattle.vector_text.proofs.digits.digit.Goals as goal

-- a digit with this value
is_value : Option ℕ → ℕ → Bool
is_value None v = false
is_value (Some w) v = nat_eq w v

-- each place from one on has the value of its digit, or more than 15
tells : ℕ → List ℕ → Bool
tells c [] = true
tells c (v ∷ vs) = cond (cond (nat_le v 15) (is_value (hex_digit_value c) v) true) (tells (suc c) vs) false

value_is : (o : Option ℕ) (v : ℕ) → is_value o v ≡ true → o ≡ Some v
unfolding is_value
value_is None v e = absurd cc
value_is (Some w) v e = ap (λ (x : ℕ). Some x) (eqb-true w v e)

first_of_two : (a b : Bool) → cond a b false ≡ true → a ≡ true
first_of_two true b e = refl
first_of_two false b e = absurd cc

second_of_two : (a b : Bool) → cond a b false ≡ true → b ≡ true
second_of_two true b e = e
second_of_two false b e = absurd cc

told : (c : ℕ) (vs : List ℕ) (k : ℕ) → tells c vs ≡ true → k < length vs → get_or vs k 0 ≤ 15 → hex_digit_value (k + c) ≡ Some (get_or vs k 0)
unfolding tells
told c [] k e less small = absurd (omega arith)
told c (v ∷ vs) zero e less small =
    let at : 0 + c ≡ c = omega arith in
    let here = first_of_two (cond (nat_le v 15) (is_value (hex_digit_value c) v) true) (tells (suc c) vs) e in
    ap hex_digit_value at ∙ value_is (hex_digit_value c) v (subst (λ (b : Bool). cond b (is_value (hex_digit_value c) v) true ≡ true) (le-leb v 15 small) here)
told c (v ∷ vs) (suc k) e less small =
    let at : suc k + c ≡ k + suc c = omega arith in
    let later = second_of_two (cond (nat_le v 15) (is_value (hex_digit_value c) v) true) (tells (suc c) vs) e in
    ap hex_digit_value at ∙ told (suc c) vs k later (omega arith) small

all_told : tells 0 VALUES ≡ true
unfolding tells is_value
all_told = refl

pub returns : goal.returns
returns c small =
    let at : c.args.c + 0 ≡ c.args.c = omega arith in
    let less : c.args.c < length VALUES = omega arith in
    subst (λ (k : ℕ). hex_digit_value k ≡ Some (get_or VALUES c.args.c 0)) at (told 0 VALUES c.args.c all_told less small)
