-- Numbers in decimal digits.
use Rattle.std.proofs.Common.{zero, suc, inl, inr, ◌≡◌, ◌<◌, ◌≤◌, ◌^◌, ℕ, ◌+◌, List, [], ◌∷◌, ◌&&◌, length, drop, get_or, Bool, true, false, cond, refl, sym, ap, ◌∙◌, arith, lt-ltb, drop_of_length-le}
use Rattle.std.specs.Prelude.{Some, None, Result, Err}
use Rattle.std.specs.Char.{is_ascii_digit}
use Rattle.std.specs.Str.{all_ascii_digits, IsUtf8, IsAscii}
use Rattle.std.specs.Str.Parse.{ParsesUnsigned, digits_value}
use Rattle.std.specs.Result.{OkIff}
use Rattle.std.proofs.lemmas.Result.{OkIff-at_err}
use Rattle.std.proofs.lemmas.Str.{IsUtf8-from_ascii}
use Rattle.std.proofs.lemmas.Str.Parse.{numerals_by_value, tells_all_ascii_digits, parse_digits, IsNumeralModel}
use Rattle.std.proofs.lemmas.Bool.{cases_lt}
use Rattle.rbg_talk.specs.Words.{number_up_to, value_up_to}
use Rattle.rbg_talk.proofs.Wording.{dropped}

-- ---- the test of each byte

-- a byte that is no digit
pub digit_fails : (w : List ℕ) (i : ℕ) → i < length w → is_ascii_digit (get_or w i 0) ≡ false → all_ascii_digits (drop i w) ≡ all_ascii_digits w → false ≡ all_ascii_digits w
digit_fails w i h other same =
    sym (sym same ∙ (ap all_ascii_digits (dropped w i h) ∙ ap (λ (b : Bool). b && all_ascii_digits (drop (i + 1) w)) other))

-- one digit more
pub digit_more : (w : List ℕ) (i : ℕ) → i < length w → is_ascii_digit (get_or w i 0) ≡ true → all_ascii_digits (drop i w) ≡ all_ascii_digits w
    → all_ascii_digits (drop (i + 1) w) ≡ all_ascii_digits w
digit_more w i h digit same =
    sym (ap all_ascii_digits (dropped w i h) ∙ ap (λ (b : Bool). b && all_ascii_digits (drop (i + 1) w)) digit) ∙ same

-- all are digits
pub digits_end : (w : List ℕ) (i : ℕ) → length w ≤ i → all_ascii_digits (drop i w) ≡ all_ascii_digits w → true ≡ all_ascii_digits w
digits_end w i h same = sym (ap all_ascii_digits (drop_of_length-le w h)) ∙ same

-- ---- digits as text, and as a number

abbrev AreDigits : List ℕ → Type 0
AreDigits ds = all_ascii_digits ds ≡ true

abbrev own : IsNumeralModel AreDigits (digits_value 10)
own = numerals_by_value AreDigits tells_all_ascii_digits

-- digits are text
digits_ascii : (w : List ℕ) → AreDigits w → IsAscii w
digits_ascii [] all i = omega arith
digits_ascii (c ∷ cs) all zero = omega (arith, (tells_all_ascii_digits.parts c cs all).0.1)
digits_ascii (c ∷ cs) all (suc i) = digits_ascii cs (tells_all_ascii_digits.parts c cs all).1 i

-- what is no text isn't digits
pub not_text : (most : ℕ) (w : List ℕ) → all_ascii_digits w ≡ true → (IsUtf8 w → ⊥) → None ≡ number_up_to most w
not_text most w all none = absurd (none (IsUtf8-from_ascii w (digits_ascii w all)))

too_great : (most : ℕ) (w : List ℕ) → most < 2 ^ 32 → ((0 < length w) × (digits_value 10 w < 2 ^ 32) → ⊥) → None ≡ value_up_to most w
too_great most [] less never = refl
too_great most (c ∷ cs) less never =
    let great : most < digits_value 10 (c ∷ cs) = elim (cases_lt (digits_value 10 (c ∷ cs)) (2 ^ 32)) [
      | inl below ↦ absurd (never (omega arith, below))
      | inr ge ↦ omega (arith, ge, less)
    ] in
    ap (λ (b : Bool). cond b None (Some (digits_value 10 (c ∷ cs)))) (sym (lt-ltb most (digits_value 10 (c ∷ cs)) great))

-- digits that are no number of 32 bits
pub not_number : {E : Type 0} (most : ℕ) (w : List ℕ) (r : Result ℕ E) (e : E) → all_ascii_digits w ≡ true → ParsesUnsigned 32 10 w r → r ≡ Err e → most < 2 ^ 32 → None ≡ number_up_to most w
not_number most w r e all parsed failed less =
    let never = OkIff-at_err r ((0 < length w) × (digits_value 10 w < 2 ^ 32)) (digits_value 10 w) e (parse_digits own 32 w r parsed all) failed in
    too_great most w less never ∙ ap (λ (b : Bool). cond b (value_up_to most w) None) (sym all)
