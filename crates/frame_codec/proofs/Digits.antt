-- Numbers in bytes, high byte first: lengths, the first bytes of a number, and that no two numbers have the same bytes.
use Rattle.std.proofs.Common.{◌≡◌, ◌<◌, ℕ, suc, zero, ◌+◌, ◌*◌, ◌/◌, ◌%◌, ◌^◌, ◌∷◌, List, [], ◌++◌, length, take, drop, sym, ap, ◌∙◌, arith, length-append, append_assoc, refl, subst}
use Rattle.std.proofs.Math.Seq.{take-append_seam, drop-append_seam}
use Rattle.std.proofs.lemmas.List.{take_at, drop_at, append-nil}
use Rattle.std.proofs.lemmas.Nat.{div-add-mod', shr-shr, shr_below}
use Rattle.std.proofs.Math.Nat.{div-one}
use Rattle.frame_codec.specs.Rows.{digits}

pub length-digits : (width n : ℕ) → length (digits width n) ≡ width
length-digits zero n = refl
length-digits (suc width) n = omega (arith, length-append (digits width (n / 256)) (n % 256 ∷ []), length-digits width (n / 256))

-- equal lists with fronts of equal length
pub fronts : (a b c d : List ℕ) → length a ≡ length c → a ++ b ≡ c ++ d → (a ≡ c) × (b ≡ d)
fronts a b c d len e = (
  sym (take-append_seam a b) ∙ (ap (λ (x : List ℕ). take (length a) x) e ∙ take_at c d (length a) (sym len)),
  sym (drop-append_seam a b) ∙ (ap (λ (x : List ℕ). drop (length a) x) e ∙ drop_at c d (length a) (sym len)),
)

heads : (x y : ℕ) (xs ys : List ℕ) → x ∷ xs ≡ y ∷ ys → x ≡ y
heads x y xs ys e = cc

from_parts : (n m : ℕ) → n / 256 ≡ m / 256 → n % 256 ≡ m % 256 → n ≡ m
from_parts n m e f = omega (arith, div-add-mod' n 256, div-add-mod' m 256)

-- the bytes of a number determine it
pub digits-one : (width n m : ℕ) → n < 2 ^ (8 * width) → m < 2 ^ (8 * width) → digits width n ≡ digits width m → n ≡ m
digits-one zero n m fits fits' e = omega (arith, fits, fits')
digits-one (suc width) n m fits fits' e =
    let parts = fronts (digits width (n / 256)) (n % 256 ∷ []) (digits width (m / 256)) (m % 256 ∷ []) (length-digits width (n / 256) ∙ sym (length-digits width (m / 256))) e in
    let eight : 8 * suc width ≡ 8 * width + 8 = omega arith in
    let a : n / 2 ^ 8 < 2 ^ (8 * width) = shr_below n (8 * width) 8 (subst (λ (k : ℕ). n < 2 ^ k) eight fits) in
    let b : m / 2 ^ 8 < 2 ^ (8 * width) = shr_below m (8 * width) 8 (subst (λ (k : ℕ). m < 2 ^ k) eight fits') in
    let high : n / 256 ≡ m / 256 = digits-one width (n / 256) (m / 256) a b parts.0 in
    from_parts n m high (heads (n % 256) (m % 256) [] [] parts.1)

-- the first bytes of a number are those of the number without its last bytes
pub digits-split : (width left n : ℕ) → digits (width + left) n ≡ digits width (n / 2 ^ (8 * left)) ++ digits left n
digits-split width zero n =
    let one : n / 2 ^ (8 * 0) ≡ n = div-one n in
    let none : width + 0 ≡ width = omega arith in
    rw (none, one) (sym (append-nil (digits width n)))
digits-split width (suc left) n =
    let more : width + suc left ≡ suc (width + left) = omega arith in
    let eight : 8 + 8 * left ≡ 8 * suc left = omega arith in
    let shifted : n / 256 / 2 ^ (8 * left) ≡ n / 2 ^ (8 * suc left) = shr-shr n 8 (8 * left) ∙ ap (λ (k : ℕ). n / 2 ^ k) eight in
    let front : digits (width + left) (n / 256) ≡ digits width (n / 2 ^ (8 * suc left)) ++ digits left (n / 256) =
    digits-split width left (n / 256) ∙ ap (λ (k : ℕ). digits width k ++ digits left (n / 256)) shifted in
    ap (λ (k : ℕ). digits k n) more ∙ (ap (λ (x : List ℕ). x ++ n % 256 ∷ []) front
    ∙ append_assoc (digits width (n / 2 ^ (8 * suc left))) (digits left (n / 256)) (n % 256 ∷ []))
