-- The field GF(2^8) of AES and its S-box. A byte is a polynomial over GF(2), bit i standing for x ^ i.
-- FIPS 197, 4.1, 4.2 and 5.1.1.
use Rattle.std.specs.Prelude.{ℕ, zero, suc, ◌+◌, ◌*◌, ◌%◌, ◌^◌, ◌==◌, find, unwrap_or, bit_xor}
use Rattle.std.specs.List.{range_with_len}
use Rattle.std.specs.Int.{bit_at}

-- the product of two polynomials, the second with n terms: the sum of a * x ^ i over the terms x ^ i of b
abbrev pub polynomial_product : ℕ → ℕ → ℕ → ℕ
polynomial_product a b zero = 0
polynomial_product a b (suc n) = bit_xor (polynomial_product a b n) (bit_at b n * (a * 2 ^ n))

-- the remainder modulo x ^ 8 + x ^ 4 + x ^ 3 + x + 1 of a polynomial with 8 + n terms
abbrev pub remainder : ℕ → ℕ → ℕ
remainder p zero = p
remainder p (suc n) = remainder (bit_xor p (bit_at p (n + 8) * (0x11b * 2 ^ n))) n

-- the product in the field (4.2)
unfoldable pub times : ℕ → ℕ → ℕ
times a b = remainder (polynomial_product a b 8) 7

-- the inverse in the field: the least y whose product with x is 1, and 0 for 0, which has none (5.1.1, step 1)
unfoldable pub inverse : ℕ → ℕ
inverse x = unwrap_or (find (λ y. times x y == 1) (range_with_len 0 256)) 0

-- bit i of the affine map of a byte y (5.1.1)
abbrev pub affine_bit : ℕ → ℕ → ℕ
affine_bit y i =
    (bit_at y i + bit_at y ((i + 4) % 8) + bit_at y ((i + 5) % 8) + bit_at y ((i + 6) % 8) + bit_at y ((i + 7) % 8) + bit_at 0x63 i) % 2

-- the number whose bits are those of the affine map
abbrev pub affine_below : ℕ → ℕ → ℕ
affine_below y zero = 0
affine_below y (suc n) = affine_below y n + affine_bit y n * 2 ^ n

-- the affine map of a byte (5.1.1, step 2)
abbrev pub affine : ℕ → ℕ
affine y = affine_below y 8

-- S-box: the inverse, and the affine map after it (5.1.1)
unfoldable pub sub_byte : ℕ → ℕ
sub_byte x = affine (inverse x)
