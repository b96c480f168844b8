use Rattle.std.proofs.Common.{◌≡◌, ℕ, ◌+◌, ◌*◌, ◌%◌, length, get_or, refl, ◌∙◌, arith, Some, Ok}
use Rattle.hex.specs.Hex.{hex_digit_value, pair_value}
use Rattle.hex.proofs.HexLemmas.{decode_of-even}
use Rattle.hex.proofs.Pairs.{decode_done, decode_step}
use Rattle.vector_text.proofs.digits.decode_row.Goals as goal

-- the byte of two digits
pair_is : (high low i h l : ℕ) → hex_digit_value high ≡ Some h → hex_digit_value low ≡ Some l → pair_value high low i ≡ Ok (h * 16 + l)
pair_is high low i h l p q = rw (p, q) refl

pub bytes-preserved : goal.bytes-preserved
bytes-preserved c =
    decode_step c.args.digits.now c.bytes.out c.bytes.i (c.digit-high.result * 16 + c.digit-low.result) (omega arith) (omega arith)
    (pair_is (get_or c.args.digits.now (2 * c.bytes.i) 0) (get_or c.args.digits.now (2 * c.bytes.i + 1) 0) (2 * c.bytes.i) c.digit-high.result c.digit-low.result (c.digit-high.ensures (omega arith)) (c.digit-low.ensures (omega arith))) c.bytes.invariant

pub returns : goal.returns
returns c =
    let even : length c.args.digits.now % 2 ≡ 0 = omega arith in
    decode_of-even c.args.digits.now even ∙ decode_done c.args.digits.now c.bytes.out c.bytes.i (omega arith) (omega arith) c.bytes.invariant
