use Rattle.std.proofs.Common.{◌∙◌, sym, arith}
use Rattle.vector_text.proofs.Numerals.{digit_fails, digit_more, digits_end}
use Rattle.vector_text.proofs.names.are_digits.Goals as goal

pub returns-then-not-is_ascii_digit : goal.returns-then-not-is_ascii_digit
returns-then-not-is_ascii_digit c =
    digit_fails c.args.word.now c.loop-byte.byte-index c.loop-byte-test.true (sym c.is_ascii_digit.ensures.value ∙ c.if-not-is_ascii_digit.true) c.loop-byte.invariant

pub loop-byte-preserved : goal.loop-byte-preserved
loop-byte-preserved c =
    digit_more c.args.word.now c.loop-byte.byte-index c.loop-byte-test.true (sym c.is_ascii_digit.ensures.value ∙ c.if-not-is_ascii_digit.false) c.loop-byte.invariant

pub returns : goal.returns
returns c = digits_end c.args.word.now c.loop-byte.byte-index (omega arith) c.loop-byte.invariant
