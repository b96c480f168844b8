use Rattle.std.proofs.Common.{List, ℕ, sym, subst, arith}
use Rattle.std.specs.Str.Parse.{ParsesUnsigned}
use Rattle.rbg_talk.proofs.Numerals.{not_text, not_number}
use Rattle.rbg_talk.proofs.words.number_up_to.Goals as goal

pub returns-in_default : goal.returns-in_default
returns-in_default c = not_text c.args.most c.args.word.now (sym c.if-not-are_digits.ensures) c.in_default.ensures.cases.0

pub returns-in_default-parse : goal.returns-in_default-parse
returns-in_default-parse c =
    let parsed = subst (λ (x : List ℕ). ParsesUnsigned 32 10 x c.parse.result) c.in-Ok.ensures.cases.0 c.parse.ensures.value.0 in
    not_number c.args.most c.args.word.now c.parse.result c.in_default-parse.field-0 (sym c.if-not-are_digits.ensures) parsed c.in_default-parse.is (omega (arith, c.ranges.most.fits))
