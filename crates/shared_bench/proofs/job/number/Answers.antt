use Rattle.std.proofs.Common.{◌≡◌, ◌<◌, ◌^◌, ℕ, Some, None, sym, ◌∙◌, ap, arith}
use Rattle.std.specs.Prelude.{Option, unwrap_or}
use Rattle.std.specs.Result.{result_ok}
use Rattle.std.proofs.lemmas.Fmt.{parse-decimal}
use Rattle.shared_bench.proofs.job.number.Goals as goal

pub returns-in_err-number-clause-read : goal.returns-in_err-number-clause-read
returns-in_err-number-clause-read c n least most word =
    let fits : n < 2 ^ 64 = omega (arith, most, c.ranges.most.fits) in
    let read = c.ok.ensures.value ∙ ap result_ok (parse-decimal 64 n c.args.word.now c.parse.result fits fits word c.parse.ensures.value.0) in
    absurd (let no : None ≡ Some n = sym c.in_err-number.was ∙ read in cc)

pub returns-then-number-least-clause-read : goal.returns-then-number-least-clause-read
returns-then-number-least-clause-read c n least most word =
    let fits : n < 2 ^ 64 = omega (arith, most, c.ranges.most.fits) in
    let read = c.ok.ensures.value ∙ ap result_ok (parse-decimal 64 n c.args.word.now c.parse.result fits fits word c.parse.ensures.value.0) in
    let same : c.in_ok-number.number ≡ n = ap (λ (o : Option ℕ). unwrap_or o 0) (sym c.in_ok-number.was ∙ read) in
    absurd (omega (arith, same, least, c.if-number-least.true))

pub returns-then-number-most-clause-read : goal.returns-then-number-most-clause-read
returns-then-number-most-clause-read c n least most word =
    let fits : n < 2 ^ 64 = omega (arith, most, c.ranges.most.fits) in
    let read = c.ok.ensures.value ∙ ap result_ok (parse-decimal 64 n c.args.word.now c.parse.result fits fits word c.parse.ensures.value.0) in
    let same : c.in_ok-number.number ≡ n = ap (λ (o : Option ℕ). unwrap_or o 0) (sym c.in_ok-number.was ∙ read) in
    absurd (omega (arith, same, most, c.if-number-most.true))

pub returns-clause-read : goal.returns-clause-read
returns-clause-read c n least most word =
    let fits : n < 2 ^ 64 = omega (arith, most, c.ranges.most.fits) in
    let read = c.ok.ensures.value ∙ ap result_ok (parse-decimal 64 n c.args.word.now c.parse.result fits fits word c.parse.ensures.value.0) in
    sym c.in_ok-number.was ∙ read
