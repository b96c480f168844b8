use Rattle.std.proofs.Common.{◌≡◌, ◌∙◌, ◌++◌, ℕ, List, sym, ap}
use Rattle.std.specs.Prelude.{Ok, Err, decimal, not, true, false}
use Rattle.std.specs.Str.{bytes_eq}
use Rattle.std.proofs.lemmas.Fmt.{parse-decimal}
use Rattle.std.proofs.lemmas.Slice.Eq.{bytes_eq-Decides}
use Rattle.rbgtree.proofs.load.number_of.Goals as goal

pub returns-in_default-clause-none : goal.returns-in_default-clause-none
returns-in_default-clause-none c n less is =
    let one = parse-decimal 64 n c.args.word.now c.parse.result less less is c.parse.ensures.value.0 in
    absurd (let no : Err c.in_default.field-0 ≡ Ok n = sym c.in_default.is ∙ one in cc)

pub returns-then-ne-clause-none : goal.returns-then-ne-clause-none
returns-then-ne-clause-none c n less is =
    let one = parse-decimal 64 n c.args.word.now c.parse.result less less is c.parse.ensures.value.0 in
    let same : c.in-Ok.number ≡ n = (let e : Ok c.in-Ok.number ≡ Ok n = sym c.in-Ok.is ∙ one in cc) in
    let digits : c.as_bytes.result.now ≡ c.as_bytes-2.result.now =
    c.as_bytes.ensures ∙ (c.number.ensures.value ∙ (ap (λ (xs : List ℕ). xs ++ decimal c.in-Ok.number) c.new-digits.ensures ∙ (ap decimal same ∙ (sym is ∙ sym c.as_bytes-2.ensures.value)))) in
    let yes : bytes_eq c.as_bytes.result.now c.as_bytes-2.result.now ≡ true = (bytes_eq-Decides c.as_bytes.result.now c.as_bytes-2.result.now).1 digits in
    absurd (let no : true ≡ false = sym c.if-ne.true ∙ (c.ne.ensures ∙ ap not yes) in cc)
