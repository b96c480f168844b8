use Rattle.std.proofs.Common.{◌≡◌, ◌∙◌, sym, arith}
use Rattle.std.specs.Prelude.{decimal}
use Rattle.std.proofs.lemmas.Fmt.{decimal_injective}
use Rattle.rbgtree.proofs.load.load_of.Goals as goal

pub returns-then-count-gt-MAX_CALLS-clause-none : goal.returns-then-count-gt-MAX_CALLS-clause-none
returns-then-count-gt-MAX_CALLS-clause-none c name load is =
    let word : c.args.count.now ≡ decimal load.count = (let e = is.words_are in cc) in
    let same = decimal_injective c.in_ok-count.count load.count c.in_ok-count.ensures.range (omega (arith, is.count)) (sym c.in_ok-count.ensures.some ∙ word) in
    omega (arith, same, is.count, c.if-count-gt-MAX_CALLS.true)
