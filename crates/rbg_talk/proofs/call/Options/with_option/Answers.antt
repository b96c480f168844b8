use Rattle.std.proofs.Common.{◌≡◌, ◌∙◌, sym, subst}
use Rattle.std.specs.Prelude.{Result, Ok, Err, MatchResult}
use Rattle.rbg_talk.specs.declared.grammar.Fault.{Fault}
use Rattle.rbg_talk.specs.Calls.{Options}
use Rattle.rbg_talk.specs.Parsed.{options_of}
use Rattle.rbg_talk.proofs.Optional.{takes_pr, takes_strength}
use Rattle.rbg_talk.proofs.call.Options.with_option.Goals as goal

pub returns-then-is_word-clause-read : goal.returns-then-is_word-clause-read
returns-then-is_word-clause-read c =
    subst (λ (x : Result Options Fault). MatchResult c.with_pr.result (λ more. x ≡ Ok (options_of more c.args.buffer.now)) (λ why. x ≡ Err why))
    (sym (takes_pr c.args.operation (options_of c.args.self c.args.buffer.now) c.args.word.now c.args.value.now (sym c.is_word.ensures ∙ c.if-is_word.true)))
    (c.with_pr.ensures.read c.args.buffer.now)

pub returns-then-is_word-2-clause-read : goal.returns-then-is_word-2-clause-read
returns-then-is_word-2-clause-read c =
    subst (λ (x : Result Options Fault). MatchResult c.with_strength.result (λ more. x ≡ Ok (options_of more c.args.buffer.now)) (λ why. x ≡ Err why))
    (sym (takes_strength c.args.operation (options_of c.args.self c.args.buffer.now) c.args.word.now c.args.value.now (sym c.is_word.ensures ∙ c.if-is_word.false)
    (sym c.is_word-2.ensures ∙ c.if-is_word-2.true)))
    (c.with_strength.ensures.read c.args.buffer.now)
