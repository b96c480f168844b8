use Rattle.std.proofs.Common.{◌≡◌, ℕ, ◌∙◌, sym, subst, take, length, false, arith}
use Rattle.std.specs.List.{All}
use Rattle.std.proofs.lemmas.List.Elements.{All-more, All-nil}
use Rattle.rbg_talk.specs.Lines.{is_blank}
use Rattle.rbg_talk.proofs.words.word_len.Goals as goal

pub loop-i-init : goal.loop-i-init
loop-i-init c = All-nil (λ (byte : ℕ). is_blank byte ≡ false)

pub returns-then-is_blank-clause-word : goal.returns-then-is_blank-clause-word
returns-then-is_blank-clause-word c = c.loop-i.invariant

pub loop-i-preserved : goal.loop-i-preserved
loop-i-preserved c =
    All-more (λ (byte : ℕ). is_blank byte ≡ false) c.args.text.now c.loop-i.i 0 c.loop-i-test.true c.loop-i.invariant (sym c.is_blank.ensures ∙ c.if-is_blank.false)

pub returns-clause-word : goal.returns-clause-word
returns-clause-word c =
    let at : c.loop-i.i ≡ length c.args.text.now = omega arith in
    subst (λ (k : ℕ). All (λ (byte : ℕ). is_blank byte ≡ false) (take k c.args.text.now)) at c.loop-i.invariant
