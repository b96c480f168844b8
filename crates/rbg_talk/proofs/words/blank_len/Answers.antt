use Rattle.std.proofs.Common.{◌≡◌, ℕ, ◌∙◌, ap, sym, drop, length, arith}
use Rattle.rbg_talk.specs.Lines.{words_in}
use Rattle.rbg_talk.proofs.Wording.{blanks_more}
use Rattle.rbg_talk.proofs.words.blank_len.Goals as goal

pub returns-then-not-is_blank-clause-words : goal.returns-then-not-is_blank-clause-words
returns-then-not-is_blank-clause-words c = c.loop-i.invariant

pub loop-i-preserved : goal.loop-i-preserved
loop-i-preserved c = blanks_more c.args.text.now c.loop-i.i c.loop-i-test.true (sym c.is_blank.ensures ∙ c.if-not-is_blank.false) c.loop-i.invariant

pub returns-clause-words : goal.returns-clause-words
returns-clause-words c =
    let at : length c.args.text.now ≡ c.loop-i.i = omega arith in
    ap (λ (k : ℕ). words_in (drop k c.args.text.now)) at ∙ c.loop-i.invariant
