use Rattle.std.proofs.Common.{◌≡◌, drop}
use Rattle.rbg_talk.specs.Lines.{words_in}
use Rattle.rbg_talk.proofs.words.blank_len.Given as goal

abbrev pub invariant-loop-i : goal.invariant-loop-i
invariant-loop-i l = words_in (drop l.i l.text) ≡ words_in l.text
