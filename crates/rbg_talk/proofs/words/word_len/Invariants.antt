use Rattle.std.proofs.Common.{◌≡◌, take, false}
use Rattle.std.specs.List.{All}
use Rattle.rbg_talk.specs.Lines.{is_blank}
use Rattle.rbg_talk.proofs.words.word_len.Given as goal

abbrev pub invariant-loop-i : goal.invariant-loop-i
invariant-loop-i l = All (λ byte. is_blank byte ≡ false) (take l.i l.text)
