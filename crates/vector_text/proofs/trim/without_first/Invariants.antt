use Rattle.std.proofs.Common.{◌≡◌, drop}
use Rattle.vector_text.specs.Trims.{is_blank, without_first}
use Rattle.vector_text.proofs.trim.without_first.Given as goal

abbrev pub invariant-loop-i : goal.invariant-loop-i
invariant-loop-i l = without_first (is_blank l.blank) (drop l.i l.text) ≡ without_first (is_blank l.blank) l.text
