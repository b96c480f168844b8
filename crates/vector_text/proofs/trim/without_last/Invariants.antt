use Rattle.std.proofs.Common.{◌≡◌, ◌≤◌, take, length}
use Rattle.vector_text.specs.Trims.{is_blank, without_last}
use Rattle.vector_text.proofs.trim.without_last.Given as goal

abbrev pub invariant-loop-end : goal.invariant-loop-end
invariant-loop-end l = (l.end ≤ length l.text) × (without_last (is_blank l.blank) (take l.end l.text) ≡ without_last (is_blank l.blank) l.text)

abbrev pub decreases-loop-end : goal.decreases-loop-end
decreases-loop-end l = l.end
