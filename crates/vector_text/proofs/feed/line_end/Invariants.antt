use Rattle.std.proofs.Common.{◌≡◌, take, false}
use Rattle.std.specs.List.{All}
use Rattle.vector_text.specs.Feeding.{is_line_feed}
use Rattle.vector_text.proofs.feed.line_end.Given as goal

abbrev pub invariant-loop-i : goal.invariant-loop-i
invariant-loop-i l = All (λ c. is_line_feed c ≡ false) (take l.i l.ahead)
