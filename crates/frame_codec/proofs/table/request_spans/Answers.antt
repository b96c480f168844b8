use Rattle.std.proofs.Common.{if◌then◌else◌, Bool, ap, ◌∙◌}
use Rattle.frame_codec.specs.Frames.{from_to, zero_only}
use Rattle.frame_codec.proofs.table.request_spans.Goals as goal

pub returns-in-2 : goal.returns-in-2
returns-in-2 c before is =
    rw (c.in-2.is, is) (c.spans_if.ensures ∙ ap (λ (b : Bool). if b then from_to 0 1 else zero_only) c.is_either.ensures)
