use Rattle.frame_codec.proofs.table.reply_spans.Goals as goal

pub returns-in-2 : goal.returns-in-2
returns-in-2 c before code op = rw (c.in-2.is, code) c.spans_unless.ensures
