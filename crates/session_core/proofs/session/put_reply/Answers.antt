use Rattle.std.proofs.Common.{◌∙◌, arith, sym}
use Rattle.session_core.proofs.Answering.{put_is, front_stays}
use Rattle.session_core.proofs.session.put_reply.Goals as goal

pub returns-clause-frame : goal.returns-clause-frame
returns-clause-frame c =
    put_is c.args.inbox.now.asked c.in-Some.request c.args.reply.now c.reply_head.result c.args.buffer.now c.put_head.new.buffer (sym c.take_asked.ensures.asked ∙ c.in-Some.is) c.requires.answer
    c.reply_head.ensures (omega (arith, c.requires.room)) c.put_head.ensures.front c.put_head.ensures.behind

pub returns-clause-before : goal.returns-clause-before
returns-clause-before c = front_stays c.args.buffer.now c.put_head.new.buffer _ (omega (arith, c.requires.room)) c.put_head.ensures.front
