use Rattle.frame_codec.proofs.ReplyDecoding.{fresh-replies}
use Rattle.frame_codec.proofs.reply_decoder.ReplyDecoder.fresh.Goals as goal

pub returns-clause-reads : goal.returns-clause-reads
returns-clause-reads c = fresh-replies c.fresh.result c.fresh.ensures.table c.fresh.ensures.begun c.fresh.ensures.bytes
