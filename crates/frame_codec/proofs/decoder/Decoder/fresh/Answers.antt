use Rattle.std.proofs.Common.{replicate}
use Rattle.frame_codec.proofs.Decoding.{fresh-reads}
use Rattle.frame_codec.proofs.decoder.Decoder.fresh.Goals as goal

pub returns-clause-reads : goal.returns-clause-reads
returns-clause-reads c = fresh-reads c.fresh.result (replicate 4096 0) c.fresh.ensures.table c.fresh.ensures.begun c.fresh.ensures.bytes
