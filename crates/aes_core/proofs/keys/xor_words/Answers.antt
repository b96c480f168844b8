use Rattle.aes_core.proofs.Words.{summed_is}
use Rattle.aes_core.proofs.keys.xor_words.Goals as goal

pub returns : goal.returns
returns c = summed_is c.args.s c.args.t c.fits-s.0 c.fits-t.0
