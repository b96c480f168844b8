use Rattle.aes_core.proofs.Words.{rotated_is}
use Rattle.aes_core.proofs.keys.rotated.Goals as goal

pub returns : goal.returns
returns c = rotated_is c.args.t c.fits-t.0
