use Rattle.aes_core.proofs.Mixing.{doubled_is}
use Rattle.aes_core.proofs.rounds.doubled.Goals as goal

pub returns : goal.returns
returns c = doubled_is c.args.v c.fits-v
