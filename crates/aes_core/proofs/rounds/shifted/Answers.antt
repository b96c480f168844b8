use Rattle.aes_core.proofs.Mixing.{shifted_is}
use Rattle.aes_core.proofs.rounds.shifted.Goals as goal

pub returns : goal.returns
returns c = shifted_is c.args.s c.fits-s.0
