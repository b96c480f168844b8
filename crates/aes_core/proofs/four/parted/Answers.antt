use Rattle.aes_core.proofs.Rows.{cut_is}
use Rattle.aes_core.proofs.four.parted.Goals as goal

pub returns : goal.returns
returns c = cut_is c.args.s c.fits-s.0
