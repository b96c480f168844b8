use Rattle.aes_core.proofs.Rows.{four_times_is}
use Rattle.aes_core.proofs.four.four_times.Goals as goal

pub returns : goal.returns
returns c = four_times_is c.args.v c.fits-v.0
