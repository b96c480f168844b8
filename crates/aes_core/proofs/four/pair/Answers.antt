use Rattle.std.proofs.Common.{◌++◌, length-append, arith}
use Rattle.aes_core.proofs.Rows.{all_of_32}
use Rattle.aes_core.proofs.four.pair.Goals as goal

pub returns : goal.returns
returns c = all_of_32 (c.args.a ++ c.args.b) (omega (arith, length-append c.args.a c.args.b, c.fits-a.0, c.fits-b.0))
