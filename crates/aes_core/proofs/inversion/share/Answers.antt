use Rattle.aes_core.specs.Code.Inversion.{look, lower_of}
use Rattle.aes_core.specs.declared.tables.TheConstants.{SHARE}
use Rattle.aes_core.proofs.Lanes.{after, reads}
use Rattle.aes_core.proofs.inversion.share.Goals as goal

pub look_up-requires : goal.look_up-requires
look_up-requires c = reads lower_of c.args.y _ c.fits-y c.lower.ensures tt

pub returns : goal.returns
returns c = after (look SHARE) lower_of c.args.y _ _ c.look_up.ensures c.lower.ensures
