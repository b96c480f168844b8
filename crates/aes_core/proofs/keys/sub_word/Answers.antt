use Rattle.aes_core.proofs.Words.{substituted_is}
use Rattle.aes_core.proofs.keys.sub_word.Goals as goal

pub returns : goal.returns
returns c = rw (c.substituted.ensures, c.four_times.ensures) (substituted_is c.args.t c.fits-t.0)
