use Rattle.std.proofs.Common.{[]}
use Rattle.df_core.specs.Df.{df_header}
use Rattle.df_core.proofs.derive.Df.push_header.Goals as goal

pub returns : goal.returns
unfolding df_header
returns c = λ keylen wanted h.
    rw (c.to_be_bytes.ensures, c.to_be_bytes-2.ensures) at (c.push_text-2.ensures keylen wanted _ (c.push_text.ensures keylen wanted [] h))
