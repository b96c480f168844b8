use Rattle.std.proofs.Common.{append_assoc}
use Rattle.df_core.proofs.derive.Df.push.Goals as goal

pub returns : goal.returns
returns c = λ keylen total want input h. simp append_assoc at (c.push_text.ensures keylen want _ h)
