use Rattle.std.proofs.Common.{ap, ◌∙◌}
use Rattle.aes_core.specs.Aes.{aes}
use Rattle.df_core.specs.Df.{chained}
use Rattle.df_core.proofs.chaining.chained.Goals as goal

pub returns : goal.returns
unfolding chained
returns c = c.encrypt.ensures.value ∙ ap (aes c.args.aes.now) c.summed-sum.ensures
