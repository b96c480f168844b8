use Rattle.std.proofs.Common.{ap, ◌∙◌, arith, get_or, []}
use Rattle.df_core.specs.Df.{chained}
use Rattle.df_core.proofs.Passes.{same_of_three}
use Rattle.df_core.proofs.chaining.absorbed.Goals as goal

pub returns : goal.returns
returns c = λ i lt.
    c.advanced.ensures i lt
    ∙ ap (chained c.args.aes.now (get_or c.args.chains.now i [])) (same_of_three c.args.block.now i (omega arith))
