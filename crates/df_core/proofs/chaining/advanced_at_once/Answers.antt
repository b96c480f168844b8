use Rattle.df_core.proofs.Passes.{step_of_three}
use Rattle.df_core.proofs.chaining.advanced_at_once.Goals as goal

pub returns : goal.returns
returns c =
    step_of_three c.args.aes.now _ _ _ _ c.args.chains.now c.args.blocks.now _
    c.encrypt4.ensures.value c.summed.ensures c.summed-2.ensures c.summed-3.ensures
