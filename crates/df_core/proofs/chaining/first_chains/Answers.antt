use Rattle.std.proofs.Common.{ap, ◌∙◌, arith, List, ℕ, get_or, [], replicate}
use Rattle.df_core.specs.Df.{chained}
use Rattle.df_core.specs.declared.chaining.TheConstants.{PASS_BLOCKS}
use Rattle.df_core.proofs.Passes.{pass_block_is, zeros_of_three}
use Rattle.df_core.proofs.chaining.first_chains.Goals as goal

pub returns : goal.returns
returns c = λ i lt.
    let key = c.args.aes.now in
    c.advanced.ensures i lt
    ∙ (ap (λ (v : List ℕ). chained key v (get_or PASS_BLOCKS i [])) (zeros_of_three i (omega arith))
    ∙ ap (chained key (replicate 16 0)) (pass_block_is i (omega arith)))
