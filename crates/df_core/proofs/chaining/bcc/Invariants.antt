use Rattle.std.proofs.Common.{◌≡◌, take}
use Rattle.df_core.specs.Df.{bcc}
use Rattle.df_core.proofs.chaining.bcc.Given as goal

abbrev pub invariant-loop-block : goal.invariant-loop-block
invariant-loop-block l = l.value ≡ bcc l.aes (take l.block-index l.blocks)
