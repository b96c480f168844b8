use Rattle.conditioner.proofs.Blocks.{length-conditioned}
use Rattle.conditioner.proofs.lengths.keeps_lengths.Goals as goal

pub returns : goal.returns
returns c = length-conditioned
