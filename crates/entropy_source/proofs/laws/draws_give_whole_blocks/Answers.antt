use Rattle.entropy_source.proofs.Portions.{draws_length}
use Rattle.entropy_source.proofs.laws.draws_give_whole_blocks.Goals as goal

pub returns : goal.returns
returns c = draws_length
