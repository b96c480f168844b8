use Rattle.entropy_source.proofs.Answering.{drawn_ends}
use Rattle.entropy_source.proofs.laws.draws_end_by_their_reads.Goals as goal

pub returns : goal.returns
returns c = drawn_ends
