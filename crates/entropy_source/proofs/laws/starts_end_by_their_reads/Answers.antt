use Rattle.entropy_source.proofs.Answering.{start_ends}
use Rattle.entropy_source.proofs.laws.starts_end_by_their_reads.Goals as goal

pub returns : goal.returns
returns c = start_ends
