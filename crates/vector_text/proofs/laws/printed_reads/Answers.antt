use Rattle.vector_text.proofs.Rereading.{reads_again}
use Rattle.vector_text.proofs.laws.printed_reads.Goals as goal

pub returns : goal.returns
returns c case is = reads_again case is
