use Rattle.tree_rules.proofs.Complete.{done_alone, done_quiet, done_told}
use Rattle.tree_rules.proofs.causes.free_calls_are_done.Goals as goal

pub returns-clause-alone : goal.returns-clause-alone
returns-clause-alone c = done_alone

pub returns-clause-quiet : goal.returns-clause-quiet
returns-clause-quiet c = done_quiet c.draws_end_by_their_reads.ensures c.starts_end_by_their_reads.ensures

pub returns-clause-told : goal.returns-clause-told
returns-clause-told c = done_told c.draws_end_by_their_reads.ensures c.starts_end_by_their_reads.ensures
