use Rattle.tree_rules.proofs.Answered.{alone, caused}
use Rattle.tree_rules.proofs.causes.replies_have_causes.Goals as goal

pub returns-clause-alone : goal.returns-clause-alone
returns-clause-alone c = alone

pub returns-clause-source : goal.returns-clause-source
returns-clause-source c = caused c.draws_end_by_their_reads.ensures c.starts_end_by_their_reads.ensures
