use Rattle.tree_load.proofs.Bounding.{history_limited}
use Rattle.tree_load.proofs.laws.sources_have_a_limit.Goals as goal

pub returns-clause-taken : goal.returns-clause-taken
returns-clause-taken c f o h is j = (history_limited f o h is j).taken

pub returns-clause-blocks : goal.returns-clause-blocks
returns-clause-blocks c f o h is j = (history_limited f o h is j).blocks
