use Rattle.tree_rules.proofs.Near.{near}
use Rattle.tree_rules.proofs.laws.entries_read_their_chain.Goals as goal

pub returns : goal.returns
returns c = near
