use Rattle.tree_rules.proofs.Lasting.{rbg1_last}
use Rattle.tree_rules.proofs.causes.rbg1s_end_their_chains.Goals as goal

pub returns : goal.returns
returns c = rbg1_last
