use Rattle.tree_rules.proofs.Rightness.{states_same}
use Rattle.tree_rules.proofs.laws.states_are_folds.Goals as goal

pub returns : goal.returns
returns c = states_same
