use Rattle.tree_rules.proofs.Ranges.{in_range}
use Rattle.tree_rules.proofs.openings.chains_are_in_range.Goals as goal

pub returns : goal.returns
returns c = in_range
