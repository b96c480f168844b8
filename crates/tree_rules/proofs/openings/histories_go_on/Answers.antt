use Rattle.tree_rules.proofs.Going.{goes_on, last_fits}
use Rattle.tree_rules.proofs.openings.histories_go_on.Goals as goal

pub returns : goal.returns
returns c f o h e is = (goes_on f o h e is, last_fits f o h e)
