use Rattle.tree_rules.proofs.Complete.{drawn_done}
use Rattle.tree_rules.proofs.causes.done_calls_give_their_blocks.Goals as goal

pub returns : goal.returns
returns c = drawn_done
