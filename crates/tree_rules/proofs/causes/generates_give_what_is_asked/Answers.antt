use Rattle.tree_rules.proofs.Asked.{asked_len}
use Rattle.tree_rules.proofs.causes.generates_give_what_is_asked.Goals as goal

pub returns : goal.returns
returns c = asked_len c.generates_have_their_lengths.ensures.len c.draws_give_whole_blocks.ensures
