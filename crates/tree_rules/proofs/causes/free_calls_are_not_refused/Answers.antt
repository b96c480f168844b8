use Rattle.tree_rules.proofs.Freeing.{chain_is_whole, free_is, is_free}
use Rattle.tree_rules.proofs.causes.free_calls_are_not_refused.Goals as goal

pub returns-clause-exact : goal.returns-clause-exact
returns-clause-exact c p s call string = (is_free p s call string, free_is p s call string)

pub returns-clause-whole : goal.returns-clause-whole
returns-clause-whole c = chain_is_whole
