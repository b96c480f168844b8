use Rattle.tree_rules.proofs.Committing.{may_commit, may_put}
use Rattle.tree_rules.proofs.lists.entries_may_be_committed.Goals as goal

pub returns-clause-commit : goal.returns-clause-commit
returns-clause-commit c = may_commit

pub returns-clause-put : goal.returns-clause-put
returns-clause-put c = may_put
