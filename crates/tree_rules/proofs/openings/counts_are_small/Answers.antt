use Rattle.tree_rules.proofs.Growing.{counts_small, raised_entry, raised_served}
use Rattle.tree_rules.proofs.openings.counts_are_small.Goals as goal

pub returns-clause-entry : goal.returns-clause-entry
returns-clause-entry c = raised_entry

pub returns-clause-served : goal.returns-clause-served
returns-clause-served c = raised_served

pub returns-clause-history : goal.returns-clause-history
returns-clause-history c = counts_small
