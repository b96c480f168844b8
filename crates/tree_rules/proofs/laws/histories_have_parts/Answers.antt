use Rattle.tree_rules.proofs.Parts.{both, joined, states_parts}
use Rattle.tree_rules.proofs.laws.histories_have_parts.Goals as goal

pub returns-clause-legal : goal.returns-clause-legal
returns-clause-legal c p s xs ys = (both p s xs ys, λ d. joined p s xs ys d.0 d.1)

pub returns-clause-states : goal.returns-clause-states
returns-clause-states c = states_parts
