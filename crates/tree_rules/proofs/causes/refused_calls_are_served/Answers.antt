use Rattle.tree_rules.proofs.Refusals.{refused_served}
use Rattle.tree_rules.proofs.causes.refused_calls_are_served.Goals as goal

pub returns : goal.returns
returns c = refused_served
