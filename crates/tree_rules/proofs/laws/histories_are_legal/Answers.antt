use Rattle.std.specs.Prelude.{[]}
use Rattle.tree_rules.proofs.Plans.{takes_samples}
use Rattle.tree_rules.proofs.Rightness.{history_legal, legal_history}
use Rattle.tree_rules.proofs.laws.histories_are_legal.Goals as goal

pub returns-clause-after : goal.returns-clause-after
returns-clause-after c least f h es planned legal =
    let take = takes_samples least f.plan planned in (history_legal f take h es legal, legal_history f take h es legal)

pub returns-clause-whole : goal.returns-clause-whole
returns-clause-whole c least f es planned =
    let take = takes_samples least f.plan planned in (history_legal f take [] es tt, legal_history f take [] es tt)
