use Rattle.tree_rules.proofs.Plans.{takes_samples}
use Rattle.tree_rules.proofs.Quieting.{quiet}
use Rattle.tree_rules.proofs.laws.sources_are_quiet_after_alarms.Goals as goal

pub returns : goal.returns
returns c least f es planned = quiet f es (takes_samples least f.plan planned)
