use Rattle.tree_rules.proofs.Plans.{takes_samples}
use Rattle.tree_rules.proofs.Running.{runs_clean}
use Rattle.tree_rules.proofs.laws.running_sources_had_no_alarm.Goals as goal

pub returns : goal.returns
returns c least f h j planned legal = runs_clean f h (takes_samples least f.plan planned) legal j
