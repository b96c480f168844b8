use Rattle.std.specs.Prelude.{[], ◌++◌, List}
use Rattle.tree_rules.specs.Fits.{Legal}
use Rattle.tree_rules.specs.History.{Entry, Opening, opened}
use Rattle.tree_rules.specs.Openings.{IsHistory}
use Rattle.tree_rules.proofs.Parts.{joined}
use Rattle.tree_rules.proofs.Plans.{takes_samples}
use Rattle.tree_rules.proofs.Parting.{apart}
use Rattle.tree_rules.proofs.Quieting.{quiet}
use Rattle.tree_rules.proofs.Rightness.{legal_history}
use Rattle.tree_rules.proofs.openings.histories_are_right_as_a_whole.Goals as goal

whole : (f : Opening) (o h : List Entry) → IsHistory f o h → Legal f.plan (opened f) (o ++ h)
whole f o h is = joined f.plan (opened f) o h is.opening.legal is.legal

pub returns-clause-legal : goal.returns-clause-legal
returns-clause-legal c f o h is = whole f o h is

pub returns-clause-right : goal.returns-clause-right
returns-clause-right c f o h is = legal_history f (takes_samples 0 f.plan is.opening.planned) [] (o ++ h) tt (whole f o h is)

pub returns-clause-apart : goal.returns-clause-apart
returns-clause-apart c f o h is = apart f (o ++ h) (whole f o h is)

pub returns-clause-quiet : goal.returns-clause-quiet
returns-clause-quiet c f o h is = quiet f (o ++ h) (takes_samples 0 f.plan is.opening.planned) (whole f o h is)
