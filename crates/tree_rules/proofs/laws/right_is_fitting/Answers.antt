use Rattle.tree_rules.proofs.Plans.{takes_samples}
use Rattle.tree_rules.proofs.Rightness.{right_fits, fits_right}
use Rattle.tree_rules.proofs.laws.right_is_fitting.Goals as goal

pub returns : goal.returns
returns c least f h e planned legal =
    let take = takes_samples least f.plan planned in (right_fits f take h legal e, fits_right f take h legal e)
