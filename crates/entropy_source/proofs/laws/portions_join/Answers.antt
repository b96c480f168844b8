use Rattle.entropy_source.proofs.Portions.{wants_on, portions_on, need_append}
use Rattle.entropy_source.proofs.laws.portions_join.Goals as goal

pub returns-clause-drawn : goal.returns-clause-drawn
returns-clause-drawn c = wants_on

pub returns-clause-portions : goal.returns-clause-portions
returns-clause-portions c = portions_on

pub returns-clause-need : goal.returns-clause-need
returns-clause-need c = need_append
