use Rattle.tree_rules.proofs.Leaves.{leaves}
use Rattle.tree_rules.proofs.laws.entries_leave_other_slots.Goals as goal

pub returns : goal.returns
returns c p s e f k h x = leaves p s k e f h x
