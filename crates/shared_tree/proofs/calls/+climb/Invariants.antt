use Rattle.shared_tree.specs.Rows.{places_of}
use Rattle.shared_tree.proofs.calls.+climb.Given as goal

abbrev pub decreases-climb : goal.decreases-climb
decreases-climb g l = places_of l.row.now
