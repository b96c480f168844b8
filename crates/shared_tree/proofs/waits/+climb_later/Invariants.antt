use Rattle.shared_tree.specs.Rows.{places_of}
use Rattle.shared_tree.proofs.waits.+climb_later.Given as goal

abbrev pub decreases-climb_later : goal.decreases-climb_later
decreases-climb_later g l = places_of l.row.now
