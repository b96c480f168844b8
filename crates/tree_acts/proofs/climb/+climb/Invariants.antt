use Rattle.tree_acts.proofs.climb.+climb.Given as goal

abbrev pub decreases-climb : goal.decreases-climb
decreases-climb g l = l.far
