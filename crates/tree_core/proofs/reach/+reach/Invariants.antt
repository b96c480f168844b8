use Rattle.tree_core.proofs.reach.+reach.Given as goal

abbrev pub decreases-reach : goal.decreases-reach
decreases-reach g l = l.far
