use Rattle.tree_acts.proofs.strings.+give_chunks.Given as goal

abbrev pub decreases-give_chunks : goal.decreases-give_chunks
decreases-give_chunks g l = l.count
