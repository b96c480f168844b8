use Rattle.tree_acts.proofs.strings.+draw_strings.Given as goal

abbrev pub decreases-draw_strings : goal.decreases-draw_strings
decreases-draw_strings g l = l.count
