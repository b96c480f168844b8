use Rattle.tree_rules.proofs.Sources.{does}
use Rattle.tree_rules.proofs.laws.sources_draw_or_start.Goals as goal

pub returns : goal.returns
returns c p s j e f = does p s j e f
