use Rattle.tree_rules.proofs.Paths.{on_path}
use Rattle.tree_rules.proofs.laws.chains_lie_on_paths.Goals as goal

pub returns : goal.returns
returns c p s d string k h = on_path p s k d string h
