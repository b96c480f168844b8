use Rattle.vector_text.proofs.Ending.{ends_all}
use Rattle.vector_text.proofs.laws.ends_once.Goals as goal

pub returns : goal.returns
returns c family text = ends_all family text
