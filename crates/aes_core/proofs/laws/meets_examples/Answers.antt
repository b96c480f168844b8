use Rattle.aes_core.proofs.Examples.{examples}
use Rattle.aes_core.proofs.laws.meets_examples.Goals as goal

pub returns : goal.returns
returns c = examples
