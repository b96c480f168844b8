use Rattle.aes_core.proofs.Inverses.{times-inverse}
use Rattle.aes_core.proofs.laws.inverts_bytes.Goals as goal

pub returns : goal.returns
returns c = λ x some byte. times-inverse x some byte
