use Rattle.frame_codec.proofs.RequestLaws.{one-script}
use Rattle.frame_codec.proofs.laws.one_script.Goals as goal

pub returns : goal.returns
returns c = one-script
