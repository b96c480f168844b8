use Rattle.frame_codec.proofs.RequestLaws.{script-longer}
use Rattle.frame_codec.proofs.laws.longer_script.Goals as goal

pub returns : goal.returns
returns c = script-longer
