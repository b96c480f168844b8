use Rattle.frame_codec.proofs.RequestLaws.{script-not-bad}
use Rattle.frame_codec.proofs.laws.script_or_bad.Goals as goal

pub returns : goal.returns
returns c = script-not-bad
