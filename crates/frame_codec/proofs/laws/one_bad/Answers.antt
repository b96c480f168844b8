use Rattle.frame_codec.proofs.RequestLaws.{one-bad}
use Rattle.frame_codec.proofs.laws.one_bad.Goals as goal

pub returns : goal.returns
returns c = one-bad
