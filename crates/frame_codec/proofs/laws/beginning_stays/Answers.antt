use Rattle.frame_codec.proofs.RequestLaws.{begins-more}
use Rattle.frame_codec.proofs.laws.beginning_stays.Goals as goal

pub returns : goal.returns
returns c = begins-more
