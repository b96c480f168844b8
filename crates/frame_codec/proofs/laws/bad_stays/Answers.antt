use Rattle.frame_codec.proofs.RequestLaws.{bad-more}
use Rattle.frame_codec.proofs.laws.bad_stays.Goals as goal

pub returns : goal.returns
returns c = bad-more
