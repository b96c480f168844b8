use Rattle.frame_codec.proofs.Reading.{step-feeds}
use Rattle.frame_codec.proofs.laws.one_byte.Goals as goal

pub returns : goal.returns
returns c = step-feeds
