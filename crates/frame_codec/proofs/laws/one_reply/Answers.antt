use Rattle.frame_codec.specs.Frames.{replies}
use Rattle.frame_codec.proofs.Grammar.{only-one}
use Rattle.frame_codec.proofs.laws.one_reply.Goals as goal

pub returns : goal.returns
returns c = only-one replies
