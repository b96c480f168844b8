use Rattle.frame_codec.specs.Frames.{requests}
use Rattle.frame_codec.proofs.Grammar.{only-one}
use Rattle.frame_codec.proofs.laws.one_request.Goals as goal

pub returns : goal.returns
returns c = only-one requests
