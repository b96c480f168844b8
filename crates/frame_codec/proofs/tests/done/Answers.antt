use Rattle.std.proofs.Common.{lit<, lit≤}
use Rattle.frame_codec.proofs.Replies.{done-head}
use Rattle.frame_codec.proofs.tests.done.Goals as goal

pub returns : goal.returns
returns c = done-head 0 5 65536 (lit< tt) (lit< tt) (lit≤ tt)
