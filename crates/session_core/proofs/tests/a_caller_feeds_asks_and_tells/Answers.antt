use Rattle.std.proofs.Common.{lit<, lit≤}
use Rattle.session_core.proofs.Answering.{can_refuse}
use Rattle.session_core.proofs.tests.a_caller_feeds_asks_and_tells.Goals as goal

pub answered-requires-clause-answer : goal.answered-requires-clause-answer
answered-requires-clause-answer g c = can_refuse _ c.feed-taken.new.self.inbox.decoder 6 0 0 c.next_call.ensures.framed (lit≤ tt) (lit≤ tt) (lit< tt) (lit< tt)
