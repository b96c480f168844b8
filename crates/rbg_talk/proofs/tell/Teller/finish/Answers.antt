use Rattle.rbg_talk.proofs.Telling.{ends_cut}
use Rattle.rbg_talk.proofs.tell.Teller.finish.Goals as goal

pub returns-then-self-clause-ends : goal.returns-then-self-clause-ends
returns-then-self-clause-ends c before left out taken st at_end = ends_cut before taken c.args.self.now out st c.requires.teller.offset left at_end c.if-self.true
