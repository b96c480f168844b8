use Rattle.rbg_talk.proofs.Lining.{ends_done, ended_asks}
use Rattle.rbg_talk.specs.Asker.{line_of}
use Rattle.rbg_talk.proofs.ask.Asker.finish.Goals as goal

pub returns-in-Ok-clause-ends : goal.returns-in-Ok-clause-ends
returns-in-Ok-clause-ends g c before left taken st at_end =
    let p = c.in-Ok.ensures.ends in
    ends_done before taken (line_of c.args.self.now) c.args.self.now.number c.args.self.now.calls c.args.self.now.taken _ st p.said left _ p.says p.wrote.text at_end

pub returns-in-Err-clause-ends : goal.returns-in-Err-clause-ends
returns-in-Err-clause-ends g c before left taken st at_end = ended_asks before taken c.args.self.now _ st left _ c.in-Err.status c.in-Err.ensures.ends at_end
