use Rattle.entropy_source.proofs.Starts.{start_stops, stops_left, start_passed, passed_left}
use Rattle.entropy_source.proofs.intake.Intake.start.Goals as goal

pub returns-in-Err-clause-acts : goal.returns-in-Err-clause-acts
returns-in-Err-clause-acts g c = start_stops g.S.Samples.told g.S.Samples.faults g.S.Samples.reads c.args.self.now c.begin.new.self c.warm_up.new.self c.in-Err.why c.begin.ensures c.in-Err.ensures.comes

pub returns-in-Err-clause-ends : goal.returns-in-Err-clause-ends
returns-in-Err-clause-ends g c = stops_left g.S.Samples.told g.S.Samples.faults g.S.Samples.reads c.args.self.now c.begin.new.self c.warm_up.new.self c.in-Err.why c.begin.ensures c.in-Err.ensures.comes

pub returns-in-Ok-clause-acts : goal.returns-in-Ok-clause-acts
returns-in-Ok-clause-acts g c = start_passed g.S.Samples.told g.S.Samples.faults g.S.Samples.reads c.args.self.now c.begin.new.self c.warm_up.new.self c.run.new.self c.begin.ensures c.run.ensures c.in-Ok.ensures.comes _

pub returns-in-Ok-clause-ends : goal.returns-in-Ok-clause-ends
returns-in-Ok-clause-ends g c = passed_left g.S.Samples.told g.S.Samples.faults g.S.Samples.reads c.args.self.now c.begin.new.self c.warm_up.new.self c.run.new.self c.begin.ensures c.run.ensures c.in-Ok.ensures.comes
