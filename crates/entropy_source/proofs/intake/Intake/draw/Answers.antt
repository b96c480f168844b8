use Rattle.std.proofs.Common.{length}
use Rattle.entropy_source.proofs.Ends.{drawn, not_drawn}
use Rattle.entropy_source.proofs.intake.Intake.draw.Goals as goal

pub returns-in-Ok-clause-acts : goal.returns-in-Ok-clause-acts
returns-in-Ok-clause-acts g c =
    (drawn g.S.Samples.told g.S.Samples.faults g.S.Samples.reads _ c.args.self.now c.fill.new.self c.requires.tested
    c.fill.new.out c.taken-from.result c.taken.result c.fill.auto.out c.taken-from.ensures.taken c.taken.ensures.taken c.in-Ok.ensures.fills).0

pub returns-in-Ok-clause-ends : goal.returns-in-Ok-clause-ends
returns-in-Ok-clause-ends g c =
    (drawn g.S.Samples.told g.S.Samples.faults g.S.Samples.reads _ c.args.self.now c.fill.new.self c.requires.tested
    c.fill.new.out c.taken-from.result c.taken.result c.fill.auto.out c.taken-from.ensures.taken c.taken.ensures.taken c.in-Ok.ensures.fills).1

pub returns-in-Err-clause-acts : goal.returns-in-Err-clause-acts
returns-in-Err-clause-acts g c =
    (not_drawn g.S.Samples.told g.S.Samples.faults g.S.Samples.reads _ c.args.self.now c.fill.new.self c.requires.tested
    _ c.in-Err.why c.in-Err.ensures.fills).0

pub returns-in-Err-clause-ends : goal.returns-in-Err-clause-ends
returns-in-Err-clause-ends g c =
    (not_drawn g.S.Samples.told g.S.Samples.faults g.S.Samples.reads (length c.args.out.now) c.args.self.now c.fill.new.self c.requires.tested
    c.args.out.now c.in-Err.why c.in-Err.ensures.fills).1
