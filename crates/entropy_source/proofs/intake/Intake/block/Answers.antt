use Rattle.entropy_source.proofs.Conditioning.{one_block, one_stop, made_len}
use Rattle.entropy_source.proofs.intake.Intake.block.Goals as goal

pub returns-in-Ok-clause-makes : goal.returns-in-Ok-clause-makes
returns-in-Ok-clause-makes g c =
    one_block g.S.Samples.told g.S.Samples.faults g.S.Samples.reads c.args.self.now.row c.args.self.now c.condition.new.self c.count_block.new.self c.in-Ok.block c.count_block.ensures c.in-Ok.ensures.comes

pub returns-in-Err-clause-makes : goal.returns-in-Err-clause-makes
returns-in-Err-clause-makes g c left =
    one_stop g.S.Samples.told g.S.Samples.faults g.S.Samples.reads c.args.self.now.row c.args.self.now c.condition.new.self c.in-Err.why c.in-Err.ensures.comes left

pub returns-in-Ok-clause-len : goal.returns-in-Ok-clause-len
returns-in-Ok-clause-len g c =
    made_len g.S.Samples.told g.S.Samples.faults g.S.Samples.reads c.args.self.now.row c.args.self.now c.condition.new.self c.in-Ok.block c.in-Ok.ensures.comes
