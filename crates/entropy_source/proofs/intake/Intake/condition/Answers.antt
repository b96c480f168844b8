use Rattle.std.proofs.Common.{◌+◌, ◌-◌, take, refl, ap, ◌∙◌, arith}
use Rattle.entropy_source.specs.Source.{need_of_block}
use Rattle.entropy_source.specs.Views.{SourceView}
use Rattle.entropy_source.proofs.Joining.{still_tested}
use Rattle.entropy_source.proofs.Conditioning.{held_none, held_more, held_stops}
use Rattle.entropy_source.proofs.intake.Intake.condition.Goals as goal

pub loop-lacks-init : goal.loop-lacks-init
loop-lacks-init g c =
    let total = c.need-total.ensures.count ∙ ap (λ (v : SourceView g.row.S.Denot). need_of_block v.row) c.self.view_is in record {
      row = refl;
      tested = c.requires.tested;
      taken = ap (λ k. c.args.self.now.taken + k) total;
      blocks = refl;
      leads = held_none g.S.Samples.told g.S.Samples.faults g.S.Samples.reads c.args.self.now.row c.args.self.now c.start-block.result c.self.inside.row.cond c.need-total.result
          (ap (λ (v : SourceView g.row.S.Denot). v.row.cond) c.self.view_is) total c.start-block.ensures;
    }

pub loop-lacks-preserved : goal.loop-lacks-preserved
loop-lacks-preserved g c =
    let e = c.in-Ok.ensures in
    let old = c.loop-lacks.self in
    let new = c.read.new.self in
    let left = c.loop-lacks.lacks - c.in-Ok.count in
    let got = take c.in-Ok.count c.read.new.buffer in record {
      row = e.row ∙ c.loop-lacks.invariant.row;
      tested = still_tested g.S.Samples.told g.S.Samples.faults g.S.Samples.reads c.loop-lacks.self.row old new c.loop-lacks.lacks left got e.comes c.loop-lacks.invariant.tested;
      taken = omega (arith, e.comes.taken, e.comes.count, c.loop-lacks.invariant.taken);
      blocks = e.comes.blocks ∙ c.loop-lacks.invariant.blocks;
      leads = held_more g.S.Samples.told g.S.Samples.faults g.S.Samples.reads c.args.self.now.row c.args.self.now old new c.loop-lacks.self.row c.loop-lacks.invariant.row
          c.loop-lacks.block c.loop-lacks.lacks c.push.new.self left got c.loop-lacks.invariant.leads e.comes
          (λ before h. c.push.ensures c.args.self.now.row.cond (need_of_block c.args.self.now.row) before h);
    }

pub returns-in-Err-clause-comes : goal.returns-in-Err-clause-comes
returns-in-Err-clause-comes g c =
    held_stops g.S.Samples.told g.S.Samples.faults g.S.Samples.reads c.args.self.now.row c.args.self.now c.loop-lacks.self c.read.new.self
    c.loop-lacks.self.row c.loop-lacks.invariant.row c.loop-lacks.block c.loop-lacks.lacks c.in-Err.why c.loop-lacks.invariant.leads c.in-Err.ensures.comes
