use Rattle.std.proofs.Common.{◌-◌, take, refl, ap, ◌∙◌, arith}
use Rattle.entropy_source.specs.Views.{SourceView}
use Rattle.entropy_source.proofs.Joining.{left_none, left_more, left_stops, still_tested}
use Rattle.entropy_source.proofs.intake.Intake.warm_up.Goals as goal

pub loop-lacks-init : goal.loop-lacks-init
loop-lacks-init g c =
    let startup = ap (λ (v : SourceView g.row.S.Denot). v.row.startup) c.self.view_is in record {
      row = refl;
      tested = c.requires.tested;
      room = omega (arith, c.requires.room, startup);
      leads = left_none g.S.Samples.told g.S.Samples.faults g.S.Samples.reads c.args.self.now.row c.args.self.now c.args.self.now.row.startup c.self.inside.row.startup startup;
    }

pub returns-in-Err-clause-comes : goal.returns-in-Err-clause-comes
returns-in-Err-clause-comes g c =
    left_stops g.S.Samples.told g.S.Samples.faults g.S.Samples.reads c.args.self.now.row c.args.self.now c.args.self.now.row.startup
    c.loop-lacks.self c.read.new.self c.loop-lacks.self.row c.loop-lacks.invariant.row
    c.loop-lacks.lacks c.in-Err.why c.loop-lacks.invariant.leads c.in-Err.ensures.comes

pub loop-lacks-preserved : goal.loop-lacks-preserved
loop-lacks-preserved g c =
    let e = c.in-Ok.ensures in
    let old = c.loop-lacks.self in
    let new = c.read.new.self in
    let left = c.loop-lacks.lacks - c.in-Ok.count in
    let got = take c.in-Ok.count c.read.new.buffer in record {
      row = e.row ∙ c.loop-lacks.invariant.row;
      tested = still_tested g.S.Samples.told g.S.Samples.faults g.S.Samples.reads c.loop-lacks.self.row old new c.loop-lacks.lacks left got e.comes c.loop-lacks.invariant.tested;
      room = omega (arith, e.comes.taken, e.comes.count, c.loop-lacks.invariant.room);
      leads = left_more g.S.Samples.told g.S.Samples.faults g.S.Samples.reads c.args.self.now.row c.args.self.now c.args.self.now.row.startup old new
          c.loop-lacks.self.row c.loop-lacks.invariant.row c.loop-lacks.lacks left got c.loop-lacks.invariant.leads e.comes;
    }
