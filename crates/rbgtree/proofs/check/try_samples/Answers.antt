use Rattle.std.proofs.Common.{ap, subst}
use Rattle.entropy_source.specs.Views.{SourceView}
use Rattle.rbgtree.specs.Check.{IsTried}
use Rattle.rbgtree.proofs.check.try_samples.Goals as goal

pub returns : goal.returns
returns g c =
    let same = ap (λ (v : SourceView g.row.S.Denot). v.samples) c.open-source.ensures in
    (c.try_source.new.source, subst (λ (s : g.row.S.Denot). IsTried g.S.Samples.told g.S.Samples.faults g.S.Samples.reads c.args.number c.args.plan.now s c.try_source.new.source c.try_source.result) same c.try_source.ensures)
