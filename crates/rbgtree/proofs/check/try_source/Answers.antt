use Rattle.std.proofs.Common.{subst, refl}
use Rattle.entropy_source.specs.Views.{SourceView, HasStarted}
use Rattle.rbgtree.proofs.check.try_source.Goals as goal

pub returns : goal.returns
returns g c =
    let started = subst (λ (v : SourceView g.row.S.Denot). HasStarted g.S.Samples.told g.S.Samples.faults g.S.Samples.reads c.start_fresh.result v c.start_fresh.new.source)
    c.requires.opened c.start_fresh.ensures in
    rw (c.rct.ensures.value, c.window.ensures.value, c.apt.ensures.value, c.need.ensures.count, c.taken.ensures.taken, c.answer_of-answer.ensures)
    (record { result = c.start_fresh.result; started = started; printed = refl })
