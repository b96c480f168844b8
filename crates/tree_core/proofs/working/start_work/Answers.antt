use Rattle.std.proofs.Common.{◌∙◌, sym, subst, ap, []}
use Rattle.std.specs.Prelude.{Option}
use Rattle.entropy_source.specs.declared.answers.SourceRefusal.{SourceRefusal}
use Rattle.tree_rules.specs.declared.call.Call.TheVariants.{Start}
use Rattle.tree_rules.specs.declared.reply.Reply.{Reply}
use Rattle.tree_rules.specs.Fits.{start_reply}
use Rattle.tree_acts.specs.Drew.{start_end}
use Rattle.tree_acts.specs.Made.{ServedBy}
use Rattle.tree_core.proofs.Single.{start_served}
use Rattle.tree_core.proofs.working.start_work.Goals as goal

pub returns-in-None-clause-served : goal.returns-in-None-clause-served
returns-in-None-clause-served g c =
    let told = g.S.Samples.told in let faults = g.S.Samples.faults in let p = c.args.plan.now in let h = g.H.Holdings.what c.args.hold.now in let t = g.H.Holdings.what c.start_at.new.hold in
    let is = ap (λ (r : Option SourceRefusal). start_reply c.args.j (start_end r)) c.in-None.is ∙ sym c.done.ensures in
    subst (λ (r : Reply). ServedBy told faults g.S.Samples.reads p h t (Start c.args.j) c.args.input.now r []) is
    (start_served told faults g.S.Samples.reads p h t c.args.j c.args.input.now c.requires.free c.start_at.result c.start_at.ensures)

pub returns-in-Some-clause-served : goal.returns-in-Some-clause-served
returns-in-Some-clause-served g c =
    let told = g.S.Samples.told in let faults = g.S.Samples.faults in let p = c.args.plan.now in let h = g.H.Holdings.what c.args.hold.now in let t = g.H.Holdings.what c.start_at.new.hold in
    let is = ap (λ (r : Option SourceRefusal). start_reply c.args.j (start_end r)) c.in-Some.is ∙ sym c.source_reply.ensures in
    subst (λ (r : Reply). ServedBy told faults g.S.Samples.reads p h t (Start c.args.j) c.args.input.now r []) is
    (start_served told faults g.S.Samples.reads p h t c.args.j c.args.input.now c.requires.free c.start_at.result c.start_at.ensures)
