use Rattle.std.proofs.Common.{sym, subst, []}
use Rattle.tree_rules.specs.declared.call.Call.TheVariants.{Uninstantiate}
use Rattle.tree_rules.specs.declared.reply.Reply.{Reply}
use Rattle.tree_acts.specs.Made.{ServedBy}
use Rattle.tree_core.proofs.Single.{clear_served}
use Rattle.tree_core.proofs.working.clear_work.Goals as goal

pub returns-clause-served : goal.returns-clause-served
returns-clause-served g c =
    let told = g.S.Samples.told in let faults = g.S.Samples.faults in let p = c.args.plan.now in
    let h = g.H.Holdings.what c.args.hold.now in let t = g.H.Holdings.what c.clear_at.new.hold in
    subst (λ (r : Reply). ServedBy told faults g.S.Samples.reads p h t (Uninstantiate c.args.n) c.args.input.now r []) (sym c.done.ensures)
    (clear_served told faults g.S.Samples.reads p h t c.args.input.now c.args.n c.requires.free c.clear_at.ensures)
