use Rattle.std.proofs.Common.{ℕ, sym, subst, take}
use Rattle.tree_rules.specs.declared.call.Call.{Call}
use Rattle.tree_rules.specs.declared.call.Call.TheVariants.{Start, Uninstantiate}
use Rattle.tree_rules.specs.Served.{Served}
use Rattle.tree_acts.specs.Hold.{states_held}
use Rattle.tree_core.proofs.Raising.{raised_held}
use Rattle.tree_acts.specs.Wiped.{IsWipedBehind}
use Rattle.tree_acts.proofs.Wiping.{kept}
use Rattle.tree_core.proofs.working.work.Goals as goal

pub returns-in-Start-clause-behind : goal.returns-in-Start-clause-behind
returns-in-Start-clause-behind g c =
    subst (λ (n : ℕ). IsWipedBehind n c.args.out.now c.args.out.now) (sym c.start_work.ensures.len) (kept c.args.out.now)

pub returns-in-Uninstantiate-clause-behind : goal.returns-in-Uninstantiate-clause-behind
returns-in-Uninstantiate-clause-behind g c =
    subst (λ (n : ℕ). IsWipedBehind n c.args.out.now c.args.out.now) (sym c.clear_work.ensures.len) (kept c.args.out.now)

pub returns-in-Start-clause-counts : goal.returns-in-Start-clause-counts
returns-in-Start-clause-counts g c =
    raised_held g.S.Samples.told g.S.Samples.faults c.args.plan.now (g.H.Holdings.what c.args.hold.now) (g.H.Holdings.what c.start_work.new.hold) _ c.args.input.now c.start_work.result _
    c.nodes-range.ensures.range c.start_work.ensures.served.served

pub returns-in-Uninstantiate-clause-counts : goal.returns-in-Uninstantiate-clause-counts
returns-in-Uninstantiate-clause-counts g c =
    raised_held g.S.Samples.told g.S.Samples.faults c.args.plan.now (g.H.Holdings.what c.args.hold.now) (g.H.Holdings.what c.clear_work.new.hold) _ c.args.input.now c.clear_work.result _
    c.nodes-range.ensures.range c.clear_work.ensures.served.served

pub returns-in-Status-clause-counts : goal.returns-in-Status-clause-counts
returns-in-Status-clause-counts g c =
    raised_held g.S.Samples.told g.S.Samples.faults c.args.plan.now (g.H.Holdings.what c.args.hold.now) (g.H.Holdings.what c.args.hold.now) _ c.args.input.now c.status_work.result _
    c.nodes-range.ensures.range c.status_work.ensures.served.served

pub returns-in_default-clause-counts : goal.returns-in_default-clause-counts
returns-in_default-clause-counts g c =
    raised_held g.S.Samples.told g.S.Samples.faults c.args.plan.now (g.H.Holdings.what c.args.hold.now) (g.H.Holdings.what c.chain_work.new.hold) _ c.args.input.now c.chain_work.result _
    c.nodes-range.ensures.range c.chain_work.ensures.served.served

pub returns-in-Start-clause-served : goal.returns-in-Start-clause-served
returns-in-Start-clause-served g c =
    let told = g.S.Samples.told in let faults = g.S.Samples.faults in let r = c.start_work.result in let out = c.args.out.now in
    let old = states_held told faults (g.H.Holdings.what c.args.hold.now) in let new = states_held told faults (g.H.Holdings.what c.start_work.new.hold) in
    subst (λ (x : Call). Served c.args.plan.now old new x c.args.input.now r (take r.len out)) (sym c.in-Start.is)
    (subst (λ (n : ℕ). Served c.args.plan.now old new (Start c.in-Start.source) c.args.input.now r (take n out)) (sym c.start_work.ensures.len) c.start_work.ensures.served.served)

pub returns-in-Uninstantiate-clause-served : goal.returns-in-Uninstantiate-clause-served
returns-in-Uninstantiate-clause-served g c =
    let told = g.S.Samples.told in let faults = g.S.Samples.faults in let r = c.clear_work.result in let out = c.args.out.now in
    let old = states_held told faults (g.H.Holdings.what c.args.hold.now) in let new = states_held told faults (g.H.Holdings.what c.clear_work.new.hold) in
    subst (λ (x : Call). Served c.args.plan.now old new x c.args.input.now r (take r.len out)) (sym c.in-Uninstantiate.is)
    (subst (λ (n : ℕ). Served c.args.plan.now old new (Uninstantiate c.in-Uninstantiate.node) c.args.input.now r (take n out)) (sym c.clear_work.ensures.len) c.clear_work.ensures.served.served)

pub returns-in-Status-clause-served : goal.returns-in-Status-clause-served
returns-in-Status-clause-served g c =
    let s = states_held g.S.Samples.told g.S.Samples.faults (g.H.Holdings.what c.args.hold.now) in let r = c.status_work.result in
    subst (λ (x : Call). Served c.args.plan.now s s x c.args.input.now r (take r.len c.status_work.new.out)) (sym c.in-Status.is) c.status_work.ensures.served.served

pub returns-in_default-clause-served : goal.returns-in_default-clause-served
returns-in_default-clause-served g c = c.chain_work.ensures.served.served
