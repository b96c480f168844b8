use Rattle.std.proofs.Common.{◌≡◌, ◌∙◌, ℕ, List, refl, sym, subst, ap}
use Rattle.std.specs.Prelude.{take, drop}
use Rattle.rbg_nodes.specs.Node.{NodeState}
use Rattle.rbg_nodes.specs.Views.{counts_of}
use Rattle.tree_rules.specs.declared.call.Call.TheVariants.{Status}
use Rattle.tree_rules.specs.declared.reply.Reply.{Reply}
use Rattle.tree_acts.specs.Hold.{node_held}
use Rattle.tree_acts.specs.Made.{ServedBy}
use Rattle.tree_acts.specs.Wiped.{AreKeptOrZeros, IsWipedBehind}
use Rattle.tree_acts.proofs.Wiping.{kept}
use Rattle.tree_core.proofs.Single.{status_served}
use Rattle.tree_core.proofs.working.status_work.Goals as goal

pub returns-clause-served : goal.returns-clause-served
returns-clause-served g c =
    let told = g.S.Samples.told in let faults = g.S.Samples.faults in let p = c.args.plan.now in let h = g.H.Holdings.what c.args.hold.now in
    let state : node_held told faults h c.args.n ≡ c.node.result.now.state = rw c.node.ensures refl in
    let bytes = c.put_counts.ensures.bytes (node_held told faults h c.args.n) (c.counts.ensures.counts ∙ ap (λ (x : NodeState). counts_of x) (sym state)) in
    subst (λ (r : Reply). ServedBy told faults g.S.Samples.reads p h h (Status c.args.n) c.args.input.now r (take r.len c.put_counts.new.out)) (sym c.done.ensures)
    (status_served told faults g.S.Samples.reads p h c.args.input.now (take 25 c.put_counts.new.out) c.args.n c.requires.free bytes)

pub returns-clause-behind : goal.returns-clause-behind
returns-clause-behind g c =
    let len : c.done.result.len ≡ 25 = ap (λ (r : Reply). r.len) c.done.ensures in
    subst (λ (n : ℕ). IsWipedBehind n c.args.out.now c.put_counts.new.out) (sym len)
    (subst (λ (xs : List ℕ). AreKeptOrZeros (drop 25 c.args.out.now) xs) (sym c.put_counts.ensures.behind) (kept (drop 25 c.args.out.now)))
