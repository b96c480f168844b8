use Rattle.std.proofs.Common.{ℕ, refl, sym, subst, arith}
use Rattle.std.specs.Prelude.{take}
use Rattle.tree_rules.specs.Chain.{slots_of}
use Rattle.tree_rules.specs.Replies.{chain_of}
use Rattle.tree_rules.proofs.Refusals.{bare_refusal}
use Rattle.tree_acts.specs.Made.{ServedBy}
use Rattle.tree_acts.specs.Wiped.{IsWipedBehind}
use Rattle.tree_acts.proofs.Wiping.{kept}
use Rattle.tree_core.specs.Names.{AreStates, Names}
use Rattle.tree_core.specs.Whole.{all_held, states_of}
use Rattle.tree_core.specs.declared.step.Next.{Next}
use Rattle.tree_core.proofs.Single.{refused_by}
use Rattle.tree_core.proofs.Wholes.{chain_held, none_missing, still_of_plan}
use Rattle.tree_core.proofs.answer.answer.Goals as goal

pub unreachable-requires : goal.unreachable-requires
unreachable-requires g c =
    let p = c.args.plan.now in let nodes = c.args.all.now.nodes.items in let sources = c.args.all.now.sources.items in
    let s = states_of g.S.Samples.told g.S.Samples.faults nodes sources in
    let agree : AreStates g.S.Samples.told g.S.Samples.faults (all_held nodes sources) s = record { at = λ k i. refl } in
    let names = subst (λ (n : Next). Names p (all_held nodes sources) s c.args.call.now c.args.input.now n) c.in-Take.is (c.next.ensures s agree) in
    none_missing (all_held nodes sources) _ (slots_of (chain_of p s c.args.call.now c.args.input.now))
    (chain_held p nodes sources c.requires.plan c.nodes-tree.ensures.range c.nodes-tree.ensures.tree s c.args.call.now c.args.input.now) names

pub returns-in-Refuse-clause-served : goal.returns-in-Refuse-clause-served
returns-in-Refuse-clause-served g c =
    let p = c.args.plan.now in let nodes = c.args.all.now.nodes.items in let sources = c.args.all.now.sources.items in
    let s = states_of g.S.Samples.told g.S.Samples.faults nodes sources in
    let agree : AreStates g.S.Samples.told g.S.Samples.faults (all_held nodes sources) s = record { at = λ k i. refl } in
    let names = subst (λ (n : Next). Names p (all_held nodes sources) s c.args.call.now c.args.input.now n) c.in-Refuse.is (c.next.ensures s agree) in
    let none = bare_refusal p c.args.call.now c.args.input.now (chain_of p s c.args.call.now c.args.input.now) c.in-Refuse.reply names.1 in
    let h = all_held nodes sources in
    subst (λ (n : ℕ). ServedBy g.S.Samples.told g.S.Samples.faults g.S.Samples.reads p h h c.args.call.now c.args.input.now c.in-Refuse.reply (take n c.args.out.now)) (sym none)
    (refused_by g.S.Samples.told g.S.Samples.faults g.S.Samples.reads p h c.args.call.now c.args.input.now c.in-Refuse.reply names.1)

pub returns-in-Refuse-clause-within : goal.returns-in-Refuse-clause-within
returns-in-Refuse-clause-within g c =
    let p = c.args.plan.now in let nodes = c.args.all.now.nodes.items in let sources = c.args.all.now.sources.items in
    let s = states_of g.S.Samples.told g.S.Samples.faults nodes sources in
    let agree : AreStates g.S.Samples.told g.S.Samples.faults (all_held nodes sources) s = record { at = λ k i. refl } in
    let names = subst (λ (n : Next). Names p (all_held nodes sources) s c.args.call.now c.args.input.now n) c.in-Refuse.is (c.next.ensures s agree) in
    let none = bare_refusal p c.args.call.now c.args.input.now (chain_of p s c.args.call.now c.args.input.now) c.in-Refuse.reply names.1 in
    omega (arith, none)

pub returns-in-Refuse-clause-behind : goal.returns-in-Refuse-clause-behind
returns-in-Refuse-clause-behind g c =
    let p = c.args.plan.now in let nodes = c.args.all.now.nodes.items in let sources = c.args.all.now.sources.items in
    let s = states_of g.S.Samples.told g.S.Samples.faults nodes sources in
    let agree : AreStates g.S.Samples.told g.S.Samples.faults (all_held nodes sources) s = record { at = λ k i. refl } in
    let names = subst (λ (n : Next). Names p (all_held nodes sources) s c.args.call.now c.args.input.now n) c.in-Refuse.is (c.next.ensures s agree) in
    let none = bare_refusal p c.args.call.now c.args.input.now (chain_of p s c.args.call.now c.args.input.now) c.in-Refuse.reply names.1 in
    subst (λ (n : ℕ). IsWipedBehind n c.args.out.now c.args.out.now) (sym none) (kept c.args.out.now)

pub returns-in-Ready-clause-plan : goal.returns-in-Ready-clause-plan
returns-in-Ready-clause-plan g c =
    still_of_plan c.args.plan.now c.args.all.now.nodes.items c.work.new.hold.nodes.items c.args.all.now.sources.items c.work.new.hold.sources.items c.requires.plan c.work.ensures.rows
