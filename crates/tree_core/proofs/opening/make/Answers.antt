use Rattle.std.proofs.Common.{arith, ◌≡◌, ◌+◌, ◌*◌, ◌∙◌, ℕ, List, length, take, sym, ap, subst}
use Rattle.std.specs.Prelude.{get_or}
use Rattle.tree_config.specs.Tree.{Tree, IsTree}
use Rattle.tree_config.specs.Planned.{IsPlanned}
use Rattle.tree_rules.specs.declared.call.Call.{Call}
use Rattle.tree_rules.specs.declared.call.Call.TheVariants.{Instantiate}
use Rattle.tree_core.specs.Made.{samples_in}
use Rattle.tree_core.specs.Opened.{OpenedBy}
use Rattle.tree_core.specs.Whole.{AreAtMost}
use Rattle.tree_core.proofs.Callings.{take_next, take_whole}
use Rattle.tree_core.proofs.Histories.{one_opened_of}
use Rattle.tree_core.proofs.Made.{samples_count}
use Rattle.tree_core.proofs.Raising.{at_most_more}
use Rattle.tree_core.proofs.opening.make.Goals as goal

pub loop-call-preserved : goal.loop-call-preserved
loop-call-preserved g c =
    let told = g.S.Samples.told in let faults = g.S.Samples.faults in let reads = g.S.Samples.reads in let p = c.args.plan.now in
    let samples = samples_in c.args.all.now.sources.items in
    let nodes = c.loop-call.all.nodes.items in let sources = c.loop-call.all.sources.items in
    let ns = c.answer.new.all.nodes.items in let ss = c.answer.new.all.sources.items in
    let i = c.loop-call.call-index in let call = get_or c.args.calls.now i (Instantiate 0 0) in
    let was = c.loop-call.invariant in
    let few = at_most_more nodes ns sources ss (256 * i) (c.answer.ensures.plan.node_count ∙ sym was.plan.node_count) c.answer.ensures.raised was.few in
    let more : 256 * i + 256 ≡ 256 * (i + 1) = omega arith in
    record {
      opened = λ f is stand.
          subst (λ (xs : List Call). OpenedBy told faults reads f samples xs ns ss) (sym (take_next c.args.calls.now i (Instantiate 0 0) c.loop-call-test.true))
          (one_opened_of told faults reads f (subst (λ (p : Tree). IsPlanned 0 p) (sym is) c.nodes-tree.ensures.range) (subst (λ (p : Tree). IsTree 8 p.nodes) (sym is) c.nodes-tree.ensures.tree)
          samples nodes ns sources ss
          (samples_count c.args.all.now.sources.items ∙ (c.requires.plan.source_count ∙ ap (λ (p : Tree). length p.sources) (sym is)))
          p is (take i c.args.calls.now) (was.opened f is stand) was.plan c.answer.ensures.plan call c.answer.result (take c.answer.result.len c.answer.new.out) c.answer.ensures.served);
      plan = c.answer.ensures.plan;
      few = subst (λ (n : ℕ). AreAtMost ns n) more few;
      room = (let same = c.answer.auto.out in let room = was.room in omega (arith, same, room));
    }

pub returns-clause-opened : goal.returns-clause-opened
returns-clause-opened g c = λ f is stand.
    subst (λ (xs : List Call). OpenedBy g.S.Samples.told g.S.Samples.faults g.S.Samples.reads f (samples_in c.args.all.now.sources.items) xs c.loop-call.all.nodes.items c.loop-call.all.sources.items)
    (take_whole c.args.calls.now c.loop-call.call-index c.loop-call-test.false) (c.loop-call.invariant.opened f is stand)

pub returns-clause-few : goal.returns-clause-few
returns-clause-few g c =
    let few = c.loop-call.invariant.few in let low = c.requires.few in let end = c.loop-call.auto.call-index-end in record {
      seeds = λ k v at. (let a = few.seeds k v at in omega (arith, a, low, end));
      gives = λ k v at. (let a = few.gives k v at in omega (arith, a, low, end));
    }
