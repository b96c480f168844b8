use Rattle.std.proofs.Common.{◌≡◌, ◌∙◌, ◌++◌, ◌<◌, ℕ, List, length, refl, sym, ap, subst, arith}
use Rattle.tree_config.specs.Tree.{Tree}
use Rattle.tree_rules.specs.declared.call.Call.{Call}
use Rattle.tree_core.specs.Made.{samples_in}
use Rattle.tree_core.proofs.Made.{samples_count}
use Rattle.tree_load.specs.declared.stated.StatedCalls.{StatedCalls}
use Rattle.tree_load.specs.Load.{next_number, number, stated_call, stated_calls}
use Rattle.tree_load.specs.Made.{AreMade}
use Rattle.tree_load.proofs.Making.{more_done, more_refused, none_made, none_stated, reached_more, reached_none}
use Rattle.tree_load.proofs.load.make_stated_calls.Goals as goal
use Rattle.tree_load.proofs.load.make_stated_calls.Goals.{then-reply-eq0, else-reply-eq0}

pub calls-init : goal.calls-init
calls-init g c =
    let nodes : c.of-stated.result.nodes ≡ length c.args.tree.now.plan.nodes =
    ap (λ (s : StatedCalls). s.nodes) c.of-stated.ensures ∙ (c.nodes.ensures.count ∙ ap (λ (p : Tree). length p.nodes) c.plan.ensures) in
    let few = c.nodes.ensures.few.0 in
    let count = ap (λ (s : StatedCalls). s.nodes) c.of-stated.ensures in record {
      nodes_are = nodes;
      some = omega (arith, few, count);
      reached_are = ap (λ (s : StatedCalls). s.reached) c.of-stated.ensures ∙ sym (reached_none c.args.seed);
      plan_is = refl;
      calls_are = omega arith;
      all = refl;
      made = λ f o h is plan stand.
          subst (λ (x : List Call). AreMade g.S.Samples.told g.S.Samples.faults g.S.Samples.reads f o h (samples_in c.args.tree.now.sources) x 0 0 c.args.tree.now.nodes c.args.tree.now.sources)
          (sym (none_stated (length c.args.tree.now.plan.nodes) c.args.seed))
          (none_made g.S.Samples.told g.S.Samples.faults g.S.Samples.reads f o h c.args.tree.now.nodes c.args.tree.now.sources is
          (c.histories_are_right_as_a_whole.ensures.apart f o h is) (c.histories_are_right_as_a_whole.ensures.quiet f o h is) stand);
    }

pub calls-preserved : goal.calls-preserved
calls-preserved g c =
    let i = c.calls.invariant in
    let reached_is : next_number c.calls.stated.reached ≡ number c.args.seed c.calls._i = ap next_number i.reached_are in
    let call_is : c.next_call-call.result ≡ stated_call (length c.args.tree.now.plan.nodes) (number c.args.seed c.calls._i) =
    c.next_call-call.ensures.call ∙ (ap (λ (n : ℕ). stated_call n (next_number c.calls.stated.reached)) i.nodes_are
    ∙ ap (stated_call (length c.args.tree.now.plan.nodes)) reached_is) in record {
      nodes_are = c.next_call-call.ensures.nodes ∙ i.nodes_are;
      some = subst (λ (n : ℕ). 0 < n) (sym c.next_call-call.ensures.nodes) i.some;
      reached_are = c.next_call-call.ensures.reached ∙ (reached_is ∙ sym (reached_more c.args.seed c.calls._i));
      plan_is = c.call-reply.ensures.plan ∙ i.plan_is;
      calls_are = omega (arith, c.call-reply.ensures.calls, i.calls_are);
      all = elim c.if-reply-eq0.branch [ then-reply-eq0 w ↦ omega (arith, w.done-is, w.refused-is, i.all) | else-reply-eq0 w ↦ omega (arith, w.done-is, w.refused-is, i.all) ];
      made = λ f o h is plan stand.
          let count = samples_count c.args.tree.now.sources ∙ stand.source_count in
          let m = i.made f o h is plan stand in
          let goes = c.call-reply.ensures.history f o (h ++ m.entries) m.history (plan ∙ sym i.plan_is) m.stand in
          elim c.if-reply-eq0.branch [
            | then-reply-eq0 w ↦
                more_done g.S.Samples.told g.S.Samples.faults g.S.Samples.reads f o h (samples_in c.args.tree.now.sources) count (length c.args.tree.now.plan.nodes) c.args.seed c.calls._i c.calls.done c.calls.refused
                _ _ _ _ c.next_call-call.result c.call-reply.result _ m goes call_is _ _ w.done-is w.refused-is w.if-reply-eq0.true
            | else-reply-eq0 w ↦
                more_refused g.S.Samples.told g.S.Samples.faults g.S.Samples.reads f o h (samples_in c.args.tree.now.sources) count (length c.args.tree.now.plan.nodes) c.args.seed c.calls._i c.calls.done c.calls.refused
                _ _ _ _ c.next_call-call.result c.call-reply.result _ m goes call_is _ _ w.done-is w.refused-is w.if-reply-eq0.false
          ];
    }

pub returns-clause-made : goal.returns-clause-made
returns-clause-made g c f o h is plan stand =
    let count : c.calls._i ≡ c.args.count = omega (arith, c.calls.auto._i-end, c.calls-test.false) in
    subst (λ (n : ℕ). AreMade g.S.Samples.told g.S.Samples.faults g.S.Samples.reads f o h (samples_in c.args.tree.now.sources) (stated_calls (length c.args.tree.now.plan.nodes) c.args.seed n) c.calls.done c.calls.refused c.calls.tree.nodes c.calls.tree.sources)
    count (c.calls.invariant.made f o h is plan stand)
