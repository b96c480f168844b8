use Rattle.std.proofs.Common.{◌≡◌, ◌∙◌, ◌+◌, ℕ, ap, sym, subst, arith}
use Rattle.std.specs.Prelude.{take}
use Rattle.tree_config.specs.Tree.{Tree}
use Rattle.tree_rules.specs.Openings.{states_behind}
use Rattle.tree_rules.specs.Served.{Served}
use Rattle.tree_acts.specs.Made.{ServedBy}
use Rattle.tree_core.specs.Made.{AnsweredBy, samples_in}
use Rattle.tree_core.specs.Solo.{GoesOn, SoloView, StandAfter}
use Rattle.tree_core.specs.Whole.{AreAtMost, AreOfPlan, all_held, most_after, states_of}
use Rattle.tree_core.proofs.Histories.{goes_on}
use Rattle.tree_core.proofs.Made.{reads_held}
use Rattle.tree_core.proofs.Reasons.{tested_here}
use Rattle.tree_core.proofs.Raising.{at_most_more}
use Rattle.tree_core.proofs.solo.SoloTree.call.Goals as goal

pub answer-reply-requires-clause-few : goal.answer-reply-requires-clause-few
answer-reply-requires-clause-few g c =
    let few = c.self.invariant.1 in let low = c.requires.few in
    let same : c.self.inside.calls ≡ c.args.self.now.calls = ap (λ (v : SoloView g.row.S.Denot). v.calls) c.self.view_is in record {
      seeds = λ k v at. (let a = few.seeds k v at in omega (arith, a, low, same));
      gives = λ k v at. (let a = few.gives k v at in omega (arith, a, low, same));
    }

pub invariant_of-self : goal.invariant_of-self
invariant_of-self g c =
    let calls = c.self.inside.calls in
    let more : most_after calls + 256 ≡ most_after (calls + 1) = omega arith in
    let ns = c.answer-reply.new.all.nodes.items in (
      c.answer-reply.ensures.plan,
      subst (λ (n : ℕ). AreAtMost ns n) more
          (at_most_more c.self.inside.all.nodes.items ns c.self.inside.all.sources.items c.answer-reply.new.all.sources.items (most_after calls)
          (c.answer-reply.ensures.plan.node_count ∙ sym c.self.invariant.0.node_count) c.answer-reply.ensures.raised c.self.invariant.1),
    )

pub returns-clause-history : goal.returns-clause-history
returns-clause-history g c = λ f o h is plan stand.
    let told = g.S.Samples.told in let faults = g.S.Samples.faults in
    let nodes = c.self.inside.all.nodes.items in let sources = c.self.inside.all.sources.items in
    let ns = c.answer-reply.new.all.nodes.items in let ss = c.answer-reply.new.all.sources.items in
    let same : f.plan ≡ c.self.inside.plan = plan ∙ sym (ap (λ (v : SoloView g.row.S.Denot). v.plan) c.self.view_is) in
    subst (λ (v : SoloView g.row.S.Denot). GoesOn told faults g.S.Samples.reads f o h (samples_in v.sources) c.args.call.now c.args.input.now c.answer-reply.result (take c.answer-reply.result.len c.answer-reply.new.out) ns ss)
    c.self.view_is
    (goes_on told faults g.S.Samples.reads f o h is nodes ns sources ss (subst (λ (v : SoloView g.row.S.Denot). StandAfter told faults f o h v.nodes v.sources) (sym c.self.view_is) stand)
    (subst (λ (p : Tree). AreOfPlan p nodes sources) (sym same) c.self.invariant.0) (subst (λ (p : Tree). AreOfPlan p ns ss) (sym same) c.answer-reply.ensures.plan)
    c.args.call.now c.args.input.now c.answer-reply.result (take c.answer-reply.result.len c.answer-reply.new.out)
    (subst (λ (p : Tree). ServedBy told faults g.S.Samples.reads p (all_held nodes sources) (all_held ns ss) c.args.call.now c.args.input.now c.answer-reply.result (take c.answer-reply.result.len c.answer-reply.new.out))
    (sym same) c.answer-reply.ensures.served)
    (λ e fit.
    let s = states_behind f o h in let range = is.opening.planned in record {
      table = λ r. c.refusals_come_by_the_table.ensures.exact f.plan s e r fit;
      free = c.free_calls_are_not_refused.ensures.exact f.plan s e.call e.string;
      alone = c.free_calls_are_done.ensures.alone f.plan s e fit;
      caused = λ t none on. c.replies_have_causes.ensures.source 0 f.plan s e t range fit none on (tested_here f o h e t is on c.running_sources_are_tested.ensures);
      quiet = λ t none on lacks. c.free_calls_are_done.ensures.quiet 0 f.plan s e t range fit none on (tested_here f o h e t is on c.running_sources_are_tested.ensures) lacks;
      told = λ t left none on enough. c.free_calls_are_done.ensures.told 0 f.plan s e t left range fit none on (tested_here f o h e t is on c.running_sources_are_tested.ensures) enough;
    }))

pub returns-clause-served : goal.returns-clause-served
returns-clause-served g c =
    let told = g.S.Samples.told in let faults = g.S.Samples.faults in
    let ns = c.answer-reply.new.all.nodes.items in let ss = c.answer-reply.new.all.sources.items in
    subst (λ (v : SoloView g.row.S.Denot). Served v.plan (states_of told faults v.nodes v.sources) (states_of told faults ns ss) c.args.call.now c.args.input.now c.answer-reply.result (take c.answer-reply.result.len c.answer-reply.new.out))
    c.self.view_is c.answer-reply.ensures.served.served

pub returns-clause-made : goal.returns-clause-made
returns-clause-made g c =
    let told = g.S.Samples.told in let faults = g.S.Samples.faults in let reads = g.S.Samples.reads in
    let nodes = c.self.inside.all.nodes.items in let sources = c.self.inside.all.sources.items in
    let ns = c.answer-reply.new.all.nodes.items in let ss = c.answer-reply.new.all.sources.items in
    let by = c.answer-reply.ensures.served in
    subst (λ (v : SoloView g.row.S.Denot). AnsweredBy told faults reads v.plan v.nodes ns v.sources ss c.args.call.now c.args.input.now c.answer-reply.result (take c.answer-reply.result.len c.answer-reply.new.out))
    c.self.view_is
    (record {
      served = by.served;
      made = reads_held reads faults c.self.inside.plan nodes ns sources ss by.served.acts c.self.invariant.0 c.answer-reply.ensures.plan by.made;
    })
