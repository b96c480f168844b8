use Rattle.std.proofs.Common.{◌≡◌, ◌+◌, ◌∙◌, ap}
use Rattle.entropy_source.specs.declared.answers.SourceMode.{SourceMode}
use Rattle.tree_rules.specs.Slots.{node_plan, source_slot}
use Rattle.tree_rules.specs.Links.{wanted}
use Rattle.tree_rules.specs.Replies.{rows_by}
use Rattle.tree_acts.specs.Plain.{draws_on, link_of}
use Rattle.entropy_source.specs.Source.{need_of}
use Rattle.tree_rules.specs.Slots.{source_row_of}
use Rattle.tree_core.proofs.Nexts.{end_none, end_misses, end_named}
use Rattle.tree_core.proofs.naming.end_next.Goals as goal

pub returns-in_default : goal.returns-in_default
returns-in_default g c = λ s agree.
    let end = link_of c.args.end (node_plan c.args.plan.now c.args.end.slot).origin in
    end_none g.S.Samples.told g.S.Samples.faults c.args.plan.now (g.H.Holdings.what c.args.hold.now) c.requires.plan s agree c.args.call c.args.first c.args.end c.requires.first c.requires.end
    c.source_of.result c.chain_rows.result c.by_rows.result (c.source_of.ensures.number ∙ ap (λ pr. draws_on pr end) c.asks_pr-pr.ensures) c.in_default.is c.chain_rows.ensures c.by_rows.ensures

pub returns-then-not-held : goal.returns-then-not-held
returns-then-not-held g c = λ s agree.
    let end = link_of c.args.end (node_plan c.args.plan.now c.args.end.slot).origin in
    let slot : c.nodes.result + c.from.result ≡ source_slot c.args.plan.now c.in-Some.j = ap (λ n. n + c.from.result) c.nodes.ensures.count ∙ ap (λ i. source_slot c.args.plan.now i) c.from.ensures in
    end_misses g.S.Samples.told g.S.Samples.faults c.args.plan.now (g.H.Holdings.what c.args.hold.now) c.requires.plan s agree c.args.call c.args.first c.args.end c.requires.first c.requires.end
    c.in-Some.j c.source_of.result (c.source_of.ensures.number ∙ ap (λ pr. draws_on pr end) c.asks_pr-pr.ensures) c.in-Some.is (c.nodes.result + c.from.result) slot
    (λ i. let e = c.held.ensures.1 i in let f = c.if-not-held.true in cc)

pub returns : goal.returns
returns g c = λ s agree.
    let end = link_of c.args.end (node_plan c.args.plan.now c.args.end.slot).origin in
    let x = c.source-source.result.now in
    let slot : c.nodes.result + c.from.result ≡ source_slot c.args.plan.now c.in-Some.j = ap (λ n. n + c.from.result) c.nodes.ensures.count ∙ ap (λ i. source_slot c.args.plan.now i) c.from.ensures in
    let count = c.samples-samples.ensures.count (node_plan c.args.plan.now c.args.end.slot).origin
    ∙ ap (λ pr. need_of (source_row_of c.source.result.now) (wanted pr end)) c.asks_pr-pr.ensures in
    end_named g.S.Samples.told g.S.Samples.faults c.args.plan.now (g.H.Holdings.what c.args.hold.now) c.requires.plan s agree c.args.call c.args.first c.args.end c.requires.first c.requires.end
    c.in-Some.j c.source_of.result (c.source_of.ensures.number ∙ ap (λ pr. draws_on pr end) c.asks_pr-pr.ensures) c.in-Some.is (c.nodes.result + c.from.result) slot
    x c.source.result.now c.chain_rows-2.result c.samples-samples.result c.by_rows-2.result c.requires.node (c.held.ensures.0 c.if-not-held.false) c.source-source.ensures
    c.source.ensures.value count
    (λ o q. c.chain_rows-2.ensures o q
    ∙ (ap (λ n. rows_by c.args.call (link_of c.args.first o) (link_of c.args.end q) n c.mode.result c.samples-samples.result) c.taken.ensures.taken
    ∙ ap (λ (m : SourceMode). rows_by c.args.call (link_of c.args.first o) (link_of c.args.end q) x.taken m c.samples-samples.result) c.mode.ensures.mode))
    c.by_rows-2.ensures
