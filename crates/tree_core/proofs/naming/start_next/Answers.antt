use Rattle.std.proofs.Common.{◌≡◌, ◌+◌, ◌∙◌, ap}
use Rattle.entropy_source.specs.declared.answers.SourceMode.{SourceMode}
use Rattle.tree_rules.specs.declared.call.Call.TheVariants.{Start}
use Rattle.tree_rules.specs.Slots.{source_slot}
use Rattle.tree_rules.specs.Links.{Link, no_link}
use Rattle.tree_rules.specs.Replies.{rows_by}
use Rattle.tree_core.proofs.Nexts.{start_misses, start_named}
use Rattle.tree_core.proofs.naming.start_next.Goals as goal

pub returns-then-not-held : goal.returns-then-not-held
returns-then-not-held g c = λ s agree.
    let slot : c.nodes.result + c.args.j ≡ source_slot c.args.plan.now c.args.j = ap (λ n. n + c.args.j) c.nodes.ensures.count in
    start_misses g.S.Samples.told g.S.Samples.faults c.args.plan.now (g.H.Holdings.what c.args.hold.now) c.requires.plan s agree c.args.j (c.nodes.result + c.args.j) slot
    (λ i. let e = c.held.ensures.1 i in let f = c.if-not-held.true in cc)

pub returns : goal.returns
returns g c = λ s agree.
    let slot : c.nodes.result + c.args.j ≡ source_slot c.args.plan.now c.args.j = ap (λ n. n + c.args.j) c.nodes.ensures.count in
    let x = c.source-source.result.now in let startup = c.source.result.now.startup in let o = no_link.origin in
    let none = c.no_step-node.ensures o in
    let rows = c.chain_rows.ensures o o
    ∙ (ap (λ (l : Link). rows_by (Start c.args.j) l l c.taken.result c.mode.result c.from-startup.result) none
    ∙ (ap (λ n. rows_by (Start c.args.j) no_link no_link n c.mode.result c.from-startup.result) c.taken.ensures.taken
    ∙ (ap (λ (m : SourceMode). rows_by (Start c.args.j) no_link no_link x.taken m c.from-startup.result) c.mode.ensures.mode
    ∙ ap (λ n. rows_by (Start c.args.j) no_link no_link x.taken x.mode n) c.from-startup.ensures))) in
    start_named g.S.Samples.told g.S.Samples.faults c.args.plan.now (g.H.Holdings.what c.args.hold.now) c.requires.plan s agree c.args.j (c.nodes.result + c.args.j) x c.source.result.now
    c.chain_rows.result c.by_rows.result slot (c.held.ensures.0 c.if-not-held.false) c.source-source.ensures c.source.ensures.value rows c.by_rows.ensures
