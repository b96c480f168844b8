use Rattle.std.proofs.Common.{◌∙◌, ◌<◌, length, ap, sym, subst, arith}
use Rattle.tree_core.specs.Solo.{SoloView}
use Rattle.shared_tree.specs.Passes.{AreReady, SharedView}
use Rattle.shared_tree.specs.Closes.{IsClosed}
use Rattle.shared_tree.proofs.Ends.{all_idle, left_as}
use Rattle.shared_tree.proofs.tree.SharedTree.close.Goals as goal

pub close-requires-clause-idle : goal.close-requires-clause-idle
close-requires-clause-idle g c =
    all_idle _ c.args.passes.items (subst (λ (z : SharedView). AreReady z c.args.passes.items) (sym c.self.view_is) c.requires.ready)

pub of_parts-tree-requires-clause-history : goal.of_parts-tree-requires-clause-history
of_parts-tree-requires-clause-history g c =
    let t : SharedView = record { plan = c.self.inside.plan; table = c.self.inside.turns.table; callers = c.self.inside.turns.callers } in
    let ready : AreReady t c.args.passes.items = subst (λ (z : SharedView). AreReady z c.args.passes.items) (sym c.self.view_is) c.requires.ready in
    let there : 0 < length c.args.passes.items = (let a = c.requires.all in let b = ap (λ (z : SharedView). z.callers) c.self.view_is in let d = c.self.invariant.1 in omega (arith, a, b, d)) in
    let l = left_as g.S.Samples.told g.S.Samples.faults t c.args.passes.items c.in-Ok-close.field-0.calls c.in-Ok-close.field-0.values.items c.sort.new.nodes.items c.sort.new.sources.items
    ready there (c.in-Ok-close.ensures.count ∙ c.self.invariant.0) c.in-Ok-close.ensures.closed c.sort.ensures.nodes c.sort.ensures.sources in
    l.have

pub of_parts-tree-requires-clause-few : goal.of_parts-tree-requires-clause-few
of_parts-tree-requires-clause-few g c =
    let t : SharedView = record { plan = c.self.inside.plan; table = c.self.inside.turns.table; callers = c.self.inside.turns.callers } in
    let ready : AreReady t c.args.passes.items = subst (λ (z : SharedView). AreReady z c.args.passes.items) (sym c.self.view_is) c.requires.ready in
    let there : 0 < length c.args.passes.items = (let a = c.requires.all in let b = ap (λ (z : SharedView). z.callers) c.self.view_is in let d = c.self.invariant.1 in omega (arith, a, b, d)) in
    let l = left_as g.S.Samples.told g.S.Samples.faults t c.args.passes.items c.in-Ok-close.field-0.calls c.in-Ok-close.field-0.values.items c.sort.new.nodes.items c.sort.new.sources.items
    ready there (c.in-Ok-close.ensures.count ∙ c.self.invariant.0) c.in-Ok-close.ensures.closed c.sort.ensures.nodes c.sort.ensures.sources in
    l.closed.few_counts

pub returns-in-Ok-close-clause-closed : goal.returns-in-Ok-close-clause-closed
returns-in-Ok-close-clause-closed g c =
    let t : SharedView = record { plan = c.self.inside.plan; table = c.self.inside.turns.table; callers = c.self.inside.turns.callers } in
    let ready : AreReady t c.args.passes.items = subst (λ (z : SharedView). AreReady z c.args.passes.items) (sym c.self.view_is) c.requires.ready in
    let there : 0 < length c.args.passes.items = (let a = c.requires.all in let b = ap (λ (z : SharedView). z.callers) c.self.view_is in let d = c.self.invariant.1 in omega (arith, a, b, d)) in
    let l = left_as g.S.Samples.told g.S.Samples.faults t c.args.passes.items c.in-Ok-close.field-0.calls c.in-Ok-close.field-0.values.items c.sort.new.nodes.items c.sort.new.sources.items
    ready there (c.in-Ok-close.ensures.count ∙ c.self.invariant.0) c.in-Ok-close.ensures.closed c.sort.ensures.nodes c.sort.ensures.sources in
    subst (λ (z : SharedView × SoloView g.row.S.Denot). IsClosed g.S.Samples.told g.S.Samples.faults z.0 c.args.passes.items z.1 c.in-Ok-close.field-0.calls)
    (λ i. (c.self.view_is i, sym c.of_parts-tree.ensures i)) l.closed
