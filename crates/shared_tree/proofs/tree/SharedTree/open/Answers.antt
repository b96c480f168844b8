use Rattle.std.proofs.Common.{◌∙◌, ℕ, ap, map, Vec, Global}
use Rattle.shared_tree.specs.Passes.{SharedView}
use Rattle.shared_tree.proofs.Opened.{all_ready, is_opened, may_open, values_are}
use Rattle.shared_tree.proofs.tree.SharedTree.open.Goals as goal

pub open_table-requires-clause-opening : goal.open_table-requires-clause-opening
open_table-requires-clause-opening g c =
    let told = g.S.Samples.told in let faults = g.S.Samples.faults in let op = c.in-Ok.ensures.opened in
    let seeds = map {A = Vec ℕ Global} (λ s. s.items) c.args.seeds.items in
    may_open told faults c.args.plan c.args.sources.items seeds c.in-Ok.tree op
    c.into_parts-plan.result.plan c.of-samples.result.value.items (map {A = Vec ℕ Global} (λ x. x.items) c.of-strings.result.value.items)
    (c.into_parts-plan.ensures.plan ∙ op.plan_is) (ap (λ z. z.items) c.of-samples.ensures) (ap (λ z. map {A = Vec ℕ Global} (λ x. x.items) z.items) c.of-strings.ensures)
    c.in-Ok-values_of.values.items
    (c.in-Ok-values_of.ensures ∙ values_are told faults c.args.plan c.args.sources.items seeds c.in-Ok.tree op
    c.into_parts-plan.result.nodes.items c.into_parts-plan.result.sources.items c.into_parts-plan.ensures.nodes c.into_parts-plan.ensures.sources)

pub returns-in-Ok-open_table-clause-opened : goal.returns-in-Ok-open_table-clause-opened
returns-in-Ok-open_table-clause-opened g c =
    let op = c.in-Ok.ensures.opened in
    let t : SharedView = record { plan = c.into_parts-plan.result.plan; table = c.in-Ok-open_table.turns.table; callers = c.in-Ok-open_table.turns.callers } in
    is_opened g.S.Samples.told g.S.Samples.faults c.args.plan c.args.sources.items (map {A = Vec ℕ Global} (λ s. s.items) c.args.seeds.items)
    c.into_parts-plan.result.plan c.of-samples.result.value.items (map {A = Vec ℕ Global} (λ x. x.items) c.of-strings.result.value.items)
    (c.into_parts-plan.ensures.plan ∙ op.plan_is) (ap (λ z. z.items) c.of-samples.ensures) (ap (λ z. map {A = Vec ℕ Global} (λ x. x.items) z.items) c.of-strings.ensures)
    c.args.callers t c.in-Ok-open_table.passes.items (c.into_parts-plan.ensures.plan ∙ op.plan_is) c.in-Ok-open_table.ensures.table.0 c.in-Ok-open_table.ensures.passes

pub returns-in-Ok-open_table-clause-ready : goal.returns-in-Ok-open_table-clause-ready
returns-in-Ok-open_table-clause-ready g c =
    let told = g.S.Samples.told in let faults = g.S.Samples.faults in let op = c.in-Ok.ensures.opened in
    let seeds = map {A = Vec ℕ Global} (λ s. s.items) c.args.seeds.items in
    let t : SharedView = record { plan = c.into_parts-plan.result.plan; table = c.in-Ok-open_table.turns.table; callers = c.in-Ok-open_table.turns.callers } in
    all_ready told faults c.args.plan c.args.sources.items seeds c.args.callers t c.in-Ok-open_table.passes.items
    (is_opened told faults c.args.plan c.args.sources.items seeds
    c.into_parts-plan.result.plan c.of-samples.result.value.items (map {A = Vec ℕ Global} (λ x. x.items) c.of-strings.result.value.items)
    (c.into_parts-plan.ensures.plan ∙ op.plan_is) (ap (λ z. z.items) c.of-samples.ensures) (ap (λ z. map {A = Vec ℕ Global} (λ x. x.items) z.items) c.of-strings.ensures)
    c.args.callers t c.in-Ok-open_table.passes.items (c.into_parts-plan.ensures.plan ∙ op.plan_is) c.in-Ok-open_table.ensures.table.0 c.in-Ok-open_table.ensures.passes)
