use Rattle.std.proofs.Common.{◌∙◌, List, length, ap, arith, subst}
use Rattle.tree_rules.specs.declared.call.Call.{Call}
use Rattle.tree_core.specs.Made.{samples_in}
use Rattle.tree_core.specs.Opened.{OpenedBy}
use Rattle.tree_core.proofs.Callings.{calls_few}
use Rattle.tree_core.proofs.opening.open_all.Goals as goal

pub returns-clause-opened : goal.returns-clause-opened
returns-clause-opened g c = λ f is stand.
    subst (λ (xs : List Call). OpenedBy g.S.Samples.told g.S.Samples.faults g.S.Samples.reads f (samples_in c.args.all.sources.items) xs c.make.new.all.nodes.items c.make.new.all.sources.items)
    (c.deref.ensures.value ∙ c.in-Ok.ensures.calls) (c.make.ensures.opened f is stand)

pub make-requires-clause-few : goal.make-requires-clause-few
make-requires-clause-few g c =
    let few = calls_few c.args.plan.now c.nodes-tree.ensures.range in
    let same = ap (λ (xs : List Call). length xs) (c.deref.ensures.value ∙ c.in-Ok.ensures.calls) in omega (arith, few, same)
