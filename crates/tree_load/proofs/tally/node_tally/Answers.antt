use Rattle.std.proofs.Common.{◌∙◌, ℕ, ap, refl}
use Rattle.rbg_nodes.specs.declared.node.NodeCounts.{NodeCounts}
use Rattle.tree_load.specs.declared.tally.Weight.TheVariants.{One}
use Rattle.tree_load.specs.Tally.{asks, sum_of}
use Rattle.tree_load.specs.Tallied.{asked_of}
use Rattle.tree_load.specs.Fits.{counts_in}
use Rattle.tree_load.specs.Weights.{weigh}
use Rattle.tree_load.proofs.Weighing.{asked_fits, tally_is}
use Rattle.tree_load.proofs.tally.node_tally.Goals as goal

pub returns : goal.returns
returns c = λ all.
    let p = c.args.plan.now in let own = asked_of c.args.calls.now in let before = counts_in c.args.before.now in
    let from : ℕ → ℕ = λ m. (before m).counter in
    let x : NodeCounts = before c.from.result in
    tally_is p before own c.args.n x
    (record { live = x.live; counter = c.counter_by.result; seeds = c.saturating_add.result; gives = c.saturating_add-2.result })
    c.asked-times.result c.reseeds_of-reseeds.result c.gives_of-gives.result all c.requires.there (ap before c.from.ensures)
    (c.asked-times.ensures all (asked_fits p before own all c.nodes.result c.args.n c.nodes.ensures.count c.requires.there) ∙ ap (λ z. sum_of (weigh One) (asks z p from own c.args.n)) c.nodes.ensures.count)
    (c.reseeds_of-reseeds.ensures all) (c.gives_of-gives.ensures all) refl c.counter_by.ensures c.saturating_add.ensures c.saturating_add-2.ensures
