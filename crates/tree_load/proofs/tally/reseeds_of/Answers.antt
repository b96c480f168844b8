use Rattle.std.proofs.Common.{◌≡◌, ◌∙◌, ℕ, ap, arith, sym}
use Rattle.std.specs.Prelude.{unwrap_or}
use Rattle.tree_rules.specs.Slots.{no_node, node_row}
use Rattle.tree_load.specs.declared.tally.Weight.TheVariants.{One}
use Rattle.tree_load.specs.Tally.{all_asks, asks, sum_of}
use Rattle.tree_load.specs.Tallied.{asked_of}
use Rattle.tree_load.specs.Fits.{counts_in}
use Rattle.tree_load.specs.Weights.{weigh}
use Rattle.tree_load.proofs.Weighing.{asked_fits, fits, reseeds_chunks, reseeds_plain}
use Rattle.tree_load.proofs.tally.reseeds_of.Goals as goal

pub returns-then-is_rs : goal.returns-then-is_rs
returns-then-is_rs c = λ all.
    let p = c.args.plan.now in
    let from : ℕ → ℕ = λ m. (counts_in c.args.before.now m).counter in
    c.gives_of.ensures all ∙ reseeds_chunks (node_row p c.args.n) (from c.args.n) (all_asks p from (asked_of c.args.calls.now) c.args.n) (sym c.is_rs.ensures ∙ c.if-is_rs.true)

pub returns : goal.returns
returns c = λ all.
    let p = c.args.plan.now in let own = asked_of c.args.calls.now in
    let from : ℕ → ℕ = λ m. (counts_in c.args.before.now m).counter in
    let xs = all_asks p from own c.args.n in
    let times : c.asked-times.result ≡ sum_of (weigh One) xs = c.asked-times.ensures all (asked_fits p (counts_in c.args.before.now) own all c.nodes.result c.args.n c.nodes.ensures.count c.requires.there) ∙ ap (λ z. sum_of (weigh One) (asks z p from own c.args.n)) c.nodes.ensures.count in
    let interval : c.node.result.now.interval ≡ (node_row p c.args.n).interval = sym (ap (λ o. (unwrap_or o no_node).interval) c.node.ensures.value) in
    reseeds_plain (node_row p c.args.n) xs c.node.result.now.interval (from c.from.result) (from c.args.n) c.asked-times.result c.reseeds_by.result (sym c.is_rs.ensures ∙ c.if-is_rs.false)
    interval (ap from c.from.ensures) times (fits p (counts_in c.args.before.now) own all _ c.args.n (omega arith) c.requires.there) c.reseeds_by.ensures
