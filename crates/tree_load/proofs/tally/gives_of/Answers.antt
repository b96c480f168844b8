use Rattle.std.proofs.Common.{◌∙◌, ℕ, ap, sym}
use Rattle.tree_rules.specs.Slots.{node_row}
use Rattle.tree_load.specs.declared.tally.Weight.TheVariants.{Chunks, One}
use Rattle.tree_load.specs.Tally.{all_asks, asks, sum_of}
use Rattle.tree_load.specs.Tallied.{asked_of}
use Rattle.tree_load.specs.Fits.{counts_in}
use Rattle.tree_load.specs.Weights.{weigh}
use Rattle.tree_load.proofs.Weighing.{asked_fits, chunks_fit, gives_chunks, gives_plain}
use Rattle.tree_load.proofs.tally.gives_of.Goals as goal

pub returns-then-is_rs : goal.returns-then-is_rs
returns-then-is_rs c = λ all.
    let p = c.args.plan.now in let own = asked_of c.args.calls.now in
    let from : ℕ → ℕ = λ m. (counts_in c.args.before.now m).counter in
    let is = sym c.is_rs.ensures ∙ c.if-is_rs.true in
    c.asked.ensures all (chunks_fit p (counts_in c.args.before.now) own all c.nodes.result c.args.n c.entropy_len-size.result c.nodes.ensures.count c.requires.there c.entropy_len-size.ensures.len is)
    ∙ (ap (λ z. sum_of (weigh (Chunks c.entropy_len-size.result)) (asks z p from own c.args.n)) c.nodes.ensures.count
    ∙ gives_chunks (node_row p c.args.n) (all_asks p from own c.args.n) c.entropy_len-size.result c.entropy_len-size.ensures.len (sym c.is_rs.ensures ∙ c.if-is_rs.true))

pub returns : goal.returns
returns c = λ all.
    let p = c.args.plan.now in let own = asked_of c.args.calls.now in
    let from : ℕ → ℕ = λ m. (counts_in c.args.before.now m).counter in
    c.asked-2.ensures all (asked_fits p (counts_in c.args.before.now) own all c.nodes-2.result c.args.n c.nodes-2.ensures.count c.requires.there)
    ∙ (ap (λ z. sum_of (weigh One) (asks z p from own c.args.n)) c.nodes-2.ensures.count
    ∙ sym (gives_plain (node_row p c.args.n) (all_asks p from own c.args.n) (sym c.is_rs.ensures ∙ c.if-is_rs.false)))
