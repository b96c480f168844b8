use Rattle.std.proofs.Common.{◌∙◌, ℕ, ap, sym}
use Rattle.std.specs.Int.{div_ceil}
use Rattle.tree_rules.specs.Slots.{node_row, source_row_of}
use Rattle.tree_load.specs.declared.tally.Weight.TheVariants.{Blocks}
use Rattle.tree_load.specs.Tally.{all_asks, asks, drawn_len, sum_of}
use Rattle.tree_load.specs.Tallied.{asked_of}
use Rattle.tree_load.specs.Fits.{counts_in}
use Rattle.tree_load.specs.Weights.{weigh}
use Rattle.tree_load.proofs.Summing.{mixed_fits, mixed_is}
use Rattle.tree_load.proofs.blocks.blocks_by.Goals as goal

pub returns-then-is_xor : goal.returns-then-is_xor
returns-then-is_xor c = λ all fits.
    let p = c.args.plan.now in let own = asked_of c.args.calls.now in
    let from : ℕ → ℕ = λ m. (counts_in c.args.before.now m).counter in
    let row = node_row p c.args.n in
    let xs = all_asks p from own c.args.n in
    let size = c.block_size.result in
    let mixed = ap (λ z. sum_of (weigh (Blocks size)) (asks z p from own c.args.n)) c.nodes.ensures.count ∙ ap (λ z. sum_of (λ len. div_ceil len z) xs) c.block_size.ensures.len in
    let xor = sym c.is_xor.ensures ∙ c.if-is_xor.true in
    mixed_is row (source_row_of c.args.source.now) (from c.args.n) xs c.reseeds_of-reseeds.result c.of.result c.asked-mixed.result c.saturating_mul-drawn.result c.saturating_add.result
    xor (c.reseeds_of-reseeds.ensures all)
    (c.of.ensures ∙ (ap (λ z. div_ceil z size) c.drawn_len.ensures ∙ ap (λ z. div_ceil (drawn_len row) z) c.block_size.ensures.len))
    (c.asked-mixed.ensures all (mixed_fits row (source_row_of c.args.source.now) (from c.args.n) xs _ xor mixed fits) ∙ mixed)
    c.saturating_mul-drawn.ensures c.saturating_add.ensures fits
