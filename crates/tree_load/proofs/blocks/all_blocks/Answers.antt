use Rattle.std.proofs.Common.{◌≡◌, ◌∙◌, ℕ, ap, arith, sym}
use Rattle.std.specs.Prelude.{unwrap_or}
use Rattle.tree_rules.specs.Slots.{no_source, source_row, source_row_of}
use Rattle.tree_load.specs.Tallied.{asked_of}
use Rattle.tree_load.specs.Fits.{counts_in}
use Rattle.tree_load.proofs.Summing.{one, other}
use Rattle.tree_load.proofs.blocks.all_blocks.Goals as goal
use Rattle.tree_load.proofs.blocks.all_blocks.Goals.{then-is_from, else-is_from}

pub nodes-preserved : goal.nodes-preserved
nodes-preserved c = λ all fits.
    let p = c.args.plan.now in let own = asked_of c.args.calls.now in
    let from : ℕ → ℕ = λ m. (counts_in c.args.before.now m).counter in
    let row : source_row_of c.source-source.result.now ≡ source_row p c.args.j = sym (ap (λ o. source_row_of (unwrap_or o no_source)) c.source-source.ensures.value) in
    elim c.if-is_from.branch [
      | then-is_from w ↦ w.blocks-is ∙ one p from own c.args.j fits c.nodes.n c.nodes.blocks (omega (arith, c.nodes-test.true, c.nodes.auto.n-end, c.nodes-n-end.ensures.count)) (c.nodes.invariant all fits)
          (sym c.is_from.ensures ∙ w.if-is_from.true) (source_row_of c.source-source.result.now) row w.blocks_by.result w.saturating_add-blocks.result (w.blocks_by.ensures all) w.saturating_add-blocks.ensures
      | else-is_from w ↦ w.blocks-is ∙ other p from own c.args.j fits c.nodes.n c.nodes.blocks (omega (arith, c.nodes-test.true, c.nodes.auto.n-end, c.nodes-n-end.ensures.count)) (c.nodes.invariant all fits)
          (sym c.is_from.ensures ∙ w.if-is_from.false)
    ]
