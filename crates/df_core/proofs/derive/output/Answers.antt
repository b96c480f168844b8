use Rattle.std.proofs.Common.{length, ap, ◌∙◌, sym, refl}
use Rattle.aes_core.specs.Aes.{aes}
use Rattle.aes_core.proofs.Lengths.{length-aes}
use Rattle.df_core.proofs.Ending.{one_more, turned-none, turned-more, turns-none}
use Rattle.df_core.proofs.derive.output.Goals as goal

pub turns-init : goal.turns-init
turns-init c = (refl, sym (turned-none _ _), sym (turns-none _ _))

pub turns-preserved : goal.turns-preserved
turns-preserved c =
    let key = c.args.aes.now in
    let x = c.args.x in
    let i = c.turns.i in
    let value = c.encrypt.ensures.value in
    let next = value ∙ (ap (aes key) c.turns.invariant.1 ∙ sym (turned-more key x i)) in
    let long = ap length value ∙ length-aes key c.turns.x in
    (c.put_at.auto.out ∙ c.turns.invariant.0, next, one_more key x _ _ _ i c.turns.invariant.2 next long c.put_at.ensures.front)
