use Rattle.std.proofs.Common.{◌∙◌, ap, refl}
use Rattle.aes_core.specs.Aes.{add_round_key, shift_rows, sub_bytes}
use Rattle.aes_core.specs.Code.Blocks.{each_block}
use Rattle.aes_core.proofs.Rows.{each_each}
use Rattle.aes_core.proofs.Sbox.{lanes_are}
use Rattle.aes_core.proofs.rounds.last_round.Goals as goal

pub returns : goal.returns
unfolding add_round_key shift_rows sub_bytes
returns c =
    let key = add_round_key c.args.keys.now c.args.n in
    let s = c.args.s in
    let sub = c.substituted.ensures ∙ lanes_are s c.fits-s in
    let shifted = c.shifted.ensures ∙ (ap (each_block shift_rows) sub ∙ each_each shift_rows sub_bytes s c.fits-s.0 (λ b e. refl)) in
    c.with_key.ensures ∙ (ap (each_block key) shifted ∙ each_each key (λ b. shift_rows (sub_bytes b)) s c.fits-s.0 (λ b e. refl))
