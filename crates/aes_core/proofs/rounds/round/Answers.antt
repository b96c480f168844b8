use Rattle.std.proofs.Common.{◌∙◌, List, ℕ, ap, refl}
use Rattle.aes_core.specs.Aes.{add_round_key, mix_columns, shift_rows, sub_bytes}
use Rattle.aes_core.specs.Code.Blocks.{each_block}
use Rattle.aes_core.proofs.Rows.{each_each}
use Rattle.aes_core.proofs.Sbox.{lanes_are}
use Rattle.aes_core.proofs.rounds.round.Goals as goal

pub returns : goal.returns
unfolding add_round_key mix_columns sub_bytes
returns c =
    let key = add_round_key c.args.keys.now c.args.n in
    let mix : List ℕ → List ℕ = λ b. mix_columns (shift_rows b) in
    let s = c.args.s in
    let sub = c.substituted.ensures ∙ lanes_are s c.fits-s in
    let mixed = c.mixed.ensures ∙ (ap (each_block mix) sub ∙ each_each mix sub_bytes s c.fits-s.0 (λ b e. refl)) in
    c.with_key.ensures ∙ (ap (each_block key) mixed ∙ each_each key (λ b. mix (sub_bytes b)) s c.fits-s.0 (λ b e. refl))
