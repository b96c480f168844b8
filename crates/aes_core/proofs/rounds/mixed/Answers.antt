use Rattle.std.proofs.Common.{◌++◌, List, ℕ, bit_xor, refl, ap, ◌∙◌}
use Rattle.std.specs.Simd.Lanes.{pick_l, zip2}
use Rattle.aes_core.specs.declared.rounds.TheConstants.{NEXT, SHIFTED_TWICE_ON}
use Rattle.aes_core.proofs.Mixing.{mixed_is}
use Rattle.aes_core.proofs.rounds.mixed.Goals as goal

pub returns : goal.returns
returns c =
    let v = c.args.s in
    let next = pick_l 0 (v ++ v) NEXT in
    let sum = zip2 bit_xor v next in
    let moved = pick_l 0 (sum ++ sum) SHIFTED_TWICE_ON in
    ap (λ (t : List ℕ). zip2 bit_xor t moved) c.shifted.ensures
    ∙ mixed_is v next sum (zip2 bit_xor c.doubled.result next) moved c.fits-s refl refl (ap (λ (t : List ℕ). zip2 bit_xor t next) c.doubled.ensures) refl
