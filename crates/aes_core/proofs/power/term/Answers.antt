use Rattle.std.proofs.Common.{ℕ, List, ◌+◌, ◌-◌, ◌/◌, ◌%◌, ◌^◌, bit_and, ap, ◌∙◌}
use Rattle.std.specs.Simd.Lanes.{zip2}
use Rattle.std.proofs.lemmas.Simd.{zip2_splat}
use Rattle.aes_core.proofs.Lanes.{splat_with, with_splat}
use Rattle.aes_core.proofs.Powers.{left_map}
use Rattle.aes_core.proofs.power.term.Goals as goal

pub returns : goal.returns
returns c =
    let v = c.args.bits in
    let k = c.args.k in
    let long = c.fits-bits.0 in
    let shifted = zip2_splat (λ a b. a / 2 ^ b) v 64 k long in
    let bit = with_splat bit_and (λ x. x / 2 ^ k) 1 v _ long shifted in
    let mask = splat_with (λ a b. (a + (2 ^ 8 - b)) % 2 ^ 8) (λ x. bit_and (x / 2 ^ k) 1) 0 v _ long bit in
    ap (λ (t : List ℕ). zip2 bit_and t c.args.multiple) mask
    ∙ left_map bit_and (λ x. (0 + (2 ^ 8 - bit_and (x / 2 ^ k) 1)) % 2 ^ 8) v c.args.multiple
