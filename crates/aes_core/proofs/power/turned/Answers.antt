use Rattle.std.proofs.Common.{◌-◌, ◌*◌, ◌/◌, ◌%◌, ◌^◌, bit_xor}
use Rattle.std.proofs.lemmas.Simd.{zip2_of_maps, zip2_splat}
use Rattle.aes_core.proofs.power.turned.Goals as goal

pub returns : goal.returns
returns c =
    let y = c.args.y in
    let k = c.args.k in
    zip2_of_maps bit_xor (λ a. a * 2 ^ k % 2 ^ 8) (λ a. a / 2 ^ (8 - k)) y
    (zip2_splat (λ a b. a * 2 ^ b % 2 ^ 8) y 64 k c.fits-y.0) (zip2_splat (λ a b. a / 2 ^ b) y 64 (8 - k) c.fits-y.0)
