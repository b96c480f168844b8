use Rattle.std.proofs.Common.{◌≡◌, length, refl, arith, w8}
use Rattle.std.proofs.lemmas.Simd.{SwzOk-from_Each1}
use Rattle.aes_core.proofs.Lanes.{looked_up, tests}
use Rattle.aes_core.proofs.inversion.look_up.Goals as goal

pub swizzle : goal.swizzle
swizzle c = SwzOk-from_Each1 w8 16 4 64 0 c.args.v refl (omega (arith, c.fits-v.0)) (tests c.args.v c.requires)

pub returns : goal.returns
returns c =
    let size : length c.args.table ≡ 16 = omega arith in
    rw c.four_times.ensures (looked_up c.args.table c.args.v size c.fits-v.0 c.requires)
