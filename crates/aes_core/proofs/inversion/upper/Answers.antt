use Rattle.std.proofs.Common.{◌/◌, ◌^◌}
use Rattle.std.proofs.lemmas.Simd.{zip2_splat}
use Rattle.aes_core.proofs.inversion.upper.Goals as goal

pub returns : goal.returns
returns c = zip2_splat (λ a b. a / 2 ^ b) c.args.v 64 4 c.fits-v.0
