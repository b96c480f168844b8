use Rattle.std.proofs.Common.{bit_xor}
use Rattle.std.proofs.lemmas.Simd.{zip2_of_maps}
use Rattle.aes_core.specs.Code.Inversion.{lower_of, upper_of}
use Rattle.aes_core.proofs.inversion.sum.Goals as goal

pub returns : goal.returns
returns c = zip2_of_maps bit_xor upper_of lower_of c.args.y c.upper.ensures c.lower.ensures
