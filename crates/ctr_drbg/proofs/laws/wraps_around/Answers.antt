use Rattle.std.proofs.Common.{refl}
use Rattle.ctr_drbg.proofs.laws.wraps_around.Goals as goal

pub returns : goal.returns
returns c = refl
