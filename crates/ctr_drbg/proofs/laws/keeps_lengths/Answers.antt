use Rattle.ctr_drbg.proofs.Lengths.{length-generated}
use Rattle.ctr_drbg.proofs.laws.keeps_lengths.Goals as goal

pub returns : goal.returns
returns c = λ mode additional n s. length-generated mode additional n s
