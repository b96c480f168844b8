use Rattle.entropy_source.proofs.Leading.{lead_on}
use Rattle.entropy_source.proofs.laws.reads_join.Goals as goal

pub returns : goal.returns
returns g c = lead_on g.S.Samples.reads g.S.Samples.faults
