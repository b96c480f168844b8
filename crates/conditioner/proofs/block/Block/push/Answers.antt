use Rattle.std.proofs.Common.{subst}
use Rattle.conditioner.specs.Holds.{HoldsFirst}
use Rattle.conditioner.proofs.block.Block.push.Goals as goal

pub returns-in-OfDf : goal.returns-in-OfDf
returns-in-OfDf c cond total before h =
    let held = subst (λ k. HoldsFirst k cond total before) c.in-OfDf.is h.held in
    record { held = (held.0, c.push.ensures 32 total 16 before held.1) }
