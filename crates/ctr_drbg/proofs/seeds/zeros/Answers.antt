use Rattle.std.proofs.Common.{◌∙◌}
use Rattle.std.proofs.lemmas.List.{take-replicate}
use Rattle.ctr_drbg.proofs.seeds.zeros.Goals as goal

pub returns : goal.returns
returns c = c.of.ensures ∙ take-replicate c.args.n 64 0 c.requires
