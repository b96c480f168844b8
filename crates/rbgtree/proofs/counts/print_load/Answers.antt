use Rattle.rbg_bytes.proofs.Fronts.{front_within}
use Rattle.rbgtree.proofs.Checking.{takes_after}
use Rattle.rbgtree.proofs.counts.print_load.Goals as goal

pub returns-in-Ok-clause-bytes : goal.returns-in-Ok-clause-bytes
returns-in-Ok-clause-bytes g c s stand = takes_after _ (g.O.ByteSink.out c.print_calls.new.output) _ _ _ c.print_counts.result c.in-Ok.ensures.bytes (c.print_counts.ensures.bytes s stand)

pub returns-in-Err-clause-bytes : goal.returns-in-Err-clause-bytes
returns-in-Err-clause-bytes g c s stand = front_within _ _ _ _ c.in-Err.ensures.bytes
