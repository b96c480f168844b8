use Rattle.rbg_bytes.proofs.Fronts.{front_within}
use Rattle.rbgtree.proofs.Checking.{takes_after}
use Rattle.rbgtree.proofs.check.print.Goals as goal

pub returns-in-Ok-clause-bytes : goal.returns-in-Ok-clause-bytes
returns-in-Ok-clause-bytes g c = takes_after _ (g.O.ByteSink.out c.print_sources.new.output) _ _ _ c.print_nodes.result c.in-Ok.ensures.bytes c.print_nodes.ensures.bytes

pub returns-in-Err-clause-bytes : goal.returns-in-Err-clause-bytes
returns-in-Err-clause-bytes g c = front_within _ _ _ _ c.in-Err.ensures.bytes
