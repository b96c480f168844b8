use Rattle.std.proofs.Common.{refl, []}
use Rattle.turn_table.proofs.Flow.{zeros_stand}
use Rattle.turn_table.proofs.counters.open.Goals as goal

pub open-requires-clause-opening : goal.open-requires-clause-opening
open-requires-clause-opening c = record { opening = []; passes = tt; legal = refl; values_are = zeros_stand c.args.count c.in-Ok.values.items c.in-Ok.ensures }
