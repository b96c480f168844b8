use Rattle.turn_table.proofs.Flow.{all_idle}
use Rattle.turn_table.proofs.counters.close.Goals as goal

pub close-requires-clause-idle : goal.close-requires-clause-idle
close-requires-clause-idle c = all_idle c.args.turns.table c.args.turns.callers c.args.passes.items c.requires.ready
