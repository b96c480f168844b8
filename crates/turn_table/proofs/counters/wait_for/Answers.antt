use Rattle.turn_table.proofs.Flow.{goes_looked, ready_looked}
use Rattle.turn_table.proofs.counters.wait_for.Goals as goal

pub returns-clause-ready : goal.returns-clause-ready
returns-clause-ready g c = ready_looked _ _ _ _ c.requires.ready c.wait_for.ensures.own c.wait_for.ensures.looked

pub returns-clause-goes : goal.returns-clause-goes
returns-clause-goes g c = goes_looked _ _ c.wait_for.ensures.looked
