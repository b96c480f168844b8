use Rattle.turn_table.proofs.Flow.{goes_looked, ready_looked}
use Rattle.turn_table.proofs.counters.look.Goals as goal

pub returns-clause-ready : goal.returns-clause-ready
returns-clause-ready c = ready_looked _ _ _ _ c.requires.ready c.look.ensures.own c.look.ensures.looked

pub returns-clause-goes : goal.returns-clause-goes
returns-clause-goes c = goes_looked _ _ c.look.ensures.looked
