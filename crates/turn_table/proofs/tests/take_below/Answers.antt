use Rattle.turn_table.proofs.Both.{free_below, only_met}
use Rattle.turn_table.proofs.Flow.{may_put}
use Rattle.turn_table.proofs.tests.take_below.Goals as goal

pub try_take-requires-clause-free : goal.try_take-requires-clause-free
try_take-requires-clause-free c = free_below _ _ _ _ c.requires.turn

pub put_back-requires-clause-turn : goal.put_back-requires-clause-turn
put_back-requires-clause-turn c = may_put c.try_take.new.pass.view 1 c.args.above (only_met _ _ _ _ _ c.requires.turn c.try_take.ensures.own _ _ c.in-Err.ensures.held.1).turn
