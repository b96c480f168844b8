use Rattle.turn_table.proofs.Both.{may_put_below, only_above}
use Rattle.turn_table.proofs.Flow.{may_put}
use Rattle.turn_table.proofs.tests.give_both.Goals as goal

pub put_back-requires-clause-turn : goal.put_back-requires-clause-turn
put_back-requires-clause-turn c = may_put_below _ _ _ _ _ c.requires.turn

pub put_back-requires-2-clause-turn : goal.put_back-requires-2-clause-turn
put_back-requires-2-clause-turn c = may_put c.put_back.new.pass.view 1 c.args.above (only_above _ _ _ _ _ c.requires.turn c.put_back.new.pass c.put_back.ensures.own c.put_back.ensures.freed).turn
