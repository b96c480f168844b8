use Rattle.turn_table.proofs.Gathers.{closes_for}
use Rattle.turn_table.proofs.table.Turns.close.Goals as goal

pub returns-clause-closed : goal.returns-clause-closed
returns-clause-closed g c = closes_for g.M.Machine.meaning c.args.self.callers c.gather-seat.result.me.0 _ _ _ _ c.gather-seat.ensures.gathered c.requires.all c.finish.ensures.end
