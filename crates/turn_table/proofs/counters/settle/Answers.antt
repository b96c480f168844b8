use Rattle.std.proofs.Common.{ℕ, subst, sym}
use Rattle.turn_table.specs.Calls.{MayPut}
use Rattle.turn_table.specs.Counters.{counters, Adds}
use Rattle.turn_table.proofs.Flow.{may_add, may_put, only_then, adds}
use Rattle.turn_table.proofs.counters.settle.Goals as goal

pub put_back-requires-clause-turn : goal.put_back-requires-clause-turn
put_back-requires-clause-turn c = may_put c.args.pass.now.view c.args.slot c.args.value c.requires.turn.turn

pub enter-requires-clause-entry : goal.enter-requires-clause-entry
enter-requires-clause-entry c = may_add c.args.pass.now.view c.args.slot c.args.amount c.args.value c.requires.turn.turn c.in-Some.ensures.some.1

pub put_back-requires-2-clause-turn : goal.put_back-requires-2-clause-turn
put_back-requires-2-clause-turn c = subst (λ (n : ℕ). MayPut counters c.args.slot n c.enter.new.pass.view) (sym c.in-Some.ensures.some.0)
    (may_put c.enter.new.pass.view c.args.slot _ (only_then _ _ _ _ _ _ _ c.requires.turn c.enter.ensures.own c.enter.ensures.committed).turn)

pub returns-clause-added : goal.returns-clause-added
returns-clause-added c = (
  c.in-Some.ensures.some.0,
  subst (λ (n : ℕ). Adds c.args.slot c.args.amount n c.args.pass.now.view c.put_back-2.new.pass.view) (sym c.in-Some.ensures.some.0)
      (adds _ _ _ _ _ _ _ c.requires.turn c.enter.ensures.own c.enter.ensures.committed c.put_back-2.new.pass.view c.put_back-2.ensures.freed),
)
