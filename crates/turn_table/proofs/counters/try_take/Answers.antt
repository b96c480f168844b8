use Rattle.std.specs.Prelude.{Result, Ok, Err, IfOk, IfErr}
use Rattle.turn_table.proofs.Flow.{goes_took, goes_met, only_took, stands_took, ready_met}
use Rattle.turn_table.proofs.counters.try_take.Goals as goal

where_ok : {T E : Type 0} (P Q : T → Type 0) (r : Result T E) → ((x : T) → P x → Q x) → IfOk r P → IfOk r Q
where_ok P Q (Ok x) f h = f x h
where_ok P Q (Err e) f h = tt

where_err : {T E : Type 0} (P Q : E → Type 0) (r : Result T E) → ((x : E) → P x → Q x) → IfErr r P → IfErr r Q
where_err P Q (Ok x) f h = tt
where_err P Q (Err e) f h = f e h

pub returns-clause-took : goal.returns-clause-took
returns-clause-took c = where_ok _ _ c.try_take.result (λ x h. (only_took _ _ _ _ c.requires.ready c.try_take.ensures.own c.args.slot x h, goes_took _ _ _ _ h)) c.try_take.ensures.took

pub returns-clause-held : goal.returns-clause-held
returns-clause-held c = where_err _ _ c.try_take.result
    (λ e h. (h.0, h.1.another, ready_met _ _ _ _ c.requires.ready c.try_take.ensures.own _ _ _ h.1, goes_met _ _ _ _ _ h.1)) c.try_take.ensures.held

pub returns-clause-stood : goal.returns-clause-stood
returns-clause-stood c = where_ok _ _ c.try_take.result (λ x h. stands_took c.args.turns.now.table c.args.turns.now.callers c.args.slot x c.args.pass.now c.try_take.new.pass c.requires.ready h) c.try_take.ensures.took
