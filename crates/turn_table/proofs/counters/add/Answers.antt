use Rattle.std.specs.Prelude.{Option, Some, None, IfNone}
use Rattle.turn_table.proofs.Flow.{declines}
use Rattle.turn_table.proofs.counters.add.Goals as goal

where_none : {T : Type 0} (P Q : Type 0) (r : Option T) → (P → Q) → IfNone r P → IfNone r Q
where_none P Q (Some x) f h = tt
where_none P Q None f h = f h

where_both : {T : Type 0} (P Q : Type 0) (r : Option T) → IfNone r P → IfNone r Q → IfNone r (P × Q)
where_both P Q (Some x) p q = tt
where_both P Q None p q = (p, q)

pub returns-clause-full : goal.returns-clause-full
returns-clause-full g c = where_none _ _ c.settle.result (λ h. declines _ _ _ _ _ _ c.take-value.ensures.goes c.take-value.ensures.stood h.0.0 h.0.1 h.1)
    (where_both _ _ c.settle.result c.settle.ensures.full c.settle.ensures.unseen)
