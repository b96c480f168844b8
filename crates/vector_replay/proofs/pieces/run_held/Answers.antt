use Rattle.std.proofs.Common.{◌∙◌, ap, subst, arith, Result, Ok, Err}
use Rattle.vector_text.specs.declared.case.Case.{Case}
use Rattle.vector_text.specs.declared.reader.Item.{Item}
use Rattle.vector_text.specs.declared.reader.TextRefusal.{TextRefusal}
use Rattle.vector_text.specs.Reading.{GivesHeld, Nears}
use Rattle.vector_replay.specs.Replaying.{Takes}
use Rattle.vector_replay.proofs.Pieced.{held_finished, held_refused, held_skipped, held_taken, held_untaken}
use Rattle.vector_replay.proofs.pieces.run_held.Goals as goal

pub items-preserved-in-Ok : goal.items-preserved-in-Ok
items-preserved-in-Ok g c =
    let inv = c.items.invariant in
    let out = g.O.ByteSink.out c.items.output in
    let out' = g.O.ByteSink.out c.take_case.new.output in
    let room = c.in-Some-Ok-Case.ensures.room in
    let gives = subst (λ (x : Result Item TextRefusal). GivesHeld c.items.reader c.next_held.new.self x) (c.in-Some-Ok-Case.field-0-is ∙ ap Ok c.in-Some-Ok-Case.field-0-0-is) c.in-Some-Ok-Case.ensures.some in
    let nears = subst (λ (x : Result Item TextRefusal). Nears x c.items.reader c.next_held.new.self) (c.in-Some-Ok-Case.field-0-is ∙ ap Ok c.in-Some-Ok-Case.field-0-0-is) c.in-Some-Ok-Case.ensures.nears in
    let takes = subst (λ (case : Case). Takes {T = Unit {0}} c.items.totals case c.take_case.new.totals out out' (Ok tt)) c.case.ensures c.in-Ok.ensures.takes in (
      λ family text before stands.
          held_taken family text before out out' c.items.reader c.next_held.new.self c.items.totals c.take_case.new.totals (tt {0}) room (inv.0 family text before stands) gives takes,
      omega (arith, inv.1, nears.1, c.in-Ok.ensures.count, c.in-Ok.ensures.skipped),
      room ∙ inv.2,
      c.in-Ok.ensures.cause ∙ inv.3,
      c.take_case.auto.room ∙ inv.4,
    )

pub returns-in-Err-clause-goes : goal.returns-in-Err-clause-goes
returns-in-Err-clause-goes g c =
    let inv = c.items.invariant in
    let out = g.O.ByteSink.out c.items.output in
    let out' = g.O.ByteSink.out c.take_case.new.output in
    let gives = subst (λ (x : Result Item TextRefusal). GivesHeld c.items.reader c.next_held.new.self x) (c.in-Some-Ok-Case.field-0-is ∙ ap Ok c.in-Some-Ok-Case.field-0-0-is) c.in-Some-Ok-Case.ensures.some in
    let takes = subst (λ (case : Case). Takes {T = Unit {0}} c.items.totals case c.take_case.new.totals out out' (Err c.in-Err.why)) c.case.ensures c.in-Err.ensures.takes in
    λ family text before stands. held_untaken (Unit {0}) family text before out out' c.items.reader c.next_held.new.self c.items.totals c.take_case.new.totals c.in-Err.why
    c.in-Some-Ok-Case.ensures.room (inv.0 family text before stands) gives takes

pub items-preserved : goal.items-preserved
items-preserved g c =
    let inv = c.items.invariant in
    let out = g.O.ByteSink.out c.items.output in
    let room = c.in-Some-Ok-Skipped.ensures.room in
    let gives = subst (λ (x : Result Item TextRefusal). GivesHeld c.items.reader c.next_held.new.self x) (c.in-Some-Ok-Skipped.field-0-is ∙ ap Ok c.in-Some-Ok-Skipped.field-0-0-is) c.in-Some-Ok-Skipped.ensures.some in
    let nears = subst (λ (x : Result Item TextRefusal). Nears x c.items.reader c.next_held.new.self) (c.in-Some-Ok-Skipped.field-0-is ∙ ap Ok c.in-Some-Ok-Skipped.field-0-0-is) c.in-Some-Ok-Skipped.ensures.nears in (
      λ family text before stands. held_skipped family text before out c.items.reader c.next_held.new.self c.items.totals room (inv.0 family text before stands) gives,
      omega (arith, inv.1, nears.1),
      room ∙ inv.2,
      inv.3,
      inv.4,
    )

pub returns-in-Some-Ok-End-clause-goes : goal.returns-in-Some-Ok-End-clause-goes
returns-in-Some-Ok-End-clause-goes g c =
    let inv = c.items.invariant in
    let gives = subst (λ (x : Result Item TextRefusal). GivesHeld c.items.reader c.next_held.new.self x) (c.in-Some-Ok-End.field-0-is ∙ ap Ok c.in-Some-Ok-End.field-0-0-is) c.in-Some-Ok-End.ensures.some in
    λ family text before stands. held_finished family text before (g.O.ByteSink.out c.items.output) (g.O.ByteSink.out c.finish.new.output) c.items.reader c.next_held.new.self c.items.totals
    c.finish.result c.in-Some-Ok-End.ensures.room (inv.0 family text before stands) gives c.finish.ensures.finishes

pub returns-in-Some-Err-clause-goes : goal.returns-in-Some-Err-clause-goes
returns-in-Some-Err-clause-goes g c =
    let inv = c.items.invariant in
    let gives = subst (λ (x : Result Item TextRefusal). GivesHeld c.items.reader c.next_held.new.self x) c.in-Some-Err.field-0-is c.in-Some-Err.ensures.some in
    λ family text before stands. held_refused family text before (g.O.ByteSink.out c.items.output) c.items.reader c.next_held.new.self c.items.totals c.in-Some-Err.why
    c.in-Some-Err.ensures.room (inv.0 family text before stands) gives
