use Rattle.std.proofs.Common.{length, refl, ap, subst, ◌∙◌, arith, rules, Ok, Err}
use Rattle.std.proofs.lemmas.List.{with_items_is}
use Rattle.vector_text.specs.declared.case.Case.{Case}
use Rattle.vector_text.specs.declared.reader.Item.{Item}
use Rattle.vector_text.specs.Feeding.{most_bytes}
use Rattle.vector_text.specs.Reading.{Gives, Nears}
use Rattle.vector_replay.specs.Replaying.{Takes}
use Rattle.vector_text.proofs.Writing.{appends_none}
use Rattle.vector_replay.proofs.Reporting.{ends_finished, ends_refused, ends_untaken, finished_reads, some_follows, stands_first, stands_skipped, stands_taken, untaken_reads}
use Rattle.vector_replay.proofs.replaying.replay.Goals as goal

pub returns-in-Err-clause-ends : goal.returns-in-Err-clause-ends
returns-in-Err-clause-ends g c =
    let m = some_follows (g.I.ByteSource.left c.args.input.now) most_bytes in
    (m.0, m.1, appends_none (g.O.ByteSink.out c.args.output.now))

pub returns-in-Err-vec-clause-ends : goal.returns-in-Err-vec-clause-ends
returns-in-Err-vec-clause-ends g c =
    let m = some_follows (g.I.ByteSource.left c.args.input.now) most_bytes in
    (m.0, m.1, appends_none (g.O.ByteSink.out c.args.output.now))

pub items-init : goal.items-init
items-init g c = (
  stands_first c.args.family (g.I.ByteSource.left c.args.input.now) (g.O.ByteSink.out c.args.output.now) c.in-Ok.reader c.in-Ok.ensures.begins,
  search rules,
  refl,
  refl,
  search rules,
)

pub items-preserved-in-Ok-take_case : goal.items-preserved-in-Ok-take_case
items-preserved-in-Ok-take_case g c =
    let inv = c.items.invariant in
    let left = g.I.ByteSource.left c.items.input in
    let left' = g.I.ByteSource.left c.next.new.input in
    let out = g.O.ByteSink.out c.items.output in
    let out' = g.O.ByteSink.out c.take_case.new.output in
    let gives = subst (λ (i : Item). Gives left c.items.reader left' c.next.new.self (Ok i)) c.in-Ok-Case.field-0-is c.in-Ok-Case.ensures.gives in
    let nears = subst (λ (i : Item). Nears (Ok i) c.items.reader c.next.new.self) c.in-Ok-Case.field-0-is c.in-Ok-Case.ensures.nears in
    let takes = subst (λ (case : Case). Takes {T = Unit {0}} c.items.totals case c.take_case.new.totals out out' (Ok tt)) c.case.ensures c.in-Ok-take_case.ensures.takes in
    let room = with_items_is c.items.room c.take_case.new.room (c.take_case.auto.room ∙ c.deref_mut.ensures.len) in (
      stands_taken c.args.family _ _ left left' out out' c.items.reader c.next.new.self c.items.totals c.take_case.new.totals (tt {0}) inv.0 gives takes,
      omega (arith, inv.1, nears.1, c.in-Ok-take_case.ensures.count, c.in-Ok-take_case.ensures.skipped),
      c.in-Ok-Case.ensures.cause ∙ inv.2,
      c.in-Ok-take_case.ensures.cause ∙ inv.3,
      ap length room ∙ (c.take_case.auto.room ∙ (ap length c.deref_mut.ensures.value ∙ inv.4)),
    )

pub returns-in-Err-take_case-clause-ends : goal.returns-in-Err-take_case-clause-ends
returns-in-Err-take_case-clause-ends g c =
    let inv = c.items.invariant in
    let left = g.I.ByteSource.left c.items.input in
    let left' = g.I.ByteSource.left c.next.new.input in
    let out = g.O.ByteSink.out c.items.output in
    let out' = g.O.ByteSink.out c.take_case.new.output in
    let gives = subst (λ (i : Item). Gives left c.items.reader left' c.next.new.self (Ok i)) c.in-Ok-Case.field-0-is c.in-Ok-Case.ensures.gives in
    let takes = subst (λ (case : Case). Takes {T = Unit {0}} c.items.totals case c.take_case.new.totals out out' (Err c.in-Err-take_case.why)) c.case.ensures c.in-Err-take_case.ensures.takes in
    ends_untaken (Unit {0}) c.args.family _ _ left left' out out' c.items.reader c.next.new.self c.items.totals c.take_case.new.totals c.in-Err-take_case.why inv.0 gives takes

pub returns-in-Err-take_case-clause-read : goal.returns-in-Err-take_case-clause-read
returns-in-Err-take_case-clause-read g c =
    untaken_reads (Unit {0}) c.items.totals c.take_case.new.totals c.case.result.now (g.O.ByteSink.out c.items.output) (g.O.ByteSink.out c.take_case.new.output) _ _
    c.in-Err-take_case.why c.in-Err-take_case.ensures.takes (c.in-Ok-Case.ensures.cause ∙ c.items.invariant.2)

pub items-preserved : goal.items-preserved
items-preserved g c =
    let inv = c.items.invariant in
    let left = g.I.ByteSource.left c.items.input in
    let left' = g.I.ByteSource.left c.next.new.input in
    let out = g.O.ByteSink.out c.items.output in
    let gives = subst (λ (i : Item). Gives left c.items.reader left' c.next.new.self (Ok i)) c.in-Ok-Skipped.field-0-is c.in-Ok-Skipped.ensures.gives in
    let nears = subst (λ (i : Item). Nears (Ok i) c.items.reader c.next.new.self) c.in-Ok-Skipped.field-0-is c.in-Ok-Skipped.ensures.nears in (
      stands_skipped c.args.family _ _ left left' out c.items.reader c.next.new.self c.items.totals inv.0 gives,
      omega (arith, inv.1, nears.1),
      c.in-Ok-Skipped.ensures.cause ∙ inv.2,
      inv.3,
      inv.4,
    )

pub returns-in-Ok-End-clause-ends : goal.returns-in-Ok-End-clause-ends
returns-in-Ok-End-clause-ends g c =
    let left = g.I.ByteSource.left c.items.input in
    let left' = g.I.ByteSource.left c.next.new.input in
    let gives = subst (λ (i : Item). Gives left c.items.reader left' c.next.new.self (Ok i)) c.in-Ok-End.field-0-is c.in-Ok-End.ensures.gives in
    ends_finished c.args.family _ _ left left' (g.O.ByteSink.out c.items.output) (g.O.ByteSink.out c.finish.new.output) c.items.reader c.next.new.self c.items.totals
    c.finish.result c.items.invariant.0 gives c.finish.ensures.finishes

pub returns-in-Ok-End-clause-read : goal.returns-in-Ok-End-clause-read
returns-in-Ok-End-clause-read g c =
    finished_reads c.items.totals (g.O.ByteSink.out c.items.output) (g.O.ByteSink.out c.finish.new.output) _ _ c.finish.result c.finish.ensures.finishes
    (c.in-Ok-End.ensures.cause ∙ c.items.invariant.2)

pub returns-in-Err-next-clause-ends : goal.returns-in-Err-next-clause-ends
returns-in-Err-next-clause-ends g c =
    ends_refused c.args.family _ _ (g.I.ByteSource.left c.items.input) (g.I.ByteSource.left c.next.new.input) (g.O.ByteSink.out c.items.output) c.items.reader c.next.new.self
    c.items.totals c.in-Err-next.why c.items.invariant.0 c.in-Err-next.ensures.gives
