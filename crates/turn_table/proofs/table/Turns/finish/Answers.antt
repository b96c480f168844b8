use Rattle.std.proofs.Common.{◌≡◌, ◌+◌, ◌<◌, ◌≤◌, List, length, map, take, sym, ap, ◌∙◌, subst, arith, get_or, Bool, true, false}
use mathlib.Core.Option.{some, some-injective}
use lib.ListN.{get_elem?}
use Rattle.std.specs.declared.option.Option.{Option}
use Rattle.std.specs.declared.option.Option.TheVariants.{None, Some}
use Rattle.std.specs.Slots.{slots_items, slots_filled, slots_len, slots_counts}
use Rattle.turn_table.proofs.Closes.{ends}
use Rattle.turn_table.proofs.Empties.{take_whole, one_more, still_filled, emptied_below, no_none}
use Rattle.turn_table.proofs.table.Turns.finish.Goals as goal
use Rattle.turn_table.specs.Closes.{Leaves}

pub unreachable-requires : goal.unreachable-requires
unreachable-requires g c =
    let z : List (Option g.row.M-Value.Denot) = slots_items c.close_with-closed.result.slots in
    let end : Leaves g.M.Machine.meaning c.args.seat.me.0 c.word-calls.result z =
    ends g.M.Machine.meaning (c.self.inside.table.shared.key.0, c.self.inside.table.shared.key.1.value.items) c.args.seat.id c.args.seat.me.0 (slots_items c.close_with-closed.result.words) z c.word-calls.result c.requires.last c.word-calls.ensures
    c.close_with-closed.ensures.values.2 in
    let count : slots_len c.close_with-closed.result.slots ≡ length z = (slots_counts c.close_with-closed.result.slots).0 in
    let same = c.loop-next.invariant.0 in
    let below : c.loop-next.next < length z = let a = c.loop-next.invariant.1 in let d = c.slot_count.ensures in let t = c.loop-next-test.true in omega arith in
    let x = end.values_are c.loop-next.next below in
    no_none x.0 (some-injective (Some x.0) None (sym x.1 ∙ (ap (λ (l : List (Option g.row.M-Value.Denot)). get_elem? l c.loop-next.next) (sym same) ∙ (c.take.ensures.value ∙ ap some c.in-None.is))))

pub loop-next-preserved : goal.loop-next-preserved
loop-next-preserved g c =
    let inv = c.loop-next.invariant in let o = c.take.ensures.others in
    let fs = slots_filled c.loop-next.closed.slots in
    let below : c.loop-next.next < slots_len c.loop-next.closed.slots = let d = c.slot_count.ensures in let t = c.loop-next-test.true in omega arith in
    let counts : slots_len c.loop-next.closed.slots ≡ length fs = (slots_counts c.loop-next.closed.slots).1 in
    let inside : c.loop-next.next < length fs = omega arith in
    let len = o.2 in
    let pushed = c.push_reserved.ensures.len in
    let before = inv.8 in
    let at = c.take.ensures.value ∙ ap some c.in-Some.is in (
      o.0 ∙ inv.0,
      o.2 ∙ inv.1,
      o.3 ∙ inv.2,
      (omega arith),
      (λ k from under. subst (λ (l : List Bool). get_or l k false ≡ true) (sym o.1) (still_filled fs c.loop-next.next (slots_len c.loop-next.closed.slots) inv.4 k from (omega arith))),
      (λ k under. subst (λ (l : List Bool). get_or l k false ≡ false) (sym o.1) (emptied_below fs c.loop-next.next inside inv.5 k under)),
      ap (λ (l : List g.row.M-Value.Denot). map Some l) c.push_reserved.ensures.items
          ∙ (one_more c.loop-next.values.items (slots_items c.loop-next.closed.slots) c.loop-next.next c.in-Some.value inv.6 at ∙ ap (λ (l : List (Option g.row.M-Value.Denot)). take (c.loop-next.next + 1) l) (sym o.0)),
      c.push_reserved.ensures.capacity ∙ inv.7,
      (omega arith),
    )

pub returns-clause-end : goal.returns-clause-end
returns-clause-end g c =
    let z : List (Option g.row.M-Value.Denot) = slots_items c.close_with-closed.result.slots in
    let end : Leaves g.M.Machine.meaning c.args.seat.me.0 c.word-calls.result z =
    ends g.M.Machine.meaning (c.self.inside.table.shared.key.0, c.self.inside.table.shared.key.1.value.items) c.args.seat.id c.args.seat.me.0 (slots_items c.close_with-closed.result.words) z c.word-calls.result c.requires.last c.word-calls.ensures
    c.close_with-closed.ensures.values.2 in
    let count : slots_len c.close_with-closed.result.slots ≡ length z = (slots_counts c.close_with-closed.result.slots).0 in
    let inv = c.loop-next.invariant in
    let all : length z ≤ c.loop-next.next = let a = inv.1 in let d = c.slot_count.ensures in let t = c.loop-next-test.false in omega arith in
    let items = inv.6 ∙ (ap (λ (l : List (Option g.row.M-Value.Denot)). take c.loop-next.next l) inv.0 ∙ take_whole z c.loop-next.next all) in
    subst (Leaves g.M.Machine.meaning c.args.seat.me.0 c.word-calls.result) (sym items) end
