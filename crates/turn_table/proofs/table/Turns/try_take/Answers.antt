use Rattle.std.proofs.Common.{rules, ◌≡◌, ◌+◌, ◌*◌, ◌<◌, ℕ, length, sym, ap, ◌∙◌, subst, refl, arith}
use Rattle.atomic_table.specs.Seated.{TableId}
use Rattle.turn_table.proofs.Looks.{take_goes}
use Rattle.turn_table.proofs.Takes.{can_exchange, emptied, lists_it, settles, takes_it, rest_allowed, holding}
use Rattle.turn_table.proofs.Rests.{settled_took}
use Rattle.turn_table.proofs.Put.{turn_inside}
use Rattle.turn_table.proofs.table.Turns.try_take.Goals as goal
use Rattle.turn_table.specs.declared.view.View.{View}
use Rattle.turn_table.specs.Views.{HasTurn}
use Rattle.turn_table.specs.Passes.{Standing}
use Rattle.turn_table.specs.Calls.{Takes}

pub compare_exchange-found-requires : goal.compare_exchange-found-requires
compare_exchange-found-requires g c =
    let e : c.pass.inside.seat.me.0 ≡ c.args.pass.now.view = ap (λ (z : Standing). z.view) c.pass.view_is in
    let own : c.pass.inside.seat.table_id ≡ c.self.inside.table.shared.table_id = search rules in
    let same : c.args.self.now.table ≡ c.self.inside.table.shared.table_id = search rules in
    let slots : c.args.self.now.table.slots ≡ c.self.inside.table.shared.table_id.slots = ap (λ (z : TableId). z.slots) same in
    let inside : c.args.slot < c.self.inside.table.shared.table_id.slots = subst (λ (z : ℕ). c.args.slot < z) slots c.requires.slots.0 in
    let below : c.args.target < c.self.inside.table.shared.table_id.slots = subst (λ (z : ℕ). c.args.target < z) slots c.requires.slots.1 in
    let few = c.self.invariant.1 in (
      own,
      turn_inside c.self.inside.table.shared.table_id c.self.inside.table.shared.table_id c.args.slot c.args.slot refl c.self.invariant.0 inside refl,
      take_goes g.M.Machine.meaning (_, _) _ _ c.pass.inside.seat.me c.args.slot c.args.target _ (ap (λ (z : ℕ). (1 + c.args.target) + 65536 * z) c.pass.invariant.1)
          c.pass.invariant.3.live c.pass.invariant.3.numbered inside (omega arith) (rw e c.requires.path) (subst (λ (v : View). HasTurn v c.args.slot → ⊥) (sym e) c.requires.free),
    )

pub exchange-value-requires : goal.exchange-value-requires
exchange-value-requires g c =
    let e : c.pass.inside.seat.me.0 ≡ c.args.pass.now.view = ap (λ (z : Standing). z.view) c.pass.view_is in
    let own : c.pass.inside.seat.table_id ≡ c.self.inside.table.shared.table_id = search rules in
    let is = ap (λ (z : ℕ). (1 + c.args.target) + 65536 * z) c.pass.invariant.1 in
    let small : c.args.target < 65536 = search rules in
    let zero_word : c.compare_exchange-found.result ≡ 0 = search rules in
    let free = subst (λ (v : View). HasTurn v c.args.slot → ⊥) (sym e) c.requires.free in
    (c.compare_exchange-found.ensures.0 ∙ own, can_exchange g.M.Machine.meaning c.self.inside.table.shared.table_id.slots c.args.slot c.args.target ((1 + c.args.target) + 65536 * c.pass.inside.caller) c.pass.inside.seat.me c.compare_exchange-found.result c.compare_exchange-found.new.seat.me is c.compare_exchange-found.ensures.2 small zero_word c.pass.invariant.0 free)

pub load-requires : goal.load-requires
load-requires g c =
    let e : c.pass.inside.seat.me.0 ≡ c.args.pass.now.view = ap (λ (z : Standing). z.view) c.pass.view_is in
    let own : c.pass.inside.seat.table_id ≡ c.self.inside.table.shared.table_id = search rules in
    let is = ap (λ (z : ℕ). (1 + c.args.target) + 65536 * z) c.pass.invariant.1 in
    let small : c.args.target < 65536 = search rules in
    let zero_word : c.compare_exchange-found.result ≡ 0 = search rules in
    let free = subst (λ (v : View). HasTurn v c.args.slot → ⊥) (sym e) c.requires.free in
    let same : c.args.self.now.table ≡ c.self.inside.table.shared.table_id = search rules in
    let inside : c.args.slot < c.self.inside.table.shared.table_id.slots = subst (λ (z : TableId). c.args.slot < z.slots) same c.requires.slots.0 in (
      c.exchange-value.ensures.0 ∙ (c.compare_exchange-found.ensures.0 ∙ own),
      turn_inside c.self.inside.table.shared.table_id c.self.inside.table.shared.table_id c.args.slot c.args.slot refl c.self.invariant.0 inside refl,
      rest_allowed g.M.Machine.meaning _ _ _ c.args.slot c.exchange-value.new.seat.me (holding g.M.Machine.meaning c.self.inside.table.shared.table_id.slots c.args.slot c.args.target ((1 + c.args.target) + 65536 * c.pass.inside.caller) c.pass.inside.seat.me c.compare_exchange-found.result c.compare_exchange-found.new.seat.me is c.compare_exchange-found.ensures.2 small zero_word c.pass.invariant.0 free) c.pass.invariant.3.live (length c.pass.inside.seat.me.0.leases) _
          (lists_it g.M.Machine.meaning c.self.inside.table.shared.table_id.slots c.args.slot c.args.target ((1 + c.args.target) + 65536 * c.pass.inside.caller) c.pass.inside.seat.me c.compare_exchange-found.result c.compare_exchange-found.new.seat.me is c.compare_exchange-found.ensures.2 small zero_word c.pass.invariant.0 free c.exchange-value.result c.exchange-value.new.seat.me c.exchange-value.ensures.2 c.exchange-value.ensures.3) refl (emptied g.M.Machine.meaning c.self.inside.table.shared.table_id.slots c.args.slot c.args.target ((1 + c.args.target) + 65536 * c.pass.inside.caller) c.pass.inside.seat.me c.compare_exchange-found.result c.compare_exchange-found.new.seat.me is c.compare_exchange-found.ensures.2 small zero_word c.pass.invariant.0 free c.exchange-value.result c.exchange-value.new.seat.me c.exchange-value.ensures.2 c.exchange-value.ensures.3),
    )

pub invariant_of-pass-2 : goal.invariant_of-pass-2
invariant_of-pass-2 g c =
    let e : c.pass.inside.seat.me.0 ≡ c.args.pass.now.view = ap (λ (z : Standing). z.view) c.pass.view_is in
    let own : c.pass.inside.seat.table_id ≡ c.self.inside.table.shared.table_id = search rules in
    let is = ap (λ (z : ℕ). (1 + c.args.target) + 65536 * z) c.pass.invariant.1 in
    let small : c.args.target < 65536 = search rules in
    let zero_word : c.compare_exchange-found.result ≡ 0 = search rules in
    let free = subst (λ (v : View). HasTurn v c.args.slot → ⊥) (sym e) c.requires.free in
    let same : c.args.self.now.table ≡ c.pass.inside.seat.table_id = search rules in
    let inside : c.args.slot < c.pass.inside.seat.table_id.slots = subst (λ (z : TableId). c.args.slot < z.slots) same c.requires.slots.0 in
    settled_took g.M.Machine.meaning _ c.args.slot c.args.target c.pass.inside.seat.table_id c.load.new.seat.table_id c.pass.inside.seat.me.0 c.load.new.seat.me c.pass.inside.caller c.pass.inside.calls
    (c.load.ensures.0 ∙ (c.exchange-value.ensures.0 ∙ c.compare_exchange-found.ensures.0)) inside (settles g.M.Machine.meaning c.self.inside.table.shared.table_id.slots c.args.slot c.args.target ((1 + c.args.target) + 65536 * c.pass.inside.caller) c.pass.inside.seat.me c.compare_exchange-found.result c.compare_exchange-found.new.seat.me is c.compare_exchange-found.ensures.2 small zero_word c.pass.invariant.0 free c.exchange-value.result c.exchange-value.new.seat.me c.exchange-value.ensures.2 c.exchange-value.ensures.3 c.load.new.seat.me c.load.ensures.2.0 c.load.ensures.2.1 c.load.ensures.2.2) c.pass.invariant.1 c.pass.invariant.2 c.pass.invariant.3

pub returns-clause-took : goal.returns-clause-took
returns-clause-took g c =
    let e : c.pass.inside.seat.me.0 ≡ c.args.pass.now.view = ap (λ (z : Standing). z.view) c.pass.view_is in
    let own : c.pass.inside.seat.table_id ≡ c.self.inside.table.shared.table_id = search rules in
    let is = ap (λ (z : ℕ). (1 + c.args.target) + 65536 * z) c.pass.invariant.1 in
    let small : c.args.target < 65536 = search rules in
    let zero_word : c.compare_exchange-found.result ≡ 0 = search rules in
    let free = subst (λ (v : View). HasTurn v c.args.slot → ⊥) (sym e) c.requires.free in
    subst (λ (v : View). Takes g.M.Machine.meaning c.args.slot c.args.target c.in-Some.value v c.load.new.seat.me.0) e
    (takes_it g.M.Machine.meaning c.self.inside.table.shared.table_id.slots c.args.slot c.args.target ((1 + c.args.target) + 65536 * c.pass.inside.caller) c.pass.inside.seat.me c.compare_exchange-found.result c.compare_exchange-found.new.seat.me is c.compare_exchange-found.ensures.2 small zero_word c.pass.invariant.0 free c.exchange-value.result c.exchange-value.new.seat.me c.exchange-value.ensures.2 c.exchange-value.ensures.3 c.load.new.seat.me c.load.ensures.2.0 c.load.ensures.2.1 c.load.ensures.2.2 c.in-Some.value c.in-Some.is)
