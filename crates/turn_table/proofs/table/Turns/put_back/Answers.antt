use Rattle.std.proofs.Common.{rules, ◌≡◌, map, sym, ap, ◌∙◌, subst, true}
use mathlib.Core.Option.{some}
use Rattle.std.specs.declared.option.Option.{Option}
use Rattle.atomic_table.specs.Table.{Me}
use Rattle.atomic_table.proofs.Lists.{at_map}
use Rattle.turn_table.proofs.Lists.{marked_slot, marked_state}
use lib.ListN.{get_elem?}
use Rattle.turn_table.proofs.Put.{turn_inside, fetched_at, put_in, gave_back}
use Rattle.turn_table.proofs.Rests.{settled_freed}
use Rattle.turn_table.proofs.Takes.{fetch_allowed, release_allowed}
use Rattle.turn_table.proofs.table.Turns.put_back.Goals as goal
use Rattle.turn_table.specs.declared.view.View.{View}
use Rattle.turn_table.specs.Views.{with_leases, marked, freed}
use Rattle.turn_table.specs.Passes.{Standing}

pub load-requires : goal.load-requires
load-requires g c =
    let e : c.args.pass.now.view ≡ c.pass.inside.seat.me.0 = sym (ap (λ (z : Standing). z.view) c.pass.view_is) in
    let own : c.pass.inside.seat.table_id ≡ c.self.inside.table.shared.table_id = search rules in
    let h = c.requires.turn in
    let lists : get_elem? c.pass.inside.seat.me.0.leases h.place ≡ some h.turn = subst (λ (u : View). get_elem? u.leases h.place ≡ some h.turn) e h.listed in
    let rest = c.pass.invariant.3.placed h.place h.turn lists in (
      own,
      turn_inside _ _ _ _ own c.self.invariant.0 rest.1 h.slot_is,
      fetch_allowed g.M.Machine.meaning _ _ _ _ _ c.pass.inside.seat.me.0 c.pass.invariant.3.live h.place h.turn lists h.slot_is rest.0
          (λ i. (c.pass.inside.seat.me.0, c.pass.invariant.0 i)),
    )

pub swap-requires : goal.swap-requires
swap-requires g c =
    let e : c.args.pass.now.view ≡ c.pass.inside.seat.me.0 = sym (ap (λ (z : Standing). z.view) c.pass.view_is) in
    let own : c.pass.inside.seat.table_id ≡ c.self.inside.table.shared.table_id = search rules in
    let h = c.requires.turn in
    let v : View = c.pass.inside.seat.me.0 in
    let lists : get_elem? v.leases h.place ≡ some h.turn = subst (λ (u : View). get_elem? u.leases h.place ≡ some h.turn) e h.listed in
    let rest = c.pass.invariant.3.placed h.place h.turn lists in
    let f = fetched_at c.args.slot c.load.ensures.2.0 v c.load.new.seat.me c.load.ensures.2.1 c.load.ensures.2.2 in
    let p = put_in c.args.slot c.args.value v c.load.new.seat.me c.exchange.new.seat.me f c.exchange.ensures.3 in (
      c.exchange.ensures.0 ∙ (c.load.ensures.0 ∙ own),
      turn_inside _ _ _ _ own c.self.invariant.0 rest.1 h.slot_is,
      release_allowed g.M.Machine.meaning _ _ _ _ _ (with_leases (map (marked c.args.slot true) v.leases) v) c.pass.invariant.3.live h.place
          (marked c.args.slot true h.turn) (at_map (marked c.args.slot true) v.leases h.place h.turn lists) (marked_slot c.args.slot true h.turn ∙ h.slot_is) c.args.value (subst (g.M.Machine.meaning.stands c.args.value) (sym (marked_state c.args.slot true h.turn)) h.value) p,
    )

pub wake_all-requires : goal.wake_all-requires
wake_all-requires g c =
    let e : c.args.pass.now.view ≡ c.pass.inside.seat.me.0 = sym (ap (λ (z : Standing). z.view) c.pass.view_is) in
    let own : c.pass.inside.seat.table_id ≡ c.self.inside.table.shared.table_id = search rules in
    let h = c.requires.turn in
    let lists : get_elem? c.pass.inside.seat.me.0.leases h.place ≡ some h.turn = subst (λ (u : View). get_elem? u.leases h.place ≡ some h.turn) e h.listed in
    turn_inside _ _ _ _ own c.self.invariant.0 (c.pass.invariant.3.placed h.place h.turn lists).1 h.slot_is

pub invariant_of-pass : goal.invariant_of-pass
invariant_of-pass g c =
    let v : View = c.pass.inside.seat.me.0 in
    let f = fetched_at c.args.slot c.load.ensures.2.0 v c.load.new.seat.me c.load.ensures.2.1 c.load.ensures.2.2 in
    let p = put_in c.args.slot c.args.value v c.load.new.seat.me c.exchange.new.seat.me f c.exchange.ensures.3 in
    let q = gave_back c.args.slot c.swap.ensures.2.0 v c.exchange.new.seat.me c.swap.new.seat.me c.swap.ensures.2.1 (ap (λ (m : Me (Option g.row.M-Value.Denot) View). m.0) p) c.swap.ensures.2.2 in
    settled_freed c.args.slot c.pass.inside.seat.table_id c.swap.new.seat.table_id v c.swap.new.seat.me c.pass.inside.caller c.pass.inside.calls (c.swap.ensures.0 ∙ (c.exchange.ensures.0 ∙ c.load.ensures.0)) q c.pass.invariant.1 c.pass.invariant.2
    c.pass.invariant.3

pub returns-clause-freed : goal.returns-clause-freed
returns-clause-freed g c =
    let v : View = c.pass.inside.seat.me.0 in
    let f = fetched_at c.args.slot c.load.ensures.2.0 v c.load.new.seat.me c.load.ensures.2.1 c.load.ensures.2.2 in
    let p = put_in c.args.slot c.args.value v c.load.new.seat.me c.exchange.new.seat.me f c.exchange.ensures.3 in
    let q = gave_back c.args.slot c.swap.ensures.2.0 v c.exchange.new.seat.me c.swap.new.seat.me c.swap.ensures.2.1 (ap (λ (m : Me (Option g.row.M-Value.Denot) View). m.0) p) c.swap.ensures.2.2 in
    ap (λ (m : Me (Option g.row.M-Value.Denot) View). m.0) q ∙ ap (λ (z : Standing). freed c.args.slot z.view) c.pass.view_is
