-- What a pass keeps while it waits.
use Rattle.std.proofs.Common.{◌≡◌, inl, inr, ⊎_elim, ℕ, List, [], ◌∷◌, ◌++◌, refl, sym, ap, ◌∙◌, subst, append-nil, append_assoc, true, false, eqb-true, eq-eqb}
use Rattle.std.proofs.lemmas.List.Elements.{All-append, All-cons, All-nil}
use Rattle.std.specs.Prelude.{Option, ◌==◌}
use mathlib.Core.Option.{some}
use lib.ListN.{get_elem?}
use Rattle.entropy_source.specs.Views.{SourceView}
use Rattle.turn_table.specs.declared.view.View.{View}
use Rattle.turn_table.specs.declared.view.Lease.{Lease}
use Rattle.turn_table.specs.declared.view.Met.{Met}
use Rattle.turn_table.specs.Views.{HasTurn, state_in}
use Rattle.turn_table.specs.Calls as calls
use Rattle.turn_table.specs.Calls.{Looks, Takes}
use Rattle.tree_config.specs.Tree.{Tree}
use Rattle.tree_rules.specs.History.{has}
use Rattle.tree_acts.specs.Hold.{Hold}
use Rattle.shared_tree.specs.declared.machine.SlotValue.{SlotValue}
use Rattle.shared_tree.specs.Machine.{tree_meaning}
use Rattle.shared_tree.specs.Answers.{GrowsAmong}
use Rattle.shared_tree.specs.Carries.{Carrying, Reaches, Stays, TakesLater}
use Rattle.shared_tree.proofs.Leaving.{begins_on, same_on}
use Rattle.shared_tree.proofs.Reaching.{or_cases, or_left}

grows_none : (slots : List ℕ) (m : List Met) → GrowsAmong slots m m
grows_none slots m = record { items = []; grows = sym (append-nil m); among = All-nil (λ (x : Met). has slots x.slot ≡ true) }

pub grows_on : (slots : List ℕ) (m n o : List Met) → GrowsAmong slots m n → GrowsAmong slots n o → GrowsAmong slots m o
grows_on slots m n o a b = record {
  items = a.items ++ b.items;
  grows = b.grows ∙ (ap (λ (l : List Met). l ++ b.items) a.grows ∙ append_assoc m a.items b.items);
  among = All-append (λ (x : Met). has slots x.slot ≡ true) a.items b.items a.among b.among;
}

-- what is among one slot is among others
only_one : (k : ℕ) (slots : List ℕ) (n : ℕ) → has slots k ≡ true → has (k ∷ []) n ≡ true → has slots n ≡ true
only_one k slots n on is = ⊎_elim
    (λ (e : (k == n) ≡ true). subst (λ (j : ℕ). has slots j ≡ true) (eqb-true k n e) on)
    (λ (f : false ≡ true). cc) (or_cases (k == n) false is)

pub grows_among : (k : ℕ) (slots : List ℕ) (m n : List Met) → has slots k ≡ true → GrowsAmong (k ∷ []) m n → GrowsAmong slots m n
grows_among k slots m n on a = record { items = a.items; grows = a.grows; among = λ i d less. only_one k slots _ on (a.among i d less) }

pub grows_same : (slots : List ℕ) (m n : List Met) → n ≡ m → GrowsAmong slots m n
grows_same slots m n e = subst (λ (l : List Met). GrowsAmong slots m l) (sym e) (grows_none slots m)

pub stays_same : (k : ℕ) (v : View) → Stays k v v
stays_same k v = record {
  begins = ([], sym (append-nil v.seen));
  mine_is = refl;
  leases_are = refl;
  taken_is = refl;
  own = λ x. x;
  same = record { number_is = refl; opening_is = refl; callers_is = refl };
  met = grows_none (k ∷ []) v.met;
}

stays_on : (k : ℕ) (v u w : View) → Stays k v u → Stays k u w → Stays k v w
stays_on k v u w a b = record {
  begins = begins_on v.seen u.seen w.seen a.begins b.begins;
  mine_is = b.mine_is ∙ a.mine_is;
  leases_are = b.leases_are ∙ a.leases_are;
  taken_is = b.taken_is ∙ a.taken_is;
  own = λ x. b.own (a.own x);
  same = same_on v u w a.same b.same;
  met = grows_on (k ∷ []) v.met u.met w.met a.met b.met;
}

module _ {S : Type 0} (told : S → Option (List ℕ)) (faults : S → ℕ) where
  pub stays_met : (k target holder : ℕ) (v u w : View) → Stays k v u → calls.Meets (tree_meaning told faults) k target holder u w → Stays k v w
  stays_met k target holder v u w a m = stays_on k v u w a (subst (λ (z : View). Stays k u z) (sym m.after) record {
    begins = m.finds.seen;
    mine_is = refl;
    leases_are = refl;
    taken_is = refl;
    own = λ _. m.finds.mine;
    same = record { number_is = refl; opening_is = refl; callers_is = refl };
    met = record {
      items = _ ∷ [];
      grows = refl;
      among = All-cons (λ (x : Met). has (k ∷ []) x.slot ≡ true) _ [] (or_left (k == k) false (eq-eqb k k refl)) (All-nil (λ (x : Met). has (k ∷ []) x.slot ≡ true));
    };
  })

  pub stays_seen : (k : ℕ) (v u w : View) → Stays k v u → Looks (tree_meaning told faults) u w → Stays k v w
  stays_seen k v u w a m = stays_on k v u w a (subst (λ (z : View). Stays k u z) (sym m.after) record {
    begins = m.finds.seen;
    mine_is = refl;
    leases_are = refl;
    taken_is = refl;
    own = λ _. m.finds.mine;
    same = record { number_is = refl; opening_is = refl; callers_is = refl };
    met = grows_none (k ∷ []) u.met;
  })

  pub takes_later : (k target : ℕ) (x : SlotValue S) (v u w : View) → Stays k v u → Takes (tree_meaning told faults) k target x u w → TakesLater told faults k target x v w
  takes_later k target x v u w a t = record { between = u; stays = a; takes = t }

  pub carry_over : (p : Tree) (t : ℕ) (h : Hold (SourceView S)) (room slots k : ℕ) (v u : View) → Stays k v u → Carrying told faults p t h room slots v → Carrying told faults p t h room slots u
  carry_over p t h room slots k v u a ca = record {
    f = ca.f;
    o = ca.o;
    opening_is = a.same.opening_is ∙ ca.opening_is;
    plan_is = ca.plan_is;
    is_opening = ca.is_opening;
    slots_are = ca.slots_are;
    own = a.own ca.own;
    plan = ca.plan;
    listed = λ i l at. ca.listed i l (subst (λ (ls : List Lease). get_elem? ls i ≡ some l) a.leases_are at);
    held = λ j x. let b = ca.held j x in (b.0, b.1, subst (λ (ls : List Lease). get_elem? ls b.0 ≡ some b.1) (sym a.leases_are) b.2, b.3);
    first = λ i l at. ap (λ (ls : List Lease). state_in ls l.slot) a.leases_are ∙ ca.first i l (subst (λ (ls : List Lease). get_elem? ls i ≡ some l) a.leases_are at);
    few = ca.few;
    on_path = ca.on_path;
    taken = ca.taken;
    distinct = ca.distinct;
    are_nodes = ca.are_nodes;
    counted = ca.counted;
  }

-- what was met until the turn was taken
pub met_later : {S : Type 0} (told : S → Option (List ℕ)) (faults : S → ℕ) (k target : ℕ) (x : SlotValue S) (v w : View) (slots : List ℕ) → has slots k ≡ true
    → TakesLater told faults k target x v w → GrowsAmong slots v.met w.met
met_later told faults k target x v w slots on t =
    subst (λ (l : List Met). GrowsAmong slots v.met l) (sym (ap (λ (z : View). z.met) t.takes.after)) (grows_among k slots v.met t.between.met on t.stays.met)

pub reaches_later : (k : ℕ) (v u w : View) → Stays k v u → Reaches k u w → Reaches k v w
reaches_later k v u w a r = record {
  begins = begins_on v.seen u.seen w.seen a.begins r.begins;
  mine_is = r.mine_is ∙ a.mine_is;
  same = same_on v u w a.same r.same;
  has = r.has;
  stay = λ j t. r.stay j (t.0, t.1, subst (λ (ls : List Lease). get_elem? ls t.0 ≡ some t.1) (sym a.leases_are) t.2, t.3);
  back = λ j t. ⊎_elim (λ e. inl e) (λ (b : HasTurn u j). inr (b.0, b.1, subst (λ (ls : List Lease). get_elem? ls b.0 ≡ some b.1) a.leases_are b.2, b.3)) (r.back j t);
  new = λ t. r.new (t.0, t.1, subst (λ (ls : List Lease). get_elem? ls t.0 ≡ some t.1) (sym a.leases_are) t.2, t.3);
}
