-- Two turns of one pass, in the order of the path.
use Rattle.std.proofs.Common.{◌≡◌, ◌≢◌, ℕ, zero, suc, List, [], ◌∷◌, ◌++◌, sym, refl, ap, ◌∙◌, arith, false}
use mathlib.Core.Option.{some, some-injective, some-ne-none}
use lib.ListN.{get_elem?}
use Rattle.atomic_table.specs.Seated.{TableId}
use Rattle.turn_table.specs.declared.view.View.{View}
use Rattle.turn_table.specs.declared.view.Lease.{Lease}
use Rattle.turn_table.specs.Views.{lease, without, HasTurn, freed}
use Rattle.turn_table.specs.Passes.{Standing}
use Rattle.turn_table.specs.Calls.{Takes, Meets, MayPut}
use Rattle.turn_table.specs.Counters.{counters, HasOnly, HasBoth}

abbrev first_slot : List Lease → ℕ
first_slot [] = 1
first_slot (x ∷ xs) = x.slot

abbrev drop_one : List Lease → List Lease
drop_one [] = []
drop_one (x ∷ xs) = xs

-- who has the turn of counter 1 alone does not have that of counter 0
free_of_one : (l : List Lease) (s : List ℕ) → l ≡ lease 1 1 s false ∷ [] → (i : ℕ) (t : Lease) → get_elem? l i ≡ some t → t.slot ≢ 0
free_of_one [] s is i t at = absurd (some-ne-none t (sym at))
free_of_one (x ∷ xs) s is zero t at = λ z. let a : t.slot ≡ 1 = ap (λ (u : Lease). u.slot) (sym (some-injective x t at)) ∙ ap first_slot is in omega arith
free_of_one (x ∷ xs) s is (suc i) t at = λ z. some-ne-none t (sym at ∙ ap (λ (l : List Lease). get_elem? (drop_one l) i) is)

pub free_below : (t : TableId) (callers x : ℕ) (p : Standing) → HasOnly t callers 1 x p → HasTurn p.view 0 → ⊥
free_below t callers x p has h = free_of_one p.view.leases (x ∷ []) has.turn h.0 h.1 h.2 h.3

module _ (t : TableId) (callers x : ℕ) (p q : Standing) (has : HasOnly t callers 1 x p) (own : q.table ≡ p.table) where
  pub both_took : (y : ℕ) → Takes counters 0 1 y p.view q.view → HasBoth t callers x y q
  both_took y b = let e = b.after in record {
    table_is = own ∙ has.table_is;
    opening_is = ap (λ (z : View). z.opening) e ∙ has.opening_is;
    callers_is = ap (λ (z : View). z.callers) e ∙ has.callers_is;
    turns = ap (λ (z : View). z.leases) e ∙ (λ i. has.turn i ++ lease 0 1 (b.value i) false ∷ []);
  }

  pub only_met : (target holder : ℕ) → Meets counters 0 target holder p.view q.view → HasOnly t callers 1 x q
  only_met target holder b = let e = b.after in record {
    table_is = own ∙ has.table_is;
    opening_is = ap (λ (z : View). z.opening) e ∙ has.opening_is;
    callers_is = ap (λ (z : View). z.callers) e ∙ has.callers_is;
    turn = ap (λ (z : View). z.leases) e ∙ has.turn;
  }

module _ (t : TableId) (callers x y : ℕ) (p : Standing) (has : HasBoth t callers x y p) where
  pub may_put_below : MayPut counters 0 y p.view
  may_put_below = record { place = 1; turn = lease 0 1 (y ∷ []) false; listed = ap (λ (l : List Lease). get_elem? l 1) has.turns; slot_is = refl; value = refl }

  pub only_above : (q : Standing) → q.table ≡ p.table → q.view ≡ freed 0 p.view → HasOnly t callers 1 x q
  only_above q own gone = record {
    table_is = own ∙ has.table_is;
    opening_is = ap (λ (z : View). z.opening) gone ∙ has.opening_is;
    callers_is = ap (λ (z : View). z.callers) gone ∙ has.callers_is;
    turn = ap (λ (z : View). z.leases) gone ∙ ap (without 0) has.turns;
  }
