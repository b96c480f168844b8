-- The calls on counters, step by step.
use Rattle.std.proofs.Common.{◌≡◌, ℕ, zero, suc, ◌+◌, ◌<◌, ◌≤◌, ◌⊎◌, inl, inr, ⊎_elim, List, [], ◌∷◌, ◌++◌, length, replicate, get_or, sym, refl, ap, ◌∙◌, subst, arith, map, append_assoc, append-nil, eq-eqb, eqb-true, All, Bool, false}
use Rattle.std.specs.Prelude.{if◌then◌else◌}
use mathlib.Core.Option.{some}
use lib.ListN.{get_elem?}
use Rattle.atomic_table.specs.Seated.{TableId}
use Rattle.turn_table.specs.declared.view.View.{View}
use Rattle.turn_table.specs.declared.view.Lease.{Lease}
use Rattle.turn_table.specs.History.{Entry, Begins, state_of, LegalOver}
use Rattle.turn_table.specs.Views.{lease, moved, without, state_in, freed, entered}
use Rattle.turn_table.specs.Calls.{Looks, Takes, Meets, MayCommit, Commits, MayPut}
use Rattle.turn_table.specs.Passes.{Standing, IsIdle, opening_of}
use Rattle.turn_table.specs.Counters.{counters, sum_entry, IsReady, HasOnly, Stands, Goes, Adds, Declines}
use Rattle.turn_table.proofs.Lists.{states_snoc}

begins_on : (xs ys zs : List Entry) → Begins xs ys → Begins ys zs → Begins xs zs
begins_on xs ys zs a b = (a.0 ++ b.0, b.1 ∙ (ap (λ (l : List Entry). l ++ b.0) a.1 ∙ append_assoc xs a.0 b.0))

pub goes_same : (v : View) → Goes v v
goes_same v = record { begins = ([], sym (append-nil v.seen)); number_is = refl; mine_is = refl }

pub goes_on : (v w u : View) → Goes v w → Goes w u → Goes v u
goes_on v w u a b = record { begins = begins_on v.seen w.seen u.seen a.begins b.begins; number_is = b.number_is ∙ a.number_is; mine_is = b.mine_is ∙ a.mine_is }

pub goes_looked : (v w : View) → Looks counters v w → Goes v w
goes_looked v w b = let e = b.after in record {
  begins = subst (Begins v.seen) (ap (λ (z : View). z.seen) (sym e)) b.finds.seen;
  number_is = ap (λ (z : View). z.number) e;
  mine_is = ap (λ (z : View). z.mine) e;
}

pub goes_met : (k target holder : ℕ) (v w : View) → Meets counters k target holder v w → Goes v w
goes_met k target holder v w b = let e = b.after in record {
  begins = subst (Begins v.seen) (ap (λ (z : View). z.seen) (sym e)) b.finds.seen;
  number_is = ap (λ (z : View). z.number) e;
  mine_is = ap (λ (z : View). z.mine) e;
}

pub goes_took : (k x : ℕ) (v w : View) → Takes counters k k x v w → Goes v w
goes_took k x v w b = let e = b.after in record {
  begins = subst (Begins v.seen) (ap (λ (z : View). z.seen) (sym e)) b.finds.seen;
  number_is = ap (λ (z : View). z.number) e;
  mine_is = ap (λ (z : View). z.mine) e;
}

module _ (t : TableId) (callers : ℕ) (p q : Standing) (ready : IsReady t callers p) (own : q.table ≡ p.table) where
  pub ready_looked : Looks counters p.view q.view → IsReady t callers q
  ready_looked b = let e = b.after in record {
    table_is = own ∙ ready.table_is;
    opening_is = ap (λ (z : View). z.opening) e ∙ ready.opening_is;
    callers_is = ap (λ (z : View). z.callers) e ∙ ready.callers_is;
    no_turn = ap (λ (z : View). z.leases) e ∙ ready.no_turn;
  }

  pub ready_met : (k target holder : ℕ) → Meets counters k target holder p.view q.view → IsReady t callers q
  ready_met k target holder b = let e = b.after in record {
    table_is = own ∙ ready.table_is;
    opening_is = ap (λ (z : View). z.opening) e ∙ ready.opening_is;
    callers_is = ap (λ (z : View). z.callers) e ∙ ready.callers_is;
    no_turn = ap (λ (z : View). z.leases) e ∙ ready.no_turn;
  }

  pub only_took : (k x : ℕ) → Takes counters k k x p.view q.view → HasOnly t callers k x q
  only_took k x b = let e = b.after in record {
    table_is = own ∙ ready.table_is;
    opening_is = ap (λ (z : View). z.opening) e ∙ ready.opening_is;
    callers_is = ap (λ (z : View). z.callers) e ∙ ready.callers_is;
    turn = ap (λ (z : View). z.leases) e ∙ (λ i. ready.no_turn i ++ lease k k (b.value i) false ∷ []);
  }

pub stands_took : (t : TableId) (callers k x : ℕ) (p q : Standing) → IsReady t callers p → Takes counters k k x p.view q.view → Stands k x q.view
stands_took t callers k x p q ready b = let seen : q.view.seen ≡ b.history = ap (λ (z : View). z.seen) b.after in record {
  legal = subst (λ (y : List ℕ × List Entry). LegalOver counters y.0 y.1) (λ i. (ready.opening_is i, sym seen i)) b.finds.legal;
  value = (λ i. state_of counters (sym ready.opening_is i) (seen i) k) ∙ b.value;
}

pub declines : (slot amount x : ℕ) (v w u : View) → Goes v w → Stands slot x w → (18446744073709551616 ≤ x + amount) ⊎ (1099511627776 ≤ length w.mine) → Goes w u → u.seen ≡ w.seen → Declines slot amount v u
declines slot amount x v w u g s why back seen = record {
  goes = goes_on v w u g back;
  why = ⊎_elim
      (λ h. inl (x, record { legal = subst (LegalOver counters []) (sym seen) s.legal; value = ap (λ (h : List Entry). state_of counters [] h slot) seen ∙ s.value }, h))
      (λ h. inr (subst (λ (l : List Entry). 1099511627776 ≤ length l) g.mine_is h)) why;
}

abbrev Only : ℕ → ℕ → View → Type 0
Only slot x v = v.leases ≡ lease slot slot (x ∷ []) false ∷ []

state_of_one : (slot x k : ℕ) → slot ≡ k → state_in (lease slot slot (x ∷ []) false ∷ []) k ≡ x ∷ []
state_of_one slot x k e = ap (λ (b : Bool). if b then x ∷ [] else []) (eq-eqb slot k e)

pub may_add : (v : View) (slot amount value : ℕ) → Only slot value v → value + amount < 18446744073709551616 → MayCommit counters (λ (e : Entry). e ≡ sum_entry v.number slot amount) v
may_add v slot amount value is small = record {
  entry = sum_entry v.number slot amount;
  passes = refl;
  by = refl;
  has_turns = λ k t. (0, lease slot slot (value ∷ []) false, ap (λ (l : List Lease). get_elem? l 0) is, eqb-true slot k t);
  fits = (refl, subst (λ (s : List ℕ). get_or s 0 0 + amount < 18446744073709551616) (sym (ap (λ (l : List Lease). state_in l slot) is ∙ state_of_one slot value slot refl)) small);
}

pub may_put : (v : View) (slot value : ℕ) → Only slot value v → MayPut counters slot value v
may_put v slot value is = record { place = 0; turn = lease slot slot (value ∷ []) false; listed = ap (λ (l : List Lease). get_elem? l 0) is; slot_is = refl; value = refl }

-- the one turn was given back
nothing_left : (w u : View) (slot x : ℕ) → Only slot x w → u ≡ freed slot w → u.leases ≡ []
nothing_left w u slot x is gone = ap (λ (z : View). z.leases) gone ∙ (ap (without slot) is ∙ ap (λ (b : Bool). if b then [] else lease slot slot (x ∷ []) false ∷ []) (eq-eqb slot slot refl))

-- and nothing was added
module _ (t : TableId) (callers slot value : ℕ) (p q : Standing) (has : HasOnly t callers slot value p) (own : q.table ≡ p.table) (gone : q.view ≡ freed slot p.view) where
  pub ready_back : IsReady t callers q
  ready_back = record {
    table_is = own ∙ has.table_is;
    opening_is = ap (λ (z : View). z.opening) gone ∙ has.opening_is;
    callers_is = ap (λ (z : View). z.callers) gone ∙ has.callers_is;
    no_turn = nothing_left p.view q.view slot value has.turn gone;
  }

  pub goes_back : Goes p.view q.view
  goes_back = record {
    begins = ([], ap (λ (z : View). z.seen) gone ∙ sym (append-nil p.view.seen));
    number_is = ap (λ (z : View). z.number) gone;
    mine_is = ap (λ (z : View). z.mine) gone;
  }

-- an entry was added, and then the turn was given back
module _ (t : TableId) (callers slot amount value : ℕ) (p q : Standing) (has : HasOnly t callers slot value p) (own : q.table ≡ p.table)
    (c : Commits counters (λ (e : Entry). e ≡ sum_entry p.view.number slot amount) p.view q.view) where
  abbrev v : View
  v = p.view

  added_state : counters.after v.opening slot (value ∷ []) c.entry ≡ (value + amount) ∷ []
  added_state = ap (λ (e : Entry). counters.after v.opening slot (value ∷ []) e) c.passes ∙ ap (λ (b : Bool). if b then (value + amount) ∷ [] else value ∷ []) (eq-eqb slot slot refl)

  pub only_then : HasOnly t callers slot (value + amount) q
  only_then = record {
    table_is = own ∙ has.table_is;
    opening_is = ap (λ (z : View). z.opening) c.after ∙ has.opening_is;
    callers_is = ap (λ (z : View). z.callers) c.after ∙ has.callers_is;
    turn = ap (λ (z : View). z.leases) c.after ∙ (ap (λ (l : List Lease). map (moved (counters.after v.opening) c.entry) l) has.turn ∙ ap (λ (s : List ℕ). lease slot slot s false ∷ []) added_state);
  }

  state_then : state_of counters v.opening (c.history ++ c.entry ∷ []) slot ≡ (value + amount) ∷ []
  state_then = states_snoc (counters.after v.opening) (counters.start v.opening) c.history c.entry slot
      ∙ (ap (λ (s : List ℕ). counters.after v.opening slot s c.entry) (sym (c.finds.states 0 (lease slot slot (value ∷ []) false) (ap (λ (l : List Lease). get_elem? l 0) has.turn))) ∙ added_state)

  pub adds : (u : View) → u ≡ freed slot q.view → Adds slot amount (value + amount) v u
  adds u gone = let all : u ≡ freed slot (entered counters c.history c.entry v) = gone ∙ ap (freed slot) c.after in let seen : u.seen ≡ c.history ++ c.entry ∷ [] = ap (λ (z : View). z.seen) all in record {
    history = c.history;
    begins = c.finds.seen;
    seen_is = seen ∙ ap (λ (e : Entry). c.history ++ e ∷ []) c.passes;
    legal = subst (λ (x : List ℕ × List Entry). LegalOver counters x.0 x.1) (λ i. (has.opening_is i, sym seen i)) c.legal;
    value = (λ i. state_of counters (sym has.opening_is i) (seen i) slot) ∙ state_then;
    mine_is = ap (λ (z : View). z.mine) all ∙ ap (λ (e : Entry). v.mine ++ e ∷ []) c.passes;
    number_is = ap (λ (z : View). z.number) all;
  }

-- counters at 0
at_zeros : (n k : ℕ) → k < length {A = ℕ} (replicate n 0) → get_elem? (replicate {A = ℕ} n 0) k ≡ some 0
at_zeros zero k inside = absurd (omega arith)
at_zeros (suc n) zero inside = refl
at_zeros (suc n) (suc k) inside = at_zeros n k (omega arith)

pub zeros_stand : (n : ℕ) (l : List ℕ) → l ≡ replicate n 0 → (k : ℕ) → k < length l → (x : ℕ) × (get_elem? l k ≡ some x) × counters.stands x (counters.start [] k)
zeros_stand n l is k inside = (0, ap (λ (m : List ℕ). get_elem? m k) is ∙ at_zeros n k (subst (λ (m : List ℕ). k < length m) is inside), refl)

-- the opening of all passes is the same
pub one_opening : (t : TableId) (callers : ℕ) (ps : List Standing) → All (IsReady t callers) ps → opening_of ps ≡ []
one_opening t callers [] all = refl
one_opening t callers (p ∷ ps) all = (all 0 p (omega arith)).opening_is

pub all_idle : (t : TableId) (callers : ℕ) (ps : List Standing) → All (IsReady t callers) ps → All (λ (p : Standing). (p.table ≡ t) × IsIdle (opening_of ps) callers p.view) ps
all_idle t callers ps all k d inside = let r = all k d inside in (r.table_is, record { opening_is = r.opening_is ∙ sym (one_opening t callers ps all); callers_is = r.callers_is; no_turn = r.no_turn })
