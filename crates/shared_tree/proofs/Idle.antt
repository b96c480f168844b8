-- A call begins with nothing held, and ends so.
use Rattle.std.proofs.Common.{◌≡◌, ℕ, List, [], ◌∷◌, ◌++◌, refl, sym, ap, ◌∙◌, subst, arith, true≢false, ⊎_elim}
use Rattle.std.specs.Prelude.{Option, None, Result, Ok, Err, IfOk, IfErr}
use mathlib.Core.Option.{some, some-ne-none}
use lib.ListN.{get_elem?}
use Rattle.entropy_source.specs.Views.{SourceView}
use Rattle.turn_table.specs.declared.view.View.{View}
use Rattle.turn_table.specs.declared.view.Lease.{Lease}
use Rattle.turn_table.specs.History.{of_caller, caller_of}
use Rattle.turn_table.specs.Passes.{Standing}
use Rattle.turn_table.proofs.Lists.{of_snoc}
use Rattle.tree_config.specs.Tree.{Tree}
use Rattle.tree_rules.specs.declared.call.Call.{Call}
use Rattle.tree_rules.specs.declared.reply.Reply.{Reply}
use Rattle.tree_rules.specs.Slots.{slot_count}
use Rattle.tree_rules.specs.Codes.{entry_list}
use Rattle.tree_acts.specs.Hold.{Hold, IsHeld}
use Rattle.shared_tree.specs.declared.busy.Busy.{Busy}
use Rattle.shared_tree.specs.declared.row.Row.{Row}
use Rattle.shared_tree.specs.Passes.{SharedView, IsPassOf}
use Rattle.shared_tree.specs.Rows.{nodes_of, sources_of, what_of, room_of}
use Rattle.shared_tree.specs.Answers.{IsSame}
use Rattle.shared_tree.specs.Carries.{Carrying, Keeps, Makes, Meets}
use Rattle.shared_tree.proofs.Maps.{none_isnt, is_some_of}

pub nothing : (ts : List Lease) → ts ≡ [] → (i : ℕ) (t : Lease) → get_elem? ts i ≡ some t → ⊥
nothing ts e i t at = some-ne-none t (sym (subst (λ (l : List Lease). get_elem? l i ≡ some t) e at))

none_held : (ts : List Lease) → ((i : ℕ) (t : Lease) → get_elem? ts i ≡ some t → ⊥) → ts ≡ []
none_held [] no_one = refl
none_held (t ∷ ts) no_one = absurd (no_one 0 t refl)

module _ {S : Type 0} (told : S → Option (List ℕ)) (faults : S → ℕ) (tree : SharedView) (s : Standing) (is : IsPassOf tree s) where
  -- an idle pass and an empty row
  pub begins_idle : (r : Row S) (t slots : ℕ) → slots ≡ slot_count tree.plan → ((k : ℕ) → nodes_of r k ≡ None) → ((k : ℕ) → sources_of r k ≡ None) → room_of r ≡ 8
      → Carrying told faults tree.plan t (what_of r) (room_of r) slots s.view
  begins_idle r t slots count nodes sources room = record {
    f = is.f;
    o = is.o;
    opening_is = is.opening_is;
    plan_is = is.plan_is;
    is_opening = is.is_opening;
    slots_are = count;
    own = is.own;
    plan = record {
      node = λ k v at. absurd (none_isnt (nodes_of r k) (nodes k) (is_some_of (nodes_of r k) v at));
      source = λ k v at. absurd (none_isnt (sources_of r k) (sources k) (is_some_of (sources_of r k) v at));
    };
    listed = λ i l at. absurd (nothing s.view.leases is.no_turn i l at);
    held = λ k h. absurd (unheld k h);
    first = λ i l at. absurd (nothing s.view.leases is.no_turn i l at);
    few = λ k v at. absurd (none_isnt (nodes_of r k) (nodes k) (is_some_of (nodes_of r k) v at));
    on_path = λ k h. absurd (unheld k h);
    taken = [];
    distinct = tt;
    are_nodes = λ k h. absurd (true≢false (sym h));
    counted = omega (arith, room);
  } where
    unheld : (k : ℕ) → IsHeld (what_of r) k → ⊥
    unheld k h = ⊎_elim (λ a. none_isnt (nodes_of r k) (nodes k) a) (λ a. none_isnt (sources_of r k) (sources k) a) h

  -- afterwards the pass is idle again
  pub ends_idle : (w : Standing) (h : Hold (SourceView S)) → w.table ≡ s.table → Keeps told faults h s.view w.view → w.view.mine ≡ of_caller w.view.number w.view.seen → IsPassOf tree w
  ends_idle w h own ke sees = record {
    f = is.f;
    o = is.o;
    table_is = own ∙ is.table_is;
    opening_is = ke.same.opening_is ∙ is.opening_is;
    plan_is = is.plan_is;
    is_opening = is.is_opening;
    callers_is = ke.same.callers_is ∙ is.callers_is;
    own = sees;
    no_turn = none_held w.view.leases (λ i t at. let b = ke.back t.slot (i, t, at, refl) in nothing s.view.leases is.no_turn b.0 b.1 b.2);
  }

module _ {S : Type 0} (told : S → Option (List ℕ)) (faults : S → ℕ) where
  pub makes_own : (c : Call) (string : List ℕ) (reply : Reply) (bytes : List ℕ) (v w : View) → IsSame v w → Makes told faults c string reply bytes v w → w.mine ≡ of_caller w.number w.seen
  makes_own c string reply bytes v w same m =
      let caller : caller_of (entry_list m.entry) ≡ v.number = m.caller_is in
      let a : of_caller v.number (m.before ++ entry_list m.entry ∷ []) ≡ of_caller v.number m.before ++ entry_list m.entry ∷ [] = of_snoc v.number m.before (entry_list m.entry) caller in
      m.mine_is ∙ (ap (λ (l : List (List ℕ)). l ++ entry_list m.entry ∷ []) m.own ∙ (sym a ∙ (λ i. of_caller (sym same.number_is i) (sym m.seen_is i))))

  pub sees_own : (p : Tree) (t : ℕ) (c : Call) (string : List ℕ) (bytes : Reply → List ℕ) (v w : View) (r : Result Reply Busy) → IsSame v w
      → IfOk r (λ x. Makes told faults c string x (bytes x) v w) → IfErr r (λ b. Meets p t c string b v w) → w.mine ≡ of_caller w.number w.seen
  sees_own p t c string bytes v w (Ok x) same made busy = makes_own c string x (bytes x) v w same made
  sees_own p t c string bytes v w (Err b) same made busy = busy.mine_is ∙ (busy.own ∙ ap (λ (n : ℕ). of_caller n w.seen) (sym same.number_is))
