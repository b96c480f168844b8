-- The turn of a node, taken for the node itself.
use Rattle.std.proofs.Common.{◌≡◌, ◌<◌, ℕ, List, [], ◌∷◌, length, Bool, true, false, nat_lt, arith, refl, sym, subst}
use Rattle.std.specs.Prelude.{if◌then◌else◌, Option}
use Rattle.atomic_table.proofs.Lists.{at_last}
use Rattle.turn_table.specs.declared.view.View.{View}
use Rattle.turn_table.specs.History.{state_of}
use Rattle.turn_table.specs.Views.{HasTurn, lease}
use Rattle.turn_table.specs.Calls.{MayPut, Takes}
use Rattle.turn_table.specs.Passes.{Standing}
use Rattle.tree_config.specs.Tree.{Tree}
use Rattle.tree_rules.specs.History.{has}
use Rattle.tree_rules.specs.Slots.{lineage, path, slot_count, with_source}
use Rattle.tree_rules.proofs.Near.{has_first}
use Rattle.shared_tree.specs.declared.machine.SlotValue.{SlotValue}
use Rattle.shared_tree.specs.Machine.{OnPath, tree_meaning}
use Rattle.shared_tree.specs.Passes.{SharedView, IsPassOf}
use Rattle.shared_tree.proofs.Idle.{nothing}

own_from : (p : Tree) (k : ℕ) (rest : List ℕ) → has (with_source p (k ∷ rest)) k ≡ true
own_from p k [] = has_first k _
own_from p k (m ∷ up) = has_first k (with_source p (m ∷ up))

own_path : (p : Tree) (k : ℕ) → has (path p k) k ≡ true
own_path p k = by (nat_lt k (length p.nodes)) where
  by : (b : Bool) → has (if b then with_source p (lineage p k) else k ∷ []) k ≡ true
  by true = own_from p k _
  by false = has_first k []

module _ (t : SharedView) (s : Standing) (is : IsPassOf t s) (k : ℕ) where
  pub on_own_path : OnPath s.view.opening k k
  on_own_path = record { f = is.f; o = is.o; opening_is = is.opening_is; on = own_path is.f.plan k }

  pub has_none : HasTurn s.view k → ⊥
  has_none u = nothing s.view.leases is.no_turn u.0 u.1 u.2

pub node_slot : (p : Tree) (slots k : ℕ) → slots ≡ slot_count p → k < length p.nodes → k < slots
node_slot p slots k e low = omega (arith, e, low)

-- what was taken may be put back as it is
pub may_return : {S : Type 0} (told : S → Option (List ℕ)) (faults : S → ℕ) (k : ℕ) (x : SlotValue S) (v w : View) → Takes (tree_meaning told faults) k k x v w
    → MayPut (tree_meaning told faults) k x w
may_return told faults k x v w m =
    let new = lease k k (state_of (tree_meaning told faults) v.opening m.history k) false in
    subst (λ (u : View). MayPut (tree_meaning told faults) k x u) (sym m.after) record {
      place = length v.leases;
      turn = new;
      listed = at_last v.leases new (length v.leases) refl;
      slot_is = refl;
      value = m.value;
    }
