-- The tree as a machine of the turn table: what its openings, entries, states and values mean there.
-- This project's own.
use Rattle.std.specs.Prelude.{◌≡◌, ℕ, List, Option, true}
use Rattle.turn_table.specs.Meaning.{Meaning, ReadsTouched, LeavesOthers}
use Rattle.tree_rules.specs.History.{Entry, Opening, has}
use Rattle.tree_rules.specs.Openings.{IsOpening}
use Rattle.tree_rules.specs.Slots.{path}
use Rattle.tree_rules.specs.Stands.{SlotView, NodeAt, SourceAt, StandsFor}
use Rattle.tree_rules.specs.Table.{opening_list, start, touches, after_entry, FitsLists}
use Rattle.tree_rules.proofs.Listing.{near_lists, leaves_lists}
use Rattle.shared_tree.specs.declared.machine.SlotValue.{SlotValue}
use Rattle.shared_tree.specs.declared.machine.SlotValue.TheVariants.{Node, Source}

-- the list is that of what a tree is opened over, with the entries of its opening calls
pub record IsLegal (l : List ℕ) : Type 0 where
  pub f : Opening
  pub o : List Entry
  pub opening_is : l ≡ opening_list f o
  pub is_opening : IsOpening f o

-- by the plan of an opening, a slot lies on the path of another
pub record OnPath (l : List ℕ) (slot target : ℕ) : Type 0 where
  pub f : Opening
  pub o : List Entry
  pub opening_is : l ≡ opening_list f o
  pub on : has (path f.plan target) slot ≡ true

-- what lies in a slot
abbrev pub slot_view : {S : Type 0} → SlotValue S → SlotView S
slot_view (Node v) = NodeAt v
slot_view (Source v) = SourceAt v

-- The list of a slot has all entries that touched it, and a value stands for it that is in the state which these leave.
abbrev pub tree_meaning : {S : Type 0} → (S → Option (List ℕ)) → (S → ℕ) → Meaning (SlotValue S)
tree_meaning told faults = record {
  legal = IsLegal;
  start = start;
  path = OnPath;
  touches = touches;
  fits = FitsLists;
  after = after_entry;
  stands = λ x s. StandsFor told faults (slot_view x) s;
}

pub reads_touched : {S : Type 0} (told : S → Option (List ℕ)) (faults : S → ℕ) → ReadsTouched (tree_meaning told faults)
reads_touched told faults = near_lists

pub leaves_others : {S : Type 0} (told : S → Option (List ℕ)) (faults : S → ℕ) → LeavesOthers (tree_meaning told faults)
leaves_others told faults = leaves_lists
