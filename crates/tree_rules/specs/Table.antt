-- The tree as a table of turns sees it: openings, entries and the states of slots are lists of numbers.
-- The list of a slot is the entries that touched it, each written out, the last one first, in front of the slot and the opening.
-- This project's own.
use Rattle.std.specs.Prelude.{◌≡◌, ℕ, suc, List, [], ◌∷◌, map, ◌==◌, ◌||◌, if◌then◌else◌, Bool, true, false}
use Rattle.tree_config.specs.Tree.{Tree}
use Rattle.tree_rules.specs.History.{Entry, Opening, States, SlotState, has, after, opened, states_after}
use Rattle.tree_rules.specs.Codes as codes
use Rattle.tree_rules.specs.Codes.{numbers, list_of, entry_list}
use Rattle.tree_rules.specs.Fits.{Fits, Legal}

-- an opening with the entries of its opening calls
abbrev pub opening_list : Opening → List Entry → List ℕ
opening_list f o = codes.opening f (list_of codes.entry o [])

-- the list of slots that stands at the front has this one
abbrev pub has_at_front : List ℕ → ℕ → Bool
has_at_front (suc _ ∷ x ∷ rest) k = (x == k) || has_at_front rest k
has_at_front _ k = false

-- the entry of this list touches a slot: its caller comes first, and then its chain
abbrev pub touches : List ℕ → ℕ → Bool
touches [] k = false
touches (caller ∷ rest) k = has_at_front rest k

-- the list of a slot when the tree was opened, and after an entry
abbrev pub start : List ℕ → ℕ → List ℕ
start o k = 0 ∷ k ∷ o

abbrev pub after_entry : List ℕ → ℕ → List ℕ → List ℕ → List ℕ
after_entry o k s e = if touches e k then 1 ∷ numbers e s else s

-- the list of a slot by the entries that touched it, the last one first
abbrev pub slot_list : ℕ → List ℕ → List Entry → List ℕ
slot_list k o [] = start o k
slot_list k o (e ∷ es) = 1 ∷ numbers (entry_list e) (slot_list k o es)

-- the state that they leave
abbrev pub slot_state : Tree → ℕ → SlotState → List Entry → SlotState
slot_state p k x [] = x
slot_state p k x (e ∷ es) = after p k (slot_state p k x es) e

-- the list of a slot tells this state
pub record Tells (f : Opening) (o : List Entry) (k : ℕ) (s : List ℕ) (x : SlotState) : Type 0 where
  pub touched : List Entry
  pub list_is : s ≡ slot_list k (opening_list f o) touched
  pub state_is : x ≡ slot_state f.plan k (states_after f.plan (opened f) o k) touched

-- an entry fits the lists of the slots that it touches
pub record FitsLists (o : List ℕ) (s : ℕ → List ℕ) (e : List ℕ) : Type 0 where
  pub opening : Opening
  pub calls : List Entry
  pub entry : Entry
  pub states : States
  pub opening_is : o ≡ opening_list opening calls
  pub entry_is : e ≡ entry_list entry
  pub fits : Fits opening.plan states entry
  pub told : (k : ℕ) → has entry.chain k ≡ true → Tells opening calls k (s k) (states k)

-- the lists of all slots after entries in a row, and such entries, each of which fits the lists that those before it leave
abbrev pub lists_after : List ℕ → (ℕ → List ℕ) → List (List ℕ) → ℕ → List ℕ
lists_after o s [] = s
lists_after o s (e ∷ es) = lists_after o (λ k. after_entry o k (s k) e) es

abbrev pub LegalLists : List ℕ → (ℕ → List ℕ) → List (List ℕ) → Type 0
LegalLists o s [] = Unit {0}
LegalLists o s (e ∷ es) = FitsLists o s e × LegalLists o (λ k. after_entry o k (s k) e) es

-- a history of lists is that of entries, which is legal in these states; and the lists of the slots tell the states after it
pub record Reads (f : Opening) (o : List Entry) (s : ℕ → List ℕ) (t : States) (h : List (List ℕ)) : Type 0 where
  pub entries : List Entry
  pub are : h ≡ map (λ e. entry_list e) entries
  pub legal : Legal f.plan t entries
  pub tell : (k : ℕ) → Tells f o k (lists_after (opening_list f o) s h k) (states_after f.plan t entries k)
