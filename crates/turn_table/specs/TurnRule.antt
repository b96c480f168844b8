-- The rule of turns: what holds of a table's words, slots and passes between any two steps.
-- This project's own.
-- Word 0 counts the entries, and word 1 the callers' numbers that were drawn. Word 8 + 8 * slot is the turn of the slot: 0 where it is free,
-- else 1 + target + 65,536 * number, where the caller with that number has it for that target. The words between are not used: so no two
-- turns lie in one line of a processor's cache.
use Rattle.std.specs.Prelude.{◌≡◌, ℕ, zero, suc, ◌+◌, ◌*◌, ◌<◌, ◌≤◌, ◌==◌, ◌⊎◌, List, [], ◌∷◌, ◌++◌, map, length, slice_index, true, false, if◌then◌else◌}
use mathlib.Core.Option.{some}
use mathlib.Core.Option as known
use lib.ListN.{get_elem?}
use Rattle.std.specs.declared.option.Option.{Option}
use Rattle.std.specs.declared.option.Option.TheVariants.{None, Some}
use Rattle.atomic_table.specs.Table.{State}
use Rattle.turn_table.specs.declared.view.View.{View}
use Rattle.turn_table.specs.declared.view.Lease.{Lease}
use Rattle.turn_table.specs.declared.view.Ended.{Ended}
use Rattle.turn_table.specs.declared.view.Before.{Before}
use Rattle.turn_table.specs.Meaning.{Meaning}
use Rattle.turn_table.specs.History.{Entry, caller_of, of_caller, Begins, state_of, LegalOver}
use Rattle.turn_table.specs.Views.{turn_word}

-- a number of each view, added up
abbrev pub total : (View → ℕ) → List View → ℕ
total f [] = 0
total f (v ∷ vs) = f v + total f vs

-- how often a number stands in a list
abbrev pub times : ℕ → List ℕ → ℕ
times x [] = 0
times x (y ∷ ys) = (if y == x then 1 else 0) + times x ys

-- 1 for each of the numbers 1 to n, and 0 for all others
abbrev pub once_to : ℕ → ℕ → ℕ
once_to x zero = 0
once_to x (suc n) = (if suc n == x then 1 else 0) + once_to x n

-- the number that was drawn; 0 is none
abbrev pub own_number : ℕ → List ℕ
own_number zero = []
own_number (suc n) = suc n ∷ []

abbrev pub number_of_ended : Ended → ℕ
number_of_ended x = x.number

-- the numbers of a view: its own, and those of the callers that ended in it. A spent view has none
abbrev pub numbers : View → List ℕ
numbers v = if v.live then own_number v.number ++ map number_of_ended v.ended else []

-- the numbers that a view may still draw, itself and by passes that it may cut off
abbrev pub undrawn : View → ℕ
undrawn v = if v.live then v.left + (if v.number == 0 then 1 else 0) else 0

abbrev pub made_by_ended : List Ended → ℕ
made_by_ended [] = 0
made_by_ended (x ∷ xs) = length x.entries + made_by_ended xs

-- the entries of a view: its own, and those of the callers that ended in it
abbrev pub made : View → ℕ
made v = if v.live then length v.mine + made_by_ended v.ended else 0

-- the slots of a table that are at home, with their values
abbrev pub Homes : Type 0 → Type 0
Homes V = List (known.Option (Option V))

module _ {V : Type 0} (M : Meaning V) where
  -- a lease of the caller with this number: the slot's word has it, and it lists the slot's state after the history
  pub record IsLeased (o : List ℕ) (h : List Entry) (words : List ℕ) (homes : Homes V) (number : ℕ) (t : Lease) : Type 0 where
    pub inside : t.slot < length homes
    pub target : t.target < 65536
    pub word : slice_index words (8 + 8 * t.slot) ≡ turn_word t.target number
    pub state_is : t.state ≡ state_of M o h t.slot
    pub on_path : M.path o t.slot t.target
    -- its place is empty, and away only within a call
    pub home : t.away ≡ false → get_elem? homes t.slot ≡ some (some None)

  -- what a view that is not spent says is so
  pub record Knows (o : List ℕ) (callers : ℕ) (h : List Entry) (words : List ℕ) (homes : Homes V) (v : View) : Type 0 where
    pub old : v.fresh ≡ false
    -- of clause 1
    pub opening_is : v.opening ≡ o
    pub callers_is : v.callers ≡ callers
    pub seen : Begins v.seen h
    pub olds : (i : ℕ) (x : Before) → get_elem? v.olds i ≡ some x → Begins x.one h × Begins x.other h
    -- of clause 3
    pub leases : (i : ℕ) (t : Lease) → get_elem? v.leases i ≡ some t → IsLeased o h words homes v.number t
    -- of clause 5
    pub mine : v.mine ≡ of_caller v.number h
    pub ended : (i : ℕ) (x : Ended) → get_elem? v.ended i ≡ some x → x.entries ≡ of_caller x.number h
    pub unnumbered : v.number ≡ 0 → v.leases ≡ []

  -- the turn of a slot is free: the slot is at home, and its value stands for its state after the history
  abbrev pub IsFree : List ℕ → List Entry → List ℕ → Homes V → ℕ → Type 0
  IsFree o h words homes k = (slice_index words (8 + 8 * k) ≡ 0) × ((x : V) × (get_elem? homes k ≡ some (some (Some x))) × M.stands x (state_of M o h k))

-- a view that is not spent lists the slot
abbrev pub IsListed : List View → ℕ → Type 0
IsListed views k = (j : ℕ) × (v : View) × (i : ℕ) × (t : Lease) × (get_elem? views j ≡ some v) × (v.live ≡ true) × (get_elem? v.leases i ≡ some t) × (t.slot ≡ k)

-- a view that is not spent has seen the whole history
abbrev pub IsSeen : List View → List Entry → Type 0
IsSeen views h = (j : ℕ) × (v : View) × (get_elem? views j ≡ some v) × (v.live ≡ true) × (v.seen ≡ h)

module _ {V : Type 0} (M : Meaning V) where
  -- Spent views are excepted throughout.
  pub record TurnRule (s : State (Option V) View) : Type 0 where
    pub opening : List ℕ
    pub callers : ℕ
    pub history : List Entry
    -- 1. All views have one opening and one number of callers. The history is the longest that a view has seen, and all that was seen begins
    -- it. It is legal over the opening, and word 0 is its length.
    pub knows : (j : ℕ) (v : View) → get_elem? s.views j ≡ some v → v.live ≡ true → Knows M opening callers history s.words s.homes v
    pub longest : IsSeen s.views history
    pub legal : LegalOver M opening history
    pub counted : slice_index s.words 0 ≡ length history
    pub few : callers ≤ 64
    -- 2. Where the turn of a slot is free, the slot is at home, and its value stands for its state.
    -- 3. Else a view lists it. The word of each slot that a view lists has that view's number and the lease's target, and the lease has the
    -- slot's state (`Knows`). So no two views list one slot, since their numbers differ by clause 4.
    pub wide : length s.words ≡ 8 + 8 * length s.homes
    pub turns : (k : ℕ) → k < length s.homes → IsFree M opening history s.words s.homes k ⊎ IsListed s.views k
    -- 4. Word 1 and what is not drawn yet add up to the number of callers. The numbers of all views and of all callers that ended
    -- differ, and are those from 1 to word 1.
    pub parts : total undrawn s.views + slice_index s.words 1 ≡ callers
    pub once : (n : ℕ) → total (λ v. times n (numbers v)) s.views ≡ once_to n (slice_index s.words 1)
    pub many : total (λ v. length (numbers v)) s.views ≡ slice_index s.words 1
    -- 5. A view has as its own the entries of its number, and so for each caller that ended (`Knows`): at most 2^40, and all together
    -- the whole history. Each entry bears a number that was drawn.
    pub bounded : (k : ℕ) → length (of_caller k history) ≤ 1099511627776
    pub shared_out : total made s.views ≡ length history
    pub drawn : (i : ℕ) (e : Entry) → get_elem? history i ≡ some e → (1 ≤ caller_of e) × (caller_of e ≤ slice_index s.words 1)
    -- no view waits for the opening any more
    pub opened : (j : ℕ) (v : View) → get_elem? s.views j ≡ some v → v.fresh ≡ false
