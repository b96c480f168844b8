-- What is true of a pass and a row while a call is under way, and what the parts of a call hand one another. No public contract cites it.
-- This project's own.
use Rattle.std.specs.Prelude.{◌≡◌, ◌≢◌, ◌<◌, ◌≤◌, ◌+◌, ◌⊎◌, ℕ, List, [], ◌∷◌, ◌++◌, length, true, Option, IsSome}
use mathlib.Core.Option.{some}
use lib.ListN.{get_elem?}
use Rattle.entropy_source.specs.Views.{SourceView}
use Rattle.turn_table.specs.declared.view.View.{View}
use Rattle.turn_table.specs.declared.view.Lease.{Lease}
use Rattle.turn_table.specs.declared.view.Met.{Met}
use Rattle.turn_table.specs.History.{of_caller, Begins, LegalOver}
use Rattle.turn_table.specs.Views.{turn_word, state_in, HasTurn}
use Rattle.turn_table.specs.Calls.{MayCommit, Commits, Takes}
use Rattle.tree_config.specs.Tree.{Tree}
use Rattle.tree_rules.specs.declared.call.Call.{Call}
use Rattle.tree_rules.specs.declared.reply.Reply.{Reply}
use Rattle.tree_rules.specs.History.{Distinct, Entry, Opening, States, has}
use Rattle.tree_rules.specs.Slots.{path, slot_count}
use Rattle.tree_rules.specs.Chain.{slots_of}
use Rattle.tree_rules.specs.Replies.{chain_of}
use Rattle.tree_rules.specs.Openings.{IsOpening, IsHistory, states_behind}
use Rattle.tree_rules.specs.Codes.{entry_list}
use Rattle.tree_rules.specs.Stands.{SlotView, StandsAt, StandsFor}
use Rattle.tree_rules.specs.Table.{opening_list, after_entry, Tells}
use Rattle.tree_acts.specs.Hold.{Hold, IsHeld, IsOfPlan, FewCounts, states_held}
use Rattle.tree_core.specs.Names.{AreStates, IsFirstMissing}
use Rattle.shared_tree.specs.declared.busy.Busy.{Busy}
use Rattle.shared_tree.specs.declared.machine.SlotValue.{SlotValue}
use Rattle.shared_tree.specs.Machine.{tree_meaning}
use Rattle.shared_tree.specs.Rows.{IsAt}
use Rattle.shared_tree.specs.Answers.{GrowsAmong, IsBehind, IsSame, lists_of}

module _ {S : Type 0} (told : S → Option (List ℕ)) (faults : S → ℕ) where
  -- the value of each lease is in the row, and stands for the lease's state
  abbrev pub Listed : Opening → List Entry → Hold (SourceView S) → View → Type 0
  Listed f o h v = (i : ℕ) (t : Lease) → get_elem? v.leases i ≡ some t → (x : SlotView S) × IsAt h t.slot x × StandsAt told faults f o t.slot t.state x

  -- A call under way: the pass has the turns of just those slots that the row holds, all of them on the path of the target t. The row has room
  -- for so many nodes more, and `taken` are the nodes that it holds.
  pub record Carrying (p : Tree) (t : ℕ) (h : Hold (SourceView S)) (room slots : ℕ) (v : View) : Type 0 where
    pub f : Opening
    pub o : List Entry
    pub opening_is : v.opening ≡ opening_list f o
    pub plan_is : f.plan ≡ p
    pub is_opening : IsOpening f o
    pub slots_are : slots ≡ slot_count p
    pub own : v.mine ≡ of_caller v.number v.seen
    pub plan : IsOfPlan p h
    pub listed : Listed f o h v
    pub held : (k : ℕ) → IsHeld h k → HasTurn v k
    pub first : (i : ℕ) (t : Lease) → get_elem? v.leases i ≡ some t → state_in v.leases t.slot ≡ t.state
    pub few : FewCounts h
    pub on_path : (k : ℕ) → IsHeld h k → has (path p t) k ≡ true
    pub taken : List ℕ
    pub distinct : Distinct taken
    pub are_nodes : (k : ℕ) → has taken k ≡ true → IsSome (h.nodes k)
    pub counted : length taken + room ≡ 8

  -- afterwards the pass has the turns that it had, and the row has the values that stand for their states
  pub record Keeps (h : Hold (SourceView S)) (v w : View) : Type 0 where
    pub f : Opening
    pub o : List Entry
    pub opening_is : w.opening ≡ opening_list f o
    pub listed : Listed f o h w
    pub stay : (k : ℕ) → HasTurn v k → HasTurn w k
    pub back : (k : ℕ) → HasTurn w k → HasTurn v k
    pub same : IsSame v w

  -- the test of a commit: the list is an entry of this caller's call with this reply and these bytes, and what the row holds now at each slot
  -- whose turn the pass has is in the state that the slot's list tells after it
  pub record Marks (h : Hold (SourceView S)) (c : Call) (string : List ℕ) (reply : Reply) (bytes : List ℕ) (v : View) (e : List ℕ) : Type 0 where
    pub f : Opening
    pub o : List Entry
    pub opening_is : v.opening ≡ opening_list f o
    pub entry : Entry
    pub entry_is : e ≡ entry_list entry
    pub caller_is : entry.caller ≡ v.number
    pub call_is : entry.call ≡ c
    pub string_is : entry.string ≡ string
    pub reply_is : entry.reply ≡ reply
    pub bytes_are : entry.bytes ≡ bytes
    pub puts : (k : ℕ) → HasTurn v k → Tells f o k (after_entry v.opening k (state_in v.leases k) e) (states_held told faults h k)

  abbrev pub MaySettle : Hold (SourceView S) → Call → List ℕ → Reply → List ℕ → View → Type 0
  MaySettle h c string reply bytes v = MayCommit (tree_meaning told faults) (Marks h c string reply bytes v) v

  abbrev pub Settles : Hold (SourceView S) → Call → List ℕ → Reply → List ℕ → View → View → Type 0
  Settles h c string reply bytes v w = Commits (tree_meaning told faults) (Marks h c string reply bytes v) v w

  -- in all states that agree with what is held, k is the first slot of the chain that is not
  abbrev pub IsNext : Tree → Hold (SourceView S) → Call → List ℕ → ℕ → Type 0
  IsNext p h c string k = (s : States) → AreStates told faults h s → IsFirstMissing h k (slots_of (chain_of p s c string))

  -- the pass has the turn of the slot, and the slot's value in the row stands for its state
  pub record IsAbleToLeave (h : Hold (SourceView S)) (k : ℕ) (v : View) : Type 0 where
    pub place : ℕ
    pub turn : Lease
    pub listed : get_elem? v.leases place ≡ some turn
    pub slot_is : turn.slot ≡ k
    pub value : SlotView S
    pub at : IsAt h k value
    pub stands : StandsFor told faults value turn.state

-- the call was made: one entry more stands behind all that was there
pub record Makes {S : Type 0} (told : S → Option (List ℕ)) (faults : S → ℕ) (c : Call) (string : List ℕ) (reply : Reply) (bytes : List ℕ) (v w : View) : Type 0 where
  pub before : List (List ℕ)
  pub entry : Entry
  pub seen_is : w.seen ≡ before ++ entry_list entry ∷ []
  pub mine_is : w.mine ≡ v.mine ++ entry_list entry ∷ []
  pub begins : Begins v.seen before
  pub own : v.mine ≡ of_caller v.number before
  pub legal : LegalOver (tree_meaning told faults) v.opening (before ++ entry_list entry ∷ [])
  pub caller_is : entry.caller ≡ v.number
  pub call_is : entry.call ≡ c
  pub string_is : entry.string ≡ string
  pub reply_is : entry.reply ≡ reply
  pub bytes_are : entry.bytes ≡ bytes

-- the pass took the turn of the slot k, and of no other
pub record Reaches (k : ℕ) (v w : View) : Type 0 where
  pub begins : Begins v.seen w.seen
  pub mine_is : w.mine ≡ v.mine
  pub same : IsSame v w
  pub has : HasTurn w k
  pub stay : (j : ℕ) → HasTurn v j → HasTurn w j
  pub back : (j : ℕ) → HasTurn w j → (j ≡ k) ⊎ HasTurn v j
  pub new : HasTurn v k → ⊥

-- the call found the turn of a slot of its chain held, after all that the pass has seen by then
pub record Meets (p : Tree) (t : ℕ) (c : Call) (string : List ℕ) (busy : Busy) (v w : View) : Type 0 where
  pub f : Opening
  pub o : List Entry
  pub entries : List Entry
  pub item : Met
  pub opening_is : v.opening ≡ opening_list f o
  pub plan_is : f.plan ≡ p
  pub seen_is : w.seen ≡ lists_of entries
  pub history : IsHistory f o entries
  pub begins : Begins v.seen w.seen
  pub own : v.mine ≡ of_caller v.number w.seen
  pub mine_is : w.mine ≡ v.mine
  pub met_is : w.met ≡ v.met ++ item ∷ []
  pub slot_is : item.slot ≡ busy.slot
  pub word_is : item.word ≡ turn_word busy.target busy.holder
  pub at_is : item.at ≡ length w.seen
  pub holder_low : 0 < busy.holder
  pub holder_high : busy.holder ≤ v.callers
  pub another : busy.holder ≢ v.number
  pub chain : IsBehind item.held busy.slot (slots_of (chain_of p (states_behind f o entries) c string))
  pub on_path : has (path p t) busy.slot ≡ true
  pub on_target : has (path p busy.target) busy.slot ≡ true

-- the pass has seen more, has the turns that it had, and has met the slot k alone
pub record Stays (k : ℕ) (v w : View) : Type 0 where
  pub begins : Begins v.seen w.seen
  pub mine_is : w.mine ≡ v.mine
  pub leases_are : w.leases ≡ v.leases
  pub taken_is : w.taken ≡ v.taken
  pub own : v.mine ≡ of_caller v.number v.seen → w.mine ≡ of_caller w.number w.seen
  pub same : IsSame v w
  pub met : GrowsAmong (k ∷ []) v.met w.met

-- after a while the turn was taken
pub record TakesLater {S : Type 0} (told : S → Option (List ℕ)) (faults : S → ℕ) (k target : ℕ) (x : SlotValue S) (v w : View) : Type 0 where
  pub between : View
  pub stays : Stays k v between
  pub takes : Takes (tree_meaning told faults) k target x between w
