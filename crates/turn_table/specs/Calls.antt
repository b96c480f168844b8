-- What the calls of a pass need and tell.
-- This project's own.
use Rattle.std.specs.Prelude.{◌≡◌, ◌≢◌, ℕ, ◌<◌, ◌≤◌, List, [], ◌∷◌, ◌++◌, length, true}
use mathlib.Core.Option.{some}
use lib.ListN.{get_elem?}
use Rattle.turn_table.specs.declared.view.View.{View}
use Rattle.turn_table.specs.declared.view.Lease.{Lease}
use Rattle.turn_table.specs.Meaning.{Meaning}
use Rattle.turn_table.specs.History.{Entry, caller_of, of_caller, Begins, state_of, LegalOver}
use Rattle.turn_table.specs.Views.{turn_word, with_seen, met_at, state_in, HasTurn, took, entered}

module _ {V : Type 0} (M : Meaning V) where
  -- this is the whole history, as a step of the pass finds it: all that the pass has seen begins it, its own entries are all that it has of
  -- its number, and its leases list the states after it
  pub record Finds (v : View) (h : List Entry) : Type 0 where
    pub legal : LegalOver M v.opening h
    pub seen : Begins v.seen h
    pub mine : v.mine ≡ of_caller v.number h
    pub states : (i : ℕ) (t : Lease) → get_elem? v.leases i ≡ some t → t.state ≡ state_of M v.opening h t.slot
    pub few : length h ≤ 70368744177664

  -- the history was seen
  pub record Looks (v w : View) : Type 0 where
    pub history : List Entry
    pub finds : Finds v history
    pub after : w ≡ with_seen history v

  -- the turn of the slot was taken for the target, with a value that stands for the slot's state after the history
  pub record Takes (slot target : ℕ) (x : V) (v w : View) : Type 0 where
    pub history : List Entry
    pub finds : Finds v history
    pub value : M.stands x (state_of M v.opening history slot)
    pub after : w ≡ took M history slot target v

  -- the turn of the slot was found held, by another caller, for a target on whose path the slot lies
  pub record Meets (slot target holder : ℕ) (v w : View) : Type 0 where
    pub history : List Entry
    pub finds : Finds v history
    pub drawn : (0 < holder) × (holder ≤ v.callers)
    pub another : holder ≢ v.number
    pub on_path : M.path v.opening slot target
    pub after : w ≡ met_at history slot (turn_word target holder) v

  -- there is an entry that passes the test, bears the pass's number, touches slots whose turns the pass has, and fits their states
  pub record MayCommit (test : Entry → Type 0) (v : View) : Type 0 where
    pub entry : Entry
    pub passes : test entry
    pub by : caller_of entry ≡ v.number
    pub has_turns : (k : ℕ) → M.touches entry k ≡ true → HasTurn v k
    pub fits : M.fits v.opening (state_in v.leases) entry

  -- an entry that passes the test was added behind the whole history
  pub record Commits (test : Entry → Type 0) (v w : View) : Type 0 where
    pub history : List Entry
    pub entry : Entry
    pub finds : Finds v history
    pub passes : test entry
    pub by : caller_of entry ≡ v.number
    pub legal : LegalOver M v.opening (history ++ entry ∷ [])
    pub after : w ≡ entered M history entry v

  -- the pass has the turn of the slot, and the value stands for the state that its lease lists
  pub record MayPut (slot : ℕ) (x : V) (v : View) : Type 0 where
    pub place : ℕ
    pub turn : Lease
    pub listed : get_elem? v.leases place ≡ some turn
    pub slot_is : turn.slot ≡ slot
    pub value : M.stands x turn.state

-- a pass has gone on seeing, and nothing else of it changed
pub record SeesOn (v w : View) : Type 0 where
  pub begins : Begins v.seen w.seen
  pub after : w ≡ with_seen w.seen v
