-- What a call on a shared tree comes to: an answer, with one entry of the one history, or that a turn was found held.
-- This project's own.
use Rattle.std.specs.Prelude.{◌≡◌, ◌≢◌, ◌<◌, ◌≤◌, ◌⊎◌, ℕ, List, [], ◌∷◌, ◌++◌, map, length, true, All}
use Rattle.turn_table.specs.declared.view.View.{View}
use Rattle.turn_table.specs.declared.view.Met.{Met}
use Rattle.turn_table.specs.declared.view.Taken.{Taken}
use Rattle.turn_table.specs.History.{of_caller}
use Rattle.turn_table.specs.Views.{turn_word}
use Rattle.tree_config.specs.Tree.{Tree}
use Rattle.tree_rules.specs.declared.call.Call.{Call}
use Rattle.tree_rules.specs.declared.reply.Reply.{Reply}
use Rattle.tree_rules.specs.History.{Entry, Opening, has, opened}
use Rattle.tree_rules.specs.Slots.{path}
use Rattle.tree_rules.specs.Chain.{slots_of, target}
use Rattle.tree_rules.specs.Replies.{chain_of}
use Rattle.tree_rules.specs.Right.{AreRight}
use Rattle.tree_rules.specs.Openings.{IsHistory, states_behind}
use Rattle.tree_rules.specs.Apart.{Apart}
use Rattle.tree_rules.specs.Quiet.{Quiet}
use Rattle.tree_rules.specs.Codes.{entry_list}
use Rattle.tree_rules.specs.Table.{opening_list}
use Rattle.tree_core.specs.Reasons.{HasReason}
use Rattle.shared_tree.specs.declared.busy.Busy.{Busy}

-- entries as the table of turns has them
abbrev pub lists_of : List Entry → List (List ℕ)
lists_of es = map (λ (e : Entry). entry_list e) es

-- the same caller's pass, of the same tree
pub record IsSame (v w : View) : Type 0 where
  pub number_is : w.number ≡ v.number
  pub opening_is : w.opening ≡ v.opening
  pub callers_is : w.callers ≡ v.callers

-- what was seen grew by entries of others than this caller alone
pub record GrowsByOthers (number : ℕ) (before after : List (List ℕ)) : Type 0 where
  pub others : List (List ℕ)
  pub grows : after ≡ before ++ others
  pub none_own : of_caller number others ≡ []

-- what was met grew by turns that were found held, each of a slot among these
pub record GrowsAmong (slots : List ℕ) (before after : List Met) : Type 0 where
  pub items : List Met
  pub grows : after ≡ before ++ items
  pub among : All (λ (x : Met). has slots x.slot ≡ true) items

-- the turns that were taken grew by turns of slots on the target's path, each of them taken for this target
pub record TakesFor (p : Tree) (t : ℕ) (before after : List Taken) : Type 0 where
  pub turns : List Taken
  pub grows : after ≡ before ++ turns
  pub each : All (λ (x : Taken). (has (path p t) x.slot ≡ true) × (x.target ≡ t)) turns

-- The entries behind the opening calls are one legal history: with the opening calls at the front each is right after those before it, no
-- sample is used twice, and a source is quiet after an alarm.
pub record IsWhole (f : Opening) (o h : List Entry) : Type 0 where
  pub history : IsHistory f o h
  pub right : AreRight f [] (o ++ h)
  pub apart : Apart f.plan (o ++ h)
  pub quiet : Quiet f.plan (opened f) (o ++ h)

-- The call was made and answered with this reply and these bytes. What the pass had seen grew by entries of others and then by the call's one
-- entry, and its own entries by that one. All that it has seen is one legal history, and the reply has its reason in the states that all
-- entries before it leave.
pub record IsAnswered (p : Tree) (c : Call) (string : List ℕ) (reply : Reply) (bytes : List ℕ) (v w : View) : Type 0 where
  pub f : Opening
  pub o : List Entry
  pub before : List Entry
  pub entry : Entry
  pub opening_is : v.opening ≡ opening_list f o
  pub plan_is : f.plan ≡ p
  pub caller_is : entry.caller ≡ v.number
  pub call_is : entry.call ≡ c
  pub string_is : entry.string ≡ string
  pub reply_is : entry.reply ≡ reply
  pub bytes_are : entry.bytes ≡ bytes
  pub others : GrowsByOthers v.number v.seen (lists_of before)
  pub seen_is : w.seen ≡ lists_of (before ++ entry ∷ [])
  pub mine_is : w.mine ≡ v.mine ++ entry_list entry ∷ []
  pub whole : IsWhole f o (before ++ entry ∷ [])
  pub reason : HasReason f.plan (states_behind f o before) entry

-- the slot stands in the list, and each slot before it is among these
abbrev pub IsBehind : List ℕ → ℕ → List ℕ → Type 0
IsBehind held k [] = ⊥
IsBehind held k (x ∷ xs) = (x ≡ k) ⊎ ((has held x ≡ true) × IsBehind held k xs)

-- The call was not made, for one of its steps found a turn held. The pass has seen entries of others since, and has none of its own more. The
-- last item that it met has the slot, and the word of another caller and a target. After all that was seen by then the call's chain holds the
-- slot, and the pass had the turn of each slot of the chain before it. The slot lies on the path of the call's target and on that of the other.
pub record IsBusy (p : Tree) (c : Call) (string : List ℕ) (busy : Busy) (v w : View) : Type 0 where
  pub f : Opening
  pub o : List Entry
  pub entries : List Entry
  pub item : Met
  pub opening_is : v.opening ≡ opening_list f o
  pub plan_is : f.plan ≡ p
  pub seen_is : w.seen ≡ lists_of entries
  pub whole : IsWhole f o entries
  pub others : GrowsByOthers v.number v.seen w.seen
  pub mine_is : w.mine ≡ v.mine
  pub met_is : w.met ≡ v.met ++ item ∷ []
  pub slot_is : item.slot ≡ busy.slot
  pub word_is : item.word ≡ turn_word busy.target busy.holder
  pub at_is : item.at ≡ length w.seen
  pub holder_low : 0 < busy.holder
  pub holder_high : busy.holder ≤ v.callers
  pub another : busy.holder ≢ v.number
  pub chain : IsBehind item.held busy.slot (slots_of (chain_of p (states_behind f o entries) c string))
  pub on_path : has (path p (target p c)) busy.slot ≡ true
  pub on_target : has (path p busy.target) busy.slot ≡ true
