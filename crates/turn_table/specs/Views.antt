-- What a pass knows, and what each step makes of it.
-- This project's own.
use Rattle.std.specs.Prelude.{◌≡◌, ℕ, ◌+◌, ◌-◌, ◌*◌, ◌==◌, nat_lt, List, [], ◌∷◌, ◌++◌, map, length, Bool, true, false, if◌then◌else◌}
use mathlib.Core.Option.{some}
use lib.ListN.{get_elem?}
use Rattle.turn_table.specs.declared.view.View.{View}
use Rattle.turn_table.specs.declared.view.Lease.{Lease}
use Rattle.turn_table.specs.declared.view.Met.{Met}
use Rattle.turn_table.specs.declared.view.Taken.{Taken}
use Rattle.turn_table.specs.Meaning.{Meaning}
use Rattle.turn_table.specs.History.{Entry, state_of}

-- the word of a turn that is held: the target, and the number of the caller that has it
abbrev pub turn_word : ℕ → ℕ → ℕ
turn_word target number = (1 + target) + 65536 * number

-- of the first pass before the table is opened
abbrev pub blank : ℕ → View
blank callers = record { live = false; fresh = true; opening = []; callers = callers; number = 0; seen = []; mine = []; leases = []; taken = []; met = []; left = 0; ended = []; olds = [] }

-- what a pass that was taken in leaves behind
abbrev pub gone : View
gone = record { live = false; fresh = false; opening = []; callers = 0; number = 0; seen = []; mine = []; leases = []; taken = []; met = []; left = 0; ended = []; olds = [] }

-- of a pass that has drawn no number, from which so many may still be cut off
abbrev pub undealt : List ℕ → ℕ → ℕ → View
undealt o callers left = record { live = true; fresh = false; opening = o; callers = callers; number = 0; seen = []; mine = []; leases = []; taken = []; met = []; left = left; ended = []; olds = [] }

-- of the first pass once the table is open
abbrev pub opener : List ℕ → ℕ → View
opener o callers = undealt o callers (callers - 1)

abbrev pub with_seen : List Entry → View → View
with_seen h v = record v { seen = h }

abbrev pub with_mine : List Entry → View → View
with_mine es v = record v { mine = es }

abbrev pub with_leases : List Lease → View → View
with_leases ts v = record v { leases = ts }

-- one more take that won
abbrev pub with_taken : Taken → View → View
with_taken x v = record v { taken = v.taken ++ x ∷ [] }

-- one more take that found a turn held
abbrev pub with_met : Met → View → View
with_met x v = record v { met = v.met ++ x ∷ [] }

abbrev pub lease : ℕ → ℕ → List ℕ → Bool → Lease
lease slot target state away = record { slot = slot; target = target; state = state; away = away }

-- the slot is away from its place at each of its leases, or is not
abbrev pub marked : ℕ → Bool → Lease → Lease
marked k b t = if t.slot == k then lease t.slot t.target t.state b else t

-- the leases of the other slots
abbrev pub without : ℕ → List Lease → List Lease
without k [] = []
without k (t ∷ ts) = if t.slot == k then without k ts else t ∷ without k ts

-- a lease after an entry
abbrev pub moved : (ℕ → List ℕ → Entry → List ℕ) → Entry → Lease → Lease
moved after e t = lease t.slot t.target (after t.slot t.state e) t.away

-- the state of a slot by the first lease that lists it
abbrev pub state_in : List Lease → ℕ → List ℕ
state_in [] k = []
state_in (t ∷ ts) k = if t.slot == k then t.state else state_in ts k

-- the pass has the turn of this slot
abbrev pub HasTurn : View → ℕ → Type 0
HasTurn v k = (i : ℕ) × (t : Lease) × (get_elem? v.leases i ≡ some t) × (t.slot ≡ k)

-- the slots whose turns the pass has
abbrev pub slots_held : View → List ℕ
slots_held v = map (λ (t : Lease). t.slot) v.leases

-- the turn of a slot was given back
abbrev pub freed : ℕ → View → View
freed k v = with_leases (without k v.leases) v

-- the turn of a slot was found held, with this word
abbrev pub met_at : List Entry → ℕ → ℕ → View → View
met_at h k word v = with_seen h (with_met (record { slot = k; word = word; at = length h; held = slots_held v }) v)

module _ {V : Type 0} (M : Meaning V) where
  -- the turn of a slot was taken after this history
  abbrev pub took : List Entry → ℕ → ℕ → View → View
  took h k target v = with_seen h (with_taken (record { slot = k; target = target }) (with_leases (v.leases ++ lease k target (state_of M v.opening h k) false ∷ []) v))

  -- the entry was added behind the whole history
  abbrev pub entered : List Entry → Entry → View → View
  entered h e v = with_seen (h ++ e ∷ []) (with_mine (v.mine ++ e ∷ []) (with_leases (map (moved (M.after v.opening) e) v.leases) v))

-- one pass may be cut off less
abbrev pub kept_after : View → View
kept_after v = record v { left = v.left - 1 }

-- the pass that is cut off
abbrev pub newcomer : View → View
newcomer v = record v { number = 0; mine = []; leases = []; taken = []; met = []; left = 0; ended = []; olds = [] }

-- a number was drawn
abbrev pub numbered : ℕ → View → View
numbered n v = record v { number = n }

abbrev pub longer : List Entry → List Entry → List Entry
longer xs ys = if nat_lt (length xs) (length ys) then ys else xs

-- a pass took in another, whose caller has ended
abbrev pub joined : View → View → View
joined v w = record v {
  seen = longer v.seen w.seen;
  ended = v.ended ++ (w.ended ++ record { number = w.number; entries = w.mine } ∷ []);
  olds = v.olds ++ (w.olds ++ record { one = v.seen; other = w.seen } ∷ []);
}
