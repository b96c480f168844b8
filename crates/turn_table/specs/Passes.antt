-- A pass and a table as contracts see them.
-- This project's own.
use Rattle.std.specs.Prelude.{◌≡◌, ◌≢◌, ℕ, ◌+◌, ◌<◌, ◌≤◌, List, [], ◌∷◌, map, length, true, false}
use mathlib.Core.Option.{some}
use lib.ListN.{get_elem?}
use Rattle.atomic_table.specs.Table.{Me}
use Rattle.atomic_table.specs.Seated.{TableId}
use Rattle.turn_table.specs.declared.view.View.{View}
use Rattle.turn_table.specs.declared.view.Lease.{Lease}

-- a table: its machine, its name, and the number of callers that it was opened for
pub record Board (M : Type 0) : Type 0 where
  pub machine : M
  pub table : TableId
  pub callers : ℕ

-- a pass: the table that it belongs to, and what it knows
pub record Standing : Type 0 where
  pub table : TableId
  pub view : View

-- a pass between two calls: it has a number and has taken in no other, and each of its slots is in its place
pub record AtRest (slots : ℕ) (v : View) : Type 0 where
  pub live : v.live ≡ true
  pub numbered : v.number ≢ 0
  pub room : length v.mine ≤ 1099511627776
  pub settled : v.left ≡ 0
  pub alone : v.ended ≡ []
  pub placed : (i : ℕ) (t : Lease) → get_elem? v.leases i ≡ some t → (t.away ≡ false) × (t.slot < slots)

-- a seat of the open table that has drawn no number, and from which no pass is cut off any more
pub record IsUndrawn {S : Type 0} (m : Me S View) : Type 0 where
  pub live : m.0.live ≡ true
  pub unnumbered : m.0.number ≡ 0
  pub no_entry : m.0.mine ≡ []
  pub no_turn : m.0.leases ≡ []
  pub settled : m.0.left ≡ 0
  pub alone : m.0.ended ≡ []
  pub few : m.0.callers ≤ 64
  pub nothing_out : m.1 ≡ []

-- a pass that has made no call, of a table that was opened so
pub record IsNew (o : List ℕ) (callers : ℕ) (v : View) : Type 0 where
  pub opening_is : v.opening ≡ o
  pub callers_is : v.callers ≡ callers
  pub number_low : 0 < v.number
  pub number_high : v.number ≤ callers
  pub unseen : v.seen ≡ []
  pub no_entry : v.mine ≡ []
  pub no_turn : v.leases ≡ []
  pub none_met : v.met ≡ []

-- a pass of such a table that has no turn
pub record IsIdle (o : List ℕ) (callers : ℕ) (v : View) : Type 0 where
  pub opening_is : v.opening ≡ o
  pub callers_is : v.callers ≡ callers
  pub no_turn : v.leases ≡ []

-- the opening that the first of some passes knows
abbrev pub opening_of : List Standing → List ℕ
opening_of [] = []
opening_of (p ∷ ps) = p.view.opening

-- the calls of some passes, added up
abbrev pub calls_of : List Standing → ℕ
calls_of [] = 0
calls_of (p ∷ ps) = length p.view.mine + calls_of ps

-- the numbers of some passes
abbrev pub numbers_of : List Standing → List ℕ
numbers_of ps = map (λ (p : Standing). p.view.number) ps
