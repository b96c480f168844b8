-- Counters as a machine: what their openings, entries, states and values mean, and what their calls say.
-- This project's own.
use Rattle.std.specs.Prelude.{◌≡◌, ℕ, ◌+◌, ◌<◌, ◌≤◌, ◌==◌, ◌⊎◌, List, [], ◌∷◌, ◌++◌, length, slice_index, Bool, false, if◌then◌else◌, refl}
use Rattle.std.proofs.Common.{ap, subst, eq-eqb}
use Rattle.atomic_table.specs.Seated.{TableId}
use Rattle.turn_table.specs.declared.view.View.{View}
use Rattle.turn_table.specs.Meaning.{Meaning, ReadsTouched, LeavesOthers}
use Rattle.turn_table.specs.History.{Entry, Begins, state_of, LegalOver}
use Rattle.turn_table.specs.Views.{lease}
use Rattle.turn_table.specs.Passes.{Standing}

-- The opening is the empty list, and each counter begins with 0. An entry is its caller, the counter, and what was added to it, up to
-- 2^64 - 1. The state of a counter is its value alone. A counter lies on the paths of those that are not below it.
abbrev pub counters : Meaning ℕ
counters = record {
  legal = λ o. o ≡ [];
  start = λ o k. 0 ∷ [];
  path = λ o slot target. slot ≤ target;
  touches = λ e k. slice_index e 1 == k;
  fits = λ o s e. (length e ≡ 3) × (slice_index (s (slice_index e 1)) 0 + slice_index e 2 < 18446744073709551616);
  after = λ o k s e. if slice_index e 1 == k then (slice_index s 0 + slice_index e 2) ∷ [] else s;
  stands = λ x s. s ≡ x ∷ [];
}

pub reads_touched : ReadsTouched counters
reads_touched o e s t same f = (f.0, subst (λ (z : List ℕ). slice_index z 0 + slice_index e 2 < 18446744073709551616) (same (slice_index e 1) (eq-eqb (slice_index e 1) (slice_index e 1) refl)) f.1)

pub leaves_others : LeavesOthers counters
leaves_others o e s k f t = ap (λ (b : Bool). if b then (slice_index (s k) 0 + slice_index e 2) ∷ [] else s k) t

-- the entry of a call that adds
abbrev pub sum_entry : ℕ → ℕ → ℕ → Entry
sum_entry caller slot amount = caller ∷ slot ∷ amount ∷ []

-- a pass of the table between two calls
pub record IsReady (table : TableId) (callers : ℕ) (p : Standing) : Type 0 where
  pub table_is : p.table ≡ table
  pub opening_is : p.view.opening ≡ []
  pub callers_is : p.view.callers ≡ callers
  pub no_turn : p.view.leases ≡ []

-- a pass of the table that has the turn of this counter alone, which stands at x
pub record HasOnly (table : TableId) (callers slot x : ℕ) (p : Standing) : Type 0 where
  pub table_is : p.table ≡ table
  pub opening_is : p.view.opening ≡ []
  pub callers_is : p.view.callers ≡ callers
  pub turn : p.view.leases ≡ lease slot slot (x ∷ []) false ∷ []

-- a pass that has the turns of the counters 1 and 0, both for counter 1, which stand at x and y
pub record HasBoth (table : TableId) (callers x y : ℕ) (p : Standing) : Type 0 where
  pub table_is : p.table ≡ table
  pub opening_is : p.view.opening ≡ []
  pub callers_is : p.view.callers ≡ callers
  pub turns : p.view.leases ≡ lease 1 1 (x ∷ []) false ∷ lease 0 1 (y ∷ []) false ∷ []

-- a pass has made no call, and what it has seen goes on
pub record Goes (v w : View) : Type 0 where
  pub begins : Begins v.seen w.seen
  pub number_is : w.number ≡ v.number
  pub mine_is : w.mine ≡ v.mine

-- all that the pass has seen is legal, and the counter stands at x after it
pub record Stands (slot x : ℕ) (v : View) : Type 0 where
  pub legal : LegalOver counters [] v.seen
  pub value : state_of counters [] v.seen slot ≡ x ∷ []

-- nothing was added, for the counter stood too high after all that was seen then, or the pass had made 2^40 calls
pub record Declines (slot amount : ℕ) (v w : View) : Type 0 where
  pub goes : Goes v w
  pub why : ((x : ℕ) × Stands slot x w × (18446744073709551616 ≤ x + amount)) ⊎ (1099511627776 ≤ length v.mine)

-- a pass made one call: its entry was added behind all that was seen before, and the counter stands at x then
pub record Adds (slot amount x : ℕ) (v w : View) : Type 0 where
  pub history : List Entry
  pub begins : Begins v.seen history
  pub seen_is : w.seen ≡ history ++ sum_entry v.number slot amount ∷ []
  pub legal : LegalOver counters [] w.seen
  pub value : state_of counters [] w.seen slot ≡ x ∷ []
  pub mine_is : w.mine ≡ v.mine ++ sum_entry v.number slot amount ∷ []
  pub number_is : w.number ≡ v.number
