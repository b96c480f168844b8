-- What a table leaves when it is closed.
-- This project's own.
use Rattle.std.specs.Prelude.{◌≡◌, ◌⊎◌, ℕ, ◌<◌, ◌≤◌, List, [], length, All, true}
use mathlib.Core.Option.{some}
use lib.ListN.{get_elem?}
use Rattle.std.specs.declared.option.Option.{Option}
use Rattle.std.specs.declared.option.Option.TheVariants.{Some}
use Rattle.turn_table.specs.declared.view.View.{View}
use Rattle.turn_table.specs.declared.view.Ended.{Ended}
use Rattle.turn_table.specs.declared.view.Before.{Before}
use Rattle.turn_table.specs.Meaning.{Meaning}
use Rattle.turn_table.specs.History.{Entry, of_caller, Begins, state_of, LegalOver}
use Rattle.turn_table.specs.TurnRule.{times, once_to, numbers, made}
use Rattle.turn_table.specs.Passes.{Standing, calls_of, numbers_of}

-- the history begins with all that the pass has seen, and has of its number just the pass's own entries
pub record IsPartOf (h : List Entry) (p : View) : Type 0 where
  pub seen : Begins p.seen h
  pub mine : p.mine ≡ of_caller p.number h

-- There is one legal history over the opening. `calls` is its length, and so many calls all passes made together. Their numbers are those from
-- 1 to their count, each once. Each pass is a part of the history. The values stand for the states of the slots after it.
pub record Closes {V : Type 0} (M : Meaning V) (o : List ℕ) (passes : List Standing) (calls : ℕ) (values : List V) : Type 0 where
  pub history : List Entry
  pub legal : LegalOver M o history
  pub length_is : calls ≡ length history
  pub sum_is : calls ≡ calls_of passes
  pub few : calls ≤ 70368744177664
  pub numbers_are : (n : ℕ) → times n (numbers_of passes) ≡ once_to n (length passes)
  pub parts : All (λ (p : Standing). IsPartOf history p.view) passes
  pub values_are : (k : ℕ) → k < length values → (x : V) × (get_elem? values k ≡ some x) × M.stands x (state_of M o history k)

-- what the last pass, which took in all others, says of the end
pub record Leaves {V : Type 0} (M : Meaning V) (v : View) (calls : ℕ) (homes : List (Option V)) : Type 0 where
  pub history : List Entry
  pub legal : LegalOver M v.opening history
  pub length_is : calls ≡ length history
  pub sum_is : calls ≡ made v
  pub numbers_are : (n : ℕ) → times n (numbers v) ≡ once_to n v.callers
  pub few : calls ≤ 70368744177664
  pub seen : Begins v.seen history
  pub mine : v.mine ≡ of_caller v.number history
  pub ended : (i : ℕ) (x : Ended) → get_elem? v.ended i ≡ some x → x.entries ≡ of_caller x.number history
  pub olds : (i : ℕ) (x : Before) → get_elem? v.olds i ≡ some x → Begins x.one history × Begins x.other history
  pub values_are : (k : ℕ) → k < length homes → (x : V) × (get_elem? homes k ≡ some (Some x)) × M.stands x (state_of M v.opening history k)

-- the view `v` keeps what the pass `p` has seen and called
pub record Keeps (v p : View) : Type 0 where
  pub opening_is : p.opening ≡ v.opening
  pub mine : ((p.number ≡ v.number) × (p.mine ≡ v.mine)) ⊎ ((i : ℕ) × (get_elem? v.ended i ≡ some (record { number = p.number; entries = p.mine })))
  pub seen : (p.seen ≡ v.seen) ⊎ ((i : ℕ) × (x : Before) × (get_elem? v.olds i ≡ some x) × ((x.one ≡ p.seen) ⊎ (x.other ≡ p.seen)))

-- a view that has the numbers of all callers, and no turn
pub record IsLast (v : View) : Type 0 where
  pub live : v.live ≡ true
  pub no_turn : v.leases ≡ []
  pub all : v.callers ≤ length (numbers v)

-- the view has taken in these passes: it has the numbers and the entries that they had
pub record Gathered (o : List ℕ) (callers : ℕ) (passes : List Standing) (v : View) : Type 0 where
  pub live : v.live ≡ true
  pub opening_is : v.opening ≡ o
  pub callers_is : v.callers ≡ callers
  pub no_turn : v.leases ≡ []
  pub answers : length passes ≤ length (numbers v)
  pub numbers_are : (n : ℕ) → times n (numbers v) ≡ times n (numbers_of passes)
  pub made_is : made v ≡ calls_of passes
  pub keeps : All (λ (p : Standing). Keeps v p.view) passes
