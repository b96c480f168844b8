-- What a table is opened with, and what its passes know then.
-- This project's own.
use Rattle.std.specs.Prelude.{◌≡◌, ℕ, ◌<◌, List, length, All}
use mathlib.Core.Option.{some}
use lib.ListN.{get_elem?}
use Rattle.std.specs.declared.option.Option.{Option}
use Rattle.std.specs.declared.option.Option.TheVariants.{Some}
use Rattle.atomic_table.specs.Seated.{TableId}
use Rattle.turn_table.specs.Meaning.{Meaning}
use Rattle.turn_table.specs.Passes.{Standing, IsNew}

module _ {V : Type 0} (M : Meaning V) (test : List ℕ → Type 0) where
  -- there is an opening that passes the test and is legal, and for the states after it the values stand
  pub record MayOpen (values : List V) : Type 0 where
    pub opening : List ℕ
    pub passes : test opening
    pub legal : M.legal opening
    pub values_are : (k : ℕ) → k < length values → (x : V) × (get_elem? values k ≡ some x) × M.stands x (M.start opening k)

  -- the same of values in their places
  pub record MayBegin (homes : List (Option V)) : Type 0 where
    pub opening : List ℕ
    pub passes : test opening
    pub legal : M.legal opening
    pub values_are : (k : ℕ) → k < length homes → (x : V) × (get_elem? homes k ≡ some (Some x)) × M.stands x (M.start opening k)

  -- the table was opened with such an opening: there are as many passes as callers, and none has made a call
  pub record Opens (callers : ℕ) (table : TableId) (passes_of : List Standing) : Type 0 where
    pub opening : List ℕ
    pub passes : test opening
    pub legal : M.legal opening
    pub count : length passes_of ≡ callers
    pub each : All (λ (p : Standing). (p.table ≡ table) × IsNew opening callers p.view) passes_of
