-- What a shared tree and its passes know when it is opened.
-- This project's own.
use Rattle.std.specs.Prelude.{◌≡◌, ℕ, List, Option, All, length}
use Rattle.turn_table.specs.Passes.{Standing, IsNew}
use Rattle.tree_config.specs.Tree.{Tree}
use Rattle.tree_rules.specs.History.{Entry, Opening}
use Rattle.tree_rules.specs.Openings.{IsOpening}
use Rattle.tree_rules.specs.Table.{opening_list}
use Rattle.tree_core.specs.Solo.{IsGiven}
use Rattle.shared_tree.specs.Passes.{SharedView, IsPassOf}

module _ {S : Type 0} (told : S → Option (List ℕ)) (faults : S → ℕ) (p : Tree) (samples : List S) (seeds : List (List ℕ)) where
  -- the list is that of an opening of what was given, with its opening calls
  pub record IsOpeningOf (l : List ℕ) : Type 0 where
    pub f : Opening
    pub o : List Entry
    pub opening_is : l ≡ opening_list f o
    pub given : IsGiven told faults p samples seeds f
    pub is_opening : IsOpening f o

  -- The tree was opened over what was given, and made its opening calls. There is a pass for each caller, of that one opening; none has made a
  -- call, seen one or has a turn.
  pub record IsOpened (callers : ℕ) (t : SharedView) (passes : List Standing) : Type 0 where
    pub f : Opening
    pub o : List Entry
    pub given : IsGiven told faults p samples seeds f
    pub is_opening : IsOpening f o
    pub plan_is : t.plan ≡ p
    pub callers_is : t.callers ≡ callers
    pub count : length passes ≡ callers
    pub each : All (λ (s : Standing). IsPassOf t s × IsNew (opening_list f o) callers s.view) passes
