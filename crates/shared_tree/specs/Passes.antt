-- A shared tree and its passes as contracts see them.
-- This project's own.
use Rattle.std.specs.Prelude.{◌≡◌, ℕ, List, [], All}
use Rattle.atomic_table.specs.Seated.{TableId}
use Rattle.turn_table.specs.History.{of_caller}
use Rattle.turn_table.specs.Passes.{Standing, opening_of}
use Rattle.tree_config.specs.Tree.{Tree}
use Rattle.tree_rules.specs.History.{Entry, Opening}
use Rattle.tree_rules.specs.Openings.{IsOpening}
use Rattle.tree_rules.specs.Table.{opening_list}

-- a shared tree: its plan, the name of its table of turns, and the number of callers that it was opened for
pub record SharedView : Type 0 where
  pub plan : Tree
  pub table : TableId
  pub callers : ℕ

-- The pass is one of the tree's and has no turn: it knows what the tree was opened over, with the opening calls, and its own entries are
-- those of its number in what it has seen.
pub record IsPassOf (t : SharedView) (p : Standing) : Type 0 where
  pub f : Opening
  pub o : List Entry
  pub table_is : p.table ≡ t.table
  pub opening_is : p.view.opening ≡ opening_list f o
  pub plan_is : f.plan ≡ t.plan
  pub is_opening : IsOpening f o
  pub callers_is : p.view.callers ≡ t.callers
  pub own : p.view.mine ≡ of_caller p.view.number p.view.seen
  pub no_turn : p.view.leases ≡ []

-- all passes are the tree's, of one opening, and none has a turn
abbrev pub AreReady : SharedView → List Standing → Type 0
AreReady t ps = All (λ (p : Standing). IsPassOf t p × (p.view.opening ≡ opening_of ps)) ps
