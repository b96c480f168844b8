-- What a shared tree leaves when it is closed.
-- This project's own.
use Rattle.std.specs.Prelude.{◌≡◌, ◌≤◌, ◌^◌, ℕ, List, Option, All, length}
use Rattle.turn_table.specs.Passes.{Standing, calls_of, numbers_of, opening_of}
use Rattle.turn_table.specs.TurnRule.{times, once_to}
use Rattle.turn_table.specs.Closes.{IsPartOf}
use Rattle.tree_rules.specs.History.{Entry, Opening}
use Rattle.tree_rules.specs.Table.{opening_list}
use Rattle.tree_core.specs.Solo.{SoloView, StandAfter}
use Rattle.tree_core.specs.Whole.{AreAtMost}
use Rattle.shared_tree.specs.Answers.{IsWhole, lists_of}
use Rattle.shared_tree.specs.Passes.{SharedView}

-- There is one legal history behind the opening calls. `calls` is its length, and so many calls all passes made together, at most 2^46. Their
-- numbers are those from 1 to their count, each once. What each pass has seen begins the history, and its own entries are all that the
-- history has of its number. The one-thread tree stands after the history, has made no call of its own, and its counts are low enough for
-- all calls that it may make.
pub record IsClosed {S : Type 0} (told : S → Option (List ℕ)) (faults : S → ℕ) (t : SharedView) (passes : List Standing) (tree : SoloView S) (calls : ℕ) : Type 0 where
  pub f : Opening
  pub o : List Entry
  pub entries : List Entry
  pub opening_is : opening_of passes ≡ opening_list f o
  pub plan_is : f.plan ≡ t.plan
  pub whole : IsWhole f o entries
  pub length_is : calls ≡ length entries
  pub sum_is : calls ≡ calls_of passes
  pub few : calls ≤ 70368744177664
  pub numbers_are : (n : ℕ) → times n (numbers_of passes) ≡ once_to n (length passes)
  pub parts : All (λ (p : Standing). IsPartOf (lists_of entries) p.view) passes
  pub plan_back : tree.plan ≡ t.plan
  pub stand : StandAfter told faults f o entries tree.nodes tree.sources
  pub fresh : tree.calls ≡ 0
  pub few_counts : AreAtMost tree.nodes (2 ^ 61)
