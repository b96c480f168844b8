-- A tree that was opened, as parts that stand after a history.
use Rattle.std.proofs.Common.{◌≡◌, ◌∙◌, ◌≤◌, ◌^◌, ℕ, List, [], length, sym, subst, arith}
use Rattle.std.specs.Prelude.{Option, Some, slice_get}
use Rattle.tree_config.specs.Tree.{Tree}
use Rattle.rbg_nodes.specs.Views.{NodeView}
use Rattle.tree_rules.specs.Counts.{AreCounts, HasCounts}
use Rattle.tree_rules.specs.History.{Entry, Opening}
use Rattle.tree_rules.specs.Openings.{IsHistory, states_behind}
use Rattle.tree_core.specs.Solo.{HaveHistory, OpensAs, SoloView}
use Rattle.tree_core.specs.Whole.{AreAtMost}

module _ {S : Type 0} (told : S → Option (List ℕ)) (faults : S → ℕ) (p : Tree) (samples : List S) (seeds : List (List ℕ)) (t : SoloView S) (is : OpensAs told faults p samples seeds t) where
  none_yet : IsHistory is.f is.o []
  none_yet = record { opening = is.is_opening; legal = tt }

  pub have_history : HaveHistory told faults t.plan t.nodes t.sources
  have_history = record { f = is.f; o = is.o; es = []; plan_is = is.given.plan_is ∙ sym is.plan_is; history = none_yet; stand = is.stand }

  pub have_few : ((f : Opening) (o h : List Entry) → IsHistory f o h → length h ≤ 2 ^ 46 → (k : ℕ) → HasCounts (2 ^ 61) (states_behind f o h k)) → AreAtMost t.nodes (2 ^ 61)
  have_few law = record { seeds = λ k v at. (few k v at).seeds; gives = λ k v at. (few k v at).gives } where
    few : (k : ℕ) (v : NodeView) → slice_get t.nodes k ≡ Some v → AreCounts (2 ^ 61) v.state
    few k v at = subst (λ x. HasCounts (2 ^ 61) x) (sym (is.stand.nodes_are k v at).1) (law is.f is.o [] none_yet (omega arith) k)
