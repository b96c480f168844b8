-- One node without a parent.
use Rattle.std.proofs.Common.{◌≡◌, ℕ, zero, suc, ◌<◌, [], ◌∷◌, Some, None, refl, arith}
use Rattle.tree_config.specs.Graph.{parent_at, after, HasDepth}
use Rattle.tree_config.specs.Tree.{IsTree, parents, stock_tree}
use Rattle.tree_config.specs.Walks.{HaveDepths}
use Rattle.tree_config.proofs.Paths.{step_from}

no_link : (n p : ℕ) → parent_at (None ∷ []) n ≡ Some p → ⊥
no_link zero p h = cc
no_link (suc n) p h = cc

flat : (n edges root : ℕ) → after (None ∷ []) edges n ≡ Some root → edges ≡ 0
flat n zero root h = refl
flat n (suc k) root h = let step = step_from (None ∷ []) (after (None ∷ []) k n) root h in absurd (no_link step.0 root step.2)

pub is_tree : IsTree 8 stock_tree.nodes
is_tree = record {
  parent = λ n h. no_link n h.0 h.1;
  cycle = λ n h. let step = step_from (None ∷ []) (after (None ∷ []) h.0 n) n h.1 in no_link step.0 n step.2;
  depth = λ n h. let e = flat n h.1.0 h.1.1 h.1.3 in omega arith;
  strengths = λ n h. no_link n h.0 h.1;
}

one : (n : ℕ) → n < 1 → HasDepth (None ∷ []) n 1
one zero h = (0, 0, refl, refl, refl)
one (suc n) h = absurd (omega arith)

pub have_depths : HaveDepths 8 (parents stock_tree.nodes) (1 ∷ [])
have_depths = record { count = refl; each = λ n h. let z : n ≡ 0 = omega arith in rw z ((0, 0, refl, refl, refl), omega arith) }

pub ruleset alone = (is_tree, have_depths)
