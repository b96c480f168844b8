-- How deep a node of a tree stands, and its line.
use Rattle.std.proofs.Common.{◌≡◌, ◌≤◌, ◌<◌, ℕ, zero, suc, ◌+◌, List, length, get_or, zero-add, refl, sym, ap, ◌∙◌, subst, arith}
use Rattle.std.specs.Prelude.{Option, Some, None, option_and_then, unwrap_or, slice_get}
use Rattle.std.specs.List.{range_with_len}
use Rattle.std.proofs.lemmas.List.FromFn.{get_or-range_with_len}
use Rattle.tree_config.specs.Graph.{parent_at, after, HasDepth}
use Rattle.tree_config.specs.Tree.{Tree, parents}
use Rattle.tree_config.specs.declared.plan.NodePlan.{NodePlan}
use Rattle.rbgtree.specs.Printed.{depth_within, depth_of, node_line, node_text, line_of_node}

-- the way from a node is that from its parent, one step longer
from_parent : (ps : List (Option ℕ)) (k n p : ℕ) → parent_at ps n ≡ Some p → after ps (suc k) n ≡ after ps k p
from_parent ps zero n p h = h
from_parent ps (suc k) n p h = ap (option_and_then (parent_at ps)) (from_parent ps k n p h)

no_way : (ps : List (Option ℕ)) (k n : ℕ) → parent_at ps n ≡ None → after ps (suc k) n ≡ None
no_way ps zero n h = h
no_way ps (suc k) n h = ap (option_and_then (parent_at ps)) (no_way ps k n h)

same : (a b : ℕ) → Some a ≡ Some b → a ≡ b
same a b h = ap (λ (o : Option ℕ). unwrap_or o 0) h

walk : (most k : ℕ) (ps : List (Option ℕ)) (n root : ℕ) → k < most → after ps k n ≡ Some root → parent_at ps root ≡ None → depth_within most ps n ≡ k + 1
walk zero k ps n root less way end = absurd (omega arith)
walk (suc most) zero ps n root less way end =
    let none : parent_at ps n ≡ None = subst (λ (m : ℕ). parent_at ps m ≡ None) (sym (same n root way)) end in rw none refl
walk (suc most) (suc k) ps n root less way end =
    let fewer : k < most = omega arith in
    by (parent_at ps n) refl (λ (p : ℕ) (h : after ps k p ≡ Some root). walk most k ps p root fewer h end) where
      by : (o : Option ℕ) → parent_at ps n ≡ o → ((p : ℕ) → after ps k p ≡ Some root → depth_within most ps p ≡ k + 1) → depth_within (suc most) ps n ≡ suc k + 1
      by None h above = absurd (let no : None ≡ Some root = sym (no_way ps k n h) ∙ way in cc)
      by (Some p) h above =
          let sum : k + 1 + 1 ≡ suc k + 1 = omega arith in
          rw h (ap (λ (d : ℕ). d + 1) (above p (sym (from_parent ps k n p h) ∙ way)) ∙ sum)

pub line_at : (tree : Tree) (n d : ℕ) (plan : NodePlan) → slice_get tree.nodes n ≡ Some plan → HasDepth (parents tree.nodes) n d → d ≤ 8
    → line_of_node tree n ≡ node_text (node_line n plan d)
line_at tree n d plan is (edges, root, sum, way, end) most =
    let less : edges < 8 = omega (arith, sum) in
    let deep : depth_of (parents tree.nodes) n ≡ d = walk 8 edges (parents tree.nodes) n root less way end ∙ sym sum in
    rw is (ap (λ (m : ℕ). node_text (node_line n plan m)) deep)

-- the line of the node at a place of all numbers
pub line_in : (tree : Tree) (i d : ℕ) (plan : NodePlan) → i < length tree.nodes → slice_get tree.nodes i ≡ Some plan → HasDepth (parents tree.nodes) i d → d ≤ 8
    → line_of_node tree (get_or (range_with_len 0 (length tree.nodes)) i 0) ≡ node_text (node_line i plan d)
line_in tree i d plan less is deep most =
    ap (line_of_node tree) (get_or-range_with_len 0 (length tree.nodes) i 0 less ∙ zero-add i) ∙ line_at tree i d plan is deep most
