-- The calls of a pass, one by one.
use Rattle.std.proofs.Common.{◌≡◌, ◌+◌, ℕ, List, [], ◌∷◌, ◌++◌, length, length-append, ap, ◌∙◌}
use Rattle.std.specs.Prelude.{Option, All}
use Rattle.shared_tree.specs.Opens.{IsOpened}
use Rattle.shared_tree.specs.Passes.{SharedView, AreReady, IsPassOf}
use Rattle.tree_config.specs.Tree.{Tree}
use Rattle.turn_table.specs.Passes.{Standing}

pub one_more : (before after : List (List ℕ)) (e : List ℕ) (n : ℕ) → after ≡ before ++ e ∷ [] → length before ≡ n → length after ≡ n + 1
one_more before after e n is count = ap length is ∙ (length-append before (e ∷ []) ∙ ap (λ (k : ℕ). k + 1) count)

pub are_new : {S : Type 0} (told : S → Option (List ℕ)) (faults : S → ℕ) (p : Tree) (samples : List S) (seeds : List (List ℕ)) (callers : ℕ) (t : SharedView) (passes : List Standing)
    → IsOpened told faults p samples seeds callers t passes → All (λ (s : Standing). length s.view.mine ≡ 0) passes
are_new told faults p samples seeds callers t passes is k d inside = ap length (is.each k d inside).1.no_entry

pub ready_new : (t : SharedView) (ps : List Standing) → AreReady t ps → All (λ (p : Standing). length p.view.mine ≡ 0) ps → All (λ (p : Standing). IsPassOf t p × (length p.view.mine ≡ 0)) ps
ready_new t ps ready new k d inside = ((ready k d inside).0, new k d inside)
