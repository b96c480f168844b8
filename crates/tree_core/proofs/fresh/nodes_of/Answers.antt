use Rattle.std.proofs.Common.{arith, ◌≡◌, ◌+◌, ◌<◌, ◌∙◌, List, ℕ, length, map, sym, subst}
use Rattle.std.specs.Prelude.{get_or}
use Rattle.rbg_nodes.specs.Views.{NodeView}
use Rattle.tree_core.specs.Fresh.{AreFresh}
use Rattle.tree_core.specs.Solo.{seed_in}
use Rattle.tree_core.proofs.Freshness.{one_fresh, seed_of}
use Rattle.tree_core.proofs.fresh.nodes_of.Goals as goal

pub loop-n-preserved : goal.loop-n-preserved
loop-n-preserved c =
    let seeds = c.args.seeds.now in let n = c.loop-n.n in
    let low : n < length seeds = (let test = c.loop-n-test.true in let count = c.nodes-count.ensures.count in let told = c.requires.seeds in omega (arith, test, count, told)) in
    let at = subst (λ (i : ℕ). c.index-seeds-from.result ≡ get_or seeds i c.index-seeds-from.result) c.from-in-loop-n.ensures c.index-seeds-from.is in
    let seed : seed_in (map (λ s. s.items) seeds) n ≡ c.deref.result.now = seed_of (λ s. s.items) seeds n c.index-seeds-from.result low at ∙ sym c.deref.ensures.value in
    subst (λ (xs : List NodeView). AreFresh c.args.plan.now (map (λ s. s.items) seeds) (n + 1) xs) (sym c.in-Ok-push.ensures.items)
    (one_fresh c.args.plan.now (map (λ s. s.items) seeds) n c.loop-n.nodes.items c.loop-n.invariant c.node.result.now c.node.ensures.value c.deref.result.now seed
    c.in-Ok-fresh.node c.fresh.result c.in-Ok-fresh.is c.fresh.ensures.value)
