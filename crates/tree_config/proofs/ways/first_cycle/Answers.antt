use Rattle.std.proofs.Common.{◌≡◌, IsTrue, length, arith, below_more}
use Rattle.std.proofs.lemmas.List.{length-map}
use Rattle.tree_config.specs.Tree.{parents}
use Rattle.tree_config.proofs.Paths.{from_never, on_within}
use Rattle.tree_config.proofs.ways.first_cycle.Goals as goal

pub loop-n-preserved : goal.loop-n-preserved
loop-n-preserved c = below_more _ _ c.loop-n.invariant (λ on. let yes : IsTrue c.comes_back.result = c.comes_back.ensures.1 on in cc)

pub returns : goal.returns
returns c =
    let ps = parents c.args.nodes.now in
    let size : length ps ≡ length c.args.nodes.now = length-map c.args.nodes.now _ in
    λ n on.
    let within = on_within ps n (from_never ps c.requires.known) on in
    c.loop-n.invariant n (omega arith) on
