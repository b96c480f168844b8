use Rattle.std.proofs.Common.{◌≡◌, ℕ, ◌<◌, ◌⊎◌, List, length, Option, inl, inr, arith}
use Rattle.std.proofs.lemmas.List.{length-map}
use Rattle.tree_config.specs.Graph.{IsOnCycle, IsNever}
use Rattle.tree_config.specs.Tree.{parents}
use Rattle.tree_config.specs.Walks.{Walks}
use Rattle.tree_config.specs.declared.ways.Way.{Way}
use Rattle.tree_config.specs.declared.ways.Way.TheVariants.{Root, Back, Lost}
use Rattle.tree_config.proofs.Paths.{HasParents, from_never, way_ends}
use Rattle.tree_config.proofs.ways.depth_of.Goals as goal

has_root : (ps : List (Option ℕ)) (n : ℕ) (w : Way) → HasParents ps → n < length ps → IsNever (IsOnCycle ps) → Walks ps n w → (w ≡ Back) ⊎ (w ≡ Lost) → ⊥
has_root ps n (Root depth) known within none h (inl is) = cc
has_root ps n (Root depth) known within none h (inr is) = cc
has_root ps n Back known within none h is = none n h
has_root ps n Lost known within none h is = way_ends ps n h.0.0 known within none h.0.1

pub unreachable-requires : goal.unreachable-requires
unreachable-requires c =
    let ps = parents c.args.nodes.now in
    let size : length ps ≡ length c.args.nodes.now = length-map c.args.nodes.now _ in
    has_root ps c.args.n c.way_from.result (from_never ps c.requires.known) (omega arith) c.requires.tree c.way_from.ensures c.in-Back.is
