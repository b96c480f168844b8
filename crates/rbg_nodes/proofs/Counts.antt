-- The state after acts, part by part.
use Rattle.std.proofs.Common.{◌≡◌, ◌+◌, List, [], ◌∷◌, refl, arith}
use Rattle.rbg_nodes.specs.Node.{NodeAct, NodeState, Seeded, Gave, Cleared, node_after, node_after_all}
use Rattle.rbg_nodes.specs.Counted.{seedings_of, generates_of, live_after, counter_after, kept_after}
use Rattle.rbg_nodes.specs.declared.node.NodeRow.{NodeRow}

pub seeds_in : (row : NodeRow) (s : NodeState) (acts : List NodeAct) → (node_after_all row s acts).seeds ≡ s.seeds + seedings_of acts
seeds_in row s [] = omega arith
seeds_in row s (Seeded how material string ∷ acts) = omega (arith, seeds_in row (node_after row s (Seeded how material string)) acts)
seeds_in row s (Gave add len bytes ∷ acts) = omega (arith, seeds_in row (node_after row s (Gave add len bytes)) acts)
seeds_in row s (Cleared ∷ acts) = omega (arith, seeds_in row (node_after row s Cleared) acts)

pub gives_in : (row : NodeRow) (s : NodeState) (acts : List NodeAct) → (node_after_all row s acts).gives ≡ s.gives + generates_of acts
gives_in row s [] = omega arith
gives_in row s (Seeded how material string ∷ acts) = omega (arith, gives_in row (node_after row s (Seeded how material string)) acts)
gives_in row s (Gave add len bytes ∷ acts) = omega (arith, gives_in row (node_after row s (Gave add len bytes)) acts)
gives_in row s (Cleared ∷ acts) = omega (arith, gives_in row (node_after row s Cleared) acts)

pub live_in : (row : NodeRow) (s : NodeState) (acts : List NodeAct) → (node_after_all row s acts).live ≡ live_after s.live acts
live_in row s [] = refl
live_in row s (Seeded how material string ∷ acts) = live_in row (node_after row s (Seeded how material string)) acts
live_in row s (Gave add len bytes ∷ acts) = live_in row (node_after row s (Gave add len bytes)) acts
live_in row s (Cleared ∷ acts) = live_in row (node_after row s Cleared) acts

pub counter_in_acts : (row : NodeRow) (s : NodeState) (acts : List NodeAct) → (node_after_all row s acts).counter ≡ counter_after s.counter acts
counter_in_acts row s [] = refl
counter_in_acts row s (Seeded how material string ∷ acts) = counter_in_acts row (node_after row s (Seeded how material string)) acts
counter_in_acts row s (Gave add len bytes ∷ acts) = counter_in_acts row (node_after row s (Gave add len bytes)) acts
counter_in_acts row s (Cleared ∷ acts) = counter_in_acts row (node_after row s Cleared) acts

pub kept_in : (row : NodeRow) (s : NodeState) (acts : List NodeAct) → (node_after_all row s acts).kept ≡ kept_after s.kept acts
kept_in row s [] = refl
kept_in row s (Seeded how material string ∷ acts) = kept_in row (node_after row s (Seeded how material string)) acts
kept_in row s (Gave add len bytes ∷ acts) = kept_in row (node_after row s (Gave add len bytes)) acts
kept_in row s (Cleared ∷ acts) = kept_in row (node_after row s Cleared) acts
