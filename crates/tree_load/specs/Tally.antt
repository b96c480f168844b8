-- Counts that the calls of a run alone decide, whatever their order, where each is a Generate without prediction resistance, or a Status,
-- and is Done: what is asked of each node, from the leaves to the roots, and by it how often each node reseeds and generates, its reseed
-- counter, and the blocks and samples of each source.
-- This project's own, for the constructions that SP 800-90C names RBG1, RBG2, RBG3(XOR) and RBG3(RS).
use Rattle.std.specs.Prelude.{◌≡◌, ℕ, zero, suc, ◌+◌, ◌-◌, ◌*◌, ◌/◌, List, [], ◌∷◌, ◌++◌, length, flat_map, max, ◌==◌, if◌then◌else◌, Bool, false, Option, Some, None}
use Rattle.std.specs.List.{range_with_len}
use Rattle.std.proofs.Math.ListN.{replicate}
use Rattle.std.specs.Int.{div_ceil}
use Rattle.tree_config.specs.declared.plan.Origin.{Origin}
use Rattle.tree_config.specs.declared.plan.Origin.TheVariants.{Source}
use Rattle.tree_config.specs.Tree.{Tree, parent_in}
use Rattle.entropy_source.specs.declared.answers.SourceRow.{SourceRow}
use Rattle.entropy_source.specs.Source.{blocks_for, need_of_block}
use Rattle.rbg_nodes.specs.declared.node.NodeCounts.{NodeCounts}
use Rattle.rbg_nodes.specs.declared.node.NodeRow.{NodeRow}
use Rattle.rbg_nodes.specs.Node.{entropy_len}
use Rattle.tree_rules.specs.Slots.{node_plan, node_row, source_row}
use Rattle.tree_rules.specs.Links.{is_rs, is_xor}
use Rattle.tree_core.specs.declared.solo.SourceCounts.{SourceCounts}

-- the sum of what a function gives of the items
abbrev pub sum_of : (ℕ → ℕ) → List ℕ → ℕ
sum_of f [] = 0
sum_of f (x ∷ xs) = f x + sum_of f xs

-- lists of the same lengths, in whatever order: every function has the same sum over both
abbrev pub SameLengths : List ℕ → List ℕ → Type 0
SameLengths xs ys = (f : ℕ → ℕ) → sum_of f xs ≡ sum_of f ys

-- the chunks in which RBG3(RS) answers so many bytes
abbrev pub chunks_for : NodeRow → ℕ → ℕ
chunks_for row len = max 1 (div_ceil len (entropy_len row))

-- the generates of a node for the lengths that are asked of it: one for each, and of RBG3(RS) one for each chunk
abbrev pub gives_for : NodeRow → List ℕ → ℕ
gives_for row lens = if is_rs row.kind then sum_of (λ len. chunks_for row len) lens else length lens

-- the reseeds of a node for so many generates, from a reseed counter on, where it reseeds when its counter is above its interval
abbrev pub reseeds_by : ℕ → ℕ → ℕ → ℕ
reseeds_by interval counter zero = 0
reseeds_by interval counter (suc more) = (counter + suc more - 2) / interval

-- the reseeds of a node for the lengths that are asked of it; RBG3(RS) reseeds before each chunk
abbrev pub reseeds_for : NodeRow → ℕ → List ℕ → ℕ
reseeds_for row counter lens = if is_rs row.kind then gives_for row lens else reseeds_by row.interval counter (length lens)

-- its reseed counter behind them
abbrev pub counter_for : NodeRow → ℕ → List ℕ → ℕ
counter_for row counter [] = counter
counter_for row counter (len ∷ lens) =
    if is_rs row.kind then 2 else counter + length (len ∷ lens) - row.interval * reseeds_for row counter (len ∷ lens)

-- whether a node is the parent that an origin names
abbrev pub is_parent : ℕ → Option ℕ → Bool
is_parent n None = false
is_parent n (Some q) = q == n

abbrev pub is_child : Tree → ℕ → ℕ → Bool
is_child p n m = is_parent n (parent_in (node_plan p m).origin)

-- The lengths that are asked of a node: those of its own calls, and for each reseed of each of its children as many bytes as the child's
-- entropy has. `far` is how far below the node its children are followed.
unfoldable pub asks : ℕ → Tree → (ℕ → ℕ) → (ℕ → List ℕ) → ℕ → List ℕ
asks zero p counter own n = own n
asks (suc far) p counter own n =
    own n ++ flat_map (λ m. if is_child p n m
    then replicate (reseeds_for (node_row p m) (counter m) (asks far p counter own m)) (entropy_len (node_row p m)) else [])
    (range_with_len 0 (length p.nodes))

-- no node stands further below another one than there are nodes
abbrev pub all_asks : Tree → (ℕ → ℕ) → (ℕ → List ℕ) → ℕ → List ℕ
all_asks p counter own n = asks (length p.nodes) p counter own n

-- the bytes that a node draws on its source for each reseed: its entropy, and for RBG3(RS) 8 bytes more
abbrev pub drawn_len : NodeRow → ℕ
drawn_len row = if is_rs row.kind then entropy_len row + 8 else entropy_len row

-- the blocks that a node draws for the lengths that are asked of it: those of each reseed, and for RBG3(XOR) those of as many bytes as it
-- gives
abbrev pub blocks_by : NodeRow → SourceRow → ℕ → List ℕ → ℕ
blocks_by row source counter lens =
    reseeds_for row counter lens * blocks_for source (drawn_len row) + (if is_xor row.kind then sum_of (λ len. blocks_for source len) lens else 0)

-- whether an origin is source j
abbrev pub is_from : ℕ → Origin → Bool
is_from j (Source i) = i == j
is_from j _ = false

-- the blocks of source j: those that its nodes draw
abbrev pub all_blocks : Tree → (ℕ → ℕ) → (ℕ → List ℕ) → ℕ → ℕ
all_blocks p counter own j =
    sum_of (λ n. if is_from j (node_plan p n).origin then blocks_by (node_row p n) (source_row p j) (counter n) (all_asks p counter own n) else 0)
    (range_with_len 0 (length p.nodes))

-- the counts of node n after calls that ask these lengths of the nodes, by all nodes' reseed counters and its own counts before them
abbrev pub node_by : Tree → (ℕ → ℕ) → (ℕ → List ℕ) → ℕ → NodeCounts → NodeCounts
node_by p counter own n before =
    let lens = all_asks p counter own n in
    record {
      live = before.live;
      counter = counter_for (node_row p n) (counter n) lens;
      seeds = before.seeds + reseeds_for (node_row p n) (counter n) lens;
      gives = before.gives + gives_for (node_row p n) lens;
    }

-- and those of source j
abbrev pub source_by : Tree → (ℕ → ℕ) → (ℕ → List ℕ) → ℕ → SourceCounts → SourceCounts
source_by p counter own j before =
    let blocks = all_blocks p counter own j in
    record { taken = before.taken + blocks * need_of_block (source_row p j); blocks = before.blocks + blocks }

-- the counts after calls, by the plan, the counts before them and the lengths that the calls ask of each node
abbrev pub node_tally : Tree → (ℕ → NodeCounts) → (ℕ → List ℕ) → ℕ → NodeCounts
node_tally p before own n = node_by p (λ m. (before m).counter) own n (before n)

abbrev pub source_tally : Tree → (ℕ → NodeCounts) → (ℕ → List ℕ) → ℕ → SourceCounts → SourceCounts
source_tally p before own j source = source_by p (λ m. (before m).counter) own j source
