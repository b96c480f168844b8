-- The lines that `load` prints: how many calls were made, and the counts of each node and of each source.
-- This project's own.
use Rattle.std.specs.Prelude.{ℕ, List, ◌++◌, length, codes, decimal, filter, flat_map, Bool, true, false}
use Rattle.std.specs.List.{range_with_len}
use Rattle.rbg_nodes.specs.Views.{counts_of}
use Rattle.rbg_nodes.specs.declared.node.NodeCounts.{NodeCounts}
use Rattle.tree_config.specs.Tree.{Tree}
use Rattle.tree_rules.specs.History.{Entry, States, node_in, source_in}
use Rattle.tree_rules.specs.Slots.{source_slot}
use Rattle.tree_load.specs.Made.{is_done, is_refused}

-- how many calls were made, and how many of them were Done and how many refused
unfoldable pub calls_text : ℕ → ℕ → ℕ → List ℕ
calls_text calls done refused =
    codes "calls " ++ decimal calls ++ codes "\n" ++ codes "done " ++ decimal done ++ codes " refused " ++ decimal refused ++ codes "\n"

abbrev pub live_text : Bool → List ℕ
live_text false = codes "0"
live_text true = codes "1"

unfoldable pub node_counts_text : ℕ → NodeCounts → List ℕ
node_counts_text n c =
    codes "node " ++ decimal n ++ codes " live " ++ live_text c.live ++ codes " counter " ++ decimal c.counter ++ codes " seeds " ++ decimal c.seeds
    ++ codes " gives " ++ decimal c.gives ++ codes "\n"

-- the samples that were taken from source j, and the blocks made of them
unfoldable pub source_counts_text : ℕ → ℕ → ℕ → List ℕ
source_counts_text j taken blocks = codes "source " ++ decimal j ++ codes " taken " ++ decimal taken ++ codes " blocks " ++ decimal blocks ++ codes "\n"

-- the lines of node n and of source j in these states
abbrev pub node_counts_at : States → ℕ → List ℕ
node_counts_at s n = node_counts_text n (counts_of (node_in (s n)))

abbrev pub source_counts_at : Tree → States → ℕ → List ℕ
source_counts_at p s j = let source = source_in (s (source_slot p j)) in source_counts_text j source.taken source.blocks

-- those of all nodes, and of all sources, in order
abbrev pub node_counts_lines : Tree → States → List ℕ
node_counts_lines p s = flat_map (node_counts_at s) (range_with_len 0 (length p.nodes))

abbrev pub source_counts_lines : Tree → States → List ℕ
source_counts_lines p s = flat_map (source_counts_at p s) (range_with_len 0 (length p.sources))

abbrev pub counts_lines : Tree → States → List ℕ
counts_lines p s = node_counts_lines p s ++ source_counts_lines p s

-- all that is printed of so many calls, by their entries and by the states after them
abbrev pub load_text : Tree → ℕ → List Entry → States → List ℕ
load_text p calls es s = calls_text calls (length (filter is_done es)) (length (filter is_refused es)) ++ counts_lines p s
