-- The lines that `check` prints of a source and of a node.
-- This project's own.
use Rattle.std.specs.Prelude.{ℕ, zero, suc, ◌+◌, List, [], ◌++◌, length, codes, decimal, flat_map, slice_get, option_map, unwrap_or, Option, Result, Ok, Err}
use Rattle.std.specs.List.{range_with_len}
use Rattle.rbg_bytes.specs.Kinds.{strength}
use Rattle.conditioner.specs.Conditioned.{need}
use Rattle.entropy_source.specs.declared.answers.SourceRefusal.{SourceRefusal}
use Rattle.tree_rules.specs.declared.reply.Reply.{Reply}
use Rattle.tree_rules.specs.Fits.{done, source_reply}
use Rattle.tree_config.specs.Graph.{parent_at}
use Rattle.tree_config.specs.Names.{node_kind_text, drbg_text}
use Rattle.tree_config.specs.Tree.{Tree, parents}
use Rattle.tree_config.specs.declared.plan.NodePlan.{NodePlan}
use Rattle.tree_config.specs.declared.plan.SourcePlan.{SourcePlan}
use Rattle.rbgtree.specs.declared.printed.SourceLine.{SourceLine}
use Rattle.rbgtree.specs.declared.printed.NodeLine.{NodeLine}

-- the answer to a start of source j, as a reply of the tree
abbrev pub answer_of : {T : Type 0} → ℕ → Result T SourceRefusal → Reply
answer_of j (Ok started) = done []
answer_of j (Err why) = source_reply j why

-- what is printed of source j, of which so many samples were taken
abbrev pub source_line : {T : Type 0} → ℕ → SourcePlan → ℕ → Result T SourceRefusal → SourceLine
source_line j plan taken result = record {
  number = j;
  rct = plan.cutoffs.rct;
  window = plan.cutoffs.window;
  apt = plan.cutoffs.apt;
  startup = plan.startup;
  block = need plan.cond plan.num plan.den;
  taken = taken;
  answer = answer_of j result;
}

unfoldable pub source_text : SourceLine → List ℕ
source_text l =
    codes "source " ++ decimal l.number ++ codes " rct " ++ decimal l.rct ++ codes " window " ++ decimal l.window ++ codes " apt " ++ decimal l.apt
    ++ codes " startup " ++ decimal l.startup ++ codes " block " ++ decimal l.block ++ codes " taken " ++ decimal l.taken
    ++ codes " code " ++ decimal l.answer.code ++ codes " a " ++ decimal l.answer.a ++ codes " b " ++ decimal l.answer.b ++ codes "\n"

-- the nodes from node n up to the one without a parent, n included, as far as `most` of them
abbrev pub depth_within : ℕ → List (Option ℕ) → ℕ → ℕ
depth_within zero ps n = 0
depth_within (suc most) ps n = unwrap_or (option_map (λ p. depth_within most ps p + 1) (parent_at ps n)) 1

-- how deep a node stands; no tree is deeper than 8
abbrev pub depth_of : List (Option ℕ) → ℕ → ℕ
depth_of ps n = depth_within 8 ps n

-- what is printed of node n
abbrev pub node_line : ℕ → NodePlan → ℕ → NodeLine
node_line n plan depth = record { number = n; kind = plan.kind; drbg = plan.drbg; interval = plan.interval; depth = depth }

unfoldable pub node_text : NodeLine → List ℕ
node_text l =
    codes "node " ++ decimal l.number ++ codes " " ++ node_kind_text l.kind ++ codes " " ++ drbg_text l.drbg ++ codes " strength "
    ++ decimal (strength l.drbg) ++ codes " interval " ++ decimal l.interval ++ codes " depth " ++ decimal l.depth ++ codes "\n"

-- the line of node n of a tree
abbrev pub line_of_node : Tree → ℕ → List ℕ
line_of_node tree n = unwrap_or (option_map (λ plan. node_text (node_line n plan (depth_of (parents tree.nodes) n))) (slice_get tree.nodes n)) []

-- the lines of all nodes, in order
abbrev pub node_lines : Tree → List ℕ
node_lines tree = flat_map (line_of_node tree) (range_with_len 0 (length tree.nodes))
