-- The slots of a tree, one for each node and each source, what its plan sets at each, and the path of a slot.
-- This project's own.
use Rattle.std.specs.Prelude.{ℕ, zero, suc, ◌+◌, ◌-◌, List, [], ◌∷◌, length, slice_get, unwrap_or, nat_lt, if◌then◌else◌, Option, Some, None}
use Rattle.rbg_bytes.specs.declared.kind.Kind.TheVariants as kinds
use Rattle.rbg_bytes.specs.declared.cond.Cond.TheVariants as conds
use Rattle.tree_config.specs.declared.plan.NodePlan.{NodePlan}
use Rattle.tree_config.specs.declared.plan.SourcePlan.{SourcePlan}
use Rattle.tree_config.specs.declared.plan.NodeKind.TheVariants.{Rbg1}
use Rattle.tree_config.specs.declared.plan.Origin.{Origin}
use Rattle.tree_config.specs.declared.plan.Origin.TheVariants.{SeedFile, Source}
use Rattle.tree_config.specs.Tree.{Tree, parent_in}
use Rattle.entropy_source.specs.declared.answers.SourceRow.{SourceRow}
use Rattle.rbg_nodes.specs.declared.node.NodeRow.{NodeRow}
use Rattle.rbg_nodes.specs.Views.{row_of}

-- what stands past the end of a plan's nodes, and past that of its sources
abbrev pub no_node : NodePlan
no_node = record { kind = Rbg1; drbg = kinds.HmacSha256; interval = 1; origin = SeedFile [] }

abbrev pub no_source : SourcePlan
no_source = record { samples = []; num = 8; den = 1; cutoffs = record { rct = 2; window = 512; apt = 2 }; startup = 1024; cond = conds.HmacSha256 }

-- the plan of node n, and of source j
abbrev pub node_plan : Tree → ℕ → NodePlan
node_plan p n = unwrap_or (slice_get p.nodes n) no_node

abbrev pub source_plan : Tree → ℕ → SourcePlan
source_plan p j = unwrap_or (slice_get p.sources j) no_source

-- what is set of a source by its plan
abbrev pub source_row_of : SourcePlan → SourceRow
source_row_of s = record { num = s.num; den = s.den; cutoffs = s.cutoffs; startup = s.startup; cond = s.cond }

-- what is set of node n, and of source j
abbrev pub node_row : Tree → ℕ → NodeRow
node_row p n = row_of (node_plan p n)

abbrev pub source_row : Tree → ℕ → SourceRow
source_row p j = source_row_of (source_plan p j)

-- slot n is node n, and the slots of the sources stand behind those of all nodes
abbrev pub source_slot : Tree → ℕ → ℕ
source_slot p j = length p.nodes + j

abbrev pub source_number : Tree → ℕ → ℕ
source_number p k = k - length p.nodes

-- a node, its parent, the parent's parent and so on; no path of a tree is longer than its nodes are many
abbrev pub ancestors : ℕ → Tree → Option ℕ → List ℕ
ancestors zero p _ = []
ancestors (suc far) p None = []
ancestors (suc far) p (Some n) = n ∷ ancestors far p (parent_in (node_plan p n).origin)

abbrev pub lineage : Tree → ℕ → List ℕ
lineage p n = n ∷ ancestors (length p.nodes) p (parent_in (node_plan p n).origin)

-- the slot of the source that an origin names, if it is one
abbrev pub slots_of_origin : Tree → Origin → List ℕ
slots_of_origin p (Source j) = source_slot p j ∷ []
slots_of_origin p _ = []

-- nodes in a row, and behind them the source of the last one, if it has one
abbrev pub with_source : Tree → List ℕ → List ℕ
with_source p [] = []
with_source p (n ∷ []) = n ∷ slots_of_origin p (node_plan p n).origin
with_source p (n ∷ m ∷ up) = n ∷ with_source p (m ∷ up)

-- the path of a slot: a node, its ancestors and the source of the last one, or a source alone
abbrev pub path : Tree → ℕ → List ℕ
path p k = if nat_lt k (length p.nodes) then with_source p (lineage p k) else k ∷ []

-- how many slots there are
abbrev pub slot_count : Tree → ℕ
slot_count p = length p.nodes + length p.sources
