-- The plan of a configuration, or its first fault.
-- This project's own; the strength of a kind is that of SP 800-90A Rev. 1, tables 2 (hash-based mechanisms) and 3 (CTR_DRBG).
use Rattle.std.specs.Prelude.{◌≡◌, ℕ, ◌<◌, ◌⊎◌, ◌^◌, Bool, true, List, [], ◌∷◌, map, slice_get, Option, Some, None, option_map, unwrap_or, Result, Ok, Err}
use Rattle.rbg_bytes.specs.Kinds.{strength}
use Rattle.rbg_bytes.specs.declared.kind.Kind.TheVariants.{HmacSha256}
use Rattle.tree_config.specs.declared.plan.NodeKind.TheVariants.{Rbg1}
use Rattle.tree_config.specs.declared.plan.Origin.{Origin}
use Rattle.tree_config.specs.declared.plan.Origin.TheVariants as origin
use Rattle.tree_config.specs.declared.row.RowOrigin.{RowOrigin}
use Rattle.tree_config.specs.declared.row.RowOrigin.TheVariants as row_origin
use Rattle.tree_config.specs.declared.plan.NodePlan.{NodePlan}
use Rattle.tree_config.specs.declared.row.NodeRow.{NodeRow}
use Rattle.tree_config.specs.declared.plan.SourcePlan.{SourcePlan}
use Rattle.tree_config.specs.declared.fault.ConfigFault.{ConfigFault}
use Rattle.tree_config.specs.declared.fault.ConfigFault.TheVariants.{NoSuchParent, Cycle, TooDeep, StrengthRises}
use Rattle.tree_config.specs.Graph.{parent_at, LacksParent, IsOnCycle, IsDeeper, IsLeast, IsNever}
use Rattle.tree_config.specs.Rows.{Rows, rows_of, depth_limit}

-- a plan
pub record Tree : Type 0 where
  pub opens_all : Bool
  pub sources : List SourcePlan
  pub nodes : List NodePlan

-- a row as a plan
abbrev pub origin_of_row : RowOrigin → Origin
origin_of_row (row_origin.SeedFile name) = origin.SeedFile name
origin_of_row (row_origin.Source n) = origin.Source n
origin_of_row (row_origin.Parent n) = origin.Parent n

abbrev pub node_of_row : NodeRow → NodePlan
node_of_row r = record { kind = r.kind; drbg = r.drbg; interval = r.interval; origin = origin_of_row r.origin }

abbrev pub tree_of : Rows → Tree
tree_of rows = record { opens_all = rows.opens_all; sources = rows.sources; nodes = map node_of_row rows.nodes }

-- the parents of the nodes
abbrev pub parent_in : Origin → Option ℕ
parent_in (origin.Parent p) = Some p
parent_in _ = None

abbrev pub parents : List NodePlan → List (Option ℕ)
parents nodes = map (λ n. parent_in n.origin) nodes

-- the strength of node n in bits
abbrev pub strength_at : List NodePlan → ℕ → ℕ
strength_at nodes n = unwrap_or (option_map (λ p. strength p.drbg) (slice_get nodes n)) 0

-- node n is stronger than its parent
abbrev pub Rises : List NodePlan → ℕ → Type 0
Rises nodes n = (p : ℕ) × (parent_at (parents nodes) n ≡ Some p) × (strength_at nodes p < strength_at nodes n)

-- nodes that make a tree of at most this depth, in which no child is stronger than its parent
pub record IsTree (limit : ℕ) (nodes : List NodePlan) : Type 0 where
  pub parent : IsNever (LacksParent (parents nodes))
  pub cycle : IsNever (IsOnCycle (parents nodes))
  pub depth : IsNever (IsDeeper limit (parents nodes))
  pub strengths : IsNever (Rises nodes)

-- the first fault of nodes, each of whose fields is right: each fault is looked for in all nodes before the next one
abbrev pub GraphFault : ℕ → List NodePlan → ConfigFault → Type 0
GraphFault limit nodes (NoSuchParent n p) =
    IsLeast (LacksParent (parents nodes)) n × (parent_at (parents nodes) n ≡ Some p)
GraphFault limit nodes (Cycle n) = IsNever (LacksParent (parents nodes)) × IsLeast (IsOnCycle (parents nodes)) n
GraphFault limit nodes (TooDeep n) =
    IsNever (LacksParent (parents nodes)) × IsNever (IsOnCycle (parents nodes)) × IsLeast (IsDeeper limit (parents nodes)) n
GraphFault limit nodes (StrengthRises n own parent) =
    IsNever (LacksParent (parents nodes)) × IsNever (IsOnCycle (parents nodes)) × IsNever (IsDeeper limit (parents nodes))
    × IsLeast (Rises nodes) n × (own ≡ strength_at nodes n)
    × ((p : ℕ) × (parent_at (parents nodes) n ≡ Some p) × (parent ≡ strength_at nodes p))
GraphFault limit nodes _ = ⊥

-- the plan of a text, or its first fault
abbrev pub Plan : List ℕ → Result Tree ConfigFault → Type 0
Plan text (Ok tree) = (rows : Rows) × (rows_of text ≡ Ok rows) × IsTree (depth_limit rows.version) tree.nodes × (tree ≡ tree_of rows)
Plan text (Err fault) =
    (rows_of text ≡ Err fault) ⊎ ((rows : Rows) × (rows_of text ≡ Ok rows) × GraphFault (depth_limit rows.version) (tree_of rows).nodes fault)

-- the plan of one node that is seeded from a file without a name
abbrev pub stock_tree : Tree
stock_tree = record {
  opens_all = true;
  sources = [];
  nodes = record { kind = Rbg1; drbg = HmacSha256; interval = 2 ^ 48; origin = origin.SeedFile [] } ∷ [];
}
