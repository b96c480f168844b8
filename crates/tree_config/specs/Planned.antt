-- Plans whose rows are in range: what the layers above may rely on, of what was read and of the stock plan.
-- This project's own; min-entropy is in bits a sample, as in SP 800-90B, and the interval is that of
-- SP 800-90A Rev. 1, tables 2 (hash-based mechanisms) and 3 (CTR_DRBG).
use Rattle.std.specs.Prelude.{◌≡◌, ℕ, ◌*◌, ◌^◌, ◌<◌, ◌≤◌, length, slice_get, Some}
use Rattle.health_tests.specs.Cutoffs.{AreSound}
use Rattle.tree_config.specs.declared.plan.NodeKind.{NodeKind}
use Rattle.tree_config.specs.declared.plan.NodeKind.TheVariants.{Rbg1, Rbg2, Rbg3Xor, Rbg3Rs, Child}
use Rattle.tree_config.specs.declared.plan.Origin.{Origin}
use Rattle.tree_config.specs.declared.plan.Origin.TheVariants as origin
use Rattle.tree_config.specs.declared.plan.NodePlan.{NodePlan}
use Rattle.tree_config.specs.declared.plan.SourcePlan.{SourcePlan}
use Rattle.tree_config.specs.Tree.{Tree}

-- a source in range
pub record IsSource (s : SourcePlan) : Type 0 where
  pub name_low : 1 ≤ length s.samples
  pub name_high : length s.samples ≤ 255
  pub num_low : 1 ≤ s.num
  pub num_high : s.num ≤ 8000
  pub den_low : 1 ≤ s.den
  pub den_high : s.den ≤ 1000
  pub byte : s.num ≤ 8 * s.den
  pub binary : s.cutoffs.window ≡ 1024 → s.num ≤ s.den
  pub cutoffs : AreSound s.cutoffs
  pub startup_low : 1024 ≤ s.startup
  pub startup_high : s.startup ≤ 65536

-- a seed file whose name has so many bytes at least
abbrev pub IsFile : ℕ → Origin → Type 0
IsFile least (origin.SeedFile name) = (least ≤ length name) × (length name ≤ 255)
IsFile least _ = ⊥

-- one of so many sources
abbrev pub IsSourceOf : ℕ → Origin → Type 0
IsSourceOf count (origin.Source n) = n < count
IsSourceOf count _ = ⊥

-- one of so many nodes
abbrev pub IsParentOf : ℕ → Origin → Type 0
IsParentOf count (origin.Parent n) = n < count
IsParentOf count _ = ⊥

-- an origin that fits the kind of node, among so many sources and nodes
abbrev pub Fits : ℕ → ℕ → ℕ → NodeKind → Origin → Type 0
Fits least sources nodes Rbg1 o = IsFile least o
Fits least sources nodes Rbg2 o = IsSourceOf sources o
Fits least sources nodes Rbg3Xor o = IsSourceOf sources o
Fits least sources nodes Rbg3Rs o = IsSourceOf sources o
Fits least sources nodes Child o = IsParentOf nodes o

-- a node in range
pub record IsNode (least sources nodes : ℕ) (n : NodePlan) : Type 0 where
  pub interval_low : 1 ≤ n.interval
  pub interval_high : n.interval ≤ 2 ^ 48
  pub origin : Fits least sources nodes n.kind n.origin

-- a plan of 0 to 4 sources and 1 to 63 nodes, each of them in range; names of seed files are empty in the stock plan alone, so
-- `least` is 1 for what was read and 0 for any plan
pub record IsPlanned (least : ℕ) (tree : Tree) : Type 0 where
  pub few_sources : length tree.sources ≤ 4
  pub some_nodes : 1 ≤ length tree.nodes
  pub few_nodes : length tree.nodes ≤ 63
  pub source : (n : ℕ) (s : SourcePlan) → slice_get tree.sources n ≡ Some s → IsSource s
  pub node : (n : ℕ) (p : NodePlan) → slice_get tree.nodes n ≡ Some p → IsNode least (length tree.sources) (length tree.nodes) p
