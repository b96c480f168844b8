-- All rows that a text says, or its first fault up to the last field of the last node.
-- This project's own. That a text is TOML is what the crate toml says of it.
use Rattle.std.specs.Prelude.{◌≡◌, ℕ, ◌+◌, Bool, true, false, nat_le, nat_lt, if◌then◌else◌, List, [], ◌∷◌, length, Option, Some, None, Result, Ok, Err}
use Rattle.std.specs.Str.{is_utf8}
use Rattle.toml.specs.Data.{Members}
use Rattle.toml.specs.Parse.{parse_document}
use Rattle.tree_config.specs.declared.fault.Field.{Field}
use Rattle.tree_config.specs.declared.fault.Place.{Place}
use Rattle.tree_config.specs.declared.fault.Place.TheVariants as place
use Rattle.tree_config.specs.declared.fault.ConfigFault.{ConfigFault}
use Rattle.tree_config.specs.declared.fault.ConfigFault.TheVariants.{TooLarge, BadToml, BadField, TooMany}
use Rattle.tree_config.specs.declared.fault.PlanRefusal.{PlanRefusal}
use Rattle.tree_config.specs.declared.fault.PlanRefusal.TheVariants.{Fault, OutOfMemory}
use Rattle.tree_config.specs.declared.plan.SourcePlan.{SourcePlan}
use Rattle.tree_config.specs.declared.row.NodeRow.{NodeRow}
use Rattle.tree_config.specs.declared.row.RowVecs.{RowVecs}
use Rattle.tree_config.specs.Fields.{◌>>=◌}
use Rattle.tree_config.specs.Source.{source_at}
use Rattle.tree_config.specs.Node.{node_at}
use Rattle.tree_config.specs.Top.{top_at}

-- what was returned, seen by view, is this answer, unless memory ran out
abbrev pub Gives : {X Y : Type 0} → (X → Y) → Result X PlanRefusal → Result Y ConfigFault → Type 0
Gives view (Ok x) read = read ≡ Ok (view x)
Gives view (Err OutOfMemory) read = Unit {0}
Gives view (Err (Fault f)) read = read ≡ Err f

-- a refusal is for want of memory, or a fault of which P holds
abbrev pub FaultIs : (ConfigFault → Type 0) → PlanRefusal → Type 0
FaultIs P OutOfMemory = Unit {0}
FaultIs P (Fault f) = P f

-- a field at fault, with its place
abbrev pub at_place : {A : Type 0} → Place → Result A Field → Result A ConfigFault
at_place p (Ok x) = Ok x
at_place p (Err f) = Err (BadField p f)

abbrev pub at_most : Bool → ℕ → ℕ → Result (Unit {0}) ConfigFault
at_most nodes limit count = if nat_le count limit then Ok tt else Err (TooMany nodes count limit)

-- what a reader says of each table, numbered from i on
abbrev pub each_at : {A : Type 0} → (ℕ → Place) → (Members → Result A Field) → ℕ → List Members → Result (List A) ConfigFault
each_at place read i [] = Ok []
each_at place read i (ms ∷ rest) = do
  x ← at_place (place i) (read ms)
  more ← each_at place read (i + 1) rest
  Ok (x ∷ more)

abbrev pub sources_at : ℕ → List Members → Result (List SourcePlan) ConfigFault
sources_at version = each_at place.Source (source_at version) 0

-- the nodes of a file of so many sources
abbrev pub nodes_at : ℕ → ℕ → List Members → Result (List NodeRow) ConfigFault
nodes_at version count = each_at place.Node (node_at version count) 0

-- the most sources, the most nodes and the greatest depth, by the version of the configuration
abbrev pub source_limit : ℕ → ℕ
source_limit version = 4

abbrev pub node_limit : ℕ → ℕ
node_limit version = 63

abbrev pub depth_limit : ℕ → ℕ
depth_limit version = 8

pub record Rows : Type 0 where
  pub version : ℕ
  pub opens_all : Bool
  pub sources : List SourcePlan
  pub nodes : List NodeRow

-- the rows of a text's own table
unfoldable pub rows_at : Members → Result Rows ConfigFault
rows_at ms = do
  top ← at_place place.Top (top_at ms)
  _ ← at_most false (source_limit top.version) (length top.sources)
  _ ← at_most true (node_limit top.version) (length top.nodes)
  sources ← sources_at top.version top.sources
  nodes ← nodes_at top.version (length top.sources) top.nodes
  Ok (record { version = top.version; opens_all = top.opens_all; sources = sources; nodes = nodes })

abbrev pub or_bad : Option Members → Result Members ConfigFault
or_bad None = Err BadToml
or_bad (Some ms) = Ok ms

-- the table that a text is
unfoldable pub document_of : List ℕ → Result Members ConfigFault
document_of text =
    if nat_lt 65536 (length text) then Err (TooLarge 65536)
    else if is_utf8 text then or_bad (parse_document text)
    else Err BadToml

-- the rows of a text
abbrev pub rows_of : List ℕ → Result Rows ConfigFault
rows_of text = document_of text >>= rows_at

-- the code's rows without where they lie in memory
abbrev pub rows_view : RowVecs → Rows
rows_view r = record { version = r.version; opens_all = r.opens_all; sources = r.sources.items; nodes = r.nodes.items }
