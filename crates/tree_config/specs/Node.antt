-- What a node's table says: its row, or the first field at fault, key by key in the order of docs/CONFIGURATION.md.
-- This project's own.
use Rattle.std.specs.Prelude.{ℕ, ◌^◌, ◌-◌, nat_lt, if◌then◌else◌, Option, None, Result, Ok, codes}
use Rattle.toml.specs.Data.{Data, Members, get_member}
use Rattle.tree_config.specs.declared.fault.Field.{Field}
use Rattle.tree_config.specs.declared.fault.Field.TheVariants as field
use Rattle.tree_config.specs.declared.plan.NodeKind.{NodeKind}
use Rattle.tree_config.specs.declared.plan.NodeKind.TheVariants.{Rbg1, Rbg2, Rbg3Xor, Rbg3Rs, Child}
use Rattle.tree_config.specs.declared.row.RowOrigin.{RowOrigin}
use Rattle.tree_config.specs.declared.row.RowOrigin.TheVariants as origin
use Rattle.tree_config.specs.declared.row.NodeRow.{NodeRow}
use Rattle.tree_config.specs.Fields.{◌>>=◌, required, or_default, absent, where_true, number_within, text_within, one_of}
use Rattle.tree_config.specs.Names.{node_kind_names, drbg_names}
use Rattle.tree_config.specs.Keys.{has_only, node_keys}

-- the number of a source of the file
abbrev pub source_within : ℕ → Data → Option ℕ
source_within count d = if nat_lt 0 count then number_within 0 (count - 1) d else None

-- the keys source, parent and seed of a node with a source
abbrev pub drawn : ℕ → Option Data → Option Data → Option Data → Result RowOrigin Field
drawn count source parent seed = do
  n ← required field.Source (source_within count) source
  _ ← absent field.Parent parent
  _ ← absent field.Seed seed
  Ok (origin.Source n)

-- the keys source, parent and seed of each kind, in a file of so many sources
abbrev pub origin_of : NodeKind → ℕ → Option Data → Option Data → Option Data → Result RowOrigin Field
origin_of Rbg1 count source parent seed = do
  _ ← absent field.Source source
  _ ← absent field.Parent parent
  name ← required field.Seed (text_within 1 255) seed
  Ok (origin.SeedFile name)
origin_of Rbg2 count source parent seed = drawn count source parent seed
origin_of Rbg3Xor count source parent seed = drawn count source parent seed
origin_of Rbg3Rs count source parent seed = drawn count source parent seed
origin_of Child count source parent seed = do
  _ ← absent field.Source source
  n ← required field.Parent (number_within 0 (2 ^ 63 - 1)) parent
  _ ← absent field.Seed seed
  Ok (origin.Parent n)

-- by the version of the configuration, in a file of so many sources
unfoldable pub node_at : ℕ → ℕ → Members → Result NodeRow Field
node_at version count ms = do
  kind ← required field.NodeKind (one_of node_kind_names) (get_member (codes "kind") ms)
  drbg ← required field.Drbg (one_of drbg_names) (get_member (codes "drbg") ms)
  interval ← or_default 65536 field.Interval (number_within 1 281474976710656) (get_member (codes "interval") ms)
  origin ← origin_of kind count (get_member (codes "source") ms) (get_member (codes "parent") ms) (get_member (codes "seed") ms)
  _ ← where_true field.Unknown (has_only (node_keys version) ms)
  Ok (record { kind = kind; drbg = drbg; interval = interval; origin = origin })
