-- What a configuration's top says, before its sources and nodes are read.
-- This project's own.
use Rattle.std.specs.Prelude.{◌≡◌, ℕ, Bool, true, false, ◌&&◌, if◌then◌else◌, List, [], ◌∷◌, map, Option, Some, None, Result, Ok, Err, codes}
use Rattle.toml.specs.Data.{Data, array, table, Items, no_items, item, Members, no_members, get_member}
use Rattle.toml.specs.declared.value.Value.{Value}
use Rattle.toml.specs.View.{view}
use Rattle.tree_config.specs.declared.top.Heading.{Heading}
use Rattle.tree_config.specs.declared.fault.Field.{Field}
use Rattle.tree_config.specs.declared.fault.Field.TheVariants as field
use Rattle.tree_config.specs.Fields.{◌>>=◌, required, or_default, where_true, number_within, one_of}
use Rattle.tree_config.specs.Keys.{has_only, top_keys}
use Rattle.tree_config.specs.Names.{opening_names}

-- the members of a table, and none of another value
abbrev pub members_in : Data → Members
members_in (table ms) = ms
members_in _ = no_members

abbrev pub is_table : Data → Bool
is_table (table ms) = true
is_table _ = false

abbrev pub are_tables : Items → Bool
are_tables no_items = true
are_tables (item d ds) = is_table d && are_tables ds

abbrev pub table_list : Items → List Members
table_list no_items = []
table_list (item d ds) = members_in d ∷ table_list ds

-- the tables of an array that holds nothing else
abbrev pub tables : Data → Option (List Members)
tables (array ds) = if are_tables ds then Some (table_list ds) else None
tables _ = None

-- at least one
abbrev pub some_tables : Data → Option (List Members)
some_tables (array (item d ds)) = tables (array (item d ds))
some_tables _ = None

pub record Top : Type 0 where
  pub version : ℕ
  pub opens_all : Bool
  pub sources : List Members
  pub nodes : List Members

-- version 1 alone is read
unfoldable pub top_at : Members → Result Top Field
top_at ms = do
  version ← required field.Version (number_within 1 1) (get_member (codes "version") ms)
  opens_all ← or_default true field.Opening (one_of opening_names) (get_member (codes "opening") ms)
  sources ← or_default [] field.Sources tables (get_member (codes "source") ms)
  nodes ← required field.Nodes some_tables (get_member (codes "node") ms)
  _ ← where_true field.Unknown (has_only top_keys ms)
  Ok (record { version = version; opens_all = opens_all; sources = sources; nodes = nodes })

-- the members of each value
abbrev pub members_of_each : List Value → List Members
members_of_each vs = map (λ v. members_in (view v)) vs

-- what the code hands on of the top: the values in place of their members
abbrev pub heading_view : Heading → Top
heading_view h = record { version = h.version; opens_all = h.opens_all; sources = members_of_each h.sources.now; nodes = members_of_each h.nodes.now }

-- a reader's answer, seen by view, is this one
abbrev pub Reads : {X Y E : Type 0} → (X → Y) → Result X E → Result Y E → Type 0
Reads view (Ok x) read = read ≡ Ok (view x)
Reads view (Err e) read = read ≡ Err e
