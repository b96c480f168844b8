-- The names of kinds of node, of kinds of DRBG, of conditioning components, of fields and of places.
-- This project's own.
use Rattle.std.specs.Prelude.{ℕ, Bool, true, false, List, [], ◌∷◌, ◌++◌, map, codes, decimal}
use Rattle.rbg_bytes.specs.declared.cond.Cond.{Cond}
use Rattle.rbg_bytes.specs.declared.cond.Cond.TheVariants as conds
use Rattle.rbg_bytes.specs.declared.kind.Kind.{Kind}
use Rattle.rbg_bytes.specs.declared.kind.Kind.TheVariants as kinds
use Rattle.tree_config.specs.declared.plan.NodeKind.{NodeKind}
use Rattle.tree_config.specs.declared.plan.NodeKind.TheVariants as nodes
use Rattle.tree_config.specs.declared.fault.Field.{Field}
use Rattle.tree_config.specs.declared.fault.Field.TheVariants as fields
use Rattle.tree_config.specs.declared.fault.Place.{Place}
use Rattle.tree_config.specs.declared.fault.Place.TheVariants as places

abbrev pub node_kind_text : NodeKind → List ℕ
node_kind_text nodes.Rbg1 = codes "rbg1"
node_kind_text nodes.Rbg2 = codes "rbg2"
node_kind_text nodes.Rbg3Xor = codes "rbg3-xor"
node_kind_text nodes.Rbg3Rs = codes "rbg3-rs"
node_kind_text nodes.Child = codes "child"

abbrev pub drbg_text : Kind → List ℕ
drbg_text kinds.HmacSha256 = codes "hmac-sha-256"
drbg_text kinds.HmacSha384 = codes "hmac-sha-384"
drbg_text kinds.HmacSha512 = codes "hmac-sha-512"
drbg_text kinds.CtrAes128 = codes "ctr-aes-128"
drbg_text kinds.CtrAes192 = codes "ctr-aes-192"
drbg_text kinds.CtrAes256 = codes "ctr-aes-256"

abbrev pub cond_text : Cond → List ℕ
cond_text conds.HmacSha256 = codes "hmac-sha-256"
cond_text conds.DfAes256 = codes "df-aes-256"

abbrev pub field_text : Field → List ℕ
field_text fields.Version = codes "Version"
field_text fields.Opening = codes "Opening"
field_text fields.Sources = codes "Sources"
field_text fields.Nodes = codes "Nodes"
field_text fields.Samples = codes "Samples"
field_text fields.Num = codes "Num"
field_text fields.Den = codes "Den"
field_text fields.Binary = codes "Binary"
field_text fields.Rct = codes "Rct"
field_text fields.RctA = codes "RctA"
field_text fields.Apt = codes "Apt"
field_text fields.Startup = codes "Startup"
field_text fields.Conditioner = codes "Conditioner"
field_text fields.NodeKind = codes "NodeKind"
field_text fields.Drbg = codes "Drbg"
field_text fields.Interval = codes "Interval"
field_text fields.Source = codes "Source"
field_text fields.Parent = codes "Parent"
field_text fields.Seed = codes "Seed"
field_text fields.Unknown = codes "Unknown"

-- a place: its top, or a source or a node by its number
abbrev pub place_text : Place → List ℕ
place_text places.Top = codes "top"
place_text (places.Source j) = codes "source " ++ decimal j
place_text (places.Node i) = codes "node " ++ decimal i

-- what there are too many of: nodes, or else sources
abbrev pub entries_text : Bool → List ℕ
entries_text true = codes "nodes"
entries_text false = codes "sources"

-- each value behind its name
abbrev pub by_name : {A : Type 0} → (A → List ℕ) → List A → List (List ℕ × A)
by_name text values = map (λ value. (text value, value)) values

-- the names that a configuration may use
abbrev pub node_kind_names : List (List ℕ × NodeKind)
node_kind_names = by_name node_kind_text (nodes.Rbg1 ∷ nodes.Rbg2 ∷ nodes.Rbg3Xor ∷ nodes.Rbg3Rs ∷ nodes.Child ∷ [])

abbrev pub drbg_names : List (List ℕ × Kind)
drbg_names =
    by_name drbg_text
    (kinds.HmacSha256 ∷ kinds.HmacSha384 ∷ kinds.HmacSha512 ∷ kinds.CtrAes128 ∷ kinds.CtrAes192 ∷ kinds.CtrAes256 ∷ [])

-- by the version of the configuration
abbrev pub cond_names : ℕ → List (List ℕ × Cond)
cond_names version = by_name cond_text (conds.HmacSha256 ∷ conds.DfAes256 ∷ [])

-- whether all nodes are opened at the start
abbrev pub opening_names : List (List ℕ × Bool)
opening_names = (codes "all", true) ∷ (codes "none", false) ∷ []
