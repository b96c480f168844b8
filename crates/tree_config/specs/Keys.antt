-- The keys that a place of a configuration may have.
-- This project's own.
use Rattle.std.specs.Prelude.{ℕ, Bool, true, ◌&&◌, List, [], ◌∷◌, codes, bytes_eq}
use Rattle.std.specs.List.{list_any}
use Rattle.tree_config.specs.declared.keys.Level.{Level}
use Rattle.tree_config.specs.declared.keys.Level.TheVariants.{Top, Source, Node}
use Rattle.toml.specs.Data.{Members, no_members, member}

-- one of the keys
abbrev pub is_key : List (List ℕ) → List ℕ → Bool
is_key keys k = list_any (λ known. bytes_eq known k) keys

-- each key of the table is one of these
abbrev pub has_only : List (List ℕ) → Members → Bool
has_only keys no_members = true
has_only keys (member k d ms) = is_key keys k && has_only keys ms

abbrev pub top_keys : List (List ℕ)
top_keys = codes "version" ∷ codes "opening" ∷ codes "source" ∷ codes "node" ∷ []

-- those of a source and of a node are by the version of the configuration
abbrev pub source_keys : ℕ → List (List ℕ)
source_keys version =
    codes "samples" ∷ codes "num" ∷ codes "den" ∷ codes "binary" ∷ codes "rct" ∷ codes "rct_a" ∷ codes "apt" ∷ codes "startup"
    ∷ codes "conditioner" ∷ []

abbrev pub node_keys : ℕ → List (List ℕ)
node_keys version = codes "kind" ∷ codes "drbg" ∷ codes "interval" ∷ codes "source" ∷ codes "parent" ∷ codes "seed" ∷ []

abbrev pub known_keys : Level → List (List ℕ)
known_keys Top = top_keys
known_keys (Source version) = source_keys version
known_keys (Node version) = node_keys version
