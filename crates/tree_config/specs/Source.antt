-- What a source's table says: its plan, or the first field at fault, key by key in the order of docs/CONFIGURATION.md.
-- This project's own; the cutoff of the repetition count test is that of SP 800-90B 4.4.1.
use Rattle.std.specs.Prelude.{ℕ, ◌+◌, ◌*◌, Bool, true, false, not, ◌&&◌, ◌||◌, if◌then◌else◌, nat_le, Option, Some, None, Result, Ok, Err, codes}
use Rattle.std.specs.Int.{div_ceil}
use Rattle.rbg_bytes.specs.declared.cond.Cond.TheVariants as cond
use Rattle.toml.specs.Data.{Data, boolean, Members, get_member, as_bool}
use Rattle.tree_config.specs.declared.fault.Field.{Field}
use Rattle.tree_config.specs.declared.fault.Field.TheVariants as field
use Rattle.tree_config.specs.declared.plan.SourcePlan.{SourcePlan}
use Rattle.tree_config.specs.Fields.{◌>>=◌, or_fault, required, or_default, where_true, number_within, text_within, one_of}
use Rattle.tree_config.specs.Names.{cond_names}
use Rattle.tree_config.specs.Keys.{has_only, source_keys}

-- the boolean true, and no other value
abbrev pub is_true : Option Data → Bool
is_true (Some (boolean true)) = true
is_true _ = false

-- num is at most 8 * den, and at most den where the samples are binary
abbrev pub den_fits : ℕ → ℕ → Option Data → Result (Unit {0}) Field
den_fits num den binary = where_true field.Den (nat_le num (8 * den) && (not (is_true binary) || nat_le num den))

-- the cutoff of the repetition count test, given or computed: exactly one of the two keys has to be there
abbrev pub rct_of : ℕ → ℕ → Option Data → Option Data → Result ℕ Field
rct_of num den (Some rct) None = or_fault field.Rct (number_within 2 4294967295 rct)
rct_of num den None (Some rct_a) = or_fault field.RctA (number_within 1 64 rct_a) >>= (λ a. Ok (1 + div_ceil (a * den) num))
rct_of num den _ _ = Err field.Rct

-- the window of the adaptive proportion test (4.4.2)
unfoldable pub window_of : Bool → ℕ
window_of binary = if binary then 1024 else 512

-- by the version of the configuration
unfoldable pub source_at : ℕ → Members → Result SourcePlan Field
source_at version ms = do
  samples ← required field.Samples (text_within 1 255) (get_member (codes "samples") ms)
  num ← required field.Num (number_within 1 8000) (get_member (codes "num") ms)
  den ← required field.Den (number_within 1 1000) (get_member (codes "den") ms)
  _ ← den_fits num den (get_member (codes "binary") ms)
  binary ← or_default false field.Binary as_bool (get_member (codes "binary") ms)
  rct ← rct_of num den (get_member (codes "rct") ms) (get_member (codes "rct_a") ms)
  apt ← required field.Apt (number_within 2 (window_of binary)) (get_member (codes "apt") ms)
  startup ← or_default 1024 field.Startup (number_within 1024 65536) (get_member (codes "startup") ms)
  conditioner ← or_default cond.HmacSha256 field.Conditioner (one_of (cond_names version)) (get_member (codes "conditioner") ms)
  _ ← where_true field.Unknown (has_only (source_keys version) ms)
  Ok (record {
    samples = samples;
    num = num;
    den = den;
    cutoffs = record { rct = rct; window = window_of binary; apt = apt };
    startup = startup;
    cond = conditioner;
  })
