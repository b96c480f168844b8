-- The length of a key in bytes.
-- FIPS 197, 5; SP 800-90A Rev. 1, table 3.
use Rattle.std.specs.Prelude.{ℕ}
use Rattle.df_core.specs.declared.key_len.KeyLen.{KeyLen}
use Rattle.df_core.specs.declared.key_len.KeyLen.TheVariants.{K16, K24, K32}

abbrev pub key_bytes : KeyLen → ℕ
key_bytes K16 = 16
key_bytes K24 = 24
key_bytes K32 = 32
