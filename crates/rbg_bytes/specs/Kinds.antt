-- What each kind of DRBG is worth.
-- SP 800-90A Rev. 1, table 2 (hash-based mechanisms) and table 3 (CTR_DRBG), and SP 800-57 Part 1, table 3: the highest
-- supported strength.
use Rattle.std.specs.Prelude.{ℕ}
use Rattle.rbg_bytes.specs.declared.kind.Kind.{Kind}
use Rattle.rbg_bytes.specs.declared.kind.Kind.TheVariants.{HmacSha256, HmacSha384, HmacSha512, CtrAes128, CtrAes192, CtrAes256}

-- the security strength in bits
abbrev pub strength : Kind → ℕ
strength HmacSha256 = 256
strength HmacSha384 = 256
strength HmacSha512 = 256
strength CtrAes128 = 128
strength CtrAes192 = 192
strength CtrAes256 = 256
