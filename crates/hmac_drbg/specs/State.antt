-- The working state that a HmacDrbg keeps.
-- SP 800-90A Rev. 1, 10.1.2.1.
use Rattle.std.specs.Prelude.{◌≡◌, length}
use Rattle.hmac_core.specs.Hmac.{out_len}
use Rattle.hmac_drbg.specs.HmacDrbg.{Working}
use Rattle.hmac_drbg.specs.declared.state.HmacDrbg.{HmacDrbg}

-- its Key and V
abbrev pub working : HmacDrbg → Working
working d = record { key = d.k; value = d.v }

-- both are as long as a digest of its hash function
pub record IsWellFormed (d : HmacDrbg) : Type 0 where
  pub k : length d.k ≡ out_len d.hash
  pub v : length d.v ≡ out_len d.hash
