-- The working state that a CtrDrbg keeps.
-- SP 800-90A Rev. 1, 10.2.1.1.
use Rattle.std.specs.Prelude.{length}
use Rattle.ctr_drbg.specs.CtrDrbg.{Working}
use Rattle.aes_core.specs.Keys.{IsKeyLength}
use Rattle.ctr_drbg.specs.declared.drbg.CtrDrbg.{CtrDrbg}

-- its Key and V
abbrev pub working : CtrDrbg → Working
working d = record { key = d.key; value = d.v }

-- its Key is a key of AES
abbrev pub IsWellFormed : CtrDrbg → Type 0
IsWellFormed d = IsKeyLength (length d.key)
