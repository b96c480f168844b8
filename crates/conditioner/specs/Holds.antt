-- What a block in progress holds.
-- SP 800-90B 3.1.5.1.1, in progress; this project's own.
use Rattle.std.specs.Prelude.{◌≡◌, ℕ, List}
use Rattle.rbg_bytes.specs.declared.cond.Cond.{Cond}
use Rattle.rbg_bytes.specs.declared.cond.Cond.TheVariants as conds
use Rattle.hmac_core.specs.declared.hash.Hash.TheVariants.{Sha256}
use Rattle.hmac_core.specs.Holds as macs
use Rattle.df_core.specs.Holds as dfs
use Rattle.conditioner.specs.Conditioned.{mac_key}
use Rattle.conditioner.specs.declared.block.Component.{Component}
use Rattle.conditioner.specs.declared.block.Component.TheVariants.{OfMac, OfDf}
use Rattle.conditioner.specs.declared.block.Block.{Block}

-- the component is this one, for so many samples, and holds the first of them
abbrev pub HoldsFirst : Component → Cond → ℕ → List ℕ → Type 0
HoldsFirst (OfMac mac) cond total samples = (cond ≡ conds.HmacSha256) × macs.HoldsText mac Sha256 mac_key samples
HoldsFirst (OfDf d) cond total samples = (cond ≡ conds.DfAes256) × dfs.HoldsInput d 32 total 16 samples

-- the block in progress is one of this component, for so many samples, and holds the first of them
pub record HoldsSamples (block : Block) (cond : Cond) (total : ℕ) (samples : List ℕ) : Type 0 where
  pub held : HoldsFirst block.component cond total samples
