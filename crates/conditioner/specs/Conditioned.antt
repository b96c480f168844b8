-- The conditioning components: the length of a block, the samples that it takes, and the block as a function of them.
-- SP 800-90B 3.1.5.1.1 (the vetted components); the lengths, the number of samples and HMAC's key are this project's own choice.
use Rattle.std.specs.Prelude.{ℕ, ◌+◌, ◌*◌, List}
use Rattle.std.specs.List.{range_with_len}
use Rattle.std.specs.Int.{div_ceil}
use Rattle.rbg_bytes.specs.declared.cond.Cond.{Cond}
use Rattle.rbg_bytes.specs.declared.cond.Cond.TheVariants as conds
use Rattle.hmac_core.specs.declared.hash.Hash.TheVariants.{Sha256}
use Rattle.hmac_core.specs.Hmac.{hmac}
use Rattle.df_core.specs.Df.{df}

-- the bytes of a block
abbrev pub block_len : Cond → ℕ
block_len conds.HmacSha256 = 32
block_len conds.DfAes256 = 16

-- the samples of a block, for samples of num / den bits of min-entropy each: as few as have 64 bits more than the block
abbrev pub need : Cond → ℕ → ℕ → ℕ
need cond num den = div_ceil ((8 * block_len cond + 64) * den) num

-- the bytes 00, 01 and so on to 1f
abbrev pub mac_key : List ℕ
mac_key = range_with_len 0 32

-- the block of the samples
unfoldable pub conditioned : Cond → List ℕ → List ℕ
conditioned conds.HmacSha256 samples = hmac Sha256 mac_key samples
conditioned conds.DfAes256 samples = df 32 samples 16
