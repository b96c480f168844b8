-- A conditioned block has its component's length.
use Rattle.std.proofs.Common.{◌≡◌, ◌≤◌, ℕ, List, length, sym, ap, ◌∙◌, subst, arith}
use Rattle.rbg_bytes.specs.declared.cond.Cond.{Cond}
use Rattle.rbg_bytes.specs.declared.cond.Cond.TheVariants as conds
use Rattle.hmac_core.specs.declared.hash.Hash.TheVariants.{Sha256}
use Rattle.hmac_core.specs.Hmac.{hmac}
use Rattle.df_core.specs.Df.{df}
use Rattle.hmac_core.proofs.Lengths.{length-hmac}
use Rattle.df_core.proofs.Lengths.{length-df}
use Rattle.conditioner.specs.Conditioned.{block_len, mac_key, conditioned}

pub length-conditioned : (cond : Cond) (samples : List ℕ) → length (conditioned cond samples) ≡ block_len cond
unfolding conditioned
length-conditioned conds.HmacSha256 samples = length-hmac Sha256 mac_key samples
length-conditioned conds.DfAes256 samples = length-df 32 samples 16

-- what is made of the component's output is the block, which is no longer than one may be
pub made : (cond : Cond) (samples output result : List ℕ) → output ≡ conditioned cond samples → (length output ≤ 32 → result ≡ output)
    → result ≡ conditioned cond samples
made cond samples output result e f = f (subst (λ l. length l ≤ 32) (sym e) (fits cond (length-conditioned cond samples))) ∙ e where
  fits : (cond : Cond) → length (conditioned cond samples) ≡ block_len cond → length (conditioned cond samples) ≤ 32
  fits conds.HmacSha256 h = omega (arith, h)
  fits conds.DfAes256 h = omega (arith, h)

pub made_by_mac : (cond : Cond) (samples output result : List ℕ) → cond ≡ conds.HmacSha256 → output ≡ hmac Sha256 mac_key samples
    → (length output ≤ 32 → result ≡ output) → result ≡ conditioned cond samples
unfolding conditioned
made_by_mac cond samples output result is e f =
    made conds.HmacSha256 samples output result e f ∙ ap (λ c. conditioned c samples) (sym is)

pub made_by_df : (cond : Cond) (samples output result : List ℕ) → cond ≡ conds.DfAes256 → output ≡ df 32 samples 16
    → (length output ≤ 32 → result ≡ output) → result ≡ conditioned cond samples
unfolding conditioned
made_by_df cond samples output result is e f =
    made conds.DfAes256 samples output result e f ∙ ap (λ c. conditioned c samples) (sym is)
