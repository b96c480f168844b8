-- How many bytes a generate gives.
use Rattle.std.proofs.Common.{◌≡◌, ℕ, List, length}
use Rattle.rbg_bytes.specs.declared.kind.Kind.{Kind}
use Rattle.ctr_drbg.specs.declared.seeds.Mode.TheVariants.{UseDf}
use Rattle.hmac_drbg.proofs.Lengths as hmac_drbg
use Rattle.ctr_drbg.proofs.Lengths as ctr_drbg
use Rattle.drbg_any.specs.Drbg.{Working, Mechanism, OverHash, OverAes, mechanism, as_hmac, as_ctr, generated, generated_by}

length-generated_by : (m : Mechanism) (additional : List ℕ) (n : ℕ) (s : Working) → length (generated_by m additional n s) ≡ n
length-generated_by (OverHash h) additional n s = hmac_drbg.length-generated h additional n (as_hmac s)
length-generated_by (OverAes k) additional n s = ctr_drbg.length-generated UseDf additional n (as_ctr s)

pub length-generated : (k : Kind) (additional : List ℕ) (n : ℕ) (s : Working) → length (generated k additional n s) ≡ n
unfolding generated
length-generated k additional n s = length-generated_by (mechanism k) additional n s
