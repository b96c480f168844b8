use Rattle.std.proofs.Common.{◌≡◌, ◌+◌, ◌++◌, [], List, ℕ, length, length-append, ap, ◌∙◌}
use Rattle.df_core.proofs.Lengths.{length-df}
use Rattle.ctr_drbg.specs.CtrDrbg.{seed_len}
use Rattle.df_core.specs.KeyLen.{key_bytes}
use Rattle.ctr_drbg.proofs.seeds.derived.Goals as goal

pub returns-clause-bytes : goal.returns-clause-bytes
returns-clause-bytes c =
    let k = key_bytes c.args.keylen in
    let a : List ℕ = c.args.first.now in
    let b : List ℕ = c.args.second.now in
    let d : List ℕ = c.args.third.now in
    let first = c.push.ensures k _ _ [] c.in-Ok.ensures.held in
    let second = c.push-2.ensures k _ _ a first in
    let third = c.push-3.ensures k _ _ (a ++ b) second in
    let all : length (a ++ b ++ d) ≡ length a + length b + length d = simp length-append in
    rw c.bytes.ensures at (c.finish.ensures k _ _ (a ++ b ++ d) third all)

pub returns-clause-long : goal.returns-clause-long
returns-clause-long c = ap length (returns-clause-bytes c) ∙ length-df (key_bytes c.args.keylen) _ (seed_len (key_bytes c.args.keylen))
