-- How long the results are.
use Rattle.std.proofs.Common.{◌≡◌, ℕ, zero, suc, ◌*◌, ◌%◌, List, length, take, drop, refl, arith, length-append}
use Rattle.std.proofs.lemmas.List.{length-replicate, length-take-le}
use Rattle.aes_core.proofs.Lengths.{length-aes}
use Rattle.df_core.specs.Df.{blocks_for, df, df_string, temp_of, turned, turns}

pub length-turns : (key x : List ℕ) (n : ℕ) → length (turns key x n) ≡ 16 * n
unfolding turns turned
length-turns key x zero = refl
length-turns key x (suc n) = simp length-append (omega (arith, length-turns key x n, length-aes key (turned key x n)))

-- as many bytes as are wanted
pub length-df : (keylen : ℕ) (input : List ℕ) (want : ℕ) → length (df keylen input want) ≡ want
unfolding df
length-df keylen input want =
    let temp = temp_of keylen input want in
    let all = turns (take keylen temp) (take 16 (drop keylen temp)) (blocks_for want) in
    length-take-le want all (omega (arith, length-turns (take keylen temp) (take 16 (drop keylen temp)) (blocks_for want)))

-- S is whole blocks
pub whole-df_string : (input : List ℕ) (want : ℕ) → length (df_string input want) % 16 ≡ 0
unfolding df_string
whole-df_string input want = simp (length-append, length-replicate {A = ℕ}) (omega arith)
