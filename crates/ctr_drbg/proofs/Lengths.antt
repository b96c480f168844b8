-- How long the results are.
use Rattle.std.proofs.Common.{◌≡◌, ℕ, zero, suc, ◌*◌, List, length, take, refl, arith, length-append}
use Rattle.std.proofs.lemmas.List.{length-take-le}
use Rattle.aes_core.proofs.Lengths.{length-aes}
use Rattle.df_core.specs.Df.{blocks_for}
use Rattle.ctr_drbg.specs.declared.seeds.Mode.{Mode}
use Rattle.ctr_drbg.specs.CtrDrbg.{Working, counted, generated, stream, with_additional}

pub length-stream : (key v : List ℕ) (n : ℕ) → length (stream key v n) ≡ 16 * n
unfolding stream
length-stream key v zero = refl
length-stream key v (suc n) = simp length-append (omega (arith, length-stream key v n, length-aes key (counted v (suc n))))

-- the length of a front of the bytes
pub length-front : (key v : List ℕ) (n : ℕ) → length (take n (stream key v (blocks_for n))) ≡ n
length-front key v n = length-take-le n (stream key v (blocks_for n)) (omega (arith, length-stream key v (blocks_for n)))

pub length-generated : (mode : Mode) (additional : List ℕ) (n : ℕ) (s : Working) → length (generated mode additional n s) ≡ n
unfolding generated
length-generated mode additional n s =
    let w = with_additional mode additional s in length-front w.key w.value n
