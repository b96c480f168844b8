-- How long the parts of a state and gathered bytes are.
use Rattle.std.proofs.Common.{◌≡◌, ◌≤◌, ℕ, zero, suc, ◌*◌, List, arith, length, sym, length-append, refl, zero-mul, suc-mul}
use Rattle.std.proofs.lemmas.List.{length-take-le}
use Rattle.hmac_core.specs.declared.hash.Hash.{Hash}
use Rattle.hmac_core.specs.declared.hash.Hash.TheVariants.{Sha224, Sha256, Sha384, Sha512, Sha512_224, Sha512_256}
use Rattle.hmac_core.specs.Hmac.{out_len}
use Rattle.hmac_core.proofs.Lengths.{length-hmac}
use Rattle.hmac_drbg.specs.HmacDrbg.{Working, turned, gathered, generated, with_additional, blocks_for}

pub length-turned : (h : Hash) (key value : List ℕ) (n : ℕ) → length value ≡ out_len h → length (turned h key value n) ≡ out_len h
unfolding turned
length-turned h key value zero e = e
length-turned h key value (suc n) e = length-hmac h key (turned h key value n)

pub length-gathered : (h : Hash) (key value : List ℕ) (n : ℕ) → length (gathered h key value n) ≡ n * out_len h
unfolding gathered turned
length-gathered h key value zero = sym (zero-mul (out_len h))
length-gathered h key value (suc n) =
    let rest = length-gathered h key value n in
    let last = length-hmac h key (turned h key value n) in
    rw (length-append, rest, last, suc-mul) refl

enough : (h : Hash) (n : ℕ) → n ≤ blocks_for h n * out_len h
enough Sha224 n = omega arith
enough Sha256 n = omega arith
enough Sha384 n = omega arith
enough Sha512 n = omega arith
enough Sha512_224 n = omega arith
enough Sha512_256 n = omega arith

pub length-generated : (h : Hash) (additional : List ℕ) (n : ℕ) (s : Working) → length (generated h additional n s) ≡ n
unfolding generated
length-generated h additional n s =
    let w = with_additional h additional s in
    let blocks = blocks_for h n in
    length-take-le n (gathered h w.key w.value blocks) (omega (arith, length-gathered h w.key w.value blocks, enough h n))
