-- A row of bytes that is filled block by block.
use Rattle.std.proofs.Common.{◌≡◌, ◌≤◌, ℕ, ◌+◌, ◌-◌, ◌*◌, List, ◌++◌, length, take, sym, ap, ◌∙◌, arith, add-one, suc-mul, refl}
use Rattle.std.proofs.Math.Seq.{take-append-add}
use Rattle.std.proofs.lemmas.List.{take_all}
use Rattle.hmac_core.specs.declared.hash.Hash.{Hash}
use Rattle.hmac_core.specs.Hmac.{hmac, out_len}
use Rattle.hmac_drbg.specs.declared.state.HmacDrbg.{HmacDrbg}
use Rattle.hmac_drbg.specs.HmacDrbg.{turned, gathered}
use Rattle.hmac_drbg.proofs.Lengths.{length-gathered}
use Rattle.hmac_drbg.proofs.Updates.{turned-more, gathered-more}

-- n bytes of two parts, where the first has no more than n
take-two_parts : (front back : List ℕ) (n : ℕ) → length front ≤ n → take n (front ++ back) ≡ front ++ take (n - length front) back
take-two_parts front back n fits =
    let e : length front + (n - length front) ≡ n = omega arith in
    ap (λ (m : ℕ). take m (front ++ back)) (sym e) ∙ take-append-add front back (n - length front)

-- one more block
fill_more : (h : Hash) (key value out after : List ℕ) (i len : ℕ) → len ≡ out_len h → i * len ≤ length out → length after ≡ length out →
    take (i * len) out ≡ take (length out) (gathered h key value i) →
    take (i * len + out_len h) after ≡ take (i * len) out ++ take (length out - i * len) (hmac h key (turned h key value i)) →
    take ((i + 1) * len) after ≡ take (length after) (gathered h key value (i + 1))
fill_more h key value out after i len is fits same so_far put =
    let g = gathered h key value i in
    let block = hmac h key (turned h key value i) in
    let lg : length (gathered h key value i) ≡ i * len = length-gathered h key value i ∙ ap (λ (x : ℕ). i * x) (sym is) in
    let at : (i + 1) * len ≡ i * len + len = rw (add-one, suc-mul) refl in
    let le : length (gathered h key value i) ≤ length out = omega (arith, lg) in
    let split = take-two_parts g block (length out) le in
    let front : take (length out) (gathered h key value i) ≡ gathered h key value i = take_all (length out) g le in
    let put2 : take (i * len + len) after ≡ take (i * len) out ++ take (length out - i * len) (hmac h key (turned h key value i)) =
    ap (λ (x : ℕ). take (i * len + x) after) is ∙ put in
    let split2 : take (length out) (gathered h key value i ++ hmac h key (turned h key value i))
    ≡ gathered h key value i ++ take (length out - i * len) (hmac h key (turned h key value i)) = rw lg at split in
    rw (at, same, gathered-more h key value i) (put2 ∙ (ap (λ (x : List ℕ). x ++ take (length out - i * len) block) (so_far ∙ front) ∙ sym split2))

-- one more block put by the state after so many turns
pub put_more : (d now : HmacDrbg) (out after : List ℕ) (i len : ℕ) → now ≡ record d { v = turned d.hash d.k d.v i } →
    len ≡ out_len d.hash → i * len ≤ length out → length after ≡ length out →
    take (i * len) out ≡ take (length out) (gathered d.hash d.k d.v i) →
    take (i * len + out_len now.hash) after ≡ take (i * len) out ++ take (length out - i * len) (hmac now.hash now.k now.v) →
    take ((i + 1) * len) after ≡ take (length after) (gathered d.hash d.k d.v (i + 1))
put_more d now out after i len turns is fits same so_far put =
    fill_more d.hash d.k d.v out after i len is fits same so_far (rw turns at put)

-- one more turn of the state
pub turn_more : (d now after : HmacDrbg) (i : ℕ) → now ≡ record d { v = turned d.hash d.k d.v i } →
    after ≡ record now { v = hmac now.hash now.k now.v } → after ≡ record d { v = turned d.hash d.k d.v (i + 1) }
turn_more d now after i turns e = rw (turned-more d.hash d.k d.v i) (rw turns at e)
