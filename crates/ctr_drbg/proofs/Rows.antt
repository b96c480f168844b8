-- Rows of bytes: sums, zeros at the end, and the encryptions of counted values.
use Rattle.std.proofs.Common.{◌≡◌, ◌≤◌, ℕ, zero, suc, ◌+◌, ◌-◌, ◌*◌, List, [], ◌++◌, length, take, drop, replicate, refl, sym, ap, subst, ◌∙◌, arith, add-one, append_assoc, append-nil, length-append}
use Rattle.std.specs.Prelude.{bit_xor}
use Rattle.std.proofs.Math.Seq.{take-append-add, take-append_seam, drop-append_seam}
use Rattle.std.proofs.lemmas.Simd.{length-zip2}
use Rattle.rbg_bytes.specs.Xor.{xor_bytes}
use Rattle.std.proofs.lemmas.List.{drop-replicate, drop-take, length-replicate, length-take-le, take-append-le, take-replicate}
use Rattle.aes_core.specs.Aes.{aes}
use Rattle.df_core.specs.Df.{blocks_for}
use Rattle.ctr_drbg.proofs.Lengths.{length-stream}
use Rattle.ctr_drbg.specs.CtrDrbg.{Working, counted, plus_one, stream, update, zero_padded}

-- the front of two parts
pub front_of : (n : ℕ) (front rest : List ℕ) → length front ≡ n → take n (front ++ rest) ≡ front
front_of n front rest long = subst (λ (k : ℕ). take k (front ++ rest) ≡ front) long (take-append_seam front rest)

-- a key and a block behind it, in a row of bytes with others behind them
pub key_and_block : (k : ℕ) (both rest : List ℕ) → length both ≡ k + 16 →
    (take k (both ++ rest) ≡ take k both) × (take 16 (drop k (both ++ rest)) ≡ drop k both)
key_and_block k both rest long =
    let front : take (k + 16) (both ++ rest) ≡ both = front_of (k + 16) both rest long in (
      take-append-le k both rest (omega (arith, long)),
      sym (drop-take k 16 (both ++ rest)) ∙ ap (drop k) front,
    )

-- what the update makes of a state, in a buffer that is xored in place
pub update_is : (s : Working) (held provided sum key value : List ℕ) → length s.key + 16 ≤ length held → length provided ≡ length s.key + 16 →
    take (length s.key + 16) held ≡ take (length s.key + 16) (stream s.key s.value (blocks_for (length s.key + 16))) →
    sum ≡ xor_bytes (take (length s.key + 16) held) provided → key ≡ take (length s.key) (sum ++ drop (length s.key + 16) held) →
    value ≡ take 16 (drop (length s.key) (sum ++ drop (length s.key + 16) held)) → record { key = key; value = value } ≡ update provided s
unfolding update
update_is s held provided sum key value fits same front is_sum is_key is_value =
    let n = length s.key + 16 in
    let long = length-take-le (length s.key + 16) held fits in
    let size : length sum ≡ length s.key + 16 = ap length is_sum ∙ (length-zip2 bit_xor (take n held) provided (long ∙ sym same) ∙ long) in
    let both = key_and_block (length s.key) sum (drop n held) size in
    let temp : sum ≡ xor_bytes (take (length s.key + 16) (stream s.key s.value (blocks_for (length s.key + 16)))) provided =
    is_sum ∙ ap (λ (x : List ℕ). xor_bytes x provided) front in
    rw (is_key, is_value, both.0, both.1, temp) refl

pub length-zero_padded : (n : ℕ) (bytes : List ℕ) → length bytes ≤ n → n ≡ length (zero_padded n bytes)
length-zero_padded n bytes fits = simp (length-append, length-replicate {A = ℕ}) (omega arith)

-- the sum of a row and of another with zeros after it, in a buffer that is xored in place
pub padded_sum_is : (bytes string held sum result : List ℕ) (n : ℕ) → length bytes ≡ n → length string ≤ n → take (length bytes) held ≡ bytes →
    sum ≡ xor_bytes (take n held) (zero_padded n string) → result ≡ take n (sum ++ drop n held) → result ≡ xor_bytes bytes (zero_padded n string)
padded_sum_is bytes string held sum result n same fits front is_sum is =
    let held_is : take n held ≡ bytes = ap (λ (k : ℕ). take k held) (sym same) ∙ front in
    let sum_is : sum ≡ xor_bytes bytes (zero_padded n string) = is_sum ∙ ap (λ (x : List ℕ). xor_bytes x (zero_padded n string)) held_is in
    let size : length sum ≡ n = ap length sum_is ∙ (length-zip2 bit_xor bytes (zero_padded n string) (same ∙ length-zero_padded n string fits) ∙ same) in
    is ∙ (front_of n sum (drop n held) size ∙ sum_is)

padded_by : (bs : List ℕ) (k n : ℕ) → k ≤ n → take (length bs + k) (bs ++ replicate n 0) ≡ bs ++ replicate k 0
padded_by bs k n h = take-append-add bs (replicate n 0) k ∙ ap (λ (x : List ℕ). bs ++ x) (take-replicate k n 0 h)

pub padded_front : (bs : List ℕ) (len n : ℕ) → length bs ≤ len → len ≤ n →
    take len (bs ++ drop (length bs) (replicate n 0)) ≡ bs ++ replicate (len - length bs) 0
padded_front bs len n low high =
    let e : length bs + (len - length bs) ≡ len = omega arith in
    let k : len - length bs ≤ n - length bs = omega arith in
    rw (drop-replicate {X = ℕ} (length bs) n 0)
    (ap (λ (m : ℕ). take m (bs ++ replicate (n - length bs) 0)) (sym e) ∙ padded_by bs (len - length bs) (n - length bs) k)

pub counted-none : (v : List ℕ) → counted v 0 ≡ v
unfolding counted
counted-none v = refl

pub counted-more : (v : List ℕ) (n : ℕ) → counted v (n + 1) ≡ plus_one (counted v n)
unfolding counted
counted-more v n = rw (add-one n) refl

pub stream-none : (key v : List ℕ) → stream key v 0 ≡ []
unfolding stream
stream-none key v = refl

pub stream-more : (key v : List ℕ) (n : ℕ) → stream key v (n + 1) ≡ stream key v n ++ aes key (counted v (n + 1))
unfolding stream
stream-more key v n = rw add-one refl

-- n bytes of two parts, where the first has no more than n
pub two_parts : (front back : List ℕ) (n : ℕ) → length front ≤ n → take n (front ++ back) ≡ front ++ take (n - length front) back
two_parts front back n fits =
    let e : length front + (n - length front) ≡ n = omega arith in
    ap (λ (m : ℕ). take m (front ++ back)) (sym e) ∙ take-append-add front back (n - length front)

-- one block more of the bytes
pub block_more : (key v block out after : List ℕ) (i : ℕ) → take (16 * i) out ≡ stream key v i → block ≡ aes key (counted v (i + 1)) →
    length block ≡ 16 → take (16 * i + length block) after ≡ take (16 * i) out ++ block → take (16 * (i + 1)) after ≡ stream key v (i + 1)
block_more key v block out after i so_far is long put =
    let at : 16 * (i + 1) ≡ 16 * i + length block = omega (arith, long) in
    rw (at, stream-more key v i, ← so_far, ← is) put

-- ---- the values after V in two goes

pub counted-add : (v : List ℕ) (m n : ℕ) → counted v (m + n) ≡ counted (counted v m) n
unfolding counted
counted-add v m zero =
    let e : m + zero ≡ m = omega arith in
    rw e refl
counted-add v m (suc n) =
    let e : m + suc n ≡ suc (m + n) = omega arith in
    rw e (ap plus_one (counted-add v m n))

pub stream-append : (key v : List ℕ) (m n : ℕ) → stream key v (m + n) ≡ stream key v m ++ stream key (counted v m) n
unfolding stream counted
stream-append key v m zero =
    let e : m + zero ≡ m = omega arith in
    rw (e, append-nil) refl
stream-append key v m (suc n) =
    let e : m + suc n ≡ suc (m + n) = omega arith in
    let last : counted v (suc (m + n)) ≡ counted (counted v m) (suc n) = ap plus_one (counted-add v m n) in
    rw e
    (ap (λ (x : List ℕ). x ++ aes key (counted v (suc (m + n)))) (stream-append key v m n)
    ∙ (ap (λ (x : List ℕ). (stream key v m ++ stream key (counted v m) n) ++ aes key x) last
    ∙ append_assoc (stream key v m) (stream key (counted v m) n) (aes key (counted (counted v m) (suc n)))))

-- the bytes of so many blocks begin with those of fewer
pub stream-front : (key v : List ℕ) (n m : ℕ) → blocks_for n ≤ m → take n (stream key v m) ≡ take n (stream key v (blocks_for n))
stream-front key v n m few =
    let e : blocks_for n + (m - blocks_for n) ≡ m = omega arith in
    let front = stream key v (blocks_for n) in
    let le : n ≤ length (stream key v (blocks_for n)) = omega (arith, length-stream key v (blocks_for n)) in
    ap (λ (k : ℕ). take n (stream key v k)) (sym e)
    ∙ (ap (take n) (stream-append key v (blocks_for n) (m - blocks_for n)) ∙ take-append-le n front _ le)

-- the bytes of fewer blocks
pub stream-fewer : (key v : List ℕ) (n m : ℕ) → n ≤ m → take (16 * n) (stream key v m) ≡ stream key v n
stream-fewer key v n m few =
    let e : n + (m - n) ≡ m = omega arith in
    ap (λ (k : ℕ). take (16 * n) (stream key v k)) (sym e)
    ∙ (ap (take (16 * n)) (stream-append key v n (m - n)) ∙ front_of (16 * n) (stream key v n) _ (length-stream key v n))

-- the bytes behind so many blocks
pub stream-behind : (key v : List ℕ) (b m n : ℕ) → n ≤ 16 * m → take n (drop (16 * b) (stream key v (b + m))) ≡ take n (stream key (counted v b) m)
stream-behind key v b m n few =
    let front = stream key v b in let back = stream key (counted v b) m in
    let long : length (stream key v b) ≡ 16 * b = length-stream key v b in
    ap (λ (x : List ℕ). take n (drop (16 * b) x)) (stream-append key v b m)
    ∙ (ap (λ (k : ℕ). take n (drop k (front ++ back))) (sym long) ∙ ap (take n) (drop-append_seam front back))
