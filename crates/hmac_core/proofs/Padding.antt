-- A key with zeros after it, up to a block and up to the longest block, and the key by whether it fits into a block.
use Rattle.std.proofs.Common.{◌≡◌, ◌≤◌, ◌<◌, ℕ, ◌+◌, ◌-◌, List, [], ◌++◌, length, take, drop, replicate, sym, ap, refl, ◌∙◌, arith}
use Rattle.std.proofs.Math.Seq.{take-append-add}
use Rattle.std.proofs.lemmas.List.{append-nil, drop-replicate, take-replicate, take-map}
use Rattle.std.proofs.lemmas.Bool.Decides.{nat_tests}
use Rattle.std.specs.Prelude.{bit_xor}
use Rattle.hmac_core.specs.declared.hash.Hash.{Hash}
use Rattle.hmac_core.specs.declared.mac.Mac.{Mac}
use Rattle.hmac_core.specs.Hmac.{hash_of, block_len, xor_each, zero_padded, block_key}
use Rattle.hmac_core.specs.Holds.{HoldsText, StartsFrom}

-- a key written over the front of a row of zeros
pub zero_padded_over : (key : List ℕ) (n : ℕ) → key ++ drop (length key) (replicate n 0) ≡ zero_padded n key
zero_padded_over key n = rw (drop-replicate {X = ℕ} (length key) n 0) refl

-- a shorter block is the front of a longer one
take-zero_padded : (key : List ℕ) (len n : ℕ) → length key ≤ len → len ≤ n → take len (zero_padded n key) ≡ zero_padded len key
take-zero_padded key len n low high =
    let e : length key + (len - length key) ≡ len = omega arith in
    let k : len - length key ≤ n - length key = omega arith in
    ap (λ (m : ℕ). take m (zero_padded n key)) (sym e)
    ∙ (take-append-add key (replicate (n - length key) 0) (len - length key)
    ∙ ap (λ (x : List ℕ). key ++ x) (take-replicate (len - length key) (n - length key) 0 k))

-- the same after each byte was changed
pub take-xor_each : (pad : ℕ) (key : List ℕ) (len n : ℕ) → length key ≤ len → len ≤ n →
    take len (xor_each pad (zero_padded n key)) ≡ xor_each pad (zero_padded len key)
take-xor_each pad key len n low high =
    take-map (λ (b : ℕ). bit_xor b pad) len (zero_padded n key) ∙ ap (xor_each pad) (take-zero_padded key len n low high)

-- K0 of a key that fits into a block, and of a longer one
pub block_key-short : (h : Hash) (key : List ℕ) → length key ≤ block_len h → block_key h key ≡ zero_padded (block_len h) key
unfolding block_key
block_key-short h key fits = grind (arith, nat_tests)

pub block_key-long : (h : Hash) (key : List ℕ) → block_len h < length key → block_key h key ≡ zero_padded (block_len h) (hash_of h key)
unfolding block_key
block_key-long h key long = grind (arith, nat_tests)

-- an HMAC in progress that begins with K0 of a key holds that key and no text
pub no_text : (mac : Mac) (h : Hash) (key block : List ℕ) → block_key h key ≡ block → StartsFrom mac h block → HoldsText mac h key []
no_text mac h key block e starts = record { states = rw (e, append-nil) starts }
