-- ShiftRows, MixColumns and AddRoundKey on the lanes of four states.
use Rattle.std.proofs.Common.{lit<, ◌≡◌, ◌<◌, ◌≤◌, ℕ, ◌+◌, ◌-◌, ◌*◌, ◌/◌, ◌%◌, ◌^◌, T, eqb, eqb→eq, List, [], ◌∷◌, ◌++◌, map, length, get_or, replicate, refl, ap, ◌∙◌}
use Rattle.std.specs.Prelude.{bit_xor, bit_and}
use Rattle.std.specs.Simd.Lanes.{chunk, zip2, pick_l}
use Rattle.std.specs.Int.Bits.{xor_assoc, xor_comm}
use Rattle.std.proofs.lemmas.Simd.{get_or-chunk, length-chunk, zip2_of_maps}
use Rattle.aes_core.proofs.Bytes.{all_below, every_below, once_is, tripled_is}
use Rattle.std.proofs.lemmas.List.{length-map}
use Rattle.aes_core.proofs.Lanes.{AreBlocks, IsBlock, lane_fits, lanes_same, map_same, of_each, splat_with, with_splat}
use Rattle.aes_core.proofs.Rows.{each_alike, each_each, each_map, each_same, each_zip, length-each}
use Rattle.aes_core.specs.Code.Blocks.{each_block}
use Rattle.aes_core.specs.declared.rounds.TheConstants.{NEXT, SHIFTED, SHIFTED_TWICE_ON}
use Rattle.aes_core.specs.Field.{times}
use Rattle.aes_core.specs.Aes.{add_round_key, at, mix_columns, shift_rows, state}

pub shifted_is : (v : List ℕ) → length v ≡ 64 → pick_l 0 (v ++ v) SHIFTED ≡ each_block shift_rows v
unfolding shift_rows
shifted_is v long = of_each 64 (λ v. pick_l 0 (v ++ v) SHIFTED ≡ each_block shift_rows v) (λ x0 x1 x2 x3 x4 x5 x6 x7 x8 x9 x10 x11 x12 x13 x14 x15 x16 x17 x18 x19 x20 x21 x22 x23 x24 x25 x26 x27 x28 x29 x30 x31 x32 x33 x34 x35 x36 x37 x38 x39 x40 x41 x42 x43 x44 x45 x46 x47 x48 x49 x50 x51 x52 x53 x54 x55 x56 x57 x58 x59 x60 x61 x62 x63. refl) v long

abbrev pub twice : ℕ → ℕ
twice b = bit_xor ((b + b) % 2 ^ 8) (bit_and ((0 + (2 ^ 8 - b / 2 ^ 7)) % 2 ^ 8) 27)

twice_is : (v : List ℕ) → AreBlocks v → map twice v ≡ map (times 2) v
unfolding times
twice_is v fits = lanes_same twice (times 2) v fits tt

pub doubled_is : (v : List ℕ) → AreBlocks v →
    zip2 bit_xor (zip2 (λ a b. (a + b) % 2 ^ 8) v v)
    (zip2 bit_and (zip2 (λ a b. (a + (2 ^ 8 - b)) % 2 ^ 8) (replicate 64 0) (zip2 (λ a b. a / 2 ^ b) v (replicate 64 7))) (replicate 64 27)) ≡ map (times 2) v
doubled_is v fits =
    let sum = zip2_of_maps (λ a b. (a + b) % 2 ^ 8) (λ x. x) (λ x. x) v (map_same v) (map_same v) in
    let top = with_splat (λ a b. a / 2 ^ b) (λ x. x) 7 v v fits.0 (map_same v) in
    let ones = splat_with (λ a b. (a + (2 ^ 8 - b)) % 2 ^ 8) (λ x. x / 2 ^ 7) 0 v _ fits.0 top in
    let over = with_splat bit_and (λ x. (0 + (2 ^ 8 - x / 2 ^ 7)) % 2 ^ 8) 27 v _ fits.0 ones in
    zip2_of_maps bit_xor (λ x. (x + x) % 2 ^ 8) (λ x. bit_and ((0 + (2 ^ 8 - x / 2 ^ 7)) % 2 ^ 8) 27) v sum over ∙ twice_is v fits

-- the product with x of a sum, once for all pairs of bytes
doubled_sum : T (all_below (λ a. all_below (λ b. eqb (times 2 (bit_xor a b)) (bit_xor (times 2 a) (times 2 b))) 256) 256)
unfolding times
doubled_sum = tt

doubled_xor : (a b : ℕ) → a < 256 → b < 256 → times 2 (bit_xor a b) ≡ bit_xor (times 2 a) (times 2 b)
doubled_xor a b la lb =
    eqb→eq _ _ (every_below (λ y. eqb (times 2 (bit_xor a y)) (bit_xor (times 2 a) (times 2 y))) 256
    (every_below (λ x. all_below (λ y. eqb (times 2 (bit_xor x y)) (bit_xor (times 2 x) (times 2 y))) 256) 256 doubled_sum a la) b lb)

-- row r of the matrix times a column, as the lanes compute it
mix_0 : (a b c d : ℕ) → a < 256 → b < 256 → c < 256 → d < 256 → bit_xor (bit_xor (times 2 (bit_xor a b)) b) (bit_xor c d)
    ≡ bit_xor (bit_xor (bit_xor (times 2 a) (times 3 b)) (times 1 c)) (times 1 d)
mix_0 a b c d la lb lc ld =
    rw (doubled_xor a b la lb, ← tripled_is b lb, ← once_is c lc, ← once_is d ld) (simp xor_assoc)

mix_1 : (a b c d : ℕ) → a < 256 → b < 256 → c < 256 → d < 256 → bit_xor (bit_xor (times 2 (bit_xor b c)) c) (bit_xor d a)
    ≡ bit_xor (bit_xor (bit_xor (times 1 a) (times 2 b)) (times 3 c)) (times 1 d)
mix_1 a b c d la lb lc ld = mix_0 b c d a lb lc ld la ∙ rw (← once_is a la, ← once_is d ld) (xor_comm _ a ∙ simp xor_assoc)

mix_2 : (a b c d : ℕ) → a < 256 → b < 256 → c < 256 → d < 256 → bit_xor (bit_xor (times 2 (bit_xor c d)) d) (bit_xor a b)
    ≡ bit_xor (bit_xor (bit_xor (times 1 a) (times 1 b)) (times 2 c)) (times 3 d)
mix_2 a b c d la lb lc ld =
    rw (doubled_xor c d lc ld, ← tripled_is d ld, ← once_is a la, ← once_is b lb) (xor_comm _ (bit_xor a b) ∙ simp xor_assoc)

mix_3 : (a b c d : ℕ) → a < 256 → b < 256 → c < 256 → d < 256 → bit_xor (bit_xor (times 2 (bit_xor d a)) a) (bit_xor b c)
    ≡ bit_xor (bit_xor (bit_xor (times 3 a) (times 1 b)) (times 1 c)) (times 2 d)
mix_3 a b c d la lb lc ld =
    rw (doubled_xor d a ld la, ← tripled_is a la, ← once_is b lb, ← once_is c lc)
    (ap (λ (t : ℕ). bit_xor t (bit_xor b c)) (xor_assoc _ _ a ∙ xor_comm (times 2 d) (bit_xor (times 2 a) a)) ∙ (xor_assoc _ (times 2 d) (bit_xor b c) ∙ (ap (bit_xor (bit_xor (times 2 a) a)) (xor_comm (times 2 d) (bit_xor b c)) ∙ simp xor_assoc)))

-- the byte below each byte in its column, and the columns moved up by two, of one block
abbrev next_of : List ℕ → List ℕ
next_of b = pick_l 0 (b ++ b) (5 ∷ 6 ∷ 7 ∷ 4 ∷ 9 ∷ 10 ∷ 11 ∷ 8 ∷ 13 ∷ 14 ∷ 15 ∷ 12 ∷ 1 ∷ 2 ∷ 3 ∷ 0 ∷ [])

abbrev twice_on : List ℕ → List ℕ
twice_on b = pick_l 0 (b ++ b) (10 ∷ 15 ∷ 0 ∷ 5 ∷ 14 ∷ 3 ∷ 4 ∷ 9 ∷ 2 ∷ 7 ∷ 8 ∷ 13 ∷ 6 ∷ 11 ∷ 12 ∷ 1 ∷ [])

abbrev sum_of : List ℕ → List ℕ
sum_of b = zip2 bit_xor b (next_of b)

-- the columns as the lanes compute them
abbrev block_mixed : List ℕ → List ℕ
block_mixed b = zip2 bit_xor (shift_rows (zip2 bit_xor (map (times 2) (sum_of b)) (next_of b))) (twice_on (sum_of b))

block_mixed_is : (b : List ℕ) → IsBlock b → block_mixed b ≡ mix_columns (shift_rows b)
unfolding mix_columns shift_rows
block_mixed_is v fits =
    of_each 16 (λ v. ((i : ℕ) → i < 16 → get_or v i 0 < 256) → block_mixed v ≡ mix_columns (shift_rows v))
    (λ x0 x1 x2 x3 x4 x5 x6 x7 x8 x9 x10 x11 x12 x13 x14 x15 w. rw (
      mix_0 x0 x5 x10 x15 (w 0 (lit< tt)) (w 5 (lit< tt)) (w 10 (lit< tt)) (w 15 (lit< tt)),
      mix_1 x0 x5 x10 x15 (w 0 (lit< tt)) (w 5 (lit< tt)) (w 10 (lit< tt)) (w 15 (lit< tt)),
      mix_2 x0 x5 x10 x15 (w 0 (lit< tt)) (w 5 (lit< tt)) (w 10 (lit< tt)) (w 15 (lit< tt)),
      mix_3 x0 x5 x10 x15 (w 0 (lit< tt)) (w 5 (lit< tt)) (w 10 (lit< tt)) (w 15 (lit< tt)),
      mix_0 x4 x9 x14 x3 (w 4 (lit< tt)) (w 9 (lit< tt)) (w 14 (lit< tt)) (w 3 (lit< tt)),
      mix_1 x4 x9 x14 x3 (w 4 (lit< tt)) (w 9 (lit< tt)) (w 14 (lit< tt)) (w 3 (lit< tt)),
      mix_2 x4 x9 x14 x3 (w 4 (lit< tt)) (w 9 (lit< tt)) (w 14 (lit< tt)) (w 3 (lit< tt)),
      mix_3 x4 x9 x14 x3 (w 4 (lit< tt)) (w 9 (lit< tt)) (w 14 (lit< tt)) (w 3 (lit< tt)),
      mix_0 x8 x13 x2 x7 (w 8 (lit< tt)) (w 13 (lit< tt)) (w 2 (lit< tt)) (w 7 (lit< tt)),
      mix_1 x8 x13 x2 x7 (w 8 (lit< tt)) (w 13 (lit< tt)) (w 2 (lit< tt)) (w 7 (lit< tt)),
      mix_2 x8 x13 x2 x7 (w 8 (lit< tt)) (w 13 (lit< tt)) (w 2 (lit< tt)) (w 7 (lit< tt)),
      mix_3 x8 x13 x2 x7 (w 8 (lit< tt)) (w 13 (lit< tt)) (w 2 (lit< tt)) (w 7 (lit< tt)),
      mix_0 x12 x1 x6 x11 (w 12 (lit< tt)) (w 1 (lit< tt)) (w 6 (lit< tt)) (w 11 (lit< tt)),
      mix_1 x12 x1 x6 x11 (w 12 (lit< tt)) (w 1 (lit< tt)) (w 6 (lit< tt)) (w 11 (lit< tt)),
      mix_2 x12 x1 x6 x11 (w 12 (lit< tt)) (w 1 (lit< tt)) (w 6 (lit< tt)) (w 11 (lit< tt)),
      mix_3 x12 x1 x6 x11 (w 12 (lit< tt)) (w 1 (lit< tt)) (w 6 (lit< tt)) (w 11 (lit< tt)),
    ) refl) v fits.0 (λ i h. lane_fits v i fits.1)

next_is : (v : List ℕ) → length v ≡ 64 → pick_l 0 (v ++ v) NEXT ≡ each_block next_of v
next_is v long = of_each 64 (λ v. pick_l 0 (v ++ v) NEXT ≡ each_block next_of v) (λ x0 x1 x2 x3 x4 x5 x6 x7 x8 x9 x10 x11 x12 x13 x14 x15 x16 x17 x18 x19 x20 x21 x22 x23 x24 x25 x26 x27 x28 x29 x30 x31 x32 x33 x34 x35 x36 x37 x38 x39 x40 x41 x42 x43 x44 x45 x46 x47 x48 x49 x50 x51 x52 x53 x54 x55 x56 x57 x58 x59 x60 x61 x62 x63. refl) v long

twice_on_is : (v : List ℕ) → length v ≡ 64 → pick_l 0 (v ++ v) SHIFTED_TWICE_ON ≡ each_block twice_on v
twice_on_is v long = of_each 64 (λ v. pick_l 0 (v ++ v) SHIFTED_TWICE_ON ≡ each_block twice_on v) (λ x0 x1 x2 x3 x4 x5 x6 x7 x8 x9 x10 x11 x12 x13 x14 x15 x16 x17 x18 x19 x20 x21 x22 x23 x24 x25 x26 x27 x28 x29 x30 x31 x32 x33 x34 x35 x36 x37 x38 x39 x40 x41 x42 x43 x44 x45 x46 x47 x48 x49 x50 x51 x52 x53 x54 x55 x56 x57 x58 x59 x60 x61 x62 x63. refl) v long

length-sum : (b : List ℕ) → length b ≡ 16 → length (sum_of b) ≡ 16
length-sum b long = of_each 16 (λ b. length (sum_of b) ≡ 16) (λ x0 x1 x2 x3 x4 x5 x6 x7 x8 x9 x10 x11 x12 x13 x14 x15. refl) b long

inner_of : List ℕ → List ℕ
inner_of b = zip2 bit_xor (map (times 2) (sum_of b)) (next_of b)

length-inner : (b : List ℕ) → length b ≡ 16 → length (inner_of b) ≡ 16
unfolding inner_of
length-inner b long = of_each 16 (λ b. length (zip2 bit_xor (map (times 2) (sum_of b)) (next_of b)) ≡ 16) (λ x0 x1 x2 x3 x4 x5 x6 x7 x8 x9 x10 x11 x12 x13 x14 x15. refl) b long

-- the four states as the lanes compute them
pub mixed_is : (v next sum inner moved : List ℕ) → AreBlocks v → next ≡ pick_l 0 (v ++ v) NEXT → sum ≡ zip2 bit_xor v next →
    inner ≡ zip2 bit_xor (map (times 2) sum) next → moved ≡ pick_l 0 (sum ++ sum) SHIFTED_TWICE_ON →
    zip2 bit_xor (each_block shift_rows inner) moved ≡ each_block (λ b. mix_columns (shift_rows b)) v
unfolding shift_rows inner_of
mixed_is v next sum inner moved fits is_next is_sum is_inner is_moved =
    let long = fits.0 in
    let e1 : next ≡ each_block next_of v = is_next ∙ next_is v long in
    let e2 : sum ≡ each_block sum_of v =
    is_sum ∙ (ap (zip2 bit_xor v) e1 ∙ (ap (λ (t : List ℕ). zip2 bit_xor t (each_block next_of v)) (each_same v long)
    ∙ each_zip bit_xor (λ b. b) next_of v long (λ b e. e) (λ b e. refl))) in
    let e3 : inner ≡ each_block inner_of v =
    is_inner ∙ (ap (λ (t : List ℕ). zip2 bit_xor (map (times 2) t) next) e2 ∙ (ap (zip2 bit_xor (map (times 2) (each_block sum_of v))) e1
    ∙ (ap (λ (t : List ℕ). zip2 bit_xor t (each_block next_of v)) (each_map (times 2) sum_of v)
    ∙ each_zip bit_xor (λ b. map (times 2) (sum_of b)) next_of v long (λ b e. length-map (sum_of b) (times 2) ∙ length-sum b e) (λ b e. refl)))) in
    let e4 : each_block shift_rows inner ≡ each_block (λ b. shift_rows (inner_of b)) v =
    ap (each_block shift_rows) e3 ∙ each_each shift_rows inner_of v long length-inner in
    let e5 : moved ≡ each_block (λ b. twice_on (sum_of b)) v =
    is_moved ∙ (ap (λ (t : List ℕ). pick_l 0 (t ++ t) SHIFTED_TWICE_ON) e2
    ∙ (twice_on_is (each_block sum_of v) (length-each sum_of v long length-sum) ∙ each_each twice_on sum_of v long length-sum)) in
    ap (λ (t : List ℕ). zip2 bit_xor t moved) e4 ∙ (ap (zip2 bit_xor (each_block (λ b. shift_rows (inner_of b)) v)) e5
    ∙ (each_zip bit_xor (λ b. shift_rows (inner_of b)) (λ b. twice_on (sum_of b)) v long (λ b e. refl) (λ b e. refl)
    ∙ each_alike block_mixed (λ b. mix_columns (shift_rows b)) v fits block_mixed_is))

-- ---- AddRoundKey

summed_is : (s k : List ℕ) → length s ≡ 16 → length k ≡ 16 → zip2 bit_xor s k ≡ state (λ r c. bit_xor (at s r c) (at k r c))
summed_is s k ls lk =
    of_each 16 (λ s. zip2 bit_xor s k ≡ state (λ r c. bit_xor (at s r c) (at k r c)))
    (λ x0 x1 x2 x3 x4 x5 x6 x7 x8 x9 x10 x11 x12 x13 x14 x15.
    of_each 16 (λ k. zip2 bit_xor (x0 ∷ x1 ∷ x2 ∷ x3 ∷ x4 ∷ x5 ∷ x6 ∷ x7 ∷ x8 ∷ x9 ∷ x10 ∷ x11 ∷ x12 ∷ x13 ∷ x14 ∷ x15 ∷ []) k
    ≡ state (λ r c. bit_xor (at (x0 ∷ x1 ∷ x2 ∷ x3 ∷ x4 ∷ x5 ∷ x6 ∷ x7 ∷ x8 ∷ x9 ∷ x10 ∷ x11 ∷ x12 ∷ x13 ∷ x14 ∷ x15 ∷ []) r c) (at k r c)))
    (λ y0 y1 y2 y3 y4 y5 y6 y7 y8 y9 y10 y11 y12 y13 y14 y15. refl) k lk) s ls

block_with_key_is : (w s : List ℕ) (n : ℕ) → length s ≡ 16 → 16 * n + 16 ≤ length w → zip2 bit_xor s (chunk (16 * n) 16 w) ≡ add_round_key w n s
unfolding add_round_key
block_with_key_is w s n long within =
    summed_is s (chunk (16 * n) 16 w) long (length-chunk (16 * n) 16 w within)
    ∙ rw (
      get_or-chunk (16 * n) 16 w 0 0 (lit< tt),
      get_or-chunk (16 * n) 16 w 1 0 (lit< tt),
      get_or-chunk (16 * n) 16 w 2 0 (lit< tt),
      get_or-chunk (16 * n) 16 w 3 0 (lit< tt),
      get_or-chunk (16 * n) 16 w 4 0 (lit< tt),
      get_or-chunk (16 * n) 16 w 5 0 (lit< tt),
      get_or-chunk (16 * n) 16 w 6 0 (lit< tt),
      get_or-chunk (16 * n) 16 w 7 0 (lit< tt),
      get_or-chunk (16 * n) 16 w 8 0 (lit< tt),
      get_or-chunk (16 * n) 16 w 9 0 (lit< tt),
      get_or-chunk (16 * n) 16 w 10 0 (lit< tt),
      get_or-chunk (16 * n) 16 w 11 0 (lit< tt),
      get_or-chunk (16 * n) 16 w 12 0 (lit< tt),
      get_or-chunk (16 * n) 16 w 13 0 (lit< tt),
      get_or-chunk (16 * n) 16 w 14 0 (lit< tt),
      get_or-chunk (16 * n) 16 w 15 0 (lit< tt),
    ) refl

pub with_key_is : (w v : List ℕ) (n : ℕ) → AreBlocks v → 16 * n + 16 ≤ length w →
    zip2 bit_xor v (chunk (16 * n) 16 w ++ chunk (16 * n) 16 w ++ chunk (16 * n) 16 w ++ chunk (16 * n) 16 w) ≡ each_block (add_round_key w n) v
with_key_is w v n fits within =
    let k = chunk (16 * n) 16 w in
    let long = length-chunk (16 * n) 16 w within in
    ap (λ (t : List ℕ). zip2 bit_xor t (k ++ k ++ k ++ k)) (each_same v fits.0)
    ∙ (each_zip bit_xor (λ b. b) (λ _. k) v fits.0 (λ b e. e) (λ b e. long)
    ∙ each_alike (λ b. zip2 bit_xor b k) (add_round_key w n) v fits (λ b is. block_with_key_is w b n is.0 within))
