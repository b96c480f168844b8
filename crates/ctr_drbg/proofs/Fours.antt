-- Four blocks of the bytes at once.
use Rattle.std.proofs.Common.{◌≡◌, ◌≤◌, ℕ, ◌+◌, ◌*◌, ◌/◌, ◌-◌, List, [], ◌∷◌, ◌++◌, length, map, take, drop, get_or, refl, sym, ap, ◌∙◌, arith, append_assoc, append-nil}
use Rattle.std.specs.List.{concat}
use borrow.Rule.Slice.PartMut.{put_mid}
use Rattle.std.proofs.Math.ListN.{drop_of_length-le}
use Rattle.std.proofs.Math.Seq.{take-append-add}
use Rattle.std.proofs.lemmas.List.{drop-drop, drop-take, take-take, take_all}
use Rattle.aes_core.specs.Aes.{aes}
use Rattle.df_core.specs.Df.{blocks_for}
use Rattle.ctr_drbg.specs.CtrDrbg.{counted, stream}
use Rattle.ctr_drbg.proofs.Lengths.{length-front, length-stream}
use Rattle.ctr_drbg.proofs.Rows.{counted-add, stream-append, stream-behind, stream-fewer, stream-front, two_parts}

-- four blocks in a row
joined_four : (blocks : List (List ℕ)) → length blocks ≡ 4 →
    concat blocks ≡ get_or blocks 0 [] ++ (get_or blocks 1 [] ++ (get_or blocks 2 [] ++ get_or blocks 3 []))
joined_four [] four = absurd (omega arith)
joined_four (a ∷ []) four = absurd (omega arith)
joined_four (a ∷ b ∷ []) four = absurd (omega arith)
joined_four (a ∷ b ∷ c ∷ []) four = absurd (omega arith)
joined_four (a ∷ b ∷ c ∷ d ∷ []) four = simp append-nil refl
joined_four (a ∷ b ∷ c ∷ d ∷ e ∷ rest) four = absurd (omega arith)

-- four blocks that are put one behind the other
pub four_put : (out o1 o2 o3 o4 : List ℕ) (blocks : List (List ℕ)) (at : ℕ) → length blocks ≡ 4 →
    length (get_or blocks 0 []) ≡ 16 → length (get_or blocks 1 []) ≡ 16 → length (get_or blocks 2 []) ≡ 16 → length (get_or blocks 3 []) ≡ 16 →
    take (at + length (get_or blocks 0 [])) o1 ≡ take at out ++ get_or blocks 0 [] →
    take (at + 16 + length (get_or blocks 1 [])) o2 ≡ take (at + 16) o1 ++ get_or blocks 1 [] →
    take (at + 32 + length (get_or blocks 2 [])) o3 ≡ take (at + 32) o2 ++ get_or blocks 2 [] →
    take (at + 48 + length (get_or blocks 3 [])) o4 ≡ take (at + 48) o3 ++ get_or blocks 3 [] →
    take (at + 64) o4 ≡ take at out ++ concat blocks
four_put out o1 o2 o3 o4 blocks at four l0 l1 l2 l3 p0 p1 p2 p3 =
    let b0 = get_or blocks 0 [] in let b1 = get_or blocks 1 [] in let b2 = get_or blocks 2 [] in let b3 = get_or blocks 3 [] in
    let e0 : at + 16 ≡ at + length (get_or blocks 0 []) = omega (arith, l0) in
    let e1 : at + 32 ≡ at + 16 + length (get_or blocks 1 []) = omega (arith, l1) in
    let e2 : at + 48 ≡ at + 32 + length (get_or blocks 2 []) = omega (arith, l2) in
    let e3 : at + 64 ≡ at + 48 + length (get_or blocks 3 []) = omega (arith, l3) in
    let q0 = ap (λ (n : ℕ). take n o1) e0 ∙ p0 in
    let q1 = ap (λ (n : ℕ). take n o2) e1 ∙ (p1 ∙ ap (λ (x : List ℕ). x ++ b1) q0) in
    let q2 = ap (λ (n : ℕ). take n o3) e2 ∙ (p2 ∙ ap (λ (x : List ℕ). x ++ b2) q1) in
    let q3 = ap (λ (n : ℕ). take n o4) e3 ∙ (p3 ∙ ap (λ (x : List ℕ). x ++ b3) q2) in
    q3 ∙ (simp append_assoc refl ∙ ap (λ (x : List ℕ). take at out ++ x) (sym (joined_four blocks four)))

-- the encryptions of four values in a row
pub stream-four : (key v : List ℕ) →
    concat (map (aes key) (counted v 1 ∷ counted v 2 ∷ counted v 3 ∷ counted v 4 ∷ [])) ≡ stream key v 4
unfolding stream
stream-four key v = simp (append_assoc, append-nil) refl

-- four blocks more
pub fours_more : (key v last out after : List ℕ) (values blocks : List (List ℕ)) (i : ℕ) → last ≡ counted v (4 * i) →
    take (64 * i) out ≡ stream key v (4 * i) → values ≡ counted last 1 ∷ counted last 2 ∷ counted last 3 ∷ counted last 4 ∷ [] →
    blocks ≡ map (aes key) values → take (64 * i + 64) after ≡ take (64 * i) out ++ concat blocks →
    take (64 * (i + 1)) after ≡ stream key v (4 * (i + 1))
fours_more key v last out after values blocks i is_last so_far is_values is_blocks put =
    let at : 64 * (i + 1) ≡ 64 * i + 64 = omega arith in
    let more : 4 * (i + 1) ≡ 4 * i + 4 = omega arith in
    let all = ap concat (is_blocks ∙ ap (map (aes key)) is_values) ∙ (stream-four key last ∙ ap (λ (x : List ℕ). stream key x 4) is_last) in
    rw (at, more, stream-append key v (4 * i) 4)
    (put ∙ (ap (λ (x : List ℕ). x ++ concat blocks) so_far ∙ ap (λ (x : List ℕ). stream key v (4 * i) ++ x) all))

-- the value after four more
pub value_more : (v last value : List ℕ) (i : ℕ) → last ≡ counted v (4 * i) → value ≡ counted last 4 → value ≡ counted v (4 * (i + 1))
value_more v last value i is_last is =
    let more : 4 * (i + 1) ≡ 4 * i + 4 = omega arith in
    is ∙ (ap (λ (x : List ℕ). counted x 4) is_last ∙ (sym (counted-add v (4 * i) 4) ∙ ap (counted v) (sym more)))

-- the rest of a buffer that is written from a place on
put_rest : (a k : ℕ) (xs ys : List ℕ) → a + k ≡ length xs → length ys ≡ k → put_mid a k xs ys ≡ take a xs ++ ys
put_rest a k xs ys all long =
    let none : drop k (drop a xs) ≡ [] = drop-drop k a xs ∙ drop_of_length-le xs (omega arith) in
    rw (none, append-nil) refl

-- some blocks four at once, and the rest one by one, of which more may be made than are asked for
pub fours_and_ones : (key v last row rest : List ℕ) (f o c k : ℕ) → 64 * f + k ≡ length row → length rest ≡ k → take (64 * f) row ≡ stream key v (4 * f) →
    last ≡ counted v (4 * f) → 16 * o ≤ k → take (16 * o) rest ≡ stream key last o → c ≤ 4 * f + o → take (16 * c) (put_mid (64 * f) k row rest) ≡ stream key v c
fours_and_ones key v last row rest f o c k all long fours is_last room ones few =
    let front = stream key v (4 * f) in
    let lf : length (stream key v (4 * f)) ≡ 64 * f = omega (arith, length-stream key v (4 * f)) in
    let at : 64 * f + 16 * o ≡ length (stream key v (4 * f)) + 16 * o = omega (arith, lf) in
    let both = put_rest (64 * f) k row rest all long ∙ ap (λ (x : List ℕ). x ++ rest) fours in
    let made : take (64 * f + 16 * o) (put_mid (64 * f) k row rest) ≡ stream key v (4 * f + o) =
    ap (take (64 * f + 16 * o)) both
    ∙ (ap (λ (n : ℕ). take n (front ++ rest)) at
    ∙ (take-append-add front rest (16 * o)
    ∙ (ap (λ (x : List ℕ). front ++ x) (ones ∙ ap (λ (x : List ℕ). stream key x o) is_last) ∙ sym (stream-append key v (4 * f) o)))) in
    sym (take-take (16 * c) (64 * f + 16 * o) (put_mid (64 * f) k row rest) (omega (arith, few)))
    ∙ (ap (take (16 * c)) made ∙ stream-fewer key v c (4 * f + o) few)

-- bytes that are made four blocks at once, and then from the front of a row
pub out_is : (key v last middle row after : List ℕ) (n q r c : ℕ) → length middle ≡ n → length after ≡ n → q ≡ n / 64 → r ≡ n - 64 * q → blocks_for r ≤ c →
    take (64 * q) middle ≡ stream key v (4 * q) → last ≡ counted v (4 * q) → take (16 * c) row ≡ stream key last c →
    take (64 * q + length (take r row)) after ≡ take (64 * q) middle ++ take r row → after ≡ take n (stream key v (blocks_for n))
out_is key v last middle row after n q r c long size is_q is_r few fours is_last is_row put =
    let front = stream key v (4 * q) in
    let lf : length (stream key v (4 * q)) ≡ 64 * q = omega (arith, length-stream key v (4 * q)) in
    let part : take r row ≡ take r (stream key last (blocks_for r)) =
    sym (take-take r (16 * c) row (omega (arith, few))) ∙ (ap (take r) is_row ∙ stream-front key last r c few) in
    let lr : length (take r row) ≡ r = ap length part ∙ length-front key last r in
    let all : take (64 * q + length (take r row)) after ≡ after = take_all (64 * q + length (take r row)) after (omega (arith, size, lr, is_r, is_q)) in
    let blocks : blocks_for n ≡ 4 * q + blocks_for r = omega (arith, is_r, is_q) in
    let more : n - length (stream key v (4 * q)) ≡ r = omega (arith, lf, is_r) in
    sym all
    ∙ (put
    ∙ (ap (λ (x : List ℕ). x ++ take r row) fours
    ∙ (ap (λ (x : List ℕ). front ++ x) (part ∙ ap (λ (x : List ℕ). take r (stream key x (blocks_for r))) is_last)
    ∙ sym (ap (λ (j : ℕ). take n (stream key v j)) blocks
    ∙ (ap (take n) (stream-append key v (4 * q) (blocks_for r))
    ∙ (two_parts front (stream key (counted v (4 * q)) (blocks_for r)) n (omega (arith, lf, is_q))
    ∙ ap (λ (j : ℕ). front ++ take j (stream key (counted v (4 * q)) (blocks_for r))) more))))))

-- the bytes behind them in the row
pub seed_is : (key v last row : List ℕ) (n len q b m : ℕ) → n ≤ 16 * m → blocks_for len ≡ 4 * q + b → last ≡ counted v (4 * q) →
    take (16 * (b + m)) row ≡ stream key last (b + m) → take n (drop (16 * b) row) ≡ take n (stream key (counted v (blocks_for len)) m)
seed_is key v last row n len q b m few blocks is_last is_row =
    let at : 16 * b + n ≤ 16 * (b + m) = omega (arith, few) in
    let value : counted last b ≡ counted v (blocks_for len) = ap (λ (x : List ℕ). counted x b) is_last ∙ (sym (counted-add v (4 * q) b) ∙ ap (counted v) (sym blocks)) in
    sym (drop-take (16 * b) n row)
    ∙ (ap (drop (16 * b)) (sym (take-take (16 * b + n) (16 * (b + m)) row at) ∙ ap (take (16 * b + n)) is_row)
    ∙ (drop-take (16 * b) n (stream key last (b + m))
    ∙ (stream-behind key last b m n few ∙ ap (λ (x : List ℕ). take n (stream key x m)) value)))
