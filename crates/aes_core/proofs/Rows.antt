-- Four blocks in a row.
use Rattle.std.proofs.Common.{◌≡◌, ℕ, ◌+◌, ◌≤◌, List, [], ◌∷◌, ◌++◌, append_assoc, length, length-append, map, take, drop, get_or, refl, sym, ap, subst, ◌∙◌, arith, lit≤, w8, Fits}
use Rattle.std.specs.Simd.Lanes.{chunk, pick_l, zip2}
use Rattle.std.proofs.lemmas.List.{map-append, drop-drop, take_all}
use Rattle.std.proofs.lemmas.Simd.{Each1-from_get_or, Each1-get_or, get_or-chunk, length-chunk}
use Rattle.std.proofs.Math.Seq.{take-append_seam, drop-append_seam}
use Rattle.aes_core.proofs.Lanes.{AreBlocks, IsBlock, of_each}
use Rattle.aes_core.specs.Code.Blocks.{each_block}

abbrev pub four_times : List ℕ
four_times = 0 ∷ 1 ∷ 2 ∷ 3 ∷ 4 ∷ 5 ∷ 6 ∷ 7 ∷ 8 ∷ 9 ∷ 10 ∷ 11 ∷ 12 ∷ 13 ∷ 14 ∷ 15 ∷ 0 ∷ 1 ∷ 2 ∷ 3 ∷ 4 ∷ 5 ∷ 6 ∷ 7 ∷ 8 ∷ 9 ∷ 10 ∷ 11 ∷ 12 ∷ 13 ∷ 14 ∷ 15 ∷ 0 ∷ 1 ∷ 2 ∷ 3 ∷ 4 ∷ 5 ∷ 6 ∷ 7 ∷ 8 ∷ 9 ∷ 10 ∷ 11 ∷ 12 ∷ 13 ∷ 14 ∷ 15 ∷ 0 ∷ 1 ∷ 2 ∷ 3 ∷ 4 ∷ 5 ∷ 6 ∷ 7 ∷ 8 ∷ 9 ∷ 10 ∷ 11 ∷ 12 ∷ 13 ∷ 14 ∷ 15 ∷ []

pub four_times_is : (v : List ℕ) → length v ≡ 16 → pick_l 0 (v ++ v) four_times ≡ v ++ v ++ v ++ v
four_times_is v long = of_each 16 (λ v. pick_l 0 (v ++ v) four_times ≡ v ++ v ++ v ++ v) (λ x0 x1 x2 x3 x4 x5 x6 x7 x8 x9 x10 x11 x12 x13 x14 x15. refl) v long

abbrev pub places_32 : List ℕ
places_32 = 0 ∷ 1 ∷ 2 ∷ 3 ∷ 4 ∷ 5 ∷ 6 ∷ 7 ∷ 8 ∷ 9 ∷ 10 ∷ 11 ∷ 12 ∷ 13 ∷ 14 ∷ 15 ∷ 16 ∷ 17 ∷ 18 ∷ 19 ∷ 20 ∷ 21 ∷ 22 ∷ 23 ∷ 24 ∷ 25 ∷ 26 ∷ 27 ∷ 28 ∷ 29 ∷ 30 ∷ 31 ∷ []

pub all_of_32 : (v : List ℕ) → length v ≡ 32 → pick_l 0 v places_32 ≡ v
all_of_32 v long = of_each 32 (λ v. pick_l 0 v places_32 ≡ v) (λ x0 x1 x2 x3 x4 x5 x6 x7 x8 x9 x10 x11 x12 x13 x14 x15 x16 x17 x18 x19 x20 x21 x22 x23 x24 x25 x26 x27 x28 x29 x30 x31. refl) v long

abbrev row_0 : List ℕ
row_0 = 0 ∷ 1 ∷ 2 ∷ 3 ∷ 4 ∷ 5 ∷ 6 ∷ 7 ∷ 8 ∷ 9 ∷ 10 ∷ 11 ∷ 12 ∷ 13 ∷ 14 ∷ 15 ∷ []

abbrev row_1 : List ℕ
row_1 = 16 ∷ 17 ∷ 18 ∷ 19 ∷ 20 ∷ 21 ∷ 22 ∷ 23 ∷ 24 ∷ 25 ∷ 26 ∷ 27 ∷ 28 ∷ 29 ∷ 30 ∷ 31 ∷ []

abbrev row_2 : List ℕ
row_2 = 32 ∷ 33 ∷ 34 ∷ 35 ∷ 36 ∷ 37 ∷ 38 ∷ 39 ∷ 40 ∷ 41 ∷ 42 ∷ 43 ∷ 44 ∷ 45 ∷ 46 ∷ 47 ∷ []

abbrev row_3 : List ℕ
row_3 = 48 ∷ 49 ∷ 50 ∷ 51 ∷ 52 ∷ 53 ∷ 54 ∷ 55 ∷ 56 ∷ 57 ∷ 58 ∷ 59 ∷ 60 ∷ 61 ∷ 62 ∷ 63 ∷ []

abbrev pub places_64 : List ℕ
places_64 = 0 ∷ 1 ∷ 2 ∷ 3 ∷ 4 ∷ 5 ∷ 6 ∷ 7 ∷ 8 ∷ 9 ∷ 10 ∷ 11 ∷ 12 ∷ 13 ∷ 14 ∷ 15 ∷ 16 ∷ 17 ∷ 18 ∷ 19 ∷ 20 ∷ 21 ∷ 22 ∷ 23 ∷ 24 ∷ 25 ∷ 26 ∷ 27 ∷ 28 ∷ 29 ∷ 30 ∷ 31 ∷ 32 ∷ 33 ∷ 34 ∷ 35 ∷ 36 ∷ 37 ∷ 38 ∷ 39 ∷ 40 ∷ 41 ∷ 42 ∷ 43 ∷ 44 ∷ 45 ∷ 46 ∷ 47 ∷ 48 ∷ 49 ∷ 50 ∷ 51 ∷ 52 ∷ 53 ∷ 54 ∷ 55 ∷ 56 ∷ 57 ∷ 58 ∷ 59 ∷ 60 ∷ 61 ∷ 62 ∷ 63 ∷ []

pub all_of_64 : (v : List ℕ) → length v ≡ 64 → pick_l 0 v places_64 ≡ v
all_of_64 v long = of_each 64 (λ v. pick_l 0 v places_64 ≡ v) (λ x0 x1 x2 x3 x4 x5 x6 x7 x8 x9 x10 x11 x12 x13 x14 x15 x16 x17 x18 x19 x20 x21 x22 x23 x24 x25 x26 x27 x28 x29 x30 x31 x32 x33 x34 x35 x36 x37 x38 x39 x40 x41 x42 x43 x44 x45 x46 x47 x48 x49 x50 x51 x52 x53 x54 x55 x56 x57 x58 x59 x60 x61 x62 x63. refl) v long

-- a list of 64 numbers cut into rows of sixteen
abbrev cut : List ℕ → List (List ℕ)
cut s = pick_l 0 (s ++ s) row_0 ∷ pick_l 0 (s ++ s) row_1 ∷ pick_l 0 (s ++ s) row_2 ∷ pick_l 0 (s ++ s) row_3 ∷ []

pub cut_is : (s : List ℕ) → length s ≡ 64 → cut s ≡ take 16 s ∷ take 16 (drop 16 s) ∷ take 16 (drop 32 s) ∷ take 16 (drop 48 s) ∷ []
cut_is s long = of_each 64 (λ s. cut s ≡ take 16 s ∷ take 16 (drop 16 s) ∷ take 16 (drop 32 s) ∷ take 16 (drop 48 s) ∷ []) (λ x0 x1 x2 x3 x4 x5 x6 x7 x8 x9 x10 x11 x12 x13 x14 x15 x16 x17 x18 x19 x20 x21 x22 x23 x24 x25 x26 x27 x28 x29 x30 x31 x32 x33 x34 x35 x36 x37 x38 x39 x40 x41 x42 x43 x44 x45 x46 x47 x48 x49 x50 x51 x52 x53 x54 x55 x56 x57 x58 x59 x60 x61 x62 x63. refl) s long

-- ---- the values of four blocks

-- the bytes of a part are bytes
part_fits : (v : List ℕ) (i : ℕ) → i + 16 ≤ 64 → AreBlocks v → IsBlock (take 16 (drop i v))
part_fits v i within fits =
    let long : length (chunk i 16 v) ≡ 16 = length-chunk i 16 v (omega (arith, fits.0)) in (
      long,
      Each1-from_get_or (Fits w8) (chunk i 16 v) 0 (λ k lt.
          let at : get_or (chunk i 16 v) k 0 ≡ get_or v (i + k) 0 = get_or-chunk i 16 v k 0 (omega (arith, long)) in
          subst (Fits w8) (sym at) (Each1-get_or (Fits w8) v (i + k) 0 (omega (arith, fits.0, long)) fits.1)),
    )

pub each_alike : (f g : List ℕ → List ℕ) (v : List ℕ) → AreBlocks v → ((b : List ℕ) → IsBlock b → f b ≡ g b) → each_block f v ≡ each_block g v
each_alike f g v fits same =
    rw (
      same (take 16 v) (part_fits v 0 (lit≤ tt) fits),
      same (take 16 (drop 16 v)) (part_fits v 16 (lit≤ tt) fits),
      same (take 16 (drop 32 v)) (part_fits v 32 (lit≤ tt) fits),
      same (take 16 (drop 48 v)) (part_fits v 48 (lit≤ tt) fits),
    ) refl

pub each_same : (v : List ℕ) → length v ≡ 64 → v ≡ each_block (λ b. b) v
each_same v long = of_each 64 (λ v. v ≡ each_block (λ b. b) v) (λ x0 x1 x2 x3 x4 x5 x6 x7 x8 x9 x10 x11 x12 x13 x14 x15 x16 x17 x18 x19 x20 x21 x22 x23 x24 x25 x26 x27 x28 x29 x30 x31 x32 x33 x34 x35 x36 x37 x38 x39 x40 x41 x42 x43 x44 x45 x46 x47 x48 x49 x50 x51 x52 x53 x54 x55 x56 x57 x58 x59 x60 x61 x62 x63. refl) v long

front_16 : (a rest : List ℕ) → length a ≡ 16 → take 16 (a ++ rest) ≡ a
front_16 a rest long = subst (λ (n : ℕ). take n (a ++ rest) ≡ a) long (take-append_seam a rest)

back_16 : (a rest : List ℕ) → length a ≡ 16 → drop 16 (a ++ rest) ≡ rest
back_16 a rest long = subst (λ (n : ℕ). drop n (a ++ rest) ≡ rest) long (drop-append_seam a rest)

-- the four parts of four lists of sixteen in a row
parts : (a b c d : List ℕ) → length a ≡ 16 → length b ≡ 16 → length c ≡ 16 → length d ≡ 16 →
    (take 16 (a ++ b ++ c ++ d) ≡ a) × (take 16 (drop 16 (a ++ b ++ c ++ d)) ≡ b) × (take 16 (drop 32 (a ++ b ++ c ++ d)) ≡ c) × (take 16 (drop 48 (a ++ b ++ c ++ d)) ≡ d)
parts a b c d la lb lc ld =
    let w : List ℕ = a ++ (b ++ (c ++ d)) in
    let is : a ++ b ++ c ++ d ≡ a ++ (b ++ (c ++ d)) = simp append_assoc refl in
    let one : drop 16 (a ++ (b ++ (c ++ d))) ≡ b ++ (c ++ d) = back_16 a (b ++ (c ++ d)) la in
    let two : drop 32 (a ++ (b ++ (c ++ d))) ≡ c ++ d = sym (drop-drop 16 16 w) ∙ (ap (drop 16) one ∙ back_16 b (c ++ d) lb) in
    let three : drop 48 (a ++ (b ++ (c ++ d))) ≡ d = sym (drop-drop 16 32 w) ∙ (ap (drop 16) two ∙ back_16 c d lc) in
    rw is (front_16 a (b ++ (c ++ d)) la, ap (take 16) one ∙ front_16 b (c ++ d) lb, ap (take 16) two ∙ front_16 c d lc, ap (take 16) three ∙ take_all 16 d (omega arith))

pub each_of_rows : (f : List ℕ → List ℕ) (a b c d : List ℕ) → length a ≡ 16 → length b ≡ 16 → length c ≡ 16 → length d ≡ 16 →
    each_block f (a ++ b ++ c ++ d) ≡ f a ++ f b ++ f c ++ f d
each_of_rows f a b c d la lb lc ld =
    let cut = parts a b c d la lb lc ld in
    rw (cut.0, cut.1, cut.2, cut.3) refl

first_of_four : (f : List ℕ → List ℕ) (b : List ℕ) → length b ≡ 16 → length (f b) ≡ 16 → take 16 (each_block f (b ++ b ++ b ++ b)) ≡ f b
first_of_four f b long kept = ap (take 16) (each_of_rows f b b b b long long long long) ∙ (parts (f b) (f b) (f b) (f b) kept kept kept kept).0

-- the first of four that were made of one block four times
pub first_is : (f : List ℕ → List ℕ) (s four each one : List ℕ) → one ≡ take 16 each → each ≡ each_block f four → four ≡ s ++ s ++ s ++ s →
    length s ≡ 16 → length (f s) ≡ 16 → one ≡ f s
first_is f s four each one first is copies long kept = first ∙ (ap (take 16) (is ∙ ap (each_block f) copies) ∙ first_of_four f s long kept)

pub each_each : (f g : List ℕ → List ℕ) (v : List ℕ) → length v ≡ 64 → ((b : List ℕ) → length b ≡ 16 → length (g b) ≡ 16) →
    each_block f (each_block g v) ≡ each_block (λ b. f (g b)) v
each_each f g v long kept =
    let at : (i : ℕ) → i + 16 ≤ 64 → length (g (take 16 (drop i v))) ≡ 16 = λ i within. kept (take 16 (drop i v)) (length-chunk i 16 v (omega (arith, long))) in
    each_of_rows f (g (take 16 v)) (g (take 16 (drop 16 v))) (g (take 16 (drop 32 v))) (g (take 16 (drop 48 v)))
    (at 0 (lit≤ tt)) (at 16 (lit≤ tt)) (at 32 (lit≤ tt)) (at 48 (lit≤ tt))

pub length-each : (g : List ℕ → List ℕ) (v : List ℕ) → length v ≡ 64 → ((b : List ℕ) → length b ≡ 16 → length (g b) ≡ 16) → length (each_block g v) ≡ 64
length-each g v long kept =
    let at : (i : ℕ) → i + 16 ≤ 64 → length (g (take 16 (drop i v))) ≡ 16 = λ i within. kept (take 16 (drop i v)) (length-chunk i 16 v (omega (arith, long))) in
    simp length-append (omega (arith, at 0 (lit≤ tt), at 16 (lit≤ tt), at 32 (lit≤ tt), at 48 (lit≤ tt)))

pub each_map : (f : ℕ → ℕ) (g : List ℕ → List ℕ) (v : List ℕ) → map f (each_block g v) ≡ each_block (λ b. map f (g b)) v
each_map f g v = simp (map-append f) refl

zip2-append : (f : ℕ → ℕ → ℕ) (a b c d : List ℕ) → length a ≡ length c → zip2 f (a ++ b) (c ++ d) ≡ zip2 f a c ++ zip2 f b d
zip2-append f [] b [] d e = refl
zip2-append f [] b (y ∷ c) d e = absurd (omega arith)
zip2-append f (x ∷ a) b [] d e = absurd (omega arith)
zip2-append f (x ∷ a) b (y ∷ c) d e = ap (λ (t : List ℕ). f x y ∷ t) (zip2-append f a b c d (omega arith))

pub each_zip : (f : ℕ → ℕ → ℕ) (g h : List ℕ → List ℕ) (v : List ℕ) → length v ≡ 64 → ((b : List ℕ) → length b ≡ 16 → length (g b) ≡ 16) →
    ((b : List ℕ) → length b ≡ 16 → length (h b) ≡ 16) → zip2 f (each_block g v) (each_block h v) ≡ each_block (λ b. zip2 f (g b) (h b)) v
each_zip f g h v long kept_g kept_h =
    let at : (k : List ℕ → List ℕ) → ((b : List ℕ) → length b ≡ 16 → length (k b) ≡ 16) → (i : ℕ) → i + 16 ≤ 64 → length (k (take 16 (drop i v))) ≡ 16 =
    λ k kept i within. kept (take 16 (drop i v)) (length-chunk i 16 v (omega (arith, long))) in
    let g0 = g (take 16 v) in let g1 = g (take 16 (drop 16 v)) in let g2 = g (take 16 (drop 32 v)) in let g3 = g (take 16 (drop 48 v)) in
    let h0 = h (take 16 v) in let h1 = h (take 16 (drop 16 v)) in let h2 = h (take 16 (drop 32 v)) in let h3 = h (take 16 (drop 48 v)) in
    let eg0 = at g kept_g 0 (lit≤ tt) in let eg1 = at g kept_g 16 (lit≤ tt) in let eg2 = at g kept_g 32 (lit≤ tt) in
    let eh0 = at h kept_h 0 (lit≤ tt) in let eh1 = at h kept_h 16 (lit≤ tt) in let eh2 = at h kept_h 32 (lit≤ tt) in
    rw (
      zip2-append f (g0 ++ g1 ++ g2) g3 (h0 ++ h1 ++ h2) h3 (simp length-append (omega (arith, eg0, eg1, eg2, eh0, eh1, eh2))),
      zip2-append f (g0 ++ g1) g2 (h0 ++ h1) h2 (simp length-append (omega (arith, eg0, eg1, eh0, eh1))),
      zip2-append f g0 g1 h0 h1 (omega (arith, eg0, eh0)),
    ) refl

-- the values of four blocks of a list, in a row
abbrev pub each_of : (List ℕ → List ℕ) → List (List ℕ) → List ℕ
each_of f blocks = f (get_or blocks 0 []) ++ f (get_or blocks 1 []) ++ f (get_or blocks 2 []) ++ f (get_or blocks 3 [])

pub each_of_each : (f g : List ℕ → List ℕ) (blocks : List (List ℕ)) → ((b : List ℕ) → length (g b) ≡ 16) →
    each_block f (each_of g blocks) ≡ each_of (λ b. f (g b)) blocks
each_of_each f g blocks long =
    each_of_rows f (g (get_or blocks 0 [])) (g (get_or blocks 1 [])) (g (get_or blocks 2 [])) (g (get_or blocks 3 []))
    (long (get_or blocks 0 [])) (long (get_or blocks 1 [])) (long (get_or blocks 2 [])) (long (get_or blocks 3 []))

pub each_of_alike : (f g : List ℕ → List ℕ) (blocks : List (List ℕ)) → ((b : List ℕ) → f b ≡ g b) → each_of f blocks ≡ each_of g blocks
each_of_alike f g blocks same =
    rw (same (get_or blocks 0 []), same (get_or blocks 1 []), same (get_or blocks 2 []), same (get_or blocks 3 [])) refl

-- the values of a list of four blocks
listed : (f : List ℕ → List ℕ) (blocks : List (List ℕ)) → length blocks ≡ 4 →
    f (get_or blocks 0 []) ∷ f (get_or blocks 1 []) ∷ f (get_or blocks 2 []) ∷ f (get_or blocks 3 []) ∷ [] ≡ map f blocks
listed f [] four = absurd (omega arith)
listed f (a ∷ []) four = absurd (omega arith)
listed f (a ∷ b ∷ []) four = absurd (omega arith)
listed f (a ∷ b ∷ c ∷ []) four = absurd (omega arith)
listed f (a ∷ b ∷ c ∷ d ∷ []) four = refl
listed f (a ∷ b ∷ c ∷ d ∷ e ∷ rest) four = absurd (omega arith)

pub each_parted : (f : List ℕ → List ℕ) (blocks : List (List ℕ)) (v : List ℕ) → length blocks ≡ 4 → ((b : List ℕ) → length (f b) ≡ 16) →
    v ≡ each_of f blocks → take 16 v ∷ take 16 (drop 16 v) ∷ take 16 (drop 32 v) ∷ take 16 (drop 48 v) ∷ [] ≡ map f blocks
each_parted f blocks v four long is =
    let cut = parts (f (get_or blocks 0 [])) (f (get_or blocks 1 [])) (f (get_or blocks 2 [])) (f (get_or blocks 3 []))
    (long (get_or blocks 0 [])) (long (get_or blocks 1 [])) (long (get_or blocks 2 [])) (long (get_or blocks 3 [])) in
    rw (is, cut.0, cut.1, cut.2, cut.3) (listed f blocks four)
