-- The forms that the numbers of a window take, and how a sample more changes them.
use Rattle.std.proofs.Common.{◌≡◌, ℕ, ◌+◌, ◌-◌, ◌*◌, ◌<◌, ◌≤◌, refl, sym, ◌∙◌, arith, zero-mul}
use Rattle.std.proofs.Math.Nat.{add-mul, le-mul_of_pos_right, one-mul}

-- cutoff R, windows of w, m samples of the window so far: a run of r at the end, e like the window's first f, l the last
pub data Shape (R w m r e l f : ℕ) : Type 0 where
  Full : m ≤ r → l ≡ f → e ≡ m → r < m + w → Shape R w m r e l f
  Like : (n k : ℕ) → l ≡ f → e ≡ r + n → 1 ≤ n → m ≡ r + 1 + (n + k) → n + k < k * R + R → Shape R w m r e l f
  Unlike : (n k : ℕ) → (l ≡ f → ⊥) → e ≡ n → 1 ≤ n → m ≡ r + (n + k) → n + k < k * R + R → Shape R w m r e l f

-- a sample like the last one, which is like the first
pub same_like : (R w m r e l f s : ℕ) → s ≡ l → s ≡ f → Shape R w m r e l f → Shape R w (m + 1) (r + 1) (e + 1) s f
same_like R w m r e l f s p q (Full a b c d) = Full (omega arith) q (omega arith) (omega arith)
same_like R w m r e l f s p q (Like n k b c d g h) = Like n k q (omega arith) d (omega arith) h
same_like R w m r e l f s p q (Unlike n k b c d g h) = absurd (b (sym p ∙ q))

-- a sample like the last one, which is unlike the first
pub same_unlike : (R w m r e l f s : ℕ) → s ≡ l → (s ≡ f → ⊥) → Shape R w m r e l f → Shape R w (m + 1) (r + 1) e s f
same_unlike R w m r e l f s p q (Full a b c d) = absurd (q (p ∙ b))
same_unlike R w m r e l f s p q (Like n k b c d g h) = absurd (q (p ∙ b))
same_unlike R w m r e l f s p q (Unlike n k b c d g h) = Unlike n k q c d (omega arith) h

-- a sample unlike the last one and like the first
pub turn_like : (R w m r e l f s : ℕ) → 1 ≤ r → r < R → (s ≡ l → ⊥) → s ≡ f → Shape R w m r e l f → Shape R w (m + 1) 1 (e + 1) s f
turn_like R w m r e l f s i j p q (Full a b c d) = absurd (p (q ∙ sym b))
turn_like R w m r e l f s i j p q (Like n k b c d g h) = absurd (p (q ∙ sym b))
turn_like R w m r e l f s i j p q (Unlike n k b c d g h) =
    let pos : 0 < R = omega arith in
    let more = le-mul_of_pos_right {m = R} (r - 1) pos in
    let parts = add-mul k (r - 1) R in
    Like n (k + (r - 1)) q (omega arith) d (omega arith) (omega (arith, more, parts, h))

-- a sample unlike the last one and the first
pub turn_unlike : (R w m r e l f s : ℕ) → 1 ≤ m → 1 ≤ r → r < R → (s ≡ f → ⊥) → Shape R w m r e l f → Shape R w (m + 1) 1 e s f
turn_unlike R w m r e l f s v i j q (Full a b c d) = Unlike m 0 q c v (omega arith) (omega (arith, zero-mul R))
turn_unlike R w m r e l f s v i j q (Like n k b c d g h) =
    Unlike (r + n) (k + 1) q c (omega arith) (omega arith) (omega (arith, add-mul k 1 R, one-mul R, h))
turn_unlike R w m r e l f s v i j q (Unlike n k b c d g h) =
    let pos : 0 < R = omega arith in
    Unlike n (r + k) q c d (omega arith) (omega (arith, le-mul_of_pos_right {m = R} r pos, add-mul r k R, h))

-- the first sample of a window
pub opens : (R w r s : ℕ) → 1 ≤ r → r ≤ w → Shape R w 1 r 1 s s
opens R w r s i j = Full i refl refl (omega arith)

-- in a whole window below the cutoff the run is shorter than the window
pub short : (R w a r e l f : ℕ) → e < a → a ≤ w → Shape R w w r e l f → r < w
short R w a r e l f i j (Full b c d g) = absurd (omega arith)
short R w a r e l f i j (Like n k b c d g h) = omega arith
short R w a r e l f i j (Unlike n k b c d g h) = omega arith
