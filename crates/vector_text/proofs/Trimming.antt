-- Blanks at the ends of a text.
use Rattle.std.proofs.Common.{◌≡◌, ◌<◌, ◌≤◌, ℕ, ◌+◌, ◌-◌, List, [], ◌∷◌, ◌++◌, length, drop, take, get_or, Bool, true, false, cond, refl, sym, ap, ◌∙◌, arith, length-drop}
use Rattle.std.proofs.lemmas.List.{take_more}
use Rattle.std.specs.Prelude.{position, Option, Some, None}
use Rattle.vector_text.specs.declared.trim.Blank.TheVariants.{Space, SpaceOrTab}
use Rattle.vector_text.specs.Shapes.{trimmed, value_in, value_of}
use Rattle.vector_text.specs.Trims.{is_blank, is_equals, parted_at, without_first, before_kept, without_last}
use Rattle.vector_text.proofs.Numerals.{dropped}

-- one byte more passes at the front
pub first_more : (p : ℕ → Bool) (w : List ℕ) (i : ℕ) → i < length w → p (get_or w i 0) ≡ true → without_first p (drop i w) ≡ without_first p w
    → without_first p (drop (i + 1) w) ≡ without_first p w
first_more p w i h passes same =
    sym (ap (without_first p) (dropped w i h) ∙ ap (λ (b : Bool). cond b (without_first p (drop (i + 1) w)) (get_or w i 0 ∷ drop (i + 1) w)) passes) ∙ same

-- a byte that passes, at the end
last_passes : (p : ℕ → Bool) (w : List ℕ) (c : ℕ) → p c ≡ true → without_last p (w ++ c ∷ []) ≡ without_last p w
last_passes p [] c passes = ap (λ (b : Bool). cond b [] (c ∷ [])) passes
last_passes p (d ∷ w) c passes = ap (before_kept p d) (last_passes p w c passes)

kept_first : (p : ℕ → Bool) (d : ℕ) (w : List ℕ) (c : ℕ) → before_kept p d (w ++ c ∷ []) ≡ d ∷ (w ++ c ∷ [])
kept_first p d [] c = refl
kept_first p d (e ∷ w) c = refl

-- a byte that doesn't pass, at the end
last_stays : (p : ℕ → Bool) (w : List ℕ) (c : ℕ) → p c ≡ false → without_last p (w ++ c ∷ []) ≡ w ++ c ∷ []
last_stays p [] c stays = ap (λ (b : Bool). cond b [] (c ∷ [])) stays
last_stays p (d ∷ w) c stays = ap (before_kept p d) (last_stays p w c stays) ∙ kept_first p d w c

-- the bytes up to a place, the last of them apart
up_to : (w : List ℕ) (n : ℕ) → 0 < n → n ≤ length w → take n w ≡ take (n - 1) w ++ get_or w (n - 1) 0 ∷ []
up_to w n some within =
    let at : n ≡ n - 1 + 1 = omega arith in
    ap (λ (k : ℕ). take k w) at ∙ take_more w (n - 1) 0 (omega arith)

-- one byte more passes at the end
pub last_more : (p : ℕ → Bool) (w : List ℕ) (n : ℕ) → 0 < n → n ≤ length w → p (get_or w (n - 1) 0) ≡ true → without_last p (take n w) ≡ without_last p w
    → without_last p (take (n - 1) w) ≡ without_last p w
last_more p w n some within passes same =
    sym (ap (without_last p) (up_to w n some within) ∙ last_passes p (take (n - 1) w) (get_or w (n - 1) 0) passes) ∙ same

-- a byte that doesn't pass
pub last_stops : (p : ℕ → Bool) (w : List ℕ) (n : ℕ) → 0 < n → n ≤ length w → p (get_or w (n - 1) 0) ≡ false → without_last p (take n w) ≡ without_last p w
    → take n w ≡ without_last p w
last_stops p w n some within stops same =
    sym (sym same ∙ (ap (without_last p) (up_to w n some within)
    ∙ (last_stays p (take (n - 1) w) (get_or w (n - 1) 0) stops ∙ sym (up_to w n some within))))

-- ---- nothing grows

cond_short : (b : Bool) (x y : List ℕ) (n : ℕ) → length x ≤ n → length y ≤ n → length (cond b x y) ≤ n
cond_short true x y n h k = h
cond_short false x y n h k = k

pub first_short : (p : ℕ → Bool) (w : List ℕ) → length (without_first p w) ≤ length w
first_short p [] = omega arith
first_short p (c ∷ w) = cond_short (p c) (without_first p w) (c ∷ w) (length (c ∷ w)) (omega (arith, first_short p w)) (omega arith)

kept_short : (p : ℕ → Bool) (c : ℕ) (w : List ℕ) (n : ℕ) → length w ≤ n → length (before_kept p c w) ≤ n + 1
kept_short p c [] n h = cond_short (p c) [] (c ∷ []) (n + 1) (omega arith) (omega arith)
kept_short p c (d ∷ w) n h = omega (arith, h)

pub last_short : (p : ℕ → Bool) (w : List ℕ) → length (without_last p w) ≤ length w
last_short p [] = omega arith
last_short p (c ∷ w) = omega (arith, kept_short p c (without_last p w) (length w) (last_short p w))

value_in_short : (t : List ℕ) (o : Option ℕ) → length (value_in (parted_at t o)) ≤ length t
value_in_short t None = omega arith
value_in_short t (Some i) = omega (arith, first_short (is_blank Space) (drop (i + 1) t), length-drop (i + 1) t)

-- a value is no longer than its line
pub value_short : (line : List ℕ) → length (value_of line) ≤ length line
unfolding value_of
value_short line =
    let front = without_first (is_blank SpaceOrTab) line in
    omega (arith, value_in_short (trimmed line) (position is_equals (trimmed line)), last_short (is_blank SpaceOrTab) front, first_short (is_blank SpaceOrTab) line)
