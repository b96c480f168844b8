-- Of spans in a row no two have a place together.
use Rattle.std.proofs.Common.{◌≡◌, ◌∷◌, ◌<◌, ◌≤◌, ℕ, List, [], zero, suc, subst, arith}
use Rattle.std.specs.Prelude.{Some, slice_get}
use Rattle.tree_rules.specs.Apart.{InARow, Lies, Span}

above : (low : ℕ) (xs : List Span) (a : ℕ) (x : Span) → InARow low xs → slice_get xs a ≡ Some x → low ≤ x.from
above low [] a x h g = cc
above low (y ∷ ys) zero x (l, m, r) g = let is : y ≡ x = cc in subst (λ (z : Span). low ≤ z.from) is l
above low (y ∷ ys) (suc a) x (l, m, r) g = let d = above y.to ys a x r g in omega (arith, d, l, m)

behind : (low : ℕ) (xs : List Span) (a b : ℕ) (x y : Span) → InARow low xs → slice_get xs a ≡ Some x → slice_get xs b ≡ Some y → a < b → x.to ≤ y.from
behind low [] a b x y h g i lt = cc
behind low (z ∷ zs) a zero x y h g i lt = absurd (omega arith)
behind low (z ∷ zs) zero (suc b) x y (l, m, r) g i lt =
    let is : z ≡ x = cc in subst (λ (v : Span). v.to ≤ y.from) is (above z.to zs b y r i)
behind low (z ∷ zs) (suc a) (suc b) x y (l, m, r) g i lt = behind z.to zs a b x y r g i (omega arith)

pub no_place_twice : (xs : List Span) (a b place : ℕ) (x y : Span) → InARow 0 xs → slice_get xs a ≡ Some x → slice_get xs b ≡ Some y → a < b
    → Lies place x → Lies place y → ⊥
no_place_twice xs a b place x y h g i lt l m =
    let d = behind 0 xs a b x y h g i lt in let u = l.high in let v = m.low in omega (arith, d, u, v)
