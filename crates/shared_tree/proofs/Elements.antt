-- The k-th item of a list, in the words of the tables and in those of slices.
use Rattle.std.proofs.Common.{◌≡◌, ◌+◌, ℕ, zero, suc, List, [], ◌∷◌, ◌++◌, length, sym, ap, ◌∙◌, arith}
use Rattle.std.specs.Prelude.{Some, slice_get}
use mathlib.Core.Option.{some, some-injective, some-ne-none}
use lib.ListN.{get_elem?}

pub item_of : {A : Type 0} (xs : List A) (k : ℕ) (x : A) → slice_get xs k ≡ Some x → get_elem? xs k ≡ some x
item_of [] k x e = cc
item_of (y ∷ ys) zero x e = let same : y ≡ x = cc in ap some same
item_of (y ∷ ys) (suc k) x e = item_of ys k x e

pub slice_of : {A : Type 0} (xs : List A) (k : ℕ) (x : A) → get_elem? xs k ≡ some x → slice_get xs k ≡ Some x
slice_of [] k x e = absurd (some-ne-none x (sym e))
slice_of (y ∷ ys) zero x e = ap Some (some-injective y x e)
slice_of (y ∷ ys) (suc k) x e = slice_of ys k x e

pub at_behind : {A : Type 0} (xs ys : List A) (j : ℕ) (a : A) → get_elem? ys j ≡ some a → (k : ℕ) → k ≡ length xs + j → get_elem? (xs ++ ys) k ≡ some a
at_behind [] ys j a e k is = ap (λ (n : ℕ). get_elem? ys n) (omega arith) ∙ e
at_behind (x ∷ xs) ys j a e zero is = absurd (omega arith)
at_behind (x ∷ xs) ys j a e (suc k) is = at_behind xs ys j a e k (omega arith)
