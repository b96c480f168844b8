-- One draw more.
use Rattle.std.proofs.Common.{◌≡◌, ◌≤◌, ◌<◌, ◌∙◌, ℕ, ◌+◌, List, [], ◌++◌, refl, sym, add-one, arith, Bool, true, false}
use Rattle.std.specs.Prelude.{Option, Ok, Err, Result, nat_lt}
use Rattle.std.proofs.lemmas.Bool.Decides.{nat_tests}
use Rattle.entropy_source.specs.Views.{SourceView, HasDrawn}
use Rattle.entropy_source.specs.declared.answers.Range.{Range}
use Rattle.rbg_bench.specs.Draws.{Give}

pub give_none : {S : Type 0} (told : S → Option (List ℕ)) (faults : S → ℕ) (reads : S → ℕ → Option (List ℕ) → S → Type 0) (n : ℕ) (v : SourceView S)
    → Give told faults reads n 0 v v []
unfolding Give
give_none told faults reads n v = (refl, refl)

pub give_more : {S : Type 0} (told : S → Option (List ℕ)) (faults : S → ℕ) (reads : S → ℕ → Option (List ℕ) → S → Type 0) (n times : ℕ) (v mid w : SourceView S)
    (front last : List ℕ) (range : Range) → Give told faults reads n times v mid front → HasDrawn told faults reads n last (Ok range) mid w
    → Give told faults reads n (times + 1) v w (front ++ last)
unfolding Give
give_more told faults reads n times v mid w front last range give drawn = rw (add-one times) (mid, front, last, range, give, drawn, refl)

-- a draw that was not refused took no more samples than there may be
pub not_spent : {T E : Type 0} (most taken : ℕ) (result : Result T E) (why : E) (range : T) → (most < taken → result ≡ Err why) → result ≡ Ok range → taken ≤ most
not_spent most taken result why range spent is = by (nat_lt most taken) refl where
  by : (b : Bool) → nat_lt most taken ≡ b → taken ≤ most
  by true more = let h : most < taken = grind (arith, nat_tests) in let bad = sym is ∙ spent h in cc
  by false less = grind (arith, nat_tests)
