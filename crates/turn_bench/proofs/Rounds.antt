-- The state after one round more.
use Rattle.std.proofs.Common.{◌≡◌, ℕ, suc, ◌+◌, refl, ap, ◌∙◌, arith}
use Rattle.turn_bench.specs.Work.{next, state_after}

pub state_start : (state : ℕ) → state ≡ state_after 0 state
unfolding state_after
state_start state = refl

at_next : (n state : ℕ) → next (state_after n state) ≡ state_after (suc n) state
unfolding state_after
at_next n state = refl

pub state_more : (n state now : ℕ) → now ≡ state_after n state → next now ≡ state_after (n + 1) state
state_more n state now is = let e : suc n ≡ n + 1 = omega arith in ap next is ∙ (at_next n state ∙ ap (λ (k : ℕ). state_after k state) e)
