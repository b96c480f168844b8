use Rattle.std.proofs.Common.{◌≡◌, ◌<◌, ◌≤◌, ℕ, [], get_or, length}
use Rattle.df_core.specs.Df.{chained}
use Rattle.df_core.proofs.chaining.advanced.Given as goal

abbrev pub invariant-loop-i : goal.invariant-loop-i
invariant-loop-i l =
    (length l.chains ≡ 3)
    × ((k : ℕ) → k < l.i → get_or l.chains k [] ≡ chained l.aes (get_or l.initial.chains k []) (get_or l.blocks k []))
    × ((k : ℕ) → l.i ≤ k → get_or l.chains k [] ≡ get_or l.initial.chains k [])
