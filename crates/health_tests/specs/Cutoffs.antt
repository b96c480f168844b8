-- The cutoffs of the continuous health tests, and which of them are refused.
-- SP 800-90B 4.4.1 (C of the repetition count test), 4.4.2 (W and C of the adaptive proportion test).
use Rattle.std.specs.Prelude.{ℕ, ◌≤◌, ◌<◌, ◌^◌, ◌||◌, not, ◌==◌, nat_lt, if◌then◌else◌, IsTrue, Option, Some, None}
use Rattle.health_tests.specs.declared.cutoffs.Cut.TheVariants.{Rct, Window, Apt}
use Rattle.health_tests.specs.declared.cutoffs.BadCutoff.{BadCutoff}

-- what contracts see of the cutoffs: the run that alarms, the window, and the count in it that alarms
pub record Limits : Type 0 where
  pub rct : ℕ
  pub window : ℕ
  pub apt : ℕ

-- the first number that is refused, in the order of the repetition cutoff, the window, the proportion cutoff
abbrev pub refused : ℕ → ℕ → ℕ → Option BadCutoff
refused rct window apt =
    if nat_lt rct 2 then Some (record { which = Rct; value = rct })
    else if not (window == 512 || window == 1024) then Some (record { which = Window; value = window })
    else if nat_lt apt 2 || nat_lt window apt then Some (record { which = Apt; value = apt })
    else None

-- cutoffs of which none is refused
pub record AreSound (c : Limits) : Type 0 where
  pub rct : 2 ≤ c.rct
  pub fits : c.rct < 2 ^ 32
  pub window : IsTrue (c.window == 512 || c.window == 1024)
  pub apt : 2 ≤ c.apt
  pub within : c.apt ≤ c.window
