-- What contracts see of the tests, and the lists of samples for which they stand.
-- SP 800-90B 4.4; this project's own.
use Rattle.std.specs.Prelude.{◌≡◌, List, ℕ, Option, None}
use Rattle.std.specs.Option.{option_map}
use Rattle.health_tests.specs.declared.windows.Test.{Test}
use Rattle.health_tests.specs.declared.windows.Alarm.{Alarm}
use Rattle.health_tests.specs.declared.numbers.Tail.{Tail}
use Rattle.health_tests.specs.Cutoffs.{Limits}
use Rattle.health_tests.specs.Windows.{first_alarm}
use Rattle.health_tests.specs.Numbers.{tail_of}

-- the cutoffs, and the numbers of the samples since the tests were fresh
pub record Standing : Type 0 where
  pub cutoffs : Limits
  pub tail : Tail

-- the tests stand for this list: it has no alarm, and the numbers are its own
pub record StandsFor (t : Standing) (x : List ℕ) : Type 0 where
  pub quiet : first_alarm t.cutoffs x ≡ None
  pub counted : t.tail ≡ tail_of t.cutoffs.window x

-- there is a list for which they stand
abbrev pub StandsForSome : Standing → Type 0
StandsForSome t = (x : List ℕ) × StandsFor t x

-- what the tests answer at a place, as an alarm there
abbrev pub placed : ℕ → Option Test → Option Alarm
placed k answer = option_map (λ test. record { at = k; test = test }) answer
