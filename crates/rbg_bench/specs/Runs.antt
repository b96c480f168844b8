-- What many runs of the tests over the samples come to.
-- SP 800-90B 4.4; the count is this project's own.
use Rattle.std.specs.Prelude.{ℕ, zero, suc, ◌+◌, ◌%◌, List, ◌∷◌, length, drop, Option, Some, None}
use Rattle.health_tests.specs.Cutoffs.{Limits}
use Rattle.health_tests.specs.Windows.{first_alarm}
use Rattle.health_tests.specs.declared.windows.Alarm.{Alarm}
use Rattle.rbg_bench.specs.declared.runs.Totals.{Totals}

-- the samples of a run: its number modulo 256 in place of the first
abbrev pub samples_of : ℕ → List ℕ → List ℕ
samples_of number x = number % 256 ∷ drop 1 x

-- how many of so many samples are tested up to a first alarm
abbrev pub tested : Option Alarm → ℕ → ℕ
tested None samples = samples
tested (Some alarm) samples = alarm.at + 1

-- one for an alarm
abbrev pub alarms : Option Alarm → ℕ
alarms None = 0
alarms (Some alarm) = 1

-- a run's outcome added
abbrev pub with_run : Option Alarm → ℕ → Totals → Totals
with_run alarm samples t = record { samples = t.samples + tested alarm samples; alarms = t.alarms + alarms alarm }

-- the outcome of so many runs
unfoldable pub totals_of : Limits → ℕ → List ℕ → Totals
totals_of c zero x = record { samples = 0; alarms = 0 }
totals_of c (suc times) x = with_run (first_alarm c (samples_of times x)) (length x) (totals_of c times x)
