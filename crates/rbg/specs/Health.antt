-- The health tests in the caller's memory, and what each call on them answers.
-- SP 800-90B 4.4; the numbers and the order of the statuses are this project's own.
use Rattle.std.specs.Prelude.{ℕ, ◌==◌, ◌||◌, not, Bool, List, nat_lt, is_some, if◌then◌else◌, Option, Some, None}
use Rattle.health_tests.specs.declared.cutoffs.Cut.{Cut}
use Rattle.health_tests.specs.declared.cutoffs.Cut.TheVariants.{Rct, Window, Apt}
use Rattle.health_tests.specs.declared.cutoffs.BadCutoff.{BadCutoff}
use Rattle.health_tests.specs.declared.numbers.Tail.{Tail}
use Rattle.health_tests.specs.declared.windows.Test.{Test}
use Rattle.health_tests.specs.declared.windows.Test.TheVariants.{Repetition, Proportion}
use Rattle.health_tests.specs.declared.windows.Alarm.{Alarm}
use Rattle.health_tests.specs.Cutoffs.{Limits, refused}
use Rattle.health_tests.specs.Numbers.{tail_step, alarm_by, alarm_from}
use Rattle.health_tests.specs.Left.{is_left}
use Rattle.rbg.specs.declared.health.RbgTests.{RbgTests}
use Rattle.rbg.specs.declared.status.TheConstants.{DONE, BAD_TESTS, ALARMED, BAD_RCT, BAD_WINDOW, BAD_APT, BAD_RATE, REPETITION, PROPORTION}

-- the cutoffs in a state
abbrev pub limits_in : RbgTests → Limits
limits_in s = record { rct = s.rct; window = s.window; apt = s.apt }

-- the numbers in a state
abbrev pub tail_in : RbgTests → Tail
tail_in s = record { run = s.run; place = s.place; equal = s.equal; last = s.last; first = s.first }

-- the state with other numbers
abbrev pub with_tail : RbgTests → Tail → RbgTests
with_tail s t = record s { run = t.run; place = t.place; equal = t.equal; last = t.last; first = t.first }

-- the state of no sample
abbrev pub begun : ℕ → ℕ → ℕ → RbgTests
begun rct window apt = record {
  rct = rct;
  run = 0;
  place = 0;
  alarm = 0;
  window = window;
  apt = apt;
  equal = 0;
  last = 0;
  first = 0;
}

-- the number of a test where it alarmed
abbrev pub alarm_number : Test → ℕ
alarm_number Repetition = 1
alarm_number Proportion = 2

-- the state after an alarm of a test
abbrev pub with_alarm : RbgTests → Test → RbgTests
with_alarm s test = record s { alarm = alarm_number test }

abbrev pub cut_status : Cut → ℕ
cut_status Rct = BAD_RCT
cut_status Window = BAD_WINDOW
cut_status Apt = BAD_APT

abbrev pub refusal_status : Option BadCutoff → ℕ
refusal_status None = DONE
refusal_status (Some bad) = cut_status bad.which

-- the first cutoff that is refused
abbrev pub begin_status : ℕ → ℕ → ℕ → ℕ
begin_status rct window apt = refusal_status (refused rct window apt)

-- what stands against a step in a state
abbrev pub held_status : RbgTests → ℕ
held_status s =
    if is_some (refused s.rct s.window s.apt) then BAD_TESTS
    else if not (is_left (limits_in s) (tail_in s)) then BAD_TESTS
    else if nat_lt 2 s.alarm then BAD_TESTS
    else if s.alarm == 0 then DONE
    else ALARMED

abbrev pub test_status : Test → ℕ
test_status Repetition = REPETITION
test_status Proportion = PROPORTION

-- the alarm at one sample more, and the first one among samples
abbrev pub alarm_at : RbgTests → ℕ → Option Test
alarm_at s sample = alarm_by (limits_in s) (tail_step s.window (tail_in s) sample)

abbrev pub alarm_in : RbgTests → List ℕ → Option Alarm
alarm_in s samples = alarm_from (limits_in s) (tail_in s) samples

-- the exponent of the false alarm's rate and the entropy of a sample within their ranges
abbrev pub is_no_rate : ℕ → ℕ → ℕ → Bool
is_no_rate a num den = a == 0 || nat_lt 64 a || num == 0 || nat_lt 8000 num || den == 0 || nat_lt 1000 den

abbrev pub cutoff_status : ℕ → ℕ → ℕ → ℕ
cutoff_status a num den = if is_no_rate a num den then BAD_RATE else DONE
