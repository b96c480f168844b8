-- The continuous health tests as statements about windows of a whole list of samples, and the first alarm of a list.
-- SP 800-90B 4.4 and, for the two tests, 4.4.1 and 4.4.2. Places count from 0.
use Rattle.std.specs.Prelude.{◌≡◌, ◌<◌, ℕ, zero, suc, ◌+◌, ◌-◌, ◌*◌, ◌/◌, List, ◌++◌, length, Bool, ◌==◌, ◌&&◌, if◌then◌else◌, nat_le, count_by, slice_index, slice_range, Option, Some, None}
use Rattle.std.specs.List.{list_all}
use Rattle.std.specs.Option.{option_map}
use Rattle.health_tests.specs.declared.windows.Test.{Test}
use Rattle.health_tests.specs.declared.windows.Test.TheVariants.{Repetition, Proportion}
use Rattle.health_tests.specs.declared.windows.Alarm.{Alarm}
use Rattle.health_tests.specs.Cutoffs.{Limits}

-- 4.4.1: there are as many samples up to this place as the cutoff says, and so many that end here are equal
unfoldable pub repeats : ℕ → List ℕ → ℕ → Bool
repeats cutoff x k =
    nat_le cutoff (k + 1) && list_all (λ s. s == slice_index x k) (slice_range x (k + 1 - cutoff) (k + 1))

-- 4.4.2: windows follow one another, so that of a place begins at the greatest multiple of its length up to the place
abbrev pub window_start : ℕ → ℕ → ℕ
window_start window k = k / window * window

-- 4.4.2: of the window's places up to this one, at least as many as the cutoff says equal its first, which counts too
unfoldable pub crowded : ℕ → ℕ → List ℕ → ℕ → Bool
crowded window cutoff x k =
    let from = window_start window k in
    nat_le cutoff (count_by (λ s. s == slice_index x from) (slice_range x from (k + 1)))

-- the alarm at a place; repetition goes before proportion
abbrev pub alarm_at : Limits → List ℕ → ℕ → Option Test
alarm_at c x k =
    if repeats c.rct x k then Some Repetition
    else if crowded c.window c.apt x k then Some Proportion
    else None

-- an alarm so many places further on
abbrev pub further : ℕ → Option Alarm → Option Alarm
further n found = option_map (λ a. record { at = n + a.at; test = a.test }) found

-- an alarm here, or else a later one
abbrev pub or_later : Option Test → Option Alarm → Option Alarm
or_later (Some test) later = Some (record { at = 0; test = test })
or_later None later = further 1 later

-- 4.4: the first alarm among the n places from k on, counted from k
abbrev pub alarm_among : Limits → List ℕ → ℕ → ℕ → Option Alarm
alarm_among c x k zero = None
alarm_among c x k (suc n) = or_later (alarm_at c x k) (alarm_among c x (k + 1) n)

-- the first alarm of a list
abbrev pub first_alarm : Limits → List ℕ → Option Alarm
first_alarm c x = alarm_among c x 0 (length x)

-- the first alarm as the least place: none alarms before it, and without a first alarm none alarms at all
abbrev pub IsFirst : Limits → List ℕ → Option Alarm → Type 0
IsFirst c x None = (k : ℕ) → k < length x → alarm_at c x k ≡ None
IsFirst c x (Some a) =
    (a.at < length x) × (alarm_at c x a.at ≡ Some a.test) × ((k : ℕ) → k < a.at → alarm_at c x k ≡ None)

-- the first alarm among samples that follow those seen, counted from the first that follows
abbrev pub alarm_in : Limits → List ℕ → List ℕ → Option Alarm
alarm_in c seen more = alarm_among c (seen ++ more) (length seen) (length more)
