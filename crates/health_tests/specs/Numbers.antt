-- The five numbers that go on from a list of samples: counted on the list, with samples added, and the alarm that they tell.
-- SP 800-90B 4.4.1 and 4.4.2; that five numbers are enough is this project's own.
use Rattle.std.specs.Prelude.{ℕ, ◌<◌, ◌+◌, ◌-◌, ◌%◌, List, [], ◌∷◌, length, drop, count_by, slice_index, ◌==◌, if◌then◌else◌, nat_le, Option, Some, None}
use Rattle.std.specs.List.{suffix_len}
use Rattle.health_tests.specs.declared.windows.Test.{Test}
use Rattle.health_tests.specs.declared.windows.Test.TheVariants.{Repetition, Proportion}
use Rattle.health_tests.specs.declared.windows.Alarm.{Alarm}
use Rattle.health_tests.specs.declared.numbers.Tail.{Tail}
use Rattle.health_tests.specs.Cutoffs.{Limits}
use Rattle.health_tests.specs.Windows.{window_start, or_later}

-- the numbers counted on a list
unfoldable pub tail_of : ℕ → List ℕ → Tail
tail_of window x =
    let last = slice_index x (length x - 1) in
    let from = window_start window (length x - 1) in
    let first = slice_index x from in
    record {
      last = last;
      run = suffix_len (λ s. s == last) x;
      place = length x % window;
      first = first;
      equal = count_by (λ s. s == first) (drop from x);
    }

-- those of the empty list
abbrev pub no_tail : Tail
no_tail = record { last = 0; run = 0; place = 0; first = 0; equal = 0 }

-- the numbers with one sample added
abbrev pub tail_step : ℕ → Tail → ℕ → Tail
tail_step window t s = record {
  last = s;
  run = if s == t.last then t.run + 1 else 1;
  place = if t.place + 1 == window then 0 else t.place + 1;
  first = if t.place == 0 then s else t.first;
  equal = if t.place == 0 then 1 else if s == t.first then t.equal + 1 else t.equal;
}

-- the numbers with samples added
abbrev pub tail_after : ℕ → Tail → List ℕ → Tail
tail_after window t [] = t
tail_after window t (s ∷ more) = tail_after window (tail_step window t s) more

-- the alarm at the last sample, by the numbers
abbrev pub alarm_by : Limits → Tail → Option Test
alarm_by c t =
    if nat_le c.rct t.run then Some Repetition
    else if nat_le c.apt t.equal then Some Proportion
    else None

-- the first alarm among samples that follow, by the numbers
abbrev pub alarm_from : Limits → Tail → List ℕ → Option Alarm
alarm_from c t [] = None
alarm_from c t (s ∷ more) = or_later (alarm_by c (tail_step c.window t s)) (alarm_from c (tail_step c.window t s) more)

-- numbers below every cutoff, as those of a list without an alarm are
pub record IsBelow (c : Limits) (t : Tail) : Type 0 where
  pub run : t.run < c.rct
  pub equal : t.equal < c.apt
  pub place : t.place < c.window
