-- Fresh tests tell the alarms of all samples since.
use Rattle.std.proofs.Common.{◌≡◌, ℕ, List, [], sym, ap, ◌∙◌}
use Rattle.std.specs.Prelude.{Some}
use Rattle.std.proofs.Math.Path.{fun_ext}
use Rattle.health_tests.specs.Cutoffs.{Limits}
use Rattle.health_tests.specs.Windows.{alarm_in}
use Rattle.health_tests.specs.Numbers.{tail_of, no_tail, tail_after, alarm_from}
use Rattle.health_tests.proofs.Counting.{tail_begins, tail_grows}
use Rattle.health_tests.proofs.Alarms.{alarm_tells}
use Rattle.entropy_source.specs.Draws.{found_in}

-- from fresh tests on, what they keep tells the alarms of all samples read since
pub found_fresh : (c : Limits) → found_in c (Some no_tail) ≡ alarm_in c
found_fresh c = fun_ext (λ read. fun_ext (λ got. told read got)) where
  numbers : (read : List ℕ) → tail_after c.window no_tail read ≡ tail_of c.window read
  numbers read = ap (λ t. tail_after c.window t read) (sym (tail_begins c.window)) ∙ tail_grows c.window [] read

  told : (read got : List ℕ) → alarm_from c (tail_after c.window no_tail read) got ≡ alarm_in c read got
  told read got = ap (λ t. alarm_from c t got) (numbers read) ∙ alarm_tells c read got
