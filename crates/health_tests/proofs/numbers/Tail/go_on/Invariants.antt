use Rattle.std.proofs.Common.{◌≡◌, ◌*◌, drop}
use Rattle.health_tests.specs.Windows.{further}
use Rattle.health_tests.specs.Numbers.{IsBelow, alarm_from, tail_after}
use Rattle.health_tests.proofs.numbers.Tail.go_on.Given as goal

-- what is left says what the whole says
abbrev pub invariant-loop-i : goal.invariant-loop-i
invariant-loop-i l =
    let c = l.cutoffs in
    record {
      below : IsBelow c l.self;
      answer : alarm_from c l.fn.self l.samples ≡ further (l.i * 16) (alarm_from c l.self (drop (l.i * 16) l.samples));
      numbers : tail_after c.window l.fn.self l.samples ≡ tail_after c.window l.self (drop (l.i * 16) l.samples);
    }
