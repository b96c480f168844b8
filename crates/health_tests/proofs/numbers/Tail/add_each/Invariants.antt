use Rattle.std.proofs.Common.{◌≡◌, drop}
use Rattle.health_tests.specs.Windows.{further}
use Rattle.health_tests.specs.Numbers.{IsBelow, alarm_from, tail_after}
use Rattle.health_tests.proofs.numbers.Tail.add_each.Given as goal

-- what is left says what the whole says
abbrev pub invariant-loop-at : goal.invariant-loop-at
invariant-loop-at l =
    let c = l.cutoffs in
    record {
      below : IsBelow c l.self;
      answer : alarm_from c l.fn.self l.samples ≡ further l.at (alarm_from c l.self (drop l.at l.samples));
      numbers : tail_after c.window l.fn.self l.samples ≡ tail_after c.window l.self (drop l.at l.samples);
    }
