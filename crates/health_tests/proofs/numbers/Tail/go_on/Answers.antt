use Rattle.std.proofs.Common.{◌+◌, ◌*◌, ◌≤◌, length, sym, ◌∙◌, arith}
use Rattle.health_tests.proofs.Blocks.{block_alarm, block_quiet, block_tail}
use Rattle.health_tests.proofs.numbers.Tail.go_on.Goals as goal

pub returns-in-Some-clause-answer : goal.returns-in-Some-clause-answer
returns-in-Some-clause-answer c =
    let l = c.args.cutoffs in
    let room : c.loop-i.i * 16 + 16 ≤ length c.args.samples.now = omega arith in
    sym (c.loop-i.invariant.answer ∙ block_alarm l c.loop-i.self c.args.samples.now c.loop-i.i c.in-Some.alarm room (sym c.in-Some.ensures.answer))

pub loop-i-preserved : goal.loop-i-preserved
loop-i-preserved c =
    let l = c.args.cutoffs in
    let x = c.args.samples.now in
    let room : c.loop-i.i * 16 + 16 ≤ length x = omega arith in
    record {
      below = c.in_default.ensures.below;
      answer =
          c.loop-i.invariant.answer
          ∙ block_quiet l c.loop-i.self c.add_block.new.self x c.loop-i.i room (sym c.in_default.ensures.answer) c.in_default.ensures.numbers;
      numbers = c.loop-i.invariant.numbers ∙ block_tail c.args.cutoffs.window c.loop-i.self c.add_block.new.self x c.loop-i.i room c.in_default.ensures.numbers;
    }
