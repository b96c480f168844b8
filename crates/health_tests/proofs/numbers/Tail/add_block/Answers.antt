use Rattle.std.proofs.Common.{sym}
use Rattle.health_tests.proofs.Blocks.{goes_past_means}
use Rattle.health_tests.proofs.numbers.Tail.add_block.Goals as goal

pub returns-then-goes_past-clause-answer : goal.returns-then-goes_past-clause-answer
returns-then-goes_past-clause-answer c =
    let past = c.goes_past.ensures.past c.if-goes_past.true in
    sym (goes_past_means c.args.cutoffs c.args.self.now c.args.samples.now c.goes_past.new.self c.requires.below past).0

pub returns-then-goes_past-clause-numbers : goal.returns-then-goes_past-clause-numbers
returns-then-goes_past-clause-numbers c =
    let past = c.goes_past.ensures.past c.if-goes_past.true in
    (goes_past_means c.args.cutoffs c.args.self.now c.args.samples.now c.goes_past.new.self c.requires.below past).1

pub returns-then-goes_past-clause-below : goal.returns-then-goes_past-clause-below
returns-then-goes_past-clause-below c =
    let past = c.goes_past.ensures.past c.if-goes_past.true in
    (goes_past_means c.args.cutoffs c.args.self.now c.args.samples.now c.goes_past.new.self c.requires.below past).2
