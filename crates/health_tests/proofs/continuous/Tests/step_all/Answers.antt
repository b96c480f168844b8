use Rattle.health_tests.proofs.Stepping.{below, answered_all, stood_all_if, still_stands_all}
use Rattle.health_tests.proofs.continuous.Tests.step_all.Goals as goal

pub go_on-answer-requires : goal.go_on-answer-requires
go_on-answer-requires c =
    let i = c.self.inside in let (x, stands) = c.self.invariant in
    record { below = below (record { cutoffs = i.cutoffs; tail = i.tail }) c.are_sound.ensures x stands }

pub invariant_of-self : goal.invariant_of-self
invariant_of-self c =
    still_stands_all c.args.self.now c.self.inside.cutoffs c.self.inside.tail c.go_on-answer.new.self c.args.samples.now c.go_on-answer.result
    c.self.view_is c.go_on-answer.ensures.answer c.go_on-answer.ensures.numbers c.is_none.result c.is_none.ensures c.if-is_none.true c.self.invariant

pub returns-then-is_none-clause-alarm : goal.returns-then-is_none-clause-alarm
returns-then-is_none-clause-alarm c =
    answered_all c.args.self.now c.self.inside.cutoffs c.self.inside.tail c.go_on-answer.new.self c.args.samples.now c.go_on-answer.result
    c.self.view_is c.go_on-answer.ensures.answer c.go_on-answer.ensures.numbers

pub returns-then-is_none-clause-grown : goal.returns-then-is_none-clause-grown
returns-then-is_none-clause-grown c =
    stood_all_if c.args.self.now c.self.inside.cutoffs c.self.inside.tail c.go_on-answer.new.self c.args.samples.now c.go_on-answer.result
    c.self.view_is c.go_on-answer.ensures.answer c.go_on-answer.ensures.numbers

pub returns-then-is_none-clause-stands : goal.returns-then-is_none-clause-stands
returns-then-is_none-clause-stands c =
    still_stands_all c.args.self.now c.self.inside.cutoffs c.self.inside.tail c.go_on-answer.new.self c.args.samples.now c.go_on-answer.result
    c.self.view_is c.go_on-answer.ensures.answer c.go_on-answer.ensures.numbers c.is_none.result c.is_none.ensures c.if-is_none.true c.self.invariant

pub returns-else-is_none-clause-alarm : goal.returns-else-is_none-clause-alarm
returns-else-is_none-clause-alarm c =
    answered_all c.args.self.now c.self.inside.cutoffs c.self.inside.tail c.go_on-answer.new.self c.args.samples.now c.go_on-answer.result
    c.self.view_is c.go_on-answer.ensures.answer c.go_on-answer.ensures.numbers
