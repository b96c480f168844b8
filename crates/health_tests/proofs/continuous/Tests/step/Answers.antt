use Rattle.health_tests.proofs.Stepping.{below, answered, stood_if, still_stands}
use Rattle.health_tests.proofs.continuous.Tests.step.Goals as goal

pub add-requires : goal.add-requires
add-requires c =
    let i = c.self.inside in let (x, stands) = c.self.invariant in
    record { below = below (record { cutoffs = i.cutoffs; tail = i.tail }) c.are_sound.ensures x stands }

pub invariant_of-self : goal.invariant_of-self
invariant_of-self c =
    still_stands c.args.self.now c.self.inside.cutoffs c.self.inside.tail c.add.new.self c.args.sample c.add.result
    c.self.view_is c.add.ensures.answer c.add.ensures.numbers c.add.ensures.alarmed c.self.invariant

pub returns-clause-alarm : goal.returns-clause-alarm
returns-clause-alarm c =
    answered c.args.self.now c.self.inside.cutoffs c.self.inside.tail c.add.new.self c.args.sample c.add.result
    c.self.view_is c.add.ensures.answer c.add.ensures.numbers

pub returns-clause-quiet : goal.returns-clause-quiet
returns-clause-quiet c =
    stood_if c.args.self.now c.self.inside.cutoffs c.self.inside.tail c.add.new.self c.args.sample c.add.result
    c.self.view_is c.add.ensures.answer c.add.ensures.numbers

pub returns-clause-stands : goal.returns-clause-stands
returns-clause-stands c =
    still_stands c.args.self.now c.self.inside.cutoffs c.self.inside.tail c.add.new.self c.args.sample c.add.result
    c.self.view_is c.add.ensures.answer c.add.ensures.numbers c.add.ensures.alarmed c.self.invariant
