use Rattle.std.proofs.Common.{◌++◌, subst, arith, length-take}
use Rattle.std.specs.Str.Lines.{lines}
use Rattle.vector_text.specs.declared.feed.Found.{Found}
use Rattle.vector_text.specs.Feeding.{Finds}
use Rattle.vector_text.specs.Spots.{place_of}
use Rattle.vector_text.proofs.Readings.{long_says}
use Rattle.vector_text.proofs.reading.Reading.take.Goals as goal

pub take_line-answer-requires-clause-line : goal.take_line-answer-requires-clause-line
take_line-answer-requires-clause-line c = omega (arith, c.ahead.ensures.bound, length-take c.in-Line.len c.ahead.result.now)

pub returns-in-Long-clause-says : goal.returns-in-Long-clause-says
returns-in-Long-clause-says c left more found follows =
    long_says c.args.self.now.family (place_of c.args.self.now.spot) (lines (c.args.self.now.feed.ahead ++ more))
    (subst (λ (x : Found). Finds x left c.args.self.now.feed) c.in-Long.is found more follows)
