use Rattle.vector_text.proofs.feed.Feed.line.Goals as goal

pub returns-in-Some-clause-found : goal.returns-in-Some-clause-found
returns-in-Some-clause-found g c = c.in-Some.ensures.some (g.I.ByteSource.left c.reads.input)
