use Rattle.std.proofs.Common.{List, ℕ, codes, decimal, subst, ◌∙◌}
use Rattle.rbg_bytes.specs.Streams.{TakesAll}
use Rattle.vector_replay.proofs.Writing.{pieces_5}
use Rattle.vector_replay.proofs.lines.write_place.Goals as goal

pub returns-clause-bytes : goal.returns-clause-bytes
returns-clause-bytes g c =
    let case = c.args.case.now in
    let line = pieces_5 c.new-line.result c.text.new.self c.number.new.self c.text-2.new.self c.number-2.new.self c.text-3.new.self
    (codes "differs line ") (decimal case.line) (codes " count ") (decimal case.count) (codes "\n")
    c.new-line.ensures c.text.ensures.value c.number.ensures.value c.text-2.ensures.value c.number-2.ensures.value c.text-3.ensures.value in
    subst (λ (bytes : List ℕ). TakesAll (g.O.ByteSink.out c.args.output.now) (g.O.ByteSink.out c.write_all.new.self) c.write_all.result bytes)
    (c.as_bytes.ensures ∙ line) c.write_all.ensures.bytes
