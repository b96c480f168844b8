use Rattle.std.proofs.Common.{Bool, ◌++◌, codes, subst, sym}
use Rattle.rbg_bytes.specs.Streams.{TakesAll}
use Rattle.vector_text.specs.Printing.{resistance_line}
use Rattle.vector_text.proofs.printing.write_resistance.Goals as goal

pub returns-then-pr-clause-bytes : goal.returns-then-pr-clause-bytes
returns-then-pr-clause-bytes g c =
    subst (λ (b : Bool). TakesAll (g.O.ByteSink.out c.args.output.now) (g.O.ByteSink.out c.write_all.new.self) c.write_all.result (resistance_line b ++ codes "\n"))
    (sym c.if-pr.true) c.write_all.ensures.bytes

pub returns-else-pr-clause-bytes : goal.returns-else-pr-clause-bytes
returns-else-pr-clause-bytes g c =
    subst (λ (b : Bool). TakesAll (g.O.ByteSink.out c.args.output.now) (g.O.ByteSink.out c.write_all-else-pr.new.self) c.write_all-else-pr.result (resistance_line b ++ codes "\n"))
    (sym c.if-pr.false) c.write_all-else-pr.ensures.bytes
