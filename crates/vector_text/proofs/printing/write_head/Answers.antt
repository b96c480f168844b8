use Rattle.std.proofs.Common.{[], ◌∷◌}
use Rattle.vector_text.specs.Printing.{count_line, mechanism_line, resistance_line}
use Rattle.vector_text.proofs.Writing.{line_fails, line_then, line_then_front}
use Rattle.vector_text.proofs.printing.write_head.Goals as goal

pub returns-in-Err-clause-bytes : goal.returns-in-Err-clause-bytes
returns-in-Err-clause-bytes g c =
    let case = c.args.case.now in
    line_fails _ _ (mechanism_line case.mech) (resistance_line case.pr ∷ count_line case.count ∷ []) c.in-Err.ensures.bytes

pub returns-in-Err-write_resistance-clause-bytes : goal.returns-in-Err-write_resistance-clause-bytes
returns-in-Err-write_resistance-clause-bytes g c =
    let case = c.args.case.now in
    line_then_front _ (g.O.ByteSink.out c.write_mechanism.new.output) _ (mechanism_line case.mech) (resistance_line case.pr ∷ count_line case.count ∷ []) c.in-Ok.ensures.bytes
    (line_fails _ _ (resistance_line case.pr) (count_line case.count ∷ []) c.in-Err-write_resistance.ensures.bytes)

pub returns-clause-bytes : goal.returns-clause-bytes
returns-clause-bytes g c =
    let case = c.args.case.now in
    let result = c.write_count.result in
    line_then _ (g.O.ByteSink.out c.write_mechanism.new.output) _ result (mechanism_line case.mech) (resistance_line case.pr ∷ count_line case.count ∷ []) c.in-Ok.ensures.bytes
    (line_then _ (g.O.ByteSink.out c.write_resistance.new.output) _ result (resistance_line case.pr) (count_line case.count ∷ []) c.in-Ok-write_resistance.ensures.bytes
    c.write_count.ensures.bytes)
