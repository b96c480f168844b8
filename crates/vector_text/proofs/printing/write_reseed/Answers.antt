use Rattle.std.proofs.Common.{Bool, [], ◌∷◌, codes, subst, sym}
use Rattle.rbg_bytes.specs.Streams.{AppendsFront, TakesAll}
use Rattle.vector_text.specs.Printing.{field_line, reseed_lines, text_of}
use Rattle.vector_text.proofs.Writing.{line_fails, line_then}
use Rattle.vector_text.proofs.printing.write_reseed.Goals as goal

pub returns-in-Err-clause-bytes : goal.returns-in-Err-clause-bytes
returns-in-Err-clause-bytes g c =
    let e = c.args.entropy.now in
    let a = c.args.add.now in
    let out = g.O.ByteSink.out c.args.output.now in
    let out1 = g.O.ByteSink.out c.write_field.new.output in
    subst (λ (b : Bool). AppendsFront out out1 (text_of (reseed_lines b e a))) (sym c.if-not-has_reseed.false)
    (line_fails out out1 (field_line (codes "EntropyInputReseed") e) (field_line (codes "AdditionalInputReseed") a ∷ []) c.in-Err.ensures.bytes)

pub returns-clause-bytes : goal.returns-clause-bytes
returns-clause-bytes g c =
    let e = c.args.entropy.now in
    let a = c.args.add.now in
    let out = g.O.ByteSink.out c.args.output.now in
    let out1 = g.O.ByteSink.out c.write_field.new.output in
    let out2 = g.O.ByteSink.out c.write_field-2.new.output in
    let result = c.write_field-2.result in
    subst (λ (b : Bool). TakesAll out out2 result (text_of (reseed_lines b e a))) (sym c.if-not-has_reseed.false)
    (line_then out out1 out2 result (field_line (codes "EntropyInputReseed") e) (field_line (codes "AdditionalInputReseed") a ∷ []) c.in-Ok.ensures.bytes c.write_field-2.ensures.bytes)
