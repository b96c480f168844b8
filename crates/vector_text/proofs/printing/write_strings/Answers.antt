use Rattle.std.proofs.Common.{List, ℕ, [], ◌∷◌, ◌++◌, codes, subst}
use Rattle.std.specs.Io.KnownBytes.{Appends}
use Rattle.rbg_bytes.specs.Streams.{AppendsFront, TakesAll}
use Rattle.vector_text.specs.Printing.{field_line}
use Rattle.vector_text.proofs.Writing.{line_fails, line_then, line_then_front}
use Rattle.vector_text.proofs.printing.write_strings.Goals as goal

pub returns-in-Err-clause-bytes : goal.returns-in-Err-clause-bytes
returns-in-Err-clause-bytes g c =
    let case = c.args.case.now in
    let out = g.O.ByteSink.out c.args.output.now in
    let out1 = g.O.ByteSink.out c.write_field.new.output in
    line_fails out out1 (field_line (codes "EntropyInput") case.entropy) (field_line (codes "Nonce") case.nonce ∷ field_line (codes "PersonalizationString") case.pers ∷ [])
    (subst (λ (v : List ℕ). AppendsFront out out1 (field_line (codes "EntropyInput") v ++ codes "\n")) c.as_slice.ensures.bytes c.in-Err.ensures.bytes)

pub returns-in-Err-write_field-clause-bytes : goal.returns-in-Err-write_field-clause-bytes
returns-in-Err-write_field-clause-bytes g c =
    let case = c.args.case.now in
    let out = g.O.ByteSink.out c.args.output.now in
    let out1 = g.O.ByteSink.out c.write_field.new.output in
    let out2 = g.O.ByteSink.out c.write_field-2.new.output in
    line_then_front out out1 out2 (field_line (codes "EntropyInput") case.entropy) (field_line (codes "Nonce") case.nonce ∷ field_line (codes "PersonalizationString") case.pers ∷ [])
    (subst (λ (v : List ℕ). Appends out out1 (field_line (codes "EntropyInput") v ++ codes "\n")) c.as_slice.ensures.bytes c.in-Ok.ensures.bytes)
    (line_fails out1 out2 (field_line (codes "Nonce") case.nonce) (field_line (codes "PersonalizationString") case.pers ∷ [])
    (subst (λ (v : List ℕ). AppendsFront out1 out2 (field_line (codes "Nonce") v ++ codes "\n")) c.as_slice-2.ensures.bytes c.in-Err-write_field.ensures.bytes))

pub returns-clause-bytes : goal.returns-clause-bytes
returns-clause-bytes g c =
    let case = c.args.case.now in
    let out = g.O.ByteSink.out c.args.output.now in
    let out1 = g.O.ByteSink.out c.write_field.new.output in
    let out2 = g.O.ByteSink.out c.write_field-2.new.output in
    let out3 = g.O.ByteSink.out c.write_field-3.new.output in
    let result = c.write_field-3.result in
    line_then out out1 out3 result (field_line (codes "EntropyInput") case.entropy) (field_line (codes "Nonce") case.nonce ∷ field_line (codes "PersonalizationString") case.pers ∷ [])
    (subst (λ (v : List ℕ). Appends out out1 (field_line (codes "EntropyInput") v ++ codes "\n")) c.as_slice.ensures.bytes c.in-Ok.ensures.bytes)
    (line_then out1 out2 out3 result (field_line (codes "Nonce") case.nonce) (field_line (codes "PersonalizationString") case.pers ∷ [])
    (subst (λ (v : List ℕ). Appends out1 out2 (field_line (codes "Nonce") v ++ codes "\n")) c.as_slice-2.ensures.bytes c.in-Ok-write_field.ensures.bytes)
    (subst (λ (v : List ℕ). TakesAll out2 out3 result (field_line (codes "PersonalizationString") v ++ codes "\n")) c.as_slice-3.ensures.bytes c.write_field-3.ensures.bytes))
