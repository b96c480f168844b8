use Rattle.std.proofs.Common.{List, ℕ, [], ◌∷◌, ◌++◌, codes, subst}
use Rattle.std.specs.Io.KnownBytes.{Appends}
use Rattle.rbg_bytes.specs.Streams.{AppendsFront, TakesAll}
use Rattle.vector_text.specs.Printing.{field_line, generate_lines, head_lines, reseed_lines, string_lines, text_of}
use Rattle.vector_text.proofs.Writing.{lines_fail, lines_then, lines_then_front}
use Rattle.vector_text.proofs.printing.print_case.Goals as goal

pub returns-in-Err-clause-bytes : goal.returns-in-Err-clause-bytes
returns-in-Err-clause-bytes g c =
    let case = c.args.case.now in
    let out0 = g.O.ByteSink.out c.args.output.now in
    let out1 = g.O.ByteSink.out c.write_head.new.output in
    lines_fail out0 out1 (head_lines case) (string_lines case ++ (reseed_lines case.has_reseed case.reseed case.add_reseed ++ (generate_lines case.pr case.add1 case.pr1 ++ (generate_lines case.pr case.add2 case.pr2 ++ (field_line (codes "ReturnedBits") case.returned ∷ []))))) c.in-Err.ensures.bytes

pub returns-in-Err-write_strings-clause-bytes : goal.returns-in-Err-write_strings-clause-bytes
returns-in-Err-write_strings-clause-bytes g c =
    let case = c.args.case.now in
    let out0 = g.O.ByteSink.out c.args.output.now in
    let out1 = g.O.ByteSink.out c.write_head.new.output in
    let out2 = g.O.ByteSink.out c.write_strings.new.output in
    lines_then_front out0 out1 out2 (head_lines case) (string_lines case ++ (reseed_lines case.has_reseed case.reseed case.add_reseed ++ (generate_lines case.pr case.add1 case.pr1 ++ (generate_lines case.pr case.add2 case.pr2 ++ (field_line (codes "ReturnedBits") case.returned ∷ []))))) c.in-Ok.ensures.bytes
    (lines_fail out1 out2 (string_lines case) (reseed_lines case.has_reseed case.reseed case.add_reseed ++ (generate_lines case.pr case.add1 case.pr1 ++ (generate_lines case.pr case.add2 case.pr2 ++ (field_line (codes "ReturnedBits") case.returned ∷ [])))) c.in-Err-write_strings.ensures.bytes)

pub returns-in-Err-write_reseed-clause-bytes : goal.returns-in-Err-write_reseed-clause-bytes
returns-in-Err-write_reseed-clause-bytes g c =
    let case = c.args.case.now in
    let out0 = g.O.ByteSink.out c.args.output.now in
    let out1 = g.O.ByteSink.out c.write_head.new.output in
    let out2 = g.O.ByteSink.out c.write_strings.new.output in
    let out3 = g.O.ByteSink.out c.write_reseed.new.output in
    lines_then_front out0 out1 out3 (head_lines case) (string_lines case ++ (reseed_lines case.has_reseed case.reseed case.add_reseed ++ (generate_lines case.pr case.add1 case.pr1 ++ (generate_lines case.pr case.add2 case.pr2 ++ (field_line (codes "ReturnedBits") case.returned ∷ []))))) c.in-Ok.ensures.bytes
    (lines_then_front out1 out2 out3 (string_lines case) (reseed_lines case.has_reseed case.reseed case.add_reseed ++ (generate_lines case.pr case.add1 case.pr1 ++ (generate_lines case.pr case.add2 case.pr2 ++ (field_line (codes "ReturnedBits") case.returned ∷ [])))) c.in-Ok-write_strings.ensures.bytes
    (lines_fail out2 out3 (reseed_lines case.has_reseed case.reseed case.add_reseed) (generate_lines case.pr case.add1 case.pr1 ++ (generate_lines case.pr case.add2 case.pr2 ++ (field_line (codes "ReturnedBits") case.returned ∷ []))) (subst (λ (v : List ℕ). AppendsFront out2 out3 (text_of (reseed_lines case.has_reseed case.reseed v))) c.as_slice-add.ensures.bytes (subst (λ (v : List ℕ). AppendsFront out2 out3 (text_of (reseed_lines case.has_reseed v c.as_slice-add.result.now))) c.as_slice-entropy.ensures.bytes c.in-Err-write_reseed.ensures.bytes))))

pub returns-in-Err-write_generate-clause-bytes : goal.returns-in-Err-write_generate-clause-bytes
returns-in-Err-write_generate-clause-bytes g c =
    let case = c.args.case.now in
    let out0 = g.O.ByteSink.out c.args.output.now in
    let out1 = g.O.ByteSink.out c.write_head.new.output in
    let out2 = g.O.ByteSink.out c.write_strings.new.output in
    let out3 = g.O.ByteSink.out c.write_reseed.new.output in
    let out4 = g.O.ByteSink.out c.write_generate.new.output in
    lines_then_front out0 out1 out4 (head_lines case) (string_lines case ++ (reseed_lines case.has_reseed case.reseed case.add_reseed ++ (generate_lines case.pr case.add1 case.pr1 ++ (generate_lines case.pr case.add2 case.pr2 ++ (field_line (codes "ReturnedBits") case.returned ∷ []))))) c.in-Ok.ensures.bytes
    (lines_then_front out1 out2 out4 (string_lines case) (reseed_lines case.has_reseed case.reseed case.add_reseed ++ (generate_lines case.pr case.add1 case.pr1 ++ (generate_lines case.pr case.add2 case.pr2 ++ (field_line (codes "ReturnedBits") case.returned ∷ [])))) c.in-Ok-write_strings.ensures.bytes
    (lines_then_front out2 out3 out4 (reseed_lines case.has_reseed case.reseed case.add_reseed) (generate_lines case.pr case.add1 case.pr1 ++ (generate_lines case.pr case.add2 case.pr2 ++ (field_line (codes "ReturnedBits") case.returned ∷ []))) (subst (λ (v : List ℕ). Appends out2 out3 (text_of (reseed_lines case.has_reseed case.reseed v))) c.as_slice-add.ensures.bytes (subst (λ (v : List ℕ). Appends out2 out3 (text_of (reseed_lines case.has_reseed v c.as_slice-add.result.now))) c.as_slice-entropy.ensures.bytes c.in-Ok-write_reseed.ensures.bytes))
    (lines_fail out3 out4 (generate_lines case.pr case.add1 case.pr1) (generate_lines case.pr case.add2 case.pr2 ++ (field_line (codes "ReturnedBits") case.returned ∷ [])) (subst (λ (v : List ℕ). AppendsFront out3 out4 (text_of (generate_lines case.pr case.add1 v))) c.as_slice-entropy-2.ensures.bytes (subst (λ (v : List ℕ). AppendsFront out3 out4 (text_of (generate_lines case.pr v c.as_slice-entropy-2.result.now))) c.as_slice-add-2.ensures.bytes c.in-Err-write_generate.ensures.bytes)))))

pub returns-in-Err-write_generate-2-clause-bytes : goal.returns-in-Err-write_generate-2-clause-bytes
returns-in-Err-write_generate-2-clause-bytes g c =
    let case = c.args.case.now in
    let out0 = g.O.ByteSink.out c.args.output.now in
    let out1 = g.O.ByteSink.out c.write_head.new.output in
    let out2 = g.O.ByteSink.out c.write_strings.new.output in
    let out3 = g.O.ByteSink.out c.write_reseed.new.output in
    let out4 = g.O.ByteSink.out c.write_generate.new.output in
    let out5 = g.O.ByteSink.out c.write_generate-2.new.output in
    lines_then_front out0 out1 out5 (head_lines case) (string_lines case ++ (reseed_lines case.has_reseed case.reseed case.add_reseed ++ (generate_lines case.pr case.add1 case.pr1 ++ (generate_lines case.pr case.add2 case.pr2 ++ (field_line (codes "ReturnedBits") case.returned ∷ []))))) c.in-Ok.ensures.bytes
    (lines_then_front out1 out2 out5 (string_lines case) (reseed_lines case.has_reseed case.reseed case.add_reseed ++ (generate_lines case.pr case.add1 case.pr1 ++ (generate_lines case.pr case.add2 case.pr2 ++ (field_line (codes "ReturnedBits") case.returned ∷ [])))) c.in-Ok-write_strings.ensures.bytes
    (lines_then_front out2 out3 out5 (reseed_lines case.has_reseed case.reseed case.add_reseed) (generate_lines case.pr case.add1 case.pr1 ++ (generate_lines case.pr case.add2 case.pr2 ++ (field_line (codes "ReturnedBits") case.returned ∷ []))) (subst (λ (v : List ℕ). Appends out2 out3 (text_of (reseed_lines case.has_reseed case.reseed v))) c.as_slice-add.ensures.bytes (subst (λ (v : List ℕ). Appends out2 out3 (text_of (reseed_lines case.has_reseed v c.as_slice-add.result.now))) c.as_slice-entropy.ensures.bytes c.in-Ok-write_reseed.ensures.bytes))
    (lines_then_front out3 out4 out5 (generate_lines case.pr case.add1 case.pr1) (generate_lines case.pr case.add2 case.pr2 ++ (field_line (codes "ReturnedBits") case.returned ∷ [])) (subst (λ (v : List ℕ). Appends out3 out4 (text_of (generate_lines case.pr case.add1 v))) c.as_slice-entropy-2.ensures.bytes (subst (λ (v : List ℕ). Appends out3 out4 (text_of (generate_lines case.pr v c.as_slice-entropy-2.result.now))) c.as_slice-add-2.ensures.bytes c.in-Ok-write_generate.ensures.bytes))
    (lines_fail out4 out5 (generate_lines case.pr case.add2 case.pr2) (field_line (codes "ReturnedBits") case.returned ∷ []) (subst (λ (v : List ℕ). AppendsFront out4 out5 (text_of (generate_lines case.pr case.add2 v))) c.as_slice-entropy-3.ensures.bytes (subst (λ (v : List ℕ). AppendsFront out4 out5 (text_of (generate_lines case.pr v c.as_slice-entropy-3.result.now))) c.as_slice-add-3.ensures.bytes c.in-Err-write_generate-2.ensures.bytes))))))

pub returns-clause-bytes : goal.returns-clause-bytes
returns-clause-bytes g c =
    let case = c.args.case.now in
    let out0 = g.O.ByteSink.out c.args.output.now in
    let out1 = g.O.ByteSink.out c.write_head.new.output in
    let out2 = g.O.ByteSink.out c.write_strings.new.output in
    let out3 = g.O.ByteSink.out c.write_reseed.new.output in
    let out4 = g.O.ByteSink.out c.write_generate.new.output in
    let out5 = g.O.ByteSink.out c.write_generate-2.new.output in
    let out6 = g.O.ByteSink.out c.write_field.new.output in
    let result = c.write_field.result in
    lines_then out0 out1 out6 result (head_lines case) (string_lines case ++ (reseed_lines case.has_reseed case.reseed case.add_reseed ++ (generate_lines case.pr case.add1 case.pr1 ++ (generate_lines case.pr case.add2 case.pr2 ++ (field_line (codes "ReturnedBits") case.returned ∷ []))))) c.in-Ok.ensures.bytes
    (lines_then out1 out2 out6 result (string_lines case) (reseed_lines case.has_reseed case.reseed case.add_reseed ++ (generate_lines case.pr case.add1 case.pr1 ++ (generate_lines case.pr case.add2 case.pr2 ++ (field_line (codes "ReturnedBits") case.returned ∷ [])))) c.in-Ok-write_strings.ensures.bytes
    (lines_then out2 out3 out6 result (reseed_lines case.has_reseed case.reseed case.add_reseed) (generate_lines case.pr case.add1 case.pr1 ++ (generate_lines case.pr case.add2 case.pr2 ++ (field_line (codes "ReturnedBits") case.returned ∷ []))) (subst (λ (v : List ℕ). Appends out2 out3 (text_of (reseed_lines case.has_reseed case.reseed v))) c.as_slice-add.ensures.bytes (subst (λ (v : List ℕ). Appends out2 out3 (text_of (reseed_lines case.has_reseed v c.as_slice-add.result.now))) c.as_slice-entropy.ensures.bytes c.in-Ok-write_reseed.ensures.bytes))
    (lines_then out3 out4 out6 result (generate_lines case.pr case.add1 case.pr1) (generate_lines case.pr case.add2 case.pr2 ++ (field_line (codes "ReturnedBits") case.returned ∷ [])) (subst (λ (v : List ℕ). Appends out3 out4 (text_of (generate_lines case.pr case.add1 v))) c.as_slice-entropy-2.ensures.bytes (subst (λ (v : List ℕ). Appends out3 out4 (text_of (generate_lines case.pr v c.as_slice-entropy-2.result.now))) c.as_slice-add-2.ensures.bytes c.in-Ok-write_generate.ensures.bytes))
    (lines_then out4 out5 out6 result (generate_lines case.pr case.add2 case.pr2) (field_line (codes "ReturnedBits") case.returned ∷ []) (subst (λ (v : List ℕ). Appends out4 out5 (text_of (generate_lines case.pr case.add2 v))) c.as_slice-entropy-3.ensures.bytes (subst (λ (v : List ℕ). Appends out4 out5 (text_of (generate_lines case.pr v c.as_slice-entropy-3.result.now))) c.as_slice-add-3.ensures.bytes c.in-Ok-write_generate-2.ensures.bytes))
    (subst (λ (v : List ℕ). TakesAll out5 out6 result (field_line (codes "ReturnedBits") v ++ codes "\n")) c.as_slice.ensures.bytes c.write_field.ensures.bytes)))))
