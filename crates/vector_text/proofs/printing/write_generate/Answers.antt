use Rattle.std.proofs.Common.{Bool, true, false, [], ◌∷◌, ◌++◌, List, ℕ, codes, subst, sym, Option}
use Rattle.std.specs.Io.KnownBytes.{Appends}
use Rattle.rbg_bytes.specs.Streams.{AppendsFront, TakesAll}
use Rattle.vector_text.specs.Printing.{field_line, generate_lines, text_of}
use Rattle.vector_text.proofs.Writing.{line_fails, line_then}
use Rattle.vector_text.proofs.printing.write_generate.Goals as goal

-- a line that was not written, where another may follow
fails : (a b : Option (List ℕ)) (pr : Bool) (add entropy : List ℕ) → AppendsFront a b (field_line (codes "AdditionalInput") add ++ codes "\n")
    → AppendsFront a b (text_of (generate_lines pr add entropy))
fails a b true add entropy p = line_fails a b (field_line (codes "AdditionalInput") add) (field_line (codes "EntropyInputPR") entropy ∷ []) p
fails a b false add entropy p = p

pub returns-in-Err-clause-bytes : goal.returns-in-Err-clause-bytes
returns-in-Err-clause-bytes g c =
    fails (g.O.ByteSink.out c.args.output.now) (g.O.ByteSink.out c.write_field.new.output) c.args.pr c.args.add.now c.args.entropy.now c.in-Err.ensures.bytes

pub returns-then-not-pr-clause-bytes : goal.returns-then-not-pr-clause-bytes
returns-then-not-pr-clause-bytes g c =
    subst (λ (b : Bool). Appends (g.O.ByteSink.out c.args.output.now) (g.O.ByteSink.out c.write_field.new.output) (text_of (generate_lines b c.args.add.now c.args.entropy.now)))
    (sym c.if-not-pr.true) c.in-Ok.ensures.bytes

pub returns-clause-bytes : goal.returns-clause-bytes
returns-clause-bytes g c =
    let a = c.args.add.now in
    let e = c.args.entropy.now in
    let out = g.O.ByteSink.out c.args.output.now in
    let out1 = g.O.ByteSink.out c.write_field.new.output in
    let out2 = g.O.ByteSink.out c.write_field-2.new.output in
    let result = c.write_field-2.result in
    subst (λ (b : Bool). TakesAll out out2 result (text_of (generate_lines b a e))) (sym c.if-not-pr.false)
    (line_then out out1 out2 result (field_line (codes "AdditionalInput") a) (field_line (codes "EntropyInputPR") e ∷ []) c.in-Ok.ensures.bytes c.write_field-2.ensures.bytes)
