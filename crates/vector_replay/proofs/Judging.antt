-- What a verdict says of the report.
use Rattle.std.proofs.Common.{◌≡◌, ℕ, List, [], ◌∷◌, Bool, true, false, cond, refl, sym, ap, ◌∙◌, Option, Some, None}
use Rattle.std.specs.Prelude.{IfSome}
use Rattle.std.specs.List.{concat}
use Rattle.std.specs.Str.{bytes_eq}
use Rattle.std.specs.Io.KnownBytes.{Appends}
use Rattle.std.proofs.Common.{Ok, Err}
use Rattle.rbg_bytes.specs.Streams.{AppendsFront}
use Rattle.vector_text.specs.declared.case.Case.{Case}
use Rattle.vector_text.specs.declared.reader.TextRefusal as texts
use Rattle.vector_text.specs.Text.{Entry, ACase}
use Rattle.vector_text.proofs.Writing.{appends_none}
use Rattle.vector_replay.specs.declared.judgement.Verdict.TheVariants.{Same, Differs, BadLengths}
use Rattle.vector_replay.specs.declared.totals.Totals.{Totals}
use Rattle.vector_replay.specs.declared.totals.ReplayRefusal.TheVariants.{Text, WriteFault}
use Rattle.vector_replay.specs.Run.{judged, output_of}
use Rattle.vector_replay.specs.Report.{Report, Faulty, difference, one_differed, one_passed, report_of, with_lines, with_output}
use Rattle.vector_replay.specs.Replaying.{Takes}

-- the first of two
passes_if : (b : Bool) (x y : Report) → Same ≡ cond b Same Differs → cond b x y ≡ x
passes_if true x y e = refl
passes_if false x y e = absurd cc

-- the second of two
differs_if : (b : Bool) (x y : Report) → Differs ≡ cond b Same Differs → cond b x y ≡ y
differs_if true x y e = absurd cc
differs_if false x y e = refl

not_bad : (b : Bool) → BadLengths ≡ cond b Same Differs → ⊥
not_bad true e = cc
not_bad false e = cc

passes : (t : Totals) (c : Case) (o : Option (List ℕ)) (k : Totals → Report) → Same ≡ judged c o → with_output t c o k ≡ k (one_passed t)
passes t c None k e = absurd cc
passes t c (Some bytes) k e = passes_if (bytes_eq bytes c.returned) (k (one_passed t)) (with_lines (difference c bytes) (k (one_differed t))) e

differs : (t : Totals) (c : Case) (o : Option (List ℕ)) (got : List ℕ) (k : Totals → Report) → Differs ≡ judged c o → IfSome o (λ bytes. got ≡ bytes)
    → with_output t c o k ≡ with_lines (difference c got) (k (one_differed t))
differs t c None got k e is = absurd cc
differs t c (Some bytes) got k e is =
    differs_if (bytes_eq bytes c.returned) (k (one_passed t)) (with_lines (difference c bytes) (k (one_differed t))) e
    ∙ ap (λ (x : List ℕ). with_lines (difference c x) (k (one_differed t))) (sym is)

refused : (t : Totals) (c : Case) (o : Option (List ℕ)) (k : Totals → Report) → BadLengths ≡ judged c o
    → with_output t c o k ≡ record { lines = []; end = Faulty c.line 7 }
refused t c None k e = refl
refused t c (Some bytes) k e = absurd (not_bad (bytes_eq bytes c.returned) e)

-- a case before what is left
report_case : (t : Totals) (c : Case) (later : List Entry) → report_of t (ACase c ∷ later) ≡ with_output t c (output_of c) (λ u. report_of u later)
unfolding report_of
report_case t c later = refl

pub takes_same : {T : Type 0} (t : Totals) (c : Case) (out : Option (List ℕ)) (done : T) → Same ≡ judged c (output_of c) → Takes t c (one_passed t) out out (Ok done)
takes_same t c out done e = ([], appends_none out, λ later. report_case t c later ∙ passes t c (output_of c) (λ u. report_of u later) e)

pub takes_refused : (T : Type 0) (t : Totals) (c : Case) (out : Option (List ℕ)) → BadLengths ≡ judged c (output_of c)
    → Takes {T = T} t c t out out (Err (Text (texts.TheVariants.Fault c.line 7)))
takes_refused T t c out e = (appends_none out, λ later. report_case t c later ∙ refused t c (output_of c) (λ u. report_of u later) e)

pub takes_differs : {T : Type 0} (t : Totals) (c : Case) (got : List ℕ) (out out' : Option (List ℕ)) (done : T) → Differs ≡ judged c (output_of c)
    → IfSome (output_of c) (λ bytes. got ≡ bytes) → Appends out out' (concat (difference c got)) → Takes t c (one_differed t) out out' (Ok done)
takes_differs t c got out out' done e is wrote =
    (difference c got, wrote, λ later. report_case t c later ∙ differs t c (output_of c) got (λ u. report_of u later) e is)

pub takes_unwritten : (T : Type 0) (t : Totals) (c : Case) (got : List ℕ) (out out' : Option (List ℕ)) (count : ℕ) → Differs ≡ judged c (output_of c)
    → IfSome (output_of c) (λ bytes. got ≡ bytes) → AppendsFront out out' (concat (difference c got)) → Takes {T = T} t c t out out' (Err (WriteFault count))
takes_unwritten T t c got out out' count e is wrote = (
  difference c got,
  wrote,
  λ later. (report_of (one_differed t) later, report_case t c later ∙ differs t c (output_of c) got (λ u. report_of u later) e is),
)
