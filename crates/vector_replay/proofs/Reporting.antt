-- A replay goes on and ends.
use Rattle.std.proofs.Common.{◌≡◌, ℕ, List, [], ◌∷◌, ◌++◌, take, refl, sym, ap, ◌∙◌, subst, arith, append-nil, append_assoc, Option, Some, None, Result, Ok, Err}
use Rattle.std.specs.List.{concat}
use Rattle.std.specs.Str.Lines.{lines}
use Rattle.std.specs.Io.KnownBytes.{Appends}
use Rattle.std.proofs.lemmas.List.Folds.{concat-append}
use Rattle.rbg_bytes.specs.Streams.{AppendsFront}
use Rattle.rbg_bytes.proofs.Fronts.{appends_both, front_after, front_within}
use Rattle.vector_text.specs.declared.case.Family.{Family}
use Rattle.vector_text.specs.declared.reader.TextRefusal as texts
use Rattle.vector_text.specs.declared.reader.TextRefusal.{TextRefusal}
use Rattle.vector_text.specs.declared.spot.Answer as answers
use Rattle.vector_text.specs.Feeding.{Follows, Window, most_bytes}
use Rattle.vector_text.specs.Text.{Entry, ASkip, AFault, TheEnd, Place, at_start, entries_from}
use Rattle.vector_text.specs.declared.case.Case.{Case}
use Rattle.vector_text.specs.Reading.{Begins, Gives, Leads, Reader, left_of}
use Rattle.vector_replay.specs.declared.totals.Totals.{Totals}
use Rattle.vector_replay.specs.declared.totals.ReplayRefusal.{ReplayRefusal}
use Rattle.vector_replay.specs.declared.totals.ReplayRefusal.TheVariants.{Text, WriteFault, OutOfMemory}
use Rattle.vector_replay.specs.Report.{Counted, Faulty, Report, none_yet, one_skipped, report_of, totals_line, with_lines}
use Rattle.vector_replay.specs.Replaying.{Ends, Finishes, HasReadCause, Stands, Takes, replayed}
use Rattle.vector_text.proofs.Writing.{appends_none}

-- ---- one step of a report

pub report_skip : (t : Totals) (later : List Entry) → report_of t (ASkip ∷ later) ≡ report_of (one_skipped t) later
unfolding report_of
report_skip t later = refl

pub report_end : (t : Totals) (later : List Entry) → report_of t (TheEnd ∷ later) ≡ record { lines = totals_line t ∷ []; end = Counted t }
unfolding report_of
report_end t later = refl

pub report_fault : (t : Totals) (line why : ℕ) (later : List Entry) → report_of t (AFault line why ∷ later) ≡ record { lines = []; end = Faulty line why }
unfolding report_of
report_fault t line why later = refl

pub with_both : (a b : List (List ℕ)) (r : Report) → with_lines (a ++ b) r ≡ with_lines a (with_lines b r)
with_both a b r = ap (λ (x : List (List ℕ)). record { lines = x; end = r.end }) (append_assoc a b r.lines)

-- ---- what may follow

pub some_follows : (left : Option (List ℕ)) (room : ℕ) → (more : List ℕ) × Follows left room more
some_follows None room = ([], omega arith)
some_follows (Some l) room = (take room l, refl)

-- ---- a replay goes on

pub stands_first : (f : Family) (left out : Option (List ℕ)) (r : Reader) → Begins f r → Stands f left out r none_yet left out
stands_first f left out r b = record {
  said = [];
  written = appends_none out;
  leads = λ more follows. (
    more,
    subst (λ (w : Window). Follows left w.room more) b.window follows,
    sym (ap (report_of none_yet) (ap (λ (g : Family). entries_from g r.place (lines (r.window.ahead ++ more))) b.family_is
        ∙ (ap (λ (p : Place). entries_from f p (lines (r.window.ahead ++ more))) b.place
        ∙ ap (λ (w : Window). entries_from f at_start (lines (w.ahead ++ more))) b.window))),
  );
}

-- what was left leads on, behind these lines
abbrev StepsBy : Option (List ℕ) → Reader → Totals → List (List ℕ) → Option (List ℕ) → Reader → Totals → Type 0
StepsBy left r t said left' r' t' =
    (more : List ℕ) → Follows left' r'.window.room more
    → (before : List ℕ) × Follows left r.window.room before × (report_of t (left_of r before) ≡ with_lines said (report_of t' (left_of r' more)))

stands_next : (f : Family) (left0 out left left' now now' : Option (List ℕ)) (r r' : Reader) (t t' : Totals) (said : List (List ℕ))
    → Stands f left0 out r t left now → Appends now now' (concat said) → StepsBy left r t said left' r' t' → Stands f left0 out r' t' left' now'
stands_next f left0 out left left' now now' r r' t t' said s wrote step = record {
  said = s.said ++ said;
  written = subst (λ (x : List ℕ). Appends out now' x) (sym (concat-append s.said said)) (appends_both out now now' (concat s.said) (concat said) s.written wrote);
  leads = λ more follows.
      let p = step more follows in
      let q = s.leads p.0 p.1 in
      (q.0, q.1, q.2 ∙ (ap (with_lines s.said) p.2 ∙ sym (with_both s.said said (report_of t' (left_of r' more)))));
}

-- behind a skipped group
pub stands_skipped : (f : Family) (left0 out left left' now : Option (List ℕ)) (r r' : Reader) (t : Totals)
    → Stands f left0 out r t left now → Leads left r left' r' answers.TheVariants.Skipped → Stands f left0 out r' (one_skipped t) left' now
stands_skipped f left0 out left left' now r r' t s leads =
    stands_next f left0 out left left' now now r r' t (one_skipped t) [] s (appends_none now)
    (λ more follows. let p = leads more follows in (p.0, p.1, ap (report_of t) p.2 ∙ report_skip t (left_of r' more)))

-- behind a case that was taken
pub stands_taken : {T : Type 0} (f : Family) (left0 out left left' now now' : Option (List ℕ)) (r r' : Reader) (t t' : Totals) (done : T)
    → Stands f left0 out r t left now → Leads left r left' r' answers.TheVariants.Case → Takes t r'.case t' now now' (Ok done) → Stands f left0 out r' t' left' now'
stands_taken f left0 out left left' now now' r r' t t' done s leads takes =
    stands_next f left0 out left left' now now' r r' t t' takes.0 s takes.1
    (λ more follows. let p = leads more follows in (p.0, p.1, ap (report_of t) p.2 ∙ takes.2 (left_of r' more)))

-- ---- a replay ends

-- a text and what is printed of it, where what is left gives this report
abbrev Reports : Family → Option (List ℕ) → List (List ℕ) → Report → Type 0
Reports f left0 said rest = (text : List ℕ) × Follows left0 most_bytes text × (replayed f text ≡ with_lines said rest)

reports : (f : Family) (left0 out left left' now : Option (List ℕ)) (r r' : Reader) (t : Totals) (rest : Report) (s : Stands f left0 out r t left now)
    → ((more : List ℕ) → Follows left' r'.window.room more → (before : List ℕ) × Follows left r.window.room before × (report_of t (left_of r before) ≡ rest))
    → Reports f left0 s.said rest
reports f left0 out left left' now r r' t rest s leads =
    let m = some_follows left' r'.window.room in
    let p = leads m.0 m.1 in
    let q = s.leads p.0 p.1 in
    (q.0, q.1, q.2 ∙ ap (with_lines s.said) p.2)

-- how a replay ends
abbrev EndsSo : Family → Option (List ℕ) → Option (List ℕ) → Option (List ℕ) → Result Totals ReplayRefusal → Type 0
EndsSo f left0 out now result = (text : List ℕ) × Follows left0 most_bytes text × Ends (replayed f text) out now result

ended : (f : Family) (left0 out now : Option (List ℕ)) (said : List (List ℕ)) (rest : Report) (result : Result Totals ReplayRefusal)
    → Reports f left0 said rest → Ends (with_lines said rest) out now result → EndsSo f left0 out now result
ended f left0 out now said rest result p ends = (p.0, p.1, subst (λ (r : Report). Ends r out now result) (sym p.2) ends)

pub concat_one : (said : List (List ℕ)) (line : List ℕ) → concat (said ++ line ∷ []) ≡ concat said ++ line
concat_one said line = concat-append said (line ∷ []) ∙ ap (λ (x : List ℕ). concat said ++ x) (append-nil line)

-- at the end of the text
ends_done : (f : Family) (left0 out left left' now now' : Option (List ℕ)) (r r' : Reader) (t : Totals)
    → Stands f left0 out r t left now → Leads left r left' r' answers.TheVariants.End → Appends now now' (totals_line t) → EndsSo f left0 out now' (Ok t)
ends_done f left0 out left left' now now' r r' t s leads wrote =
    ended f left0 out now' s.said (record { lines = totals_line t ∷ []; end = Counted t }) (Ok t)
    (reports f left0 out left left' now r r' t _ s (λ more follows. let p = leads more follows in (p.0, p.1, ap (report_of t) p.2 ∙ report_end t [])))
    (refl, subst (λ (x : List ℕ). Appends out now' x) (sym (concat_one s.said (totals_line t))) (appends_both out now now' (concat s.said) (totals_line t) s.written wrote))

-- at the end of the text, where the last line was not written
ends_unwritten : (f : Family) (left0 out left left' now now' : Option (List ℕ)) (r r' : Reader) (t : Totals) (count : ℕ)
    → Stands f left0 out r t left now → Leads left r left' r' answers.TheVariants.End → AppendsFront now now' (totals_line t)
    → EndsSo f left0 out now' (Err (WriteFault count))
ends_unwritten f left0 out left left' now now' r r' t count s leads wrote =
    ended f left0 out now' s.said (record { lines = totals_line t ∷ []; end = Counted t }) (Err (WriteFault count))
    (reports f left0 out left left' now r r' t _ s (λ more follows. let p = leads more follows in (p.0, p.1, ap (report_of t) p.2 ∙ report_end t [])))
    (subst (λ (x : List ℕ). AppendsFront out now' x) (sym (concat_one s.said (totals_line t))) (front_after out now now' (concat s.said) (totals_line t) s.written wrote))

-- at the end of the text, by what became of the last line
pub ends_finished : (f : Family) (left0 out left left' now now' : Option (List ℕ)) (r r' : Reader) (t : Totals) (result : Result Totals ReplayRefusal)
    → Stands f left0 out r t left now → Leads left r left' r' answers.TheVariants.End → Finishes t now now' result → EndsSo f left0 out now' result
ends_finished f left0 out left left' now now' r r' t (Ok totals) s leads done =
    subst (λ (u : Totals). EndsSo f left0 out now' (Ok u)) (sym done.0) (ends_done f left0 out left left' now now' r r' t s leads done.1)
ends_finished f left0 out left left' now now' r r' t (Err (Text why)) s leads done = absurd done
ends_finished f left0 out left left' now now' r r' t (Err (WriteFault count)) s leads done =
    ends_unwritten f left0 out left left' now now' r r' t count s leads done
ends_finished f left0 out left left' now now' r r' t (Err OutOfMemory) s leads done = absurd done

-- at a refusal of the reader
pub ends_refused : (f : Family) (left0 out left left' now : Option (List ℕ)) (r r' : Reader) (t : Totals) (why : TextRefusal)
    → Stands f left0 out r t left now → Gives left r left' r' (Err why) → EndsSo f left0 out now (Err (Text why))
ends_refused f left0 out left left' now r r' t (texts.TheVariants.Fault line why) s leads =
    ended f left0 out now s.said (record { lines = []; end = Faulty line why }) (Err (Text (texts.TheVariants.Fault line why)))
    (reports f left0 out left left' now r r' t _ s (λ more follows. let p = leads more follows in (p.0, p.1, ap (report_of t) p.2 ∙ report_fault t line why [])))
    (refl, subst (λ (x : List (List ℕ)). Appends out now (concat x)) (sym (append-nil s.said)) s.written)
ends_refused f left0 out left left' now r r' t (texts.TheVariants.ReadFault count) s leads =
    let m = some_follows left' r'.window.room in
    let p = leads m.0 m.1 in
    let q = s.leads p.0 p.1 in
    (q.0, q.1, (s.said, (report_of t (left_of r p.0)).lines, ap (λ (x : Report). x.lines) q.2, s.written))

-- at a case that was not taken
pub ends_untaken : (T : Type 0) (f : Family) (left0 out left left' now now' : Option (List ℕ)) (r r' : Reader) (t t' : Totals) (why : ReplayRefusal)
    → Stands f left0 out r t left now → Leads left r left' r' answers.TheVariants.Case → Takes {T = T} t r'.case t' now now' (Err why)
    → EndsSo f left0 out now' (Err why)
ends_untaken T f left0 out left left' now now' r r' t t' (Text (texts.TheVariants.Fault line why)) s leads takes =
    ended f left0 out now' s.said (record { lines = []; end = Faulty line why }) (Err (Text (texts.TheVariants.Fault line why)))
    (reports f left0 out left left' now r r' t _ s (λ more follows. let p = leads more follows in (p.0, p.1, ap (report_of t) p.2 ∙ takes.1 (left_of r' more))))
    (refl, subst (λ (x : List ℕ). Appends out now' x) (append-nil (concat s.said) ∙ ap concat (sym (append-nil s.said))) (appends_both out now now' (concat s.said) [] s.written takes.0))
ends_untaken T f left0 out left left' now now' r r' t t' (Text (texts.TheVariants.ReadFault count)) s leads takes = absurd takes
ends_untaken T f left0 out left left' now now' r r' t t' (WriteFault count) s leads takes =
    let m = some_follows left' r'.window.room in
    let p = leads m.0 m.1 in
    let q = s.leads p.0 p.1 in
    let rest = takes.2 (left_of r' m.0) in
    let whole = q.2 ∙ (ap (with_lines s.said) (ap (report_of t) p.2 ∙ rest.1) ∙ sym (with_both s.said takes.0 rest.0)) in (
      q.0,
      q.1,
      subst (λ (x : Report). AppendsFront out now' (concat x.lines)) (sym whole)
          (subst (λ (x : List ℕ). AppendsFront out now' x) (sym (concat-append (s.said ++ takes.0) rest.0.lines ∙ ap (λ (x : List ℕ). x ++ concat rest.0.lines) (concat-append s.said takes.0)))
          (front_within out now' (concat s.said ++ concat takes.0) (concat rest.0.lines) (front_after out now now' (concat s.said) (concat takes.0) s.written takes.1))),
    )
ends_untaken T f left0 out left left' now now' r r' t t' OutOfMemory s leads takes = absurd takes

-- ---- the source's count

-- a case leaves it
pub untaken_reads : (T : Type 0) (t t' : Totals) (c : Case) (now now' : Option (List ℕ)) (before count : ℕ) (why : ReplayRefusal) → Takes {T = T} t c t' now now' (Err why)
    → count ≡ before → HasReadCause {T = Totals} before count (Err why)
untaken_reads T t t' c now now' before count (Text (texts.TheVariants.Fault line why)) takes same = same
untaken_reads T t t' c now now' before count (Text (texts.TheVariants.ReadFault k)) takes same = absurd takes
untaken_reads T t t' c now now' before count (WriteFault k) takes same = same
untaken_reads T t t' c now now' before count OutOfMemory takes same = absurd takes

-- the last line leaves it
pub finished_reads : (t : Totals) (now now' : Option (List ℕ)) (before count : ℕ) (result : Result Totals ReplayRefusal) → Finishes t now now' result → count ≡ before
    → HasReadCause before count result
finished_reads t now now' before count (Ok totals) done same = same
finished_reads t now now' before count (Err (Text why)) done same = absurd done
finished_reads t now now' before count (Err (WriteFault k)) done same = same
finished_reads t now now' before count (Err OutOfMemory) done same = absurd done
