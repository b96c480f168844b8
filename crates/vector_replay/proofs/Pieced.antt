-- A text that is replayed piece by piece.
use Rattle.std.proofs.Common.{◌≡◌, ◌≤◌, ◌<◌, ℕ, ◌∷◌, List, [], ◌++◌, length, refl, sym, ap, ◌∙◌, subst, arith, append-nil, Option, Result, Ok, Err}
use Rattle.std.specs.List.{concat}
use Rattle.std.specs.Str.Lines.{lines}
use Rattle.std.specs.Io.KnownBytes.{Appends}
use Rattle.std.proofs.lemmas.List.Folds.{concat-append}
use Rattle.rbg_bytes.specs.Streams.{AppendsFront}
use Rattle.rbg_bytes.proofs.Fronts.{appends_both, front_after, front_within}
use Rattle.vector_text.specs.declared.case.Family.{Family}
use Rattle.vector_text.specs.declared.reader.TextRefusal as texts
use Rattle.vector_text.specs.declared.reader.TextRefusal.{TextRefusal}
use Rattle.vector_text.specs.declared.spot.Answer as answers
use Rattle.vector_text.specs.Feeding.{Window}
use Rattle.vector_text.specs.Text.{Place, at_start, entries_from}
use Rattle.vector_text.specs.Reading.{GivesHeld, Reader, SaysOf, groups_in, left_of}
use Rattle.vector_replay.specs.declared.totals.Totals.{Totals}
use Rattle.vector_replay.specs.declared.totals.ReplayRefusal.{ReplayRefusal}
use Rattle.vector_replay.specs.declared.totals.ReplayRefusal.TheVariants.{Text, WriteFault, OutOfMemory}
use Rattle.vector_replay.specs.Report.{Counted, Faulty, Report, none_yet, one_skipped, report_of, totals_line, with_lines}
use Rattle.vector_replay.specs.Replaying.{Ends, EndsBehind, Finishes, GoesOn, IsCounted, Replayer, StandsBehind, Starts, Takes, replayed}
use Rattle.vector_replay.proofs.Reporting.{concat_one, report_end, report_fault, report_skip, with_both}
use Rattle.vector_text.proofs.Writing.{appends_none}

-- a replay from where it stands
abbrev at : Reader → Totals → Replayer
at r t = record { reader = r; totals = t }

-- ---- a piece is taken in

-- ---- a replay goes on

-- whatever follows, what is left leads on, behind these lines
abbrev StepsBy : Reader → Totals → List (List ℕ) → Reader → Totals → Type 0
StepsBy r t said r' t' = (more : List ℕ) → length more ≤ r'.window.room → report_of t (left_of r more) ≡ with_lines said (report_of t' (left_of r' more))

held_next : (f : Family) (text : List ℕ) (out now now' : Option (List ℕ)) (r r' : Reader) (t t' : Totals) (said : List (List ℕ)) → r'.window.room ≡ r.window.room
    → StandsBehind f text out (at r t) now → Appends now now' (concat said) → StepsBy r t said r' t' → StandsBehind f text out (at r' t') now'
held_next f text out now now' r r' t t' said room s wrote step = record {
  said = s.said ++ said;
  written = subst (λ (x : List ℕ). Appends out now' x) (sym (concat-append s.said said)) (appends_both out now now' (concat s.said) (concat said) s.written wrote);
  leads = λ more short.
      s.leads more (subst (λ (k : ℕ). length more ≤ k) room short) ∙ (ap (with_lines s.said) (step more short) ∙ sym (with_both s.said said (report_of t' (left_of r' more))));
}

-- behind a skipped group
pub held_skipped : (f : Family) (text : List ℕ) (out now : Option (List ℕ)) (r r' : Reader) (t : Totals) → r'.window.room ≡ r.window.room
    → StandsBehind f text out (at r t) now → SaysOf r r' answers.TheVariants.Skipped → StandsBehind f text out (at r' (one_skipped t)) now
held_skipped f text out now r r' t room s says =
    held_next f text out now now r r' t (one_skipped t) [] room s (appends_none now) (λ more short. ap (report_of t) (says more short) ∙ report_skip t (left_of r' more))

-- behind a case that was taken
pub held_taken : {T : Type 0} (f : Family) (text : List ℕ) (out now now' : Option (List ℕ)) (r r' : Reader) (t t' : Totals) (done : T) → r'.window.room ≡ r.window.room
    → StandsBehind f text out (at r t) now → SaysOf r r' answers.TheVariants.Case → Takes t r'.case t' now now' (Ok done) → StandsBehind f text out (at r' t') now'
held_taken f text out now now' r r' t t' done room s says takes =
    held_next f text out now now' r r' t t' takes.0 room s takes.1 (λ more short. ap (report_of t) (says more short) ∙ takes.2 (left_of r' more))

-- ---- a replay ends

-- at the end of the text, by what became of the last line
pub held_finished : (f : Family) (text : List ℕ) (out now now' : Option (List ℕ)) (r r' : Reader) (t : Totals) (result : Result Totals ReplayRefusal) → r'.window.room ≡ r.window.room
    → StandsBehind f text out (at r t) now → SaysOf r r' answers.TheVariants.End → Finishes t now now' result → EndsBehind f text r'.window.room out now' result
held_finished f text out now now' r r' t result room s says done = λ more short.
    let last : Report = record { lines = totals_line t ∷ []; end = Counted t } in
    let is : replayed f (text ++ more) ≡ with_lines s.said last =
    s.leads more (subst (λ (k : ℕ). length more ≤ k) room short) ∙ ap (with_lines s.said) (ap (report_of t) (says more short) ∙ report_end t []) in
    subst (λ (x : Report). Ends x out now' result) (sym is) (finished s.said s.written result done) where
      finished : (said : List (List ℕ)) → Appends out now (concat said) → (result : Result Totals ReplayRefusal) → Finishes t now now' result
          → Ends (record { lines = said ++ totals_line t ∷ []; end = Counted t }) out now' result
      finished said written (Ok totals) done =
          (ap Counted (sym done.0), subst (λ (x : List ℕ). Appends out now' x) (sym (concat_one said (totals_line t))) (appends_both out now now' (concat said) (totals_line t) written done.1))
      finished said written (Err (Text why)) done = absurd done
      finished said written (Err (WriteFault count)) done =
          subst (λ (x : List ℕ). AppendsFront out now' x) (sym (concat_one said (totals_line t))) (front_after out now now' (concat said) (totals_line t) written done)
      finished said written (Err OutOfMemory) done = absurd done

-- at a fault
pub held_refused : (f : Family) (text : List ℕ) (out now : Option (List ℕ)) (r r' : Reader) (t : Totals) (why : TextRefusal) → r'.window.room ≡ r.window.room
    → StandsBehind f text out (at r t) now → GivesHeld r r' (Err why) → EndsBehind f text r'.window.room out now (Err (Text why))
held_refused f text out now r r' t (texts.TheVariants.Fault line why) room s says = λ more short.
    let is : replayed f (text ++ more) ≡ with_lines s.said (record { lines = []; end = Faulty line why }) =
    s.leads more (subst (λ (k : ℕ). length more ≤ k) room short) ∙ ap (with_lines s.said) (ap (report_of t) (says more short) ∙ report_fault t line why []) in
    subst (λ (x : Report). Ends x out now (Err (Text (texts.TheVariants.Fault line why)))) (sym is)
    (refl, subst (λ (x : List (List ℕ)). Appends out now (concat x)) (sym (append-nil s.said)) s.written)
held_refused f text out now r r' t (texts.TheVariants.ReadFault count) room s says = absurd says

-- at a case that was not taken
pub held_untaken : (T : Type 0) (f : Family) (text : List ℕ) (out now now' : Option (List ℕ)) (r r' : Reader) (t t' : Totals) (why : ReplayRefusal) → r'.window.room ≡ r.window.room
    → StandsBehind f text out (at r t) now → SaysOf r r' answers.TheVariants.Case → Takes {T = T} t r'.case t' now now' (Err why)
    → EndsBehind f text r'.window.room out now' (Err why)
held_untaken T f text out now now' r r' t t' (Text (texts.TheVariants.Fault line why)) room s says takes = λ more short.
    let is : replayed f (text ++ more) ≡ with_lines s.said (record { lines = []; end = Faulty line why }) =
    s.leads more (subst (λ (k : ℕ). length more ≤ k) room short) ∙ ap (with_lines s.said) (ap (report_of t) (says more short) ∙ takes.1 (left_of r' more)) in
    subst (λ (x : Report). Ends x out now' (Err (Text (texts.TheVariants.Fault line why)))) (sym is)
    (refl, subst (λ (x : List ℕ). Appends out now' x) (append-nil (concat s.said) ∙ ap concat (sym (append-nil s.said))) (appends_both out now now' (concat s.said) [] s.written takes.0))
held_untaken T f text out now now' r r' t t' (Text (texts.TheVariants.ReadFault count)) room s says takes = absurd takes
held_untaken T f text out now now' r r' t t' (WriteFault count) room s says takes = λ more short.
    let rest = takes.2 (left_of r' more) in
    let whole = s.leads more (subst (λ (k : ℕ). length more ≤ k) room short)
    ∙ (ap (with_lines s.said) (ap (report_of t) (says more short) ∙ rest.1) ∙ sym (with_both s.said takes.0 rest.0)) in
    subst (λ (x : Report). AppendsFront out now' (concat x.lines)) (sym whole)
    (subst (λ (x : List ℕ). AppendsFront out now' x) (sym (concat-append (s.said ++ takes.0) rest.0.lines ∙ ap (λ (x : List ℕ). x ++ concat rest.0.lines) (concat-append s.said takes.0)))
    (front_within out now' (concat s.said ++ concat takes.0) (concat rest.0.lines) (front_after out now now' (concat s.said) (concat takes.0) s.written takes.1)))
held_untaken T f text out now now' r r' t t' OutOfMemory room s says takes = absurd takes

-- ---- the begin

-- before anything of a text was taken in
pub goes_first : (f : Family) (out : Option (List ℕ)) (p : Replayer) → Starts f p → GoesOn f [] out p out
goes_first f out p starts =
    let b = starts.begins in
    let few : groups_in p.reader.place.group ≤ p.reader.place.number = subst (λ (q : Place). groups_in q.group ≤ q.number) (sym b.place) (omega arith) in
    let none : IsCounted none_yet p.reader = omega (arith, few) in
    record {
      stands = record {
        said = [];
        written = appends_none out;
        leads = λ more short.
            sym (ap (λ (t : Totals). report_of t (left_of p.reader more)) starts.none ∙ ap (report_of none_yet) (ap (λ (g : Family). entries_from g p.reader.place (lines (p.reader.window.ahead ++ more))) b.family_is
            ∙ (ap (λ (q : Place). entries_from f q (lines (p.reader.window.ahead ++ more))) b.place
            ∙ ap (λ (w : Window). entries_from f at_start (lines (w.ahead ++ more))) b.window)));
      };
      short = subst (λ (w : Window). length w.ahead < 16386) (sym b.window) (omega arith);
      more = subst (λ (w : Window). 0 < w.room) (sym b.window) (omega arith);
      counted = subst (λ (t : Totals). IsCounted t p.reader) (sym starts.none) none;
    }
