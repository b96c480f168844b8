-- A start, from its reads.
use Rattle.std.proofs.Common.{◌≡◌, ◌+◌, ℕ, List, [], ◌∷◌, ◌++◌, refl, sym, ap, subst, arith, append-nil}
use Rattle.std.specs.Prelude.{Option, Some, Result, Ok, Err}
use Rattle.health_tests.specs.Numbers.{no_tail}
use Rattle.entropy_source.specs.declared.answers.SourceMode.TheVariants as modes
use Rattle.entropy_source.specs.declared.answers.SourceRow.{SourceRow}
use Rattle.entropy_source.specs.declared.answers.SourceRefusal.{SourceRefusal}
use Rattle.entropy_source.specs.Source.{SourceAct, Began, Started, SourceState, source_after}
use Rattle.entropy_source.specs.Draws.{Gathers, Start}
use Rattle.entropy_source.specs.Views.{SourceView, source_state, without_bytes, HasStarted}
use Rattle.entropy_source.specs.Scaffolding.{IsLeft, LeadsTo, Leads, Stops}
use Rattle.entropy_source.proofs.Fresh.{found_fresh}
use Rattle.entropy_source.proofs.Joining.{gathered_all, to_on}
use Rattle.entropy_source.proofs.Answering.{start_ends}

module _ {S : Type 0} (told : S → Option (List ℕ)) (faults : S → ℕ) (reads : S → ℕ → Option (List ℕ) → S → Type 0) (v : SourceView S) where
  abbrev row : SourceRow
  row = v.row

  abbrev s : SourceState
  s = source_state told faults v

  -- a start, and which answer it gives
  started : {T : Type 0} (w : SourceView S) (result : Result T SourceRefusal) (acts : List SourceAct)
      → Start row s acts (without_bytes result) → LeadsTo told faults reads row acts v w → HasStarted told faults reads result v w
  started w result acts start leads =
      record { acts = acts; start = start; state = leads.state; made = leads.made; outcome = start_ends row s acts (without_bytes result) start }

  abbrev pub fresh : SourceView S
  fresh = record v { mode = modes.Idle; tail = Some no_tail }

  abbrev begun : SourceState
  begun = source_state told faults fresh

  begins : LeadsTo told faults reads row (Began ∷ []) v fresh
  begins = record { state = refl; made = refl }

  stopped : {T : Type 0} (w : SourceView S) (why : SourceRefusal) → Stops told faults reads row fresh w row.startup why → HasStarted {T = T} told faults reads (Err why) v w
  stopped w why x =
      started w (Err why) (Began ∷ x.acts) (
        x.acts,
        [],
        Err why,
        ap (λ z. Began ∷ z) (sym (append-nil x.acts)),
        subst (λ f. Gathers row f row.startup begun [] [] x.acts (Err why)) (found_fresh row.cutoffs) (x.ends no_tail [] [] refl),
        (refl, refl),
      ) (to_on told faults reads row v fresh w (Began ∷ []) x.acts begins x.leads)

  passed : {T : Type 0} (m : SourceView S) (done : T) (got : List ℕ) → Leads told faults reads row fresh m row.startup 0 got
      → HasStarted told faults reads (Ok done) v (record m { mode = modes.Running })
  passed m done got x =
      let w : SourceView S = record m { mode = modes.Running } in
      let last : LeadsTo told faults reads row (Started ∷ []) m w = record { state = refl; made = refl } in
      started w (Ok done) (Began ∷ (x.acts ++ Started ∷ [])) (
        x.acts,
        Started ∷ [],
        Ok got,
        refl,
        subst (λ f. Gathers row f row.startup begun [] [] x.acts (Ok got)) (found_fresh row.cutoffs) (gathered_all told faults reads row fresh m row.startup got x no_tail [] [] refl),
        (refl, refl),
      ) (to_on told faults reads row v fresh w (Began ∷ []) (x.acts ++ Started ∷ []) begins (to_on told faults reads row fresh m w x.acts (Started ∷ []) x.leads last))

  -- the same as the code has it
  pub start_stops : {T : Type 0} (b w : SourceView S) (why : SourceRefusal) → b ≡ fresh
      → Stops told faults reads b.row b w b.row.startup why → HasStarted {T = T} told faults reads (Err why) v w
  start_stops b w why is h = stopped w why (subst (λ (z : SourceView S). Stops told faults reads z.row z w z.row.startup why) is h)

  pub stops_left : (b w : SourceView S) (why : SourceRefusal) → b ≡ fresh
      → Stops told faults reads b.row b w b.row.startup why
      → IsLeft (source_after v.row (source_state told faults v) Began) (source_state told faults w) v.row.startup why
  stops_left b w why is h = (subst (λ (z : SourceView S). Stops told faults reads z.row z w z.row.startup why) is h).left

  module _ (b m w : SourceView S) (is : b ≡ fresh) (runs : w ≡ record m { mode = modes.Running })
      (h : (got : List ℕ) × Leads told faults reads b.row b m b.row.startup 0 got) where
    from_fresh : (got : List ℕ) × Leads told faults reads v.row fresh m v.row.startup 0 got
    from_fresh = subst (λ (z : SourceView S). (got : List ℕ) × Leads told faults reads z.row z m z.row.startup 0 got) is h

    pub start_passed : {T : Type 0} (done : T) → HasStarted told faults reads (Ok done) v w
    start_passed done = subst (λ (z : SourceView S). HasStarted told faults reads (Ok done) v z) (sym runs) (passed m done from_fresh.0 from_fresh.1)

    pub passed_left : (w.mode ≡ modes.Running) × (w.taken ≡ v.taken + v.row.startup) × (faults w.samples ≡ faults v.samples)
    passed_left = subst (λ (z : SourceView S). (z.mode ≡ modes.Running) × (z.taken ≡ v.taken + v.row.startup) × (faults z.samples ≡ faults v.samples)) (sym runs)
        (refl, omega (arith, from_fresh.1.taken, from_fresh.1.count), from_fresh.1.others.faults)
