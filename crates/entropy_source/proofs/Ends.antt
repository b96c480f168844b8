-- A draw from its blocks, and what is so of a source after a start and after a draw.
use Rattle.std.proofs.Common.{◌≡◌, ◌≤◌, ◌<◌, ◌+◌, ◌*◌, ℕ, List, [], ◌∷◌, length, take, refl, sym, ap, ◌∙◌, subst, arith, append-nil, zero-add, zero-mul}
use Rattle.std.specs.Prelude.{Option, Some, None, IsSome, IfErr, OnOk, OnErr, Result, Ok, Err, MatchResult, replicate}
use Rattle.rbg_bytes.specs.Streams.{Rose}
use Rattle.health_tests.specs.declared.numbers.Tail.{Tail}
use Rattle.health_tests.specs.Numbers.{alarm_from}
use Rattle.entropy_source.specs.declared.answers.SourceRow.{SourceRow}
use Rattle.entropy_source.specs.declared.answers.Range.{Range}
use Rattle.entropy_source.specs.declared.answers.Cause.{Cause}
use Rattle.entropy_source.specs.declared.answers.SourceMode.{SourceMode}
use Rattle.entropy_source.specs.declared.answers.SourceMode.TheVariants as modes
use Rattle.entropy_source.specs.declared.answers.SourceRefusal.{SourceRefusal}
use Rattle.entropy_source.specs.declared.answers.SourceRefusal.TheVariants.{SourceSpent, InError, SourceFault, HealthFailed, WantOfEntropy}
use Rattle.entropy_source.specs.Source.{SourceAct, Began, SourceState, source_after, blocks_for, need_of, need_of_block}
use Rattle.entropy_source.specs.Draws.{Draws, Drawn, found_in}
use Rattle.entropy_source.specs.Counted.{samples_of, lacking_after}
use Rattle.entropy_source.specs.Outcomes.{Outcome}
use Rattle.entropy_source.specs.Views.{SourceView, source_state, HasDrawn, error_of}
use Rattle.entropy_source.specs.Causes.{IfSpent, IfInError, IfFault, IfHealthFailed, IfWant, IsLetGo}
use Rattle.entropy_source.specs.Scaffolding.{IsLeft, LeadsBlocks, StopsBlocks, EndsStart, EndsDraw}
use Rattle.entropy_source.proofs.Answering.{drawn_ends}

module _ {S : Type 0} (told : S → Option (List ℕ)) (faults : S → ℕ) (reads : S → ℕ → Option (List ℕ) → S → Type 0) (n : ℕ) (v w : SourceView S) (some : IsSome v.tail) where
  abbrev row : SourceRow
  row = v.row

  abbrev s : SourceState
  s = source_state told faults v

  abbrev later : SourceState
  later = source_state told faults w

  -- the blocks of one want
  one_want : 0 + blocks_for row n ≡ blocks_for row n
  one_want = zero-add (blocks_for row n)

  found_of : (acts : List SourceAct) (end : Result (List ℕ) SourceRefusal)
      → ((t : Tail) → s.tail ≡ Some t → Draws row (found_in row.cutoffs (Some t)) (blocks_for row n) s [] [] acts end)
      → Drawn row (found_in row.cutoffs s.tail) s (n ∷ []) acts end
  found_of acts end d = subst (λ k. Draws row (found_in row.cutoffs s.tail) k s [] [] acts end) (sym one_want) (by s.tail refl some) where
    by : (o : Option Tail) → s.tail ≡ o → IsSome o → Draws row (found_in row.cutoffs s.tail) (blocks_for row n) s [] [] acts end
    by None e some = cc
    by (Some t) e some = subst (λ z. Draws row (found_in row.cutoffs z) (blocks_for row n) s [] [] acts end) (sym e) (d t e)

  -- which answer a draw gives
  outcome_of : (acts : List SourceAct) (end : Result (List ℕ) SourceRefusal) → Drawn row (found_in row.cutoffs s.tail) s (n ∷ []) acts end
      → (t : Tail) → s.tail ≡ Some t → Outcome s.taken (alarm_from row.cutoffs t (samples_of acts)) (lacking_after (need_of_block row) (need_of_block row) acts) acts end
  outcome_of acts end d t tl = drawn_ends row t s (n ∷ []) acts end (subst (λ o. Drawn row (found_in row.cutoffs o) s (n ∷ []) acts end) tl d)

  pub drawn : (out : List ℕ) (from to : ℕ) → length out ≡ n → from ≡ s.taken → to ≡ later.taken
      → (bytes : List ℕ) × LeadsBlocks told faults reads row v w (blocks_for row n) 0 bytes × (out ≡ take (length out) bytes)
      → HasDrawn told faults reads n out (Ok (record { from = from; to = to })) v w × EndsDraw {T = Range} row n (Ok (record { from = from; to = to })) s later
  drawn out from to len first last (bytes, x, is) =
      let whole : ℕ → ℕ → Result Range SourceRefusal = λ a b. Ok (record { from = a; to = b }) in
      let range : whole from to ≡ whole s.taken later.taken = ap (λ a. whole a to) first ∙ ap (whole s.taken) last in
      let draw = found_of x.acts (Ok bytes) (λ t tl.
      subst (λ z. Draws row (found_in row.cutoffs (Some t)) (blocks_for row n) s [] [] z (Ok bytes)) (append-nil x.acts) (x.goes t [] [] [] (Ok bytes) tl (refl, refl))) in (
        record {
          acts = x.acts;
          bytes = Ok bytes;
          draw = draw;
          state = x.leads.state;
          made = x.leads.made;
          answer = (range, is ∙ ap (λ k. take k bytes) len);
          outcome = outcome_of x.acts (Ok bytes) draw;
        },
        (x.others.mode, omega (arith, x.taken, zero-mul (need_of_block row), ap (λ k. k * need_of_block row) one_want), x.others.faults),
      )

  pub not_drawn : (out : List ℕ) (why : SourceRefusal) → StopsBlocks told faults reads row v w (blocks_for row n) why
      → HasDrawn told faults reads n out (Err why) v w × EndsDraw {T = Range} row n (Err why) s later
  not_drawn out why x =
      let draw = found_of x.acts (Err why) (λ t tl. x.ends t [] [] tl) in (
        record {
          acts = x.acts;
          bytes = Err why;
          draw = draw;
          state = x.leads.state;
          made = x.leads.made;
          answer = refl;
          outcome = outcome_of x.acts (Err why) draw;
        },
        x.left,
      )

-- what a refusal after some reads is not, and what is so after it
spent_of : (s now : SourceState) (lacks : ℕ) (why : SourceRefusal) (P : ℕ → ℕ → Type 0) → IsLeft s now lacks why → IfSpent why P
spent_of s now lacks (SourceSpent taken need) P h = absurd h
spent_of s now lacks (InError cause) P h = tt
spent_of s now lacks (SourceFault count) P h = tt
spent_of s now lacks (HealthFailed index test) P h = tt
spent_of s now lacks (WantOfEntropy missing) P h = tt

in_error_of : (s now : SourceState) (lacks : ℕ) (why : SourceRefusal) (P : Cause → Type 0) → IsLeft s now lacks why → IfInError why P
in_error_of s now lacks (SourceSpent taken need) P h = tt
in_error_of s now lacks (InError cause) P h = absurd h
in_error_of s now lacks (SourceFault count) P h = tt
in_error_of s now lacks (HealthFailed index test) P h = tt
in_error_of s now lacks (WantOfEntropy missing) P h = tt

fault_of : (s now : SourceState) (lacks : ℕ) (why : SourceRefusal) → IsLeft s now lacks why
    → IfFault why (λ count. Rose s.faults now.faults × (count ≡ now.faults) × (now.mode ≡ s.mode))
fault_of s now lacks (SourceSpent taken need) h = tt
fault_of s now lacks (InError cause) h = tt
fault_of s now lacks (SourceFault count) h = h
fault_of s now lacks (HealthFailed index test) h = tt
fault_of s now lacks (WantOfEntropy missing) h = tt

failed_of : (s now : SourceState) (lacks : ℕ) (why : SourceRefusal) → IsLeft s now lacks why
    → IfHealthFailed why (λ index test. (now.faults ≡ s.faults) × (now.mode ≡ modes.Alarmed index test))
failed_of s now lacks (SourceSpent taken need) h = tt
failed_of s now lacks (InError cause) h = tt
failed_of s now lacks (SourceFault count) h = tt
failed_of s now lacks (HealthFailed index test) h = h
failed_of s now lacks (WantOfEntropy missing) h = tt

want_of : (s now : SourceState) (lacks : ℕ) (why : SourceRefusal) → IsLeft s now lacks why
    → IfWant why (λ missing. (now.faults ≡ s.faults) × (now.mode ≡ s.mode) × (0 < missing) × (missing ≤ lacks))
want_of s now lacks (SourceSpent taken need) h = tt
want_of s now lacks (InError cause) h = tt
want_of s now lacks (SourceFault count) h = tt
want_of s now lacks (HealthFailed index test) h = tt
want_of s now lacks (WantOfEntropy missing) h = h

-- The same as clauses of a call, which ends so or in some refusal.
module _ {T : Type 0} (s now : SourceState) (lacks : ℕ) (Q : Type 0) where
  abbrev pub Ended : Result T SourceRefusal → Type 0
  Ended result = MatchResult result (λ _. Q) (λ why. IsLeft s now lacks why)

  pub ok_clause : (result : Result T SourceRefusal) → Ended result → OnOk result Q
  ok_clause (Ok x) h = h
  ok_clause (Err why) h = tt

  pub spent_clause : (result : Result T SourceRefusal) (P : ℕ → ℕ → Type 0) → Ended result → IfErr result (λ why. IfSpent why P)
  spent_clause (Ok x) P h = tt
  spent_clause (Err why) P h = spent_of s now lacks why P h

  pub error_clause : (result : Result T SourceRefusal) (P : Cause → Type 0) → Ended result → IfErr result (λ why. IfInError why P)
  error_clause (Ok x) P h = tt
  error_clause (Err why) P h = in_error_of s now lacks why P h

  pub fault_clause : (result : Result T SourceRefusal) → Ended result
      → IfErr result (λ why. IfFault why (λ count. Rose s.faults now.faults × (count ≡ now.faults) × (now.mode ≡ s.mode)))
  fault_clause (Ok x) h = tt
  fault_clause (Err why) h = fault_of s now lacks why h

  pub failed_clause : (result : Result T SourceRefusal) → Ended result
      → IfErr result (λ why. IfHealthFailed why (λ index test. (now.faults ≡ s.faults) × (now.mode ≡ modes.Alarmed index test)))
  failed_clause (Ok x) h = tt
  failed_clause (Err why) h = failed_of s now lacks why h

  pub want_clause : (result : Result T SourceRefusal) → Ended result
      → IfErr result (λ why. IfWant why (λ missing. (now.faults ≡ s.faults) × (now.mode ≡ s.mode) × (0 < missing) × (missing ≤ lacks)))
  want_clause (Ok x) h = tt
  want_clause (Err why) h = want_of s now lacks why h

-- what the buffer holds after a refusal, when it was filled with zeros
pub let_go : {T : Type 0} (here : SourceRow) (n : ℕ) (s now : SourceState) (result : Result T SourceRefusal) (old new : List ℕ) → EndsDraw here n result s now
    → OnErr result (new ≡ replicate (length old) 0) → IfErr result (λ why. IsLetGo why old new)
let_go here n s now (Ok x) old new h wiped = tt
let_go here n s now (Err why) old new h wiped = by why h where
  by : (why : SourceRefusal) → IsLeft s now (need_of_block here) why → IsLetGo why old new
  by (SourceSpent taken need) h = absurd h
  by (InError cause) h = absurd h
  by (SourceFault count) h = wiped
  by (HealthFailed index test) h = wiped
  by (WantOfEntropy missing) h = wiped

-- a source that is not in error runs
running : (m : SourceMode) → error_of m ≡ None → m ≡ modes.Running
running modes.Idle h = cc
running modes.Running h = refl
running (modes.Alarmed index test) h = cc

-- What is so after each answer of a call that ended so, between the states before and after it.
pub record Facts {T : Type 0} (s now : SourceState) (result : Result T SourceRefusal) (Good : Type 0) (lacks : ℕ) (left : SourceMode)
    (Spent : ℕ → ℕ → Type 0) (InFault : Cause → Type 0) : Type 0 where
  pub ok : OnOk result Good
  pub spent : IfErr result (λ why. IfSpent why Spent)
  pub error : IfErr result (λ why. IfInError why InFault)
  pub fault : IfErr result (λ why. IfFault why (λ count. Rose s.faults now.faults × (count ≡ now.faults) × (now.mode ≡ left)))
  pub failed : IfErr result (λ why. IfHealthFailed why (λ index test. (now.faults ≡ s.faults) × (now.mode ≡ modes.Alarmed index test)))
  pub want : IfErr result (λ why. IfWant why (λ missing. (now.faults ≡ s.faults) × (now.mode ≡ left) × (0 < missing) × (missing ≤ lacks)))

facts : {T : Type 0} (s now : SourceState) (result : Result T SourceRefusal) (Good : Type 0) (lacks : ℕ) (Spent : ℕ → ℕ → Type 0) (InFault : Cause → Type 0)
    → MatchResult result (λ _. Good) (λ why. IsLeft s now lacks why) → Facts s now result Good lacks s.mode Spent InFault
facts s now result Good lacks Spent InFault h = record {
  ok = ok_clause s now lacks Good result h;
  spent = spent_clause s now lacks Good result Spent h;
  error = error_clause s now lacks Good result InFault h;
  fault = fault_clause s now lacks Good result h;
  failed = failed_clause s now lacks Good result h;
  want = want_clause s now lacks Good result h;
}

-- The same of a source.
module _ {S T : Type 0} (told : S → Option (List ℕ)) (faults : S → ℕ) (inside v : SourceView S) (is : inside ≡ v) (now : SourceState) (result : Result T SourceRefusal) where
  pub start_facts : (Spent : ℕ → ℕ → Type 0) (InFault : Cause → Type 0) → EndsStart inside.row result (source_state told faults inside) now
      → Facts (source_state told faults v) now result ((now.mode ≡ modes.Running) × (now.taken ≡ v.taken + v.row.startup) × (now.faults ≡ faults v.samples))
      v.row.startup modes.Idle Spent InFault
  start_facts Spent InFault h =
      let f = facts (source_after v.row (source_state told faults v) Began) now result
      ((now.mode ≡ modes.Running) × (now.taken ≡ v.taken + v.row.startup) × (now.faults ≡ faults v.samples)) v.row.startup Spent InFault
      (subst (λ (z : SourceView S). EndsStart z.row result (source_state told faults z) now) is h) in
      record { ok = f.ok; spent = f.spent; error = f.error; fault = f.fault; failed = f.failed; want = f.want }

  pub draw_facts : (n : ℕ) (Spent : ℕ → ℕ → Type 0) (InFault : Cause → Type 0) → error_of inside.mode ≡ None
      → EndsDraw inside.row n result (source_state told faults inside) now
      → Facts (source_state told faults v) now result ((now.mode ≡ v.mode) × (now.taken ≡ v.taken + need_of v.row (n ∷ [])) × (now.faults ≡ faults v.samples))
      (need_of_block v.row) modes.Running Spent InFault
  draw_facts n Spent InFault runs h =
      subst (λ m. Facts (source_state told faults v) now result ((now.mode ≡ v.mode) × (now.taken ≡ v.taken + need_of v.row (n ∷ [])) × (now.faults ≡ faults v.samples))
      (need_of_block v.row) m Spent InFault)
      (running v.mode (subst (λ (z : SourceView S). error_of z.mode ≡ None) is runs))
      (facts (source_state told faults v) now result
      ((now.mode ≡ v.mode) × (now.taken ≡ v.taken + need_of v.row (n ∷ [])) × (now.faults ≡ faults v.samples)) (need_of_block v.row) Spent InFault
      (subst (λ (z : SourceView S). EndsDraw z.row n result (source_state told faults z) now) is h))
