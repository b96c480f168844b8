-- Which answer comes, from the acts.
use Rattle.std.proofs.Common.{◌≡◌, ◌+◌, ◌-◌, ℕ, zero, suc, List, [], ◌∷◌, ◌++◌, Bool, true, false, map, length, refl, sym, ap, ◌∙◌, subst, arith, append-nil, length-append}
use Rattle.std.specs.Prelude.{Option, Some, None, Result, Ok, Err, MatchOption, MatchResult, sum}
use Rattle.health_tests.specs.declared.windows.Test.{Test}
use Rattle.health_tests.specs.declared.windows.Alarm.{Alarm}
use Rattle.health_tests.specs.declared.numbers.Tail.{Tail}
use Rattle.health_tests.specs.Cutoffs.{Limits}
use Rattle.health_tests.specs.Windows.{further, or_later, alarm_in}
use Rattle.health_tests.specs.Numbers.{no_tail, tail_step, tail_after, alarm_by, alarm_from}
use Rattle.conditioner.specs.Conditioned.{conditioned}
use Rattle.entropy_source.specs.declared.answers.SourceRow.{SourceRow}
use Rattle.entropy_source.specs.declared.answers.SourceRefusal.{SourceRefusal}
use Rattle.entropy_source.specs.declared.answers.SourceRefusal.TheVariants.{HealthFailed, WantOfEntropy}
use Rattle.entropy_source.specs.Source.{SourceAct, Began, Read, Alarmed, Started, Block, SourceState, given, source_after, source_after_all, blocks_for, need_of_block}
use Rattle.entropy_source.specs.Draws.{Gathers, Draws, Drawn, Start, found_in}
use Rattle.entropy_source.specs.Counted.{samples_of, lacking_after, gave_none, has_failed}
use Rattle.entropy_source.specs.Outcomes.{FailsAt, WantsWhere, FaultsWhere, Outcome}
use Rattle.entropy_source.proofs.Joining.{tail_append}
use Rattle.entropy_source.proofs.Joins.{gathered, samples_append}
use Rattle.entropy_source.proofs.Counts.{taken_of}
use Rattle.entropy_source.proofs.Fresh.{found_fresh}

-- The first alarm of two rows of samples.
module _ (c : Limits) where
  none_later : (o : Option Alarm) → further 1 o ≡ None → o ≡ None
  none_later None h = refl
  none_later (Some a) h = cc

  both_none : (o : Option Test) (later : Option Alarm) → or_later o later ≡ None → (o ≡ None) × (later ≡ None)
  both_none (Some test) later h = cc
  both_none None later h = (refl, none_later later h)

  further_zero : (o : Option Alarm) → o ≡ further 0 o
  further_zero None = refl
  further_zero (Some a) = ap (λ n. Some (record { at = n; test = a.test })) (omega arith)

  further_more : (n : ℕ) (o : Option Alarm) → further 1 (further n o) ≡ further (suc n) o
  further_more n None = refl
  further_more n (Some a) = ap (λ k. Some (record { at = k; test = a.test })) (omega arith)

  pub alarm_on : (t : Tail) (x y : List ℕ) → alarm_from c t x ≡ None → alarm_from c t (x ++ y) ≡ further (length x) (alarm_from c (tail_after c.window t x) y)
  alarm_on t [] y h = further_zero (alarm_from c t y)
  alarm_on t (s ∷ x) y h =
      let both = both_none (alarm_by c (tail_step c.window t s)) (alarm_from c (tail_step c.window t s) x) h in
      ap (λ o. or_later o (alarm_from c (tail_step c.window t s) (x ++ y))) both.0
      ∙ (ap (further 1) (alarm_on (tail_step c.window t s) x y both.1) ∙ further_more (length x) (alarm_from c (tail_after c.window (tail_step c.window t s) x) y))

-- an alarm so many samples later
fails_later : (taken n : ℕ) (o : Option Alarm) (end : Result (List ℕ) SourceRefusal) → FailsAt (taken + n) o end → FailsAt taken (further n o) end
fails_later taken n None end h = h
fails_later taken n (Some a) end h = h ∙ ap (λ k. Err (HealthFailed k a.test)) (omega arith)

-- an answer that is none of the three
not_failed : (taken : ℕ) (block : List ℕ) → FailsAt taken None (Ok block)
not_failed taken block i t e = cc

-- What an answer Ok says of the acts.
no_alarm : (taken : ℕ) (o : Option Alarm) (block : List ℕ) → FailsAt taken o (Ok block) → o ≡ None
no_alarm taken None block h = refl
no_alarm taken (Some a) block h = cc

no_want : (b : Bool) (missing : ℕ) (block : List ℕ) → WantsWhere b missing (Ok block) → b ≡ false
no_want true missing block h = cc
no_want false missing block h = refl

no_fault : (b : Bool) (block : List ℕ) → FaultsWhere b (Ok block) → b ≡ false
no_fault true block (count, h) = cc
no_fault false block h = refl

gave_more : (xs ys : List SourceAct) → gave_none xs ≡ false → gave_none (xs ++ ys) ≡ gave_none ys
gave_more [] ys h = refl
gave_more (Began ∷ xs) ys h = gave_more xs ys h
gave_more (Read asked None count ∷ xs) ys h = gave_more xs ys h
gave_more (Read asked (Some []) count ∷ xs) ys h = cc
gave_more (Read asked (Some (x ∷ got)) count ∷ xs) ys h = gave_more xs ys h
gave_more (Alarmed i t ∷ xs) ys h = gave_more xs ys h
gave_more (Started ∷ xs) ys h = gave_more xs ys h
gave_more (Block a b c ∷ xs) ys h = gave_more xs ys h

failed_more : (xs ys : List SourceAct) → has_failed xs ≡ false → has_failed (xs ++ ys) ≡ has_failed ys
failed_more [] ys h = refl
failed_more (Began ∷ xs) ys h = failed_more xs ys h
failed_more (Read asked None count ∷ xs) ys h = cc
failed_more (Read asked (Some got) count ∷ xs) ys h = failed_more xs ys h
failed_more (Alarmed i t ∷ xs) ys h = failed_more xs ys h
failed_more (Started ∷ xs) ys h = failed_more xs ys h
failed_more (Block a b c ∷ xs) ys h = failed_more xs ys h

-- What is lacking after acts.
lacking_more : (need lacks : ℕ) (xs : List SourceAct) (from to : ℕ) (bytes : List ℕ) (more : List SourceAct)
    → lacking_after need lacks (xs ++ Block from to bytes ∷ more) ≡ lacking_after need need more
lacking_more need lacks [] from to bytes more = refl
lacking_more need lacks (Began ∷ xs) from to bytes more = lacking_more need lacks xs from to bytes more
lacking_more need lacks (Read asked got count ∷ xs) from to bytes more = lacking_more need (lacks - length (given got)) xs from to bytes more
lacking_more need lacks (Alarmed i t ∷ xs) from to bytes more = lacking_more need lacks xs from to bytes more
lacking_more need lacks (Started ∷ xs) from to bytes more = lacking_more need lacks xs from to bytes more
lacking_more need lacks (Block a b c ∷ xs) from to bytes more = lacking_more need need xs from to bytes more

module _ (row : SourceRow) (found : List ℕ → List ℕ → Option Alarm) where
  -- reads for one block or the start-up
  lacking_reads : (need lacks : ℕ) (s : SourceState) (has read : List ℕ) (acts : List SourceAct) (end : Result (List ℕ) SourceRefusal)
      → Gathers row found lacks s has read acts end → lacking_after need lacks acts ≡ lacks - length (samples_of acts)
  lacking_reads need lacks s has read [] end g = omega arith
  lacking_reads need lacks s has read (Read asked None count ∷ acts) end (a, b, c, none, is) =
      subst (λ z. lacking_after need (lacks - 0) z ≡ lacks - length (samples_of z)) (sym none) (omega arith)
  lacking_reads need lacks s has read (Read asked (Some []) count ∷ acts) end (a, b, c, none, is) =
      subst (λ z. lacking_after need (lacks - 0) z ≡ lacks - length (samples_of z)) (sym none) (omega arith)
  lacking_reads need lacks s has read (Read asked (Some (x ∷ xs)) count ∷ acts) end (a, b, c, g) =
      by (found read (x ∷ xs)) (λ h. lacking_reads need (lacks - length (x ∷ xs)) (source_after row s (Read asked (Some (x ∷ xs)) count)) (has ++ x ∷ xs) (read ++ x ∷ xs) acts end h) g where
        by : (o : Option Alarm)
            → (Gathers row found (lacks - length (x ∷ xs)) (source_after row s (Read asked (Some (x ∷ xs)) count)) (has ++ x ∷ xs) (read ++ x ∷ xs) acts end
            → lacking_after need (lacks - length (x ∷ xs)) acts ≡ (lacks - length (x ∷ xs)) - length (samples_of acts))
            → MatchOption o (Gathers row found (lacks - length (x ∷ xs)) (source_after row s (Read asked (Some (x ∷ xs)) count)) (has ++ x ∷ xs) (read ++ x ∷ xs) acts end)
            (λ f. (acts ≡ Alarmed (s.taken + f.at) f.test ∷ []) × (end ≡ Err (HealthFailed (s.taken + f.at) f.test)))
            → lacking_after need (lacks - length (x ∷ xs)) acts ≡ lacks - length (x ∷ xs ++ samples_of acts)
        by None ih h = omega (arith, ih h, length-append (x ∷ xs) (samples_of acts))
        by (Some f) ih (last, is) =
            subst (λ z. lacking_after need (lacks - length (x ∷ xs)) z ≡ lacks - length (x ∷ xs ++ samples_of z)) (sym last)
            (ap (λ z. lacks - length {A = ℕ} z) (sym (append-nil (x ∷ xs))))
  lacking_reads need lacks s has read (Began ∷ acts) end g = absurd g
  lacking_reads need lacks s has read (Alarmed i u ∷ acts) end g = absurd g
  lacking_reads need lacks s has read (Started ∷ acts) end g = absurd g
  lacking_reads need lacks s has read (Block a b c ∷ acts) end g = absurd g

module _ (row : SourceRow) (t : Tail) where
  abbrev found : List ℕ → List ℕ → Option Alarm
  found = found_in row.cutoffs (Some t)

  abbrev tail : List ℕ → Tail
  tail read = tail_after row.cutoffs.window t read

  pub gathers_end : (lacks : ℕ) (s : SourceState) (has read : List ℕ) (acts : List SourceAct) (end : Result (List ℕ) SourceRefusal)
      → Gathers row found lacks s has read acts end
      → Outcome s.taken (alarm_from row.cutoffs (tail read) (samples_of acts)) (lacks - length (samples_of acts)) acts end
  gathers_end lacks s has read [] end (full, is) =
      subst (Outcome s.taken None (lacks - 0) []) (sym is) (record { health = not_failed s.taken has; want = λ m e. cc; fault = λ k e. cc })
  gathers_end lacks s has read (Read asked None count ∷ acts) end (a, b, c, none, is) =
      subst (λ z. Outcome s.taken (alarm_from row.cutoffs (tail read) (samples_of z)) (lacks - length (samples_of z)) (Read asked None count ∷ z) end) (sym none)
      (subst (Outcome s.taken None (lacks - 0) (Read asked None count ∷ [])) (sym is) (record { health = λ i u e. cc; want = λ m e. cc; fault = (count, refl) }))
  gathers_end lacks s has read (Read asked (Some []) count ∷ acts) end (a, b, c, none, is) =
      subst (λ z. Outcome s.taken (alarm_from row.cutoffs (tail read) (samples_of z)) (lacks - length (samples_of z)) (Read asked (Some []) count ∷ z) end) (sym none)
      (subst (Outcome s.taken None (lacks - 0) (Read asked (Some []) count ∷ [])) (sym is) (record { health = λ i u e. cc; want = ap (λ k. Err (WantOfEntropy k)) (omega arith); fault = λ k e. cc }))
  gathers_end lacks s has read (Read asked (Some (x ∷ xs)) count ∷ acts) end (a, b, c, g) =
      by (λ h. gathers_end (lacks - length (x ∷ xs)) (source_after row s (Read asked (Some (x ∷ xs)) count)) (has ++ x ∷ xs) (read ++ x ∷ xs) acts end h) (found read (x ∷ xs)) refl g where
        by : (Gathers row found (lacks - length (x ∷ xs)) (source_after row s (Read asked (Some (x ∷ xs)) count)) (has ++ x ∷ xs) (read ++ x ∷ xs) acts end
            → Outcome (s.taken + length (x ∷ xs)) (alarm_from row.cutoffs (tail (read ++ x ∷ xs)) (samples_of acts)) ((lacks - length (x ∷ xs)) - length (samples_of acts)) acts end)
            → (o : Option Alarm) → found read (x ∷ xs) ≡ o
            → MatchOption o (Gathers row found (lacks - length (x ∷ xs)) (source_after row s (Read asked (Some (x ∷ xs)) count)) (has ++ x ∷ xs) (read ++ x ∷ xs) acts end)
            (λ f. (acts ≡ Alarmed (s.taken + f.at) f.test ∷ []) × (end ≡ Err (HealthFailed (s.taken + f.at) f.test)))
            → Outcome s.taken (alarm_from row.cutoffs (tail read) (x ∷ xs ++ samples_of acts)) (lacks - length (x ∷ xs ++ samples_of acts)) (Read asked (Some (x ∷ xs)) count ∷ acts) end
        by on None e h =
            let ih = on h in
            let all = alarm_on row.cutoffs (tail read) (x ∷ xs) (samples_of acts) e
            ∙ ap (λ z. further (length (x ∷ xs)) (alarm_from row.cutoffs z (samples_of acts))) (tail_append row.cutoffs.window t read (x ∷ xs)) in record {
              health = subst (λ o. FailsAt s.taken o end) (sym all) (fails_later s.taken (length (x ∷ xs)) (alarm_from row.cutoffs (tail (read ++ x ∷ xs)) (samples_of acts)) end ih.health);
              want = subst (λ k. WantsWhere (gave_none acts) k end) (omega (arith, length-append (x ∷ xs) (samples_of acts))) ih.want;
              fault = ih.fault;
            }
        by on (Some f) e (last, is) =
            subst (λ z. Outcome s.taken (alarm_from row.cutoffs (tail read) (x ∷ xs ++ samples_of z)) (lacks - length (x ∷ xs ++ samples_of z)) (Read asked (Some (x ∷ xs)) count ∷ z) end) (sym last)
            (subst (λ o. Outcome s.taken o (lacks - length (x ∷ xs ++ [])) (Read asked (Some (x ∷ xs)) count ∷ Alarmed (s.taken + f.at) f.test ∷ []) end)
            (sym (ap (alarm_from row.cutoffs (tail read)) (append-nil (x ∷ xs)) ∙ e))
            (subst (Outcome s.taken (Some f) (lacks - length (x ∷ xs ++ [])) (Read asked (Some (x ∷ xs)) count ∷ Alarmed (s.taken + f.at) f.test ∷ [])) (sym is)
            (record { health = refl; want = λ m e. cc; fault = λ k e. cc })))
  gathers_end lacks s has read (Began ∷ acts) end g = absurd g
  gathers_end lacks s has read (Alarmed i u ∷ acts) end g = absurd g
  gathers_end lacks s has read (Started ∷ acts) end g = absurd g
  gathers_end lacks s has read (Block a b c ∷ acts) end g = absurd g

  -- acts without an alarm, an end of the samples or a failed read, and then others
  on_with : (s : SourceState) (read : List ℕ) (reads more : List SourceAct) (block : List ℕ) (end : Result (List ℕ) SourceRefusal) (taken first_lacks lacks : ℕ)
      → Outcome s.taken (alarm_from row.cutoffs (tail read) (samples_of reads)) first_lacks reads (Ok block) → block ≡ samples_of reads
      → taken ≡ s.taken + length (samples_of reads)
      → Outcome taken (alarm_from row.cutoffs (tail (read ++ block)) (samples_of more)) lacks more end
      → Outcome s.taken (alarm_from row.cutoffs (tail read) (samples_of (reads ++ more))) lacks (reads ++ more) end
  on_with s read reads more block end taken first_lacks lacks first are so then_ =
      let quiet = no_alarm s.taken (alarm_from row.cutoffs (tail read) (samples_of reads)) block first.health in
      let all : alarm_from row.cutoffs (tail read) (samples_of (reads ++ more)) ≡ further (length (samples_of reads)) (alarm_from row.cutoffs (tail (read ++ block)) (samples_of more)) =
      ap (alarm_from row.cutoffs (tail read)) (samples_append reads more)
      ∙ (alarm_on row.cutoffs (tail read) (samples_of reads) (samples_of more) quiet
      ∙ ap (λ z. further (length (samples_of reads)) (alarm_from row.cutoffs z (samples_of more)))
      (tail_append row.cutoffs.window t read (samples_of reads) ∙ ap (λ z. tail (read ++ z)) (sym are))) in record {
        health = subst (λ o. FailsAt s.taken o end) (sym all)
            (fails_later s.taken (length (samples_of reads)) (alarm_from row.cutoffs (tail (read ++ block)) (samples_of more)) end (subst (λ k. FailsAt k (alarm_from row.cutoffs (tail (read ++ block)) (samples_of more)) end) so then_.health));
        want = subst (λ b. WantsWhere b lacks end) (sym (gave_more reads more (no_want (gave_none reads) first_lacks block first.want))) then_.want;
        fault = subst (λ b. FaultsWhere b end) (sym (failed_more reads more (no_fault (has_failed reads) block first.fault))) then_.fault;
      }

  abbrev need : ℕ
  need = need_of_block row

  pub draws_end : (n : ℕ) (s : SourceState) (read out : List ℕ) (acts : List SourceAct) (end : Result (List ℕ) SourceRefusal)
      → Draws row found n s read out acts end → Outcome s.taken (alarm_from row.cutoffs (tail read) (samples_of acts)) (lacking_after need need acts) acts end
  draws_end zero s read out acts end (none, is) =
      subst (λ z. Outcome s.taken (alarm_from row.cutoffs (tail read) (samples_of z)) (lacking_after need need z) z end) (sym none)
      (subst (Outcome s.taken None need []) (sym is) (record { health = not_failed s.taken out; want = λ m e. cc; fault = λ k e. cc }))
  draws_end (suc n) s read out acts end (reads, rest, x, are, g, w) =
      subst (λ z. Outcome s.taken (alarm_from row.cutoffs (tail read) (samples_of z)) (lacking_after need need z) z end) (sym are)
      (by x g w (λ s read out acts d. draws_end n s read out acts end d)) where
        by : (x : Result (List ℕ) SourceRefusal) → Gathers row found (need_of_block row) s [] read reads x → MatchResult x
            (λ block. let bytes = conditioned row.cond block in
            let now = source_after_all row s reads in
            let made = Block s.taken now.taken bytes in
            (more : List SourceAct) × (rest ≡ made ∷ more)
            × Draws row found n (source_after row now made) (read ++ block) (out ++ bytes) more end)
            (λ why. (rest ≡ []) × (end ≡ Err why))
            → ((s : SourceState) (read out : List ℕ) (acts : List SourceAct) → Draws row found n s read out acts end
            → Outcome s.taken (alarm_from row.cutoffs (tail read) (samples_of acts)) (lacking_after need need acts) acts end)
            → Outcome s.taken (alarm_from row.cutoffs (tail read) (samples_of (reads ++ rest))) (lacking_after need need (reads ++ rest)) (reads ++ rest) end
        by (Err why) g (none, is) ih =
            subst (λ z. Outcome s.taken (alarm_from row.cutoffs (tail read) (samples_of (reads ++ z))) (lacking_after need need (reads ++ z)) (reads ++ z) end) (sym none)
            (subst (λ z. Outcome s.taken (alarm_from row.cutoffs (tail read) (samples_of z)) (lacking_after need need z) z end) (sym (append-nil reads))
            (subst (Outcome s.taken (alarm_from row.cutoffs (tail read) (samples_of reads)) (lacking_after need need reads) reads) (sym is)
            (subst (λ k. Outcome s.taken (alarm_from row.cutoffs (tail read) (samples_of reads)) k reads (Err why))
            (sym (lacking_reads row found need need s [] read reads (Err why) g)) (gathers_end need s [] read reads (Err why) g))))
        by (Ok block) g (more, is, d) ih =
            let bytes = conditioned row.cond block in
            let now = source_after_all row s reads in
            let made = Block s.taken now.taken bytes in
            subst (λ z. Outcome s.taken (alarm_from row.cutoffs (tail read) (samples_of (reads ++ z))) (lacking_after need need (reads ++ z)) (reads ++ z) end) (sym is)
            (subst (λ k. Outcome s.taken (alarm_from row.cutoffs (tail read) (samples_of (reads ++ made ∷ more))) k (reads ++ made ∷ more) end)
            (sym (lacking_more need need reads s.taken now.taken bytes more))
            (on_with s read reads (made ∷ more) block end now.taken (need - length (samples_of reads)) (lacking_after need need more)
            (gathers_end need s [] read reads (Ok block) g)
            (gathered row found need s [] read reads block g)
            (taken_of row s reads)
            (let h = ih (source_after row now made) (read ++ block) (out ++ bytes) more d in record { health = h.health; want = h.want; fault = h.fault })))

-- a draw of several lengths, from a source whose tests keep something
pub drawn_ends : (row : SourceRow) (t : Tail) (s : SourceState) (wants : List ℕ) (acts : List SourceAct) (result : Result (List ℕ) SourceRefusal)
    → Drawn row (found_in row.cutoffs (Some t)) s wants acts result
    → Outcome s.taken (alarm_from row.cutoffs t (samples_of acts)) (lacking_after (need_of_block row) (need_of_block row) acts) acts result
drawn_ends row t s wants acts result d = draws_end row t (sum (map (λ n. blocks_for row n) wants)) s [] [] acts result d

-- a start
pub start_ends : (row : SourceRow) (s : SourceState) (acts : List SourceAct) (result : Result (List ℕ) SourceRefusal) → Start row s acts result
    → Outcome s.taken (alarm_in row.cutoffs [] (samples_of acts)) (row.startup - length (samples_of acts)) acts result
start_ends row s acts result (reads, rest, x, are, g, w) =
    subst (λ z. Outcome s.taken (alarm_in row.cutoffs [] (samples_of z)) (row.startup - length (samples_of z)) z result) (sym are)
    (subst (λ f. Outcome s.taken (f [] (samples_of (reads ++ rest))) (row.startup - length (samples_of (reads ++ rest))) (Began ∷ (reads ++ rest)) result) (found_fresh row.cutoffs)
    (by x (subst (λ f. Gathers row f row.startup (source_after row s Began) [] [] reads x) (sym (found_fresh row.cutoffs)) g) w)) where
      by : (x : Result (List ℕ) SourceRefusal) → Gathers row (found_in row.cutoffs (Some no_tail)) row.startup (source_after row s Began) [] [] reads x
          → MatchResult x (λ _. (rest ≡ Started ∷ []) × (result ≡ Ok [])) (λ why. (rest ≡ []) × (result ≡ Err why))
          → Outcome s.taken (alarm_from row.cutoffs no_tail (samples_of (reads ++ rest))) (row.startup - length (samples_of (reads ++ rest))) (Began ∷ (reads ++ rest)) result
      by (Err why) g (none, is) =
          let h = gathers_end row no_tail row.startup (source_after row s Began) [] [] reads (Err why) g in
          subst (λ z. Outcome s.taken (alarm_from row.cutoffs no_tail (samples_of (reads ++ z))) (row.startup - length (samples_of (reads ++ z))) (Began ∷ (reads ++ z)) result) (sym none)
          (subst (λ z. Outcome s.taken (alarm_from row.cutoffs no_tail (samples_of z)) (row.startup - length (samples_of z)) (Began ∷ z) result) (sym (append-nil reads))
          (subst (Outcome s.taken (alarm_from row.cutoffs no_tail (samples_of reads)) (row.startup - length (samples_of reads)) (Began ∷ reads)) (sym is)
          (record { health = h.health; want = h.want; fault = h.fault })))
      by (Ok block) g (last, is) =
          let h = gathers_end row no_tail row.startup (source_after row s Began) [] [] reads (Ok block) g in
          let quiet = no_alarm s.taken (alarm_from row.cutoffs no_tail (samples_of reads)) block h.health in
          let all : alarm_from row.cutoffs no_tail (samples_of (reads ++ Started ∷ [])) ≡ None =
          ap (alarm_from row.cutoffs no_tail) (samples_append reads (Started ∷ []) ∙ append-nil (samples_of reads)) ∙ quiet in
          let lacks = row.startup - length (samples_of (reads ++ Started ∷ [])) in
          let gave : gave_none (reads ++ Started ∷ []) ≡ false =
          gave_more reads (Started ∷ []) (no_want (gave_none reads) (row.startup - length (samples_of reads)) block h.want) in
          let failed : has_failed (reads ++ Started ∷ []) ≡ false = failed_more reads (Started ∷ []) (no_fault (has_failed reads) block h.fault) in
          subst (λ z. Outcome s.taken (alarm_from row.cutoffs no_tail (samples_of (reads ++ z))) (row.startup - length (samples_of (reads ++ z))) (Began ∷ (reads ++ z)) result) (sym last)
          (subst (Outcome s.taken (alarm_from row.cutoffs no_tail (samples_of (reads ++ Started ∷ []))) lacks (Began ∷ (reads ++ Started ∷ []))) (sym is) (record {
            health = subst (λ o. FailsAt s.taken o (Ok [])) (sym all) (not_failed s.taken []);
            want = subst (λ b. WantsWhere b lacks (Ok [])) (sym gave) (λ m e. cc);
            fault = subst (λ b. FaultsWhere b (Ok [])) (sym failed) (λ k e. cc);
          }))
