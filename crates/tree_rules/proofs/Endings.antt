-- What reads, a draw and a start leave of a source, by how they ended.
use Rattle.std.proofs.Common.{◌≡◌, ◌∙◌, ◌++◌, ◌∷◌, ◌+◌, ◌-◌, ℕ, List, [], zero, suc, length, refl, sym, subst}
use Rattle.std.specs.Prelude.{Option, Some, None, Result, Ok, Err, MatchOption, MatchResult, IfSome, drop, option_map}
use Rattle.rbg_bytes.specs.Streams.{Rose}
use Rattle.conditioner.specs.Conditioned.{conditioned}
use Rattle.health_tests.specs.Windows.{alarm_in}
use Rattle.health_tests.specs.declared.windows.Alarm.{Alarm}
use Rattle.entropy_source.specs.Source.{Alarmed, Began, Block, Read, SourceAct, SourceState, Started, need_of_block, source_after, source_after_all}
use Rattle.entropy_source.specs.Draws.{AreNext, Draws, Gathers}
use Rattle.entropy_source.specs.Draws as draws
use Rattle.entropy_source.specs.declared.answers.SourceMode.TheVariants as modes
use Rattle.entropy_source.specs.declared.answers.SourceRefusal.{SourceRefusal}
use Rattle.entropy_source.specs.declared.answers.SourceRefusal.TheVariants.{HealthFailed, InError, SourceFault, SourceSpent, WantOfEntropy}
use Rattle.entropy_source.specs.declared.answers.SourceRow.{SourceRow}
use Rattle.tree_rules.proofs.Parting.{after_append}

-- the state after acts, by that before them and how they ended
abbrev pub Left : SourceState → SourceState → Result (List ℕ) SourceRefusal → Type 0
Left s now (Ok bytes) = (now.mode ≡ s.mode) × (now.faults ≡ s.faults)
Left s now (Err (SourceSpent taken need)) = ⊥
Left s now (Err (InError cause)) = ⊥
Left s now (Err (SourceFault count)) = (now.mode ≡ s.mode) × (now.faults ≡ count) × Rose s.faults count
Left s now (Err (HealthFailed index test)) = (now.mode ≡ modes.Alarmed index test) × (now.faults ≡ s.faults)
Left s now (Err (WantOfEntropy missing)) = (now.mode ≡ s.mode) × (now.faults ≡ s.faults) × IfSome now.told (λ left. left ≡ [])

left_from : (s mid now : SourceState) (end : Result (List ℕ) SourceRefusal) → mid.mode ≡ s.mode → mid.faults ≡ s.faults → Left mid now end → Left s now end
left_from s mid now (Ok bytes) m f (a, b) = (a ∙ m, b ∙ f)
left_from s mid now (Err (SourceSpent taken need)) m f h = h
left_from s mid now (Err (InError cause)) m f h = h
left_from s mid now (Err (SourceFault count)) m f (a, b, c) = (a ∙ m, b, subst (λ n. Rose n count) f c)
left_from s mid now (Err (HealthFailed index test)) m f (a, b) = (a, b ∙ f)
left_from s mid now (Err (WantOfEntropy missing)) m f (a, b, c) = (a ∙ m, b ∙ f, c)

none_left : (told : Option (List ℕ)) → IfSome told (λ left. AreNext left []) → IfSome (option_map (λ xs. drop (length {A = ℕ} []) xs) told) (λ left. left ≡ [])
none_left None h = tt
none_left (Some left) h = h.ended refl

module _ (row : SourceRow) (found : List ℕ → List ℕ → Option Alarm) where
  gathers_left : (lacks : ℕ) (s : SourceState) (has read : List ℕ) (acts : List SourceAct) (end : Result (List ℕ) SourceRefusal)
      → Gathers row found lacks s has read acts end → Left s (source_after_all row s acts) end
  gathers_left lacks s has read [] end (a, is) = subst (Left s s) (sym is) (refl, refl)
  gathers_left lacks s has read (Read asked None count ∷ acts) end (a, b, c, none, is) =
      subst (λ z. Left s (source_after_all row (source_after row s (Read asked None count)) z) end) (sym none)
      (subst (Left s (source_after row s (Read asked None count))) (sym is) (refl, refl, c.cause))
  gathers_left lacks s has read (Read asked (Some []) count ∷ acts) end (a, b, c, none, is) =
      subst (λ z. Left s (source_after_all row (source_after row s (Read asked (Some []) count)) z) end) (sym none)
      (subst (Left s (source_after row s (Read asked (Some []) count))) (sym is) (refl, c.cause, none_left s.told c.told))
  gathers_left lacks s has read (Read asked (Some (x ∷ xs)) count ∷ acts) end (a, b, c, g) =
      left_from s next (source_after_all row next acts) end refl c.cause
      (by (found read (x ∷ xs)) (λ h. gathers_left (lacks - length (x ∷ xs)) next (has ++ x ∷ xs) (read ++ x ∷ xs) acts end h) g) where
        next : SourceState
        next = source_after row s (Read asked (Some (x ∷ xs)) count)

        by : (o : Option Alarm)
            → (Gathers row found (lacks - length (x ∷ xs)) next (has ++ x ∷ xs) (read ++ x ∷ xs) acts end → Left next (source_after_all row next acts) end)
            → MatchOption o (Gathers row found (lacks - length (x ∷ xs)) next (has ++ x ∷ xs) (read ++ x ∷ xs) acts end)
            (λ f. (acts ≡ Alarmed (s.taken + f.at) f.test ∷ []) × (end ≡ Err (HealthFailed (s.taken + f.at) f.test)))
            → Left next (source_after_all row next acts) end
        by None ih h = ih h
        by (Some f) ih (last, is) =
            subst (λ z. Left next (source_after_all row next z) end) (sym last)
            (subst (Left next (source_after row next (Alarmed (s.taken + f.at) f.test))) (sym is) (refl, refl))
  gathers_left lacks s has read (Began ∷ acts) end g = absurd g
  gathers_left lacks s has read (Alarmed i t ∷ acts) end g = absurd g
  gathers_left lacks s has read (Started ∷ acts) end g = absurd g
  gathers_left lacks s has read (Block a b c ∷ acts) end g = absurd g

  pub draws_left : (n : ℕ) (s : SourceState) (read out : List ℕ) (acts : List SourceAct) (end : Result (List ℕ) SourceRefusal)
      → Draws row found n s read out acts end → Left s (source_after_all row s acts) end
  draws_left zero s read out acts end (none, is) =
      subst (λ z. Left s (source_after_all row s z) end) (sym none) (subst (Left s s) (sym is) (refl, refl))
  draws_left (suc n) s read out acts end (reads, rest, x, are, g, w) =
      subst (λ z. Left s (source_after_all row s z) end) (sym are)
      (by x (gathers_left (need_of_block row) s [] read reads x g) w (λ s read out acts d. draws_left n s read out acts end d)) where
        by : (x : Result (List ℕ) SourceRefusal) → Left s (source_after_all row s reads) x → MatchResult x
            (λ block. let bytes = conditioned row.cond block in
            let now = source_after_all row s reads in
            let made = Block s.taken now.taken bytes in
            (more : List SourceAct) × (rest ≡ made ∷ more)
            × Draws row found n (source_after row now made) (read ++ block) (out ++ bytes) more end)
            (λ why. (rest ≡ []) × (end ≡ Err why))
            → ((s : SourceState) (read out : List ℕ) (acts : List SourceAct) → Draws row found n s read out acts end → Left s (source_after_all row s acts) end)
            → Left s (source_after_all row s (reads ++ rest)) end
        by (Ok block) (m, f) (more, is, d) ih =
            let bytes = conditioned row.cond block in
            let now = source_after_all row s reads in
            let made = Block s.taken now.taken bytes in
            let next = source_after row now made in
            subst (λ z. Left s (source_after_all row s (reads ++ z)) end) (sym is)
            (subst (λ (z : SourceState). Left s z end) (sym (after_append row s reads (made ∷ more)))
            (left_from s next (source_after_all row next more) end m f (ih next (read ++ block) (out ++ bytes) more d)))
        by (Err why) h (none, is) ih =
            subst (λ z. Left s (source_after_all row s (reads ++ z)) end) (sym none)
            (subst (λ (z : SourceState). Left s z end) (sym (after_append row s reads []))
            (subst (Left s (source_after_all row s reads)) (sym is) h))

-- what a start leaves: fresh tests, and where it was passed a source that runs
abbrev pub StartLeft : SourceRow → SourceState → SourceState → Result (List ℕ) SourceRefusal → Type 0
StartLeft row s now (Ok bytes) = (now.mode ≡ modes.Running) × (now.faults ≡ s.faults)
StartLeft row s now (Err why) = Left (source_after row s Began) now (Err why)

pub start_left : (row : SourceRow) (s : SourceState) (acts : List SourceAct) (end : Result (List ℕ) SourceRefusal) → draws.Start row s acts end
    → StartLeft row s (source_after_all row s acts) end
start_left row s acts end (reads, rest, x, are, g, w) =
    subst (λ z. StartLeft row s (source_after_all row s z) end) (sym are)
    (by x (gathers_left row (alarm_in row.cutoffs) row.startup (source_after row s Began) [] [] reads x g) w) where
      by : (x : Result (List ℕ) SourceRefusal) → Left (source_after row s Began) (source_after_all row (source_after row s Began) reads) x
          → MatchResult x (λ _. (rest ≡ Started ∷ []) × (end ≡ Ok [])) (λ why. (rest ≡ []) × (end ≡ Err why))
          → StartLeft row s (source_after_all row s (Began ∷ (reads ++ rest))) end
      by (Ok block) (m, f) (last, is) =
          subst (λ z. StartLeft row s (source_after_all row (source_after row s Began) (reads ++ z)) end) (sym last)
          (subst (λ (z : SourceState). StartLeft row s z end) (sym (after_append row (source_after row s Began) reads (Started ∷ [])))
          (subst (StartLeft row s (source_after row (source_after_all row (source_after row s Began) reads) Started)) (sym is) (refl, f)))
      by (Err why) h (none, is) =
          subst (λ z. StartLeft row s (source_after_all row (source_after row s Began) (reads ++ z)) end) (sym none)
          (subst (λ (z : SourceState). StartLeft row s z end) (sym (after_append row (source_after row s Began) reads []))
          (subst (StartLeft row s (source_after_all row (source_after row s Began) reads)) (sym is) h))
