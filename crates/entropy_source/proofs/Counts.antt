-- The state after acts in a row, counted on the acts.
use Rattle.std.proofs.Common.{◌≡◌, ◌+◌, ℕ, List, [], ◌∷◌, ◌++◌, Bool, true, false, length, drop, refl, sym, ap, ◌∙◌, subst, arith, length-append}
use Rattle.std.specs.Prelude.{Option, Some, None}
use Rattle.std.specs.Option.{option_map}
use Rattle.std.proofs.lemmas.List.{drop-drop}
use Rattle.health_tests.specs.declared.numbers.Tail.{Tail}
use Rattle.health_tests.specs.Numbers.{tail_of, tail_after}
use Rattle.health_tests.proofs.Counting.{tail_begins, tail_grows}
use Rattle.entropy_source.specs.declared.answers.SourceRow.{SourceRow}
use Rattle.entropy_source.specs.Source.{SourceAct, Began, Read, Alarmed, Started, Block, SourceState, given, source_after, source_after_all, opened_source}
use Rattle.entropy_source.specs.Counted.{samples_of, blocks_of, alarms_of, mode_after, tested_after, alarmed_after, faults_after}

module _ (row : SourceRow) where
  pub taken_of : (s : SourceState) (acts : List SourceAct) → (source_after_all row s acts).taken ≡ s.taken + length (samples_of acts)
  taken_of s [] = omega arith
  taken_of s (Began ∷ acts) = taken_of (source_after row s Began) acts
  taken_of s (Read asked got count ∷ acts) = omega (arith, taken_of (source_after row s (Read asked got count)) acts, length-append (given got) (samples_of acts))
  taken_of s (Alarmed index test ∷ acts) = taken_of (source_after row s (Alarmed index test)) acts
  taken_of s (Started ∷ acts) = taken_of (source_after row s Started) acts
  taken_of s (Block from to bytes ∷ acts) = taken_of (source_after row s (Block from to bytes)) acts

  pub blocks_in : (s : SourceState) (acts : List SourceAct) → (source_after_all row s acts).blocks ≡ s.blocks + blocks_of acts
  blocks_in s [] = omega arith
  blocks_in s (Began ∷ acts) = blocks_in (source_after row s Began) acts
  blocks_in s (Read asked got count ∷ acts) = blocks_in (source_after row s (Read asked got count)) acts
  blocks_in s (Alarmed index test ∷ acts) = blocks_in (source_after row s (Alarmed index test)) acts
  blocks_in s (Started ∷ acts) = blocks_in (source_after row s Started) acts
  blocks_in s (Block from to bytes ∷ acts) = omega (arith, blocks_in (source_after row s (Block from to bytes)) acts)

  pub alarms_in : (s : SourceState) (acts : List SourceAct) → (source_after_all row s acts).alarms ≡ s.alarms + alarms_of acts
  alarms_in s [] = omega arith
  alarms_in s (Began ∷ acts) = alarms_in (source_after row s Began) acts
  alarms_in s (Read asked got count ∷ acts) = alarms_in (source_after row s (Read asked got count)) acts
  alarms_in s (Alarmed index test ∷ acts) = omega (arith, alarms_in (source_after row s (Alarmed index test)) acts)
  alarms_in s (Started ∷ acts) = alarms_in (source_after row s Started) acts
  alarms_in s (Block from to bytes ∷ acts) = alarms_in (source_after row s (Block from to bytes)) acts

  dropped : (n m : ℕ) (o : Option (List ℕ)) → option_map (λ xs. drop m xs) (option_map (λ xs. drop n xs) o) ≡ option_map (λ xs. drop (n + m) xs) o
  dropped n m None = refl
  dropped n m (Some xs) = ap Some (drop-drop m n xs)

  none_dropped : (o : Option (List ℕ)) → o ≡ option_map (λ xs. drop 0 xs) o
  none_dropped None = refl
  none_dropped (Some xs) = refl

  pub told_in : (s : SourceState) (acts : List SourceAct) → (source_after_all row s acts).told ≡ option_map (λ xs. drop (length (samples_of acts)) xs) s.told
  told_in s [] = none_dropped s.told
  told_in s (Began ∷ acts) = told_in (source_after row s Began) acts
  told_in s (Read asked got count ∷ acts) =
      told_in (source_after row s (Read asked got count)) acts
      ∙ (dropped (length (given got)) (length (samples_of acts)) s.told ∙ ap (λ n. option_map (λ xs. drop n xs) s.told) (sym (length-append (given got) (samples_of acts))))
  told_in s (Alarmed index test ∷ acts) = told_in (source_after row s (Alarmed index test)) acts
  told_in s (Started ∷ acts) = told_in (source_after row s Started) acts
  told_in s (Block from to bytes ∷ acts) = told_in (source_after row s (Block from to bytes)) acts

  pub mode_in : (s : SourceState) (acts : List SourceAct) → (source_after_all row s acts).mode ≡ mode_after s.mode acts
  mode_in s [] = refl
  mode_in s (Began ∷ acts) = mode_in (source_after row s Began) acts
  mode_in s (Read asked got count ∷ acts) = mode_in (source_after row s (Read asked got count)) acts
  mode_in s (Alarmed index test ∷ acts) = mode_in (source_after row s (Alarmed index test)) acts
  mode_in s (Started ∷ acts) = mode_in (source_after row s Started) acts
  mode_in s (Block from to bytes ∷ acts) = mode_in (source_after row s (Block from to bytes)) acts

  pub faults_in : (s : SourceState) (acts : List SourceAct) → (source_after_all row s acts).faults ≡ faults_after s.faults acts
  faults_in s [] = refl
  faults_in s (Began ∷ acts) = faults_in (source_after row s Began) acts
  faults_in s (Read asked got count ∷ acts) = faults_in (source_after row s (Read asked got count)) acts
  faults_in s (Alarmed index test ∷ acts) = faults_in (source_after row s (Alarmed index test)) acts
  faults_in s (Started ∷ acts) = faults_in (source_after row s Started) acts
  faults_in s (Block from to bytes ∷ acts) = faults_in (source_after row s (Block from to bytes)) acts

  -- what the tests keep, where they have not alarmed
  abbrev Keeps : Bool → List ℕ → Option Tail → Type 0
  Keeps true x tail = tail ≡ None
  Keeps false x tail = tail ≡ Some (tail_of row.cutoffs.window x)

  read_keeps : (b : Bool) (x got : List ℕ) (tail : Option Tail) → Keeps b x tail
      → Keeps b (x ++ got) (option_map (λ t. tail_after row.cutoffs.window t got) tail)
  read_keeps true x got tail k = ap (option_map (λ t. tail_after row.cutoffs.window t got)) k
  read_keeps false x got tail k = ap (option_map (λ t. tail_after row.cutoffs.window t got)) k ∙ ap Some (tail_grows row.cutoffs.window x got)

  pub tail_in : (b : Bool) (x : List ℕ) (s : SourceState) (acts : List SourceAct) → Keeps b x s.tail
      → Keeps (alarmed_after b acts) (tested_after x acts) (source_after_all row s acts).tail
  tail_in b x s [] k = k
  tail_in b x s (Began ∷ acts) k = tail_in false [] (source_after row s Began) acts (ap Some (sym (tail_begins row.cutoffs.window)))
  tail_in b x s (Read asked got count ∷ acts) k = tail_in b (x ++ given got) (source_after row s (Read asked got count)) acts (read_keeps b x (given got) s.tail k)
  tail_in b x s (Alarmed index test ∷ acts) k = tail_in true x (source_after row s (Alarmed index test)) acts refl
  tail_in b x s (Started ∷ acts) k = tail_in b x (source_after row s Started) acts k
  tail_in b x s (Block from to bytes ∷ acts) k = tail_in b x (source_after row s (Block from to bytes)) acts k

  pub tail_quiet : (told : Option (List ℕ)) (faults : ℕ) (acts : List SourceAct) → alarmed_after false acts ≡ false
      → (source_after_all row (opened_source told faults) acts).tail ≡ Some (tail_of row.cutoffs.window (tested_after [] acts))
  tail_quiet told faults acts none =
      subst (λ b. Keeps b (tested_after [] acts) (source_after_all row (opened_source told faults) acts).tail) none
      (tail_in false [] (opened_source told faults) acts (ap Some (sym (tail_begins row.cutoffs.window))))

  pub tail_alarmed : (told : Option (List ℕ)) (faults : ℕ) (acts : List SourceAct) → alarmed_after false acts ≡ true
      → (source_after_all row (opened_source told faults) acts).tail ≡ None
  tail_alarmed told faults acts some =
      subst (λ b. Keeps b (tested_after [] acts) (source_after_all row (opened_source told faults) acts).tail) some
      (tail_in false [] (opened_source told faults) acts (ap Some (sym (tail_begins row.cutoffs.window))))
