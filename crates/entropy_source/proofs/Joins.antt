-- Two draws one after another are one draw.
use Rattle.std.proofs.Common.{◌≡◌, ◌+◌, ◌-◌, ℕ, zero, suc, List, [], ◌∷◌, ◌++◌, length, refl, sym, ap, ◌∙◌, subst, append_assoc, append-nil, zero-add, suc-add}
use Rattle.std.specs.Prelude.{Option, Some, None, Result, Ok, Err, MatchOption, MatchResult}
use Rattle.std.specs.Option.{option_map}
use Rattle.std.proofs.Math.Path.{fun_ext}
use Rattle.health_tests.specs.declared.windows.Alarm.{Alarm}
use Rattle.health_tests.specs.declared.numbers.Tail.{Tail}
use Rattle.health_tests.specs.Numbers.{tail_after, alarm_from}
use Rattle.conditioner.specs.Conditioned.{conditioned}
use Rattle.entropy_source.specs.declared.answers.SourceRow.{SourceRow}
use Rattle.entropy_source.specs.declared.answers.SourceRefusal.{SourceRefusal}
use Rattle.entropy_source.specs.declared.answers.SourceRefusal.TheVariants.{HealthFailed}
use Rattle.entropy_source.specs.Source.{SourceAct, Began, Read, Alarmed, Started, Block, SourceState, given, source_after, source_after_all, need_of_block}
use Rattle.entropy_source.specs.Draws.{Gathers, Draws, found_in}
use Rattle.entropy_source.specs.Counted.{samples_of, behind}
use Rattle.entropy_source.proofs.Joining.{after_append, tail_append}

module _ (row : SourceRow) (found : List ℕ → List ℕ → Option Alarm) (pre : List ℕ) where
  -- what tells alarms behind samples read before
  abbrev pub later : List ℕ → List ℕ → Option Alarm
  later read got = found (pre ++ read) got

  gathers_later : (lacks : ℕ) (s : SourceState) (has read : List ℕ) (acts : List SourceAct) (end : Result (List ℕ) SourceRefusal)
      → Gathers row later lacks s has read acts end → Gathers row found lacks s has (pre ++ read) acts end
  gathers_later lacks s has read [] end g = g
  gathers_later lacks s has read (Read asked None count ∷ acts) end g = g
  gathers_later lacks s has read (Read asked (Some []) count ∷ acts) end g = g
  gathers_later lacks s has read (Read asked (Some (x ∷ xs)) count ∷ acts) end (a, b, c, g) = (
    a,
    b,
    c,
    by (found (pre ++ read) (x ∷ xs))
        (λ h. subst (λ z. Gathers row found (lacks - length (x ∷ xs)) next (has ++ x ∷ xs) z acts end) (sym (append_assoc pre read (x ∷ xs)))
        (gathers_later (lacks - length (x ∷ xs)) next (has ++ x ∷ xs) (read ++ x ∷ xs) acts end h)) g,
  ) where
    next : SourceState
    next = source_after row s (Read asked (Some (x ∷ xs)) count)

    by : (o : Option Alarm)
        → (Gathers row later (lacks - length (x ∷ xs)) next (has ++ x ∷ xs) (read ++ x ∷ xs) acts end
        → Gathers row found (lacks - length (x ∷ xs)) next (has ++ x ∷ xs) ((pre ++ read) ++ x ∷ xs) acts end)
        → MatchOption o (Gathers row later (lacks - length (x ∷ xs)) next (has ++ x ∷ xs) (read ++ x ∷ xs) acts end)
        (λ f. (acts ≡ Alarmed (s.taken + f.at) f.test ∷ []) × (end ≡ Err (HealthFailed (s.taken + f.at) f.test)))
        → MatchOption o (Gathers row found (lacks - length (x ∷ xs)) next (has ++ x ∷ xs) ((pre ++ read) ++ x ∷ xs) acts end)
        (λ f. (acts ≡ Alarmed (s.taken + f.at) f.test ∷ []) × (end ≡ Err (HealthFailed (s.taken + f.at) f.test)))
    by None ih h = ih h
    by (Some f) ih h = h
  gathers_later lacks s has read (Began ∷ acts) end g = absurd g
  gathers_later lacks s has read (Alarmed i t ∷ acts) end g = absurd g
  gathers_later lacks s has read (Started ∷ acts) end g = absurd g
  gathers_later lacks s has read (Block a b c ∷ acts) end g = absurd g

  -- a draw behind samples and bytes that came before
  pub draws_later : (n : ℕ) (s : SourceState) (front read out : List ℕ) (acts : List SourceAct) (end : Result (List ℕ) SourceRefusal)
      → Draws row later n s read out acts end → Draws row found n s (pre ++ read) (front ++ out) acts (behind front end)
  draws_later zero s front read out acts end (none, is) = (none, ap (behind front) is)
  draws_later (suc n) s front read out acts end (reads, rest, x, are, g, more) =
      (reads, rest, x, are, gathers_later (need_of_block row) s [] read reads x g, by x more (λ s read out acts d. draws_later n s front read out acts end d)) where
        by : (x : Result (List ℕ) SourceRefusal) → MatchResult x
            (λ block. let bytes = conditioned row.cond block in
            let now = source_after_all row s reads in
            let made = Block s.taken now.taken bytes in
            (more : List SourceAct) × (rest ≡ made ∷ more)
            × Draws row later n (source_after row now made) (read ++ block) (out ++ bytes) more end)
            (λ why. (rest ≡ []) × (end ≡ Err why))
            → ((s : SourceState) (read out : List ℕ) (acts : List SourceAct) → Draws row later n s read out acts end → Draws row found n s (pre ++ read) (front ++ out) acts (behind front end))
            → MatchResult x
            (λ block. let bytes = conditioned row.cond block in
            let now = source_after_all row s reads in
            let made = Block s.taken now.taken bytes in
            (more : List SourceAct) × (rest ≡ made ∷ more)
            × Draws row found n (source_after row now made) ((pre ++ read) ++ block) ((front ++ out) ++ bytes) more (behind front end))
            (λ why. (rest ≡ []) × (behind front end ≡ Err why))
        by (Ok block) (more, is, d) ih =
            let bytes = conditioned row.cond block in
            let now = source_after_all row s reads in (
              more,
              is,
              subst (λ z. Draws row found n (source_after row now (Block s.taken now.taken bytes)) z ((front ++ out) ++ bytes) more (behind front end)) (sym (append_assoc pre read block))
                  (subst (λ z. Draws row found n (source_after row now (Block s.taken now.taken bytes)) (pre ++ (read ++ block)) z more (behind front end)) (sym (append_assoc front out bytes))
                  (ih (source_after row now (Block s.taken now.taken bytes)) (read ++ block) (out ++ bytes) more d)),
            )
        by (Err why) (none, is) ih = (none, ap (behind front) is)

-- a block's samples are those that were read for it
pub gathered : (row : SourceRow) (found : List ℕ → List ℕ → Option Alarm) (lacks : ℕ) (s : SourceState) (has read : List ℕ) (acts : List SourceAct) (block : List ℕ)
    → Gathers row found lacks s has read acts (Ok block) → block ≡ has ++ samples_of acts
gathered row found lacks s has read [] block (a, b) = let e : block ≡ has = cc in e ∙ sym (append-nil has)
gathered row found lacks s has read (Read asked None count ∷ acts) block (a, b, c, d, e) = cc
gathered row found lacks s has read (Read asked (Some []) count ∷ acts) block (a, b, c, d, e) = cc
gathered row found lacks s has read (Read asked (Some (x ∷ xs)) count ∷ acts) block (a, b, c, g) =
    by (found read (x ∷ xs)) (λ h. gathered row found (lacks - length (x ∷ xs)) next (has ++ x ∷ xs) (read ++ x ∷ xs) acts block h ∙ append_assoc has (x ∷ xs) (samples_of acts)) g where
      next : SourceState
      next = source_after row s (Read asked (Some (x ∷ xs)) count)

      by : (o : Option Alarm)
          → (Gathers row found (lacks - length (x ∷ xs)) next (has ++ x ∷ xs) (read ++ x ∷ xs) acts (Ok block) → block ≡ has ++ (x ∷ xs ++ samples_of acts))
          → MatchOption o (Gathers row found (lacks - length (x ∷ xs)) next (has ++ x ∷ xs) (read ++ x ∷ xs) acts (Ok block))
          (λ f. (acts ≡ Alarmed (s.taken + f.at) f.test ∷ []) × (◌≡◌ {A = Result (List ℕ) SourceRefusal} (Ok block) (Err (HealthFailed (s.taken + f.at) f.test))))
          → block ≡ has ++ (x ∷ xs ++ samples_of acts)
      by None ih h = ih h
      by (Some f) ih (d, e) = cc
gathered row found lacks s has read (Began ∷ acts) block g = absurd g
gathered row found lacks s has read (Alarmed i t ∷ acts) block g = absurd g
gathered row found lacks s has read (Started ∷ acts) block g = absurd g
gathered row found lacks s has read (Block a b c ∷ acts) block g = absurd g

pub samples_append : (xs ys : List SourceAct) → samples_of (xs ++ ys) ≡ samples_of xs ++ samples_of ys
samples_append [] ys = refl
samples_append (Began ∷ xs) ys = samples_append xs ys
samples_append (Read asked got count ∷ xs) ys = ap (λ z. given got ++ z) (samples_append xs ys) ∙ sym (append_assoc (given got) (samples_of xs) (samples_of ys))
samples_append (Alarmed i t ∷ xs) ys = samples_append xs ys
samples_append (Started ∷ xs) ys = samples_append xs ys
samples_append (Block a b c ∷ xs) ys = samples_append xs ys

-- a draw that was answered, and then another from where it left off
pub draws_join : (row : SourceRow) (found : List ℕ → List ℕ → Option Alarm) (n m : ℕ) (s : SourceState) (read out : List ℕ) (acts : List SourceAct) (mid : List ℕ)
    (more : List SourceAct) (end : Result (List ℕ) SourceRefusal)
    → Draws row found n s read out acts (Ok mid)
    → Draws row found m (source_after_all row s acts) (read ++ samples_of acts) mid more end
    → Draws row found (n + m) s read out (acts ++ more) end
draws_join row found zero m s read out acts mid more end (none, is) d =
    let same : mid ≡ out = cc in
    subst (λ k. Draws row found k s read out (acts ++ more) end) (sym (zero-add m))
    (subst (λ z. Draws row found m (source_after_all row s z) (read ++ samples_of z) mid more end → Draws row found m s read out (z ++ more) end) (sym none)
    (λ d. subst (λ z. Draws row found m s z out more end) (append-nil read) (subst (λ z. Draws row found m s (read ++ []) z more end) same d)) d)
draws_join row found (suc n) m s read out acts mid more end (reads, rest, x, are, g, w) d =
    subst (λ k. Draws row found k s read out (acts ++ more) end) (sym (suc-add n m))
    (by x g w (λ s read out acts first second. draws_join row found n m s read out acts mid more end first second)) where
      now : SourceState
      now = source_after_all row s reads

      by : (x : Result (List ℕ) SourceRefusal) → Gathers row found (need_of_block row) s [] read reads x → MatchResult x
          (λ block. let bytes = conditioned row.cond block in
          let now = source_after_all row s reads in
          let made = Block s.taken now.taken bytes in
          (more : List SourceAct) × (rest ≡ made ∷ more)
          × Draws row found n (source_after row now made) (read ++ block) (out ++ bytes) more (Ok mid))
          (λ why. (rest ≡ []) × (◌≡◌ {A = Result (List ℕ) SourceRefusal} (Ok mid) (Err why)))
          → ((s : SourceState) (read out : List ℕ) (acts : List SourceAct) → Draws row found n s read out acts (Ok mid)
          → Draws row found m (source_after_all row s acts) (read ++ samples_of acts) mid more end → Draws row found (n + m) s read out (acts ++ more) end)
          → Draws row found (suc (n + m)) s read out (acts ++ more) end
      by (Err why) g (none, is) ih = cc
      by (Ok block) g (tail, is, first) ih =
          let bytes = conditioned row.cond block in
          let made = Block s.taken now.taken bytes in
          let next = source_after row now made in
          let whole : acts ≡ reads ++ made ∷ tail = subst (λ z. acts ≡ reads ++ z) is are in
          let full : block ≡ samples_of reads = gathered row found (need_of_block row) s [] read reads block g in
          let state : source_after_all row s acts ≡ source_after_all row next tail = ap (source_after_all row s) whole ∙ after_append row s reads (made ∷ tail) in
          let had : read ++ samples_of acts ≡ (read ++ block) ++ samples_of tail =
          ap (λ z. read ++ samples_of z) whole ∙ (ap (λ z. read ++ z) (samples_append reads (made ∷ tail))
          ∙ (sym (append_assoc read (samples_of reads) (samples_of tail)) ∙ ap (λ z. (read ++ z) ++ samples_of tail) (sym full))) in
          let second = subst (λ (z : SourceState). Draws row found m z ((read ++ block) ++ samples_of tail) mid more end) state
          (subst (λ z. Draws row found m (source_after_all row s acts) z mid more end) had d) in
          let join : acts ++ more ≡ reads ++ (made ∷ (tail ++ more)) = ap (λ z. z ++ more) whole ∙ append_assoc reads (made ∷ tail) more in
          (reads, made ∷ (tail ++ more), Ok block, join, g, (tail ++ more, refl, ih next (read ++ block) (out ++ bytes) tail first second))

-- what the tests keep after samples that were gathered
gathers_keep : (row : SourceRow) (found : List ℕ → List ℕ → Option Alarm) (lacks : ℕ) (s : SourceState) (has read : List ℕ) (acts : List SourceAct) (block : List ℕ)
    → Gathers row found lacks s has read acts (Ok block) → (t : Tail) → s.tail ≡ Some t
    → (source_after_all row s acts).tail ≡ Some (tail_after row.cutoffs.window t (samples_of acts))
gathers_keep row found lacks s has read [] block (a, b) t tl = tl
gathers_keep row found lacks s has read (Read asked None count ∷ acts) block (a, b, c, d, e) t tl = cc
gathers_keep row found lacks s has read (Read asked (Some []) count ∷ acts) block (a, b, c, d, e) t tl = cc
gathers_keep row found lacks s has read (Read asked (Some (x ∷ xs)) count ∷ acts) block (a, b, c, g) t tl =
    by (found read (x ∷ xs)) (λ h. gathers_keep row found (lacks - length (x ∷ xs)) (source_after row s (Read asked (Some (x ∷ xs)) count)) (has ++ x ∷ xs) (read ++ x ∷ xs) acts block h
    (tail_after row.cutoffs.window t (x ∷ xs)) (ap (option_map (λ z. tail_after row.cutoffs.window z (x ∷ xs))) tl)
    ∙ ap Some (tail_append row.cutoffs.window t (x ∷ xs) (samples_of acts))) g where
      by : (o : Option Alarm)
          → (Gathers row found (lacks - length (x ∷ xs)) (source_after row s (Read asked (Some (x ∷ xs)) count)) (has ++ x ∷ xs) (read ++ x ∷ xs) acts (Ok block)
          → (source_after_all row (source_after row s (Read asked (Some (x ∷ xs)) count)) acts).tail ≡ Some (tail_after row.cutoffs.window t (x ∷ xs ++ samples_of acts)))
          → MatchOption o (Gathers row found (lacks - length (x ∷ xs)) (source_after row s (Read asked (Some (x ∷ xs)) count)) (has ++ x ∷ xs) (read ++ x ∷ xs) acts (Ok block))
          (λ f. (acts ≡ Alarmed (s.taken + f.at) f.test ∷ []) × (◌≡◌ {A = Result (List ℕ) SourceRefusal} (Ok block) (Err (HealthFailed (s.taken + f.at) f.test))))
          → (source_after_all row (source_after row s (Read asked (Some (x ∷ xs)) count)) acts).tail ≡ Some (tail_after row.cutoffs.window t (x ∷ xs ++ samples_of acts))
      by None ih h = ih h
      by (Some f) ih (d, e) = cc
gathers_keep row found lacks s has read (Began ∷ acts) block g t tl = absurd g
gathers_keep row found lacks s has read (Alarmed i u ∷ acts) block g t tl = absurd g
gathers_keep row found lacks s has read (Started ∷ acts) block g t tl = absurd g
gathers_keep row found lacks s has read (Block a b c ∷ acts) block g t tl = absurd g

-- what the tests keep after a draw that was answered
pub draws_keep : (row : SourceRow) (found : List ℕ → List ℕ → Option Alarm) (n : ℕ) (s : SourceState) (read out : List ℕ) (acts : List SourceAct) (mid : List ℕ)
    → Draws row found n s read out acts (Ok mid) → (t : Tail) → s.tail ≡ Some t
    → (source_after_all row s acts).tail ≡ Some (tail_after row.cutoffs.window t (samples_of acts))
draws_keep row found zero s read out acts mid (none, is) t tl =
    subst (λ z. (source_after_all row s z).tail ≡ Some (tail_after row.cutoffs.window t (samples_of z))) (sym none) tl
draws_keep row found (suc n) s read out acts mid (reads, rest, x, are, g, w) t tl =
    subst (λ z. (source_after_all row s z).tail ≡ Some (tail_after row.cutoffs.window t (samples_of z))) (sym are)
    (by x g w (λ s read out acts d t tl. draws_keep row found n s read out acts mid d t tl)) where
      by : (x : Result (List ℕ) SourceRefusal) → Gathers row found (need_of_block row) s [] read reads x → MatchResult x
          (λ block. let bytes = conditioned row.cond block in
          let now = source_after_all row s reads in
          let made = Block s.taken now.taken bytes in
          (more : List SourceAct) × (rest ≡ made ∷ more)
          × Draws row found n (source_after row now made) (read ++ block) (out ++ bytes) more (Ok mid))
          (λ why. (rest ≡ []) × (◌≡◌ {A = Result (List ℕ) SourceRefusal} (Ok mid) (Err why)))
          → ((s : SourceState) (read out : List ℕ) (acts : List SourceAct) → Draws row found n s read out acts (Ok mid) → (t : Tail) → s.tail ≡ Some t
          → (source_after_all row s acts).tail ≡ Some (tail_after row.cutoffs.window t (samples_of acts)))
          → (source_after_all row s (reads ++ rest)).tail ≡ Some (tail_after row.cutoffs.window t (samples_of (reads ++ rest)))
      by (Err why) g (none, is) ih = cc
      by (Ok block) g (more, is, d) ih =
          let bytes = conditioned row.cond block in
          let now = source_after_all row s reads in
          let made = Block s.taken now.taken bytes in
          let first = gathers_keep row found (need_of_block row) s [] read reads block g t tl in
          let second = ih (source_after row now made) (read ++ block) (out ++ bytes) more d (tail_after row.cutoffs.window t (samples_of reads)) first in
          subst (λ z. (source_after_all row s (reads ++ z)).tail ≡ Some (tail_after row.cutoffs.window t (samples_of (reads ++ z)))) (sym is)
          (ap (λ (z : SourceState). z.tail) (after_append row s reads (Block s.taken (source_after_all row s reads).taken (conditioned row.cond block) ∷ more))
          ∙ (second
          ∙ ap Some (tail_append row.cutoffs.window t (samples_of reads) (samples_of more)
          ∙ ap (tail_after row.cutoffs.window t) (sym (samples_append reads (Block s.taken (source_after_all row s reads).taken (conditioned row.cond block) ∷ more))))))

-- A draw that was answered, and another from the state after it: together they are one draw, whose bytes are those of both.
-- Each tells alarms by what the tests keep at its own beginning.
pub draws_on : (row : SourceRow) (t : Tail) (n m : ℕ) (s : SourceState) (acts : List SourceAct) (mid : List ℕ) (more : List SourceAct) (end : Result (List ℕ) SourceRefusal)
    → s.tail ≡ Some t
    → Draws row (found_in row.cutoffs (Some t)) n s [] [] acts (Ok mid)
    → Draws row (found_in row.cutoffs (source_after_all row s acts).tail) m (source_after_all row s acts) [] [] more end
    → Draws row (found_in row.cutoffs (Some t)) (n + m) s [] [] (acts ++ more) (behind mid end)
draws_on row t n m s acts mid more end tl first second =
    draws_join row (found_in row.cutoffs (Some t)) n m s [] [] acts mid more (behind mid end) first
    (subst (λ z. Draws row (found_in row.cutoffs (Some t)) m (source_after_all row s acts) z mid more (behind mid end)) (append-nil (samples_of acts))
    (subst (λ z. Draws row (found_in row.cutoffs (Some t)) m (source_after_all row s acts) (samples_of acts ++ []) z more (behind mid end)) (append-nil mid)
    (draws_later row (found_in row.cutoffs (Some t)) (samples_of acts) m (source_after_all row s acts) mid [] [] more end
    (subst (λ f. Draws row f m (source_after_all row s acts) [] [] more end) same second)))) where
      same : found_in row.cutoffs (source_after_all row s acts).tail ≡ (λ read got. found_in row.cutoffs (Some t) (samples_of acts ++ read) got)
      same = ap (found_in row.cutoffs) (draws_keep row (found_in row.cutoffs (Some t)) n s [] [] acts mid first t tl)
          ∙ fun_ext (λ read. fun_ext (λ got. ap (λ z. alarm_from row.cutoffs z got) (tail_append row.cutoffs.window t (samples_of acts) read)))
