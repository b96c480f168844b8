-- A draw that was answered, counted: so many blocks, and the samples of each.
use Rattle.std.proofs.Common.{◌≡◌, ◌∙◌, ◌++◌, ◌∷◌, ◌+◌, ◌-◌, ◌*◌, ◌≤◌, ℕ, List, [], zero, suc, length, refl, sym, ap, subst, arith, suc-mul}
use Rattle.std.specs.Prelude.{Option, Some, None, Result, Ok, Err, MatchOption, MatchResult}
use Rattle.health_tests.specs.declared.windows.Alarm.{Alarm}
use Rattle.conditioner.specs.Conditioned.{conditioned}
use Rattle.entropy_source.specs.Draws.{Draws, Gathers}
use Rattle.entropy_source.specs.Source.{Alarmed, Began, Block, Read, SourceAct, SourceState, Started, need_of_block, source_after, source_after_all}
use Rattle.entropy_source.specs.declared.answers.SourceRefusal.{SourceRefusal}
use Rattle.entropy_source.specs.declared.answers.SourceRefusal.TheVariants.{HealthFailed}
use Rattle.entropy_source.specs.declared.answers.SourceRow.{SourceRow}

-- so many blocks and samples more
pub record IsCounted (blocks taken : ℕ) (x y : SourceState) : Type 0 where
  pub blocks_are : y.blocks ≡ x.blocks + blocks
  pub taken_are : y.taken ≡ x.taken + taken

pub after_append : (row : SourceRow) (s : SourceState) (xs ys : List SourceAct) → source_after_all row s (xs ++ ys) ≡ source_after_all row (source_after_all row s xs) ys
after_append row s [] ys = refl
after_append row s (x ∷ xs) ys = after_append row (source_after row s x) xs ys

module _ (row : SourceRow) (found : List ℕ → List ℕ → Option Alarm) where
  -- the reads for a block take exactly what it lacks
  pub gathers_count : (lacks : ℕ) (s : SourceState) (has read : List ℕ) (acts : List SourceAct) (block : List ℕ) → Gathers row found lacks s has read acts (Ok block)
      → IsCounted 0 lacks s (source_after_all row s acts)
  gathers_count lacks s has read [] block (a, b) = record { blocks_are = omega arith; taken_are = omega (arith, a) }
  gathers_count lacks s has read (Read asked None count ∷ acts) block (a, b, c, d, e) = cc
  gathers_count lacks s has read (Read asked (Some []) count ∷ acts) block (a, b, c, d, e) = cc
  gathers_count lacks s has read (Read asked (Some (x ∷ xs)) count ∷ acts) block (a, b, c, g) =
      by (found read (x ∷ xs)) (λ h. gathers_count (lacks - length (x ∷ xs)) next (has ++ x ∷ xs) (read ++ x ∷ xs) acts block h) g where
        next : SourceState
        next = source_after row s (Read asked (Some (x ∷ xs)) count)

        few : length (x ∷ xs) ≤ lacks
        few = let f = c.few in omega (arith, f, b)

        by : (o : Option Alarm)
            → (Gathers row found (lacks - length (x ∷ xs)) next (has ++ x ∷ xs) (read ++ x ∷ xs) acts (Ok block) → IsCounted 0 (lacks - length (x ∷ xs)) next (source_after_all row next acts))
            → MatchOption o (Gathers row found (lacks - length (x ∷ xs)) next (has ++ x ∷ xs) (read ++ x ∷ xs) acts (Ok block))
            (λ f. (acts ≡ Alarmed (s.taken + f.at) f.test ∷ []) × (◌≡◌ {A = Result (List ℕ) SourceRefusal} (Ok block) (Err (HealthFailed (s.taken + f.at) f.test))))
            → IsCounted 0 lacks s (source_after_all row next acts)
        by None ih h = let r = ih h in let t = r.taken_are in record { blocks_are = r.blocks_are; taken_are = omega (arith, t, few) }
        by (Some f) ih (d, e) = cc
  gathers_count lacks s has read (Began ∷ acts) block g = absurd g
  gathers_count lacks s has read (Alarmed i t ∷ acts) block g = absurd g
  gathers_count lacks s has read (Started ∷ acts) block g = absurd g
  gathers_count lacks s has read (Block a b c ∷ acts) block g = absurd g

  pub draws_count : (n : ℕ) (s : SourceState) (read out : List ℕ) (acts : List SourceAct) (all : List ℕ) → Draws row found n s read out acts (Ok all)
      → IsCounted n (n * need_of_block row) s (source_after_all row s acts)
  draws_count zero s read out acts all (none, is) =
      subst (λ z. IsCounted 0 (0 * need_of_block row) s (source_after_all row s z)) (sym none)
      (record { blocks_are = omega arith; taken_are = (let e : 0 * need_of_block row ≡ 0 = omega arith in omega (arith, e)) })
  draws_count (suc n) s read out acts all (reads, rest, end, are, g, w) =
      subst (λ z. IsCounted (suc n) (suc n * need_of_block row) s (source_after_all row s z)) (sym are)
      (by end g w (λ now block bytes more d. draws_count n now (read ++ block) (out ++ bytes) more all d)) where
        by : (end : Result (List ℕ) SourceRefusal) → Gathers row found (need_of_block row) s [] read reads end
            → MatchResult end
            (λ block. let bytes = conditioned row.cond block in
            let now = source_after_all row s reads in
            let made = Block s.taken now.taken bytes in
            (more : List SourceAct) × (rest ≡ made ∷ more) × Draws row found n (source_after row now made) (read ++ block) (out ++ bytes) more (Ok all))
            (λ why. (rest ≡ []) × (◌≡◌ {A = Result (List ℕ) SourceRefusal} (Ok all) (Err why)))
            → ((now : SourceState) (block bytes : List ℕ) (more : List SourceAct) → Draws row found n now (read ++ block) (out ++ bytes) more (Ok all)
            → IsCounted n (n * need_of_block row) now (source_after_all row now more))
            → IsCounted (suc n) (suc n * need_of_block row) s (source_after_all row s (reads ++ rest))
        by (Ok block) g (more, rest_is, d) ih =
            let bytes = conditioned row.cond block in
            let now = source_after_all row s reads in
            let made = Block s.taken now.taken bytes in
            let one = gathers_count (need_of_block row) s [] read reads block g in
            let tail = ih (source_after row now made) block bytes more d in
            let whole : source_after_all row s (reads ++ rest) ≡ source_after_all row (source_after row now made) more =
            ap (λ z. source_after_all row s (reads ++ z)) rest_is ∙ after_append row s reads (made ∷ more) in
            let a = one.blocks_are in let b = one.taken_are in let c = tail.blocks_are in let e = tail.taken_are in
            let m : suc n * need_of_block row ≡ n * need_of_block row + need_of_block row = suc-mul n (need_of_block row) in
            subst (λ z. IsCounted (suc n) (suc n * need_of_block row) s z) (sym whole)
            (record { blocks_are = omega (arith, a, c); taken_are = omega (arith, b, e, m) })
        by (Err why) g (none, is) ih = cc
