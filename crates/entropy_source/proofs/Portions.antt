-- How many bytes a draw gives, and what each want gets of them where draws follow one another.
use Rattle.std.proofs.Common.{◌≡◌, ◌≤◌, ◌<◌, ◌+◌, ◌*◌, ℕ, zero, suc, List, [], ◌∷◌, ◌++◌, length, take, drop, map, sym, ap, ◌∙◌, subst, arith, length-append, suc-mul, zero-mul}
use Rattle.std.specs.Prelude.{Option, Some, Result, Ok, Err, MatchResult, sum}
use Rattle.std.proofs.Math.Nat.{add-mul}
use Rattle.std.proofs.lemmas.List.{take-append-le, drop-append-le, length-drop, nil_from_length}
use Rattle.std.proofs.lemmas.List.Sums.{sum-map, sum_by-append, sum_by-cons}
use Rattle.std.specs.List.{sum_by}
use Rattle.health_tests.specs.declared.windows.Alarm.{Alarm}
use Rattle.health_tests.specs.declared.numbers.Tail.{Tail}
use Rattle.rbg_bytes.specs.declared.cond.Cond.{Cond}
use Rattle.rbg_bytes.specs.declared.cond.Cond.TheVariants as conds
use Rattle.conditioner.specs.Conditioned.{conditioned, block_len}
use Rattle.conditioner.proofs.Blocks.{length-conditioned}
use Rattle.entropy_source.specs.declared.answers.SourceRow.{SourceRow}
use Rattle.entropy_source.specs.declared.answers.SourceRefusal.{SourceRefusal}
use Rattle.entropy_source.specs.Source.{SourceAct, Block, SourceState, source_after, source_after_all, blocks_for, need_of, need_of_block}
use Rattle.entropy_source.specs.Draws.{Draws, Drawn, portions, found_in}
use Rattle.entropy_source.specs.Counted.{behind}
use Rattle.entropy_source.proofs.Filling.{enough}
use Rattle.entropy_source.proofs.Joins.{draws_on}

module _ (row : SourceRow) where
  -- a draw that was answered gives whole blocks
  pub draws_length : (found : List ℕ → List ℕ → Option Alarm) (n : ℕ) (s : SourceState) (read out : List ℕ) (acts : List SourceAct) (all : List ℕ)
      → Draws row found n s read out acts (Ok all) → length all ≡ length out + n * block_len row.cond
  draws_length found zero s read out acts all (none, is) =
      let same : all ≡ out = cc in omega (arith, ap (length {A = ℕ}) same, zero-mul (block_len row.cond))
  draws_length found (suc n) s read out acts all (reads, rest, x, are, g, w) =
      by x w (λ s read out acts d. draws_length found n s read out acts all d) where
        by : (x : Result (List ℕ) SourceRefusal) → MatchResult x
            (λ block. let bytes = conditioned row.cond block in
            let now = source_after_all row s reads in
            let made = Block s.taken now.taken bytes in
            (more : List SourceAct) × (rest ≡ made ∷ more)
            × Draws row found n (source_after row now made) (read ++ block) (out ++ bytes) more (Ok all))
            (λ why. (rest ≡ []) × (◌≡◌ {A = Result (List ℕ) SourceRefusal} (Ok all) (Err why)))
            → ((s : SourceState) (read out : List ℕ) (acts : List SourceAct) → Draws row found n s read out acts (Ok all)
            → length all ≡ length out + n * block_len row.cond)
            → length all ≡ length out + suc n * block_len row.cond
        by (Err why) (none, is) ih = cc
        by (Ok block) (more, is, d) ih =
            let made = conditioned row.cond block in
            let now = source_after_all row s reads in
            omega (
              arith,
              ih (source_after row now (Block s.taken now.taken made)) (read ++ block) (out ++ made) more d,
              length-append out made,
              length-conditioned row.cond block,
              suc-mul n (block_len row.cond),
            )

  some_len : 0 < block_len row.cond
  some_len = by row.cond where
    by : (cond : Cond) → 0 < block_len cond
    by conds.HmacSha256 = omega arith
    by conds.DfAes256 = omega arith

  -- the blocks of several wants
  abbrev blocks : List ℕ → ℕ
  blocks wants = sum (map (λ n. blocks_for row n) wants)

  blocks_first : (n : ℕ) (wants : List ℕ) → blocks (n ∷ wants) * block_len row.cond ≡ blocks_for row n * block_len row.cond + blocks wants * block_len row.cond
  blocks_first n wants =
      ap (λ k. k * block_len row.cond) (sum-map (λ n. blocks_for row n) (n ∷ wants)
      ∙ (sum_by-cons (λ n. blocks_for row n) n wants ∙ ap (λ k. blocks_for row n + k) (sym (sum-map (λ n. blocks_for row n) wants))))
      ∙ add-mul (blocks_for row n) (blocks wants) (block_len row.cond)

  pub blocks_append : (xs ys : List ℕ) → blocks (xs ++ ys) ≡ blocks xs + blocks ys
  blocks_append xs ys =
      sum-map (λ n. blocks_for row n) (xs ++ ys) ∙ (sum_by-append (λ n. blocks_for row n) xs ys
      ∙ (ap (λ k. k + sum_by (λ n. blocks_for row n) ys) (sym (sum-map (λ n. blocks_for row n) xs)) ∙ ap (λ k. blocks xs + k) (sym (sum-map (λ n. blocks_for row n) ys))))

  -- the first wants get what they get of their own blocks' bytes, and the others what they get of the bytes behind
  pub portions_on : (xs ys bs cs : List ℕ) → length bs ≡ blocks xs * block_len row.cond → portions row (xs ++ ys) (bs ++ cs) ≡ portions row xs bs ++ portions row ys cs
  portions_on [] ys bs cs all =
      ap (λ z. portions row ys (z ++ cs)) (nil_from_length bs (omega (arith, all, zero-mul (block_len row.cond))))
  portions_on (n ∷ xs) ys bs cs all =
      let k = blocks_for row n * block_len row.cond in
      let first = blocks_first n xs in
      let fits : k ≤ length bs = omega (arith, all, first) in
      let want : n ≤ length bs = omega (arith, fits, enough n (block_len row.cond) some_len) in
      let rest : length (drop k bs) ≡ blocks xs * block_len row.cond = omega (arith, length-drop k bs, all, first) in
      ap (λ z. z ∷ portions row (xs ++ ys) (drop k (bs ++ cs))) (take-append-le n bs cs want)
      ∙ ap (λ z. take n bs ∷ z) (ap (portions row (xs ++ ys)) (drop-append-le k bs cs fits) ∙ portions_on xs ys (drop k bs) cs rest)

-- Draws of several wants, one answered and one after it: together they are one draw of all wants.
pub wants_on : (row : SourceRow) (t : Tail) (xs ys : List ℕ) (s : SourceState) (acts : List SourceAct) (mid : List ℕ) (more : List SourceAct) (end : Result (List ℕ) SourceRefusal)
    → s.tail ≡ Some t
    → Drawn row (found_in row.cutoffs (Some t)) s xs acts (Ok mid)
    → Drawn row (found_in row.cutoffs (source_after_all row s acts).tail) (source_after_all row s acts) ys more end
    → Drawn row (found_in row.cutoffs (Some t)) s (xs ++ ys) (acts ++ more) (behind mid end)
wants_on row t xs ys s acts mid more end tl first second =
    subst (λ k. Draws row (found_in row.cutoffs (Some t)) k s [] [] (acts ++ more) (behind mid end)) (sym (blocks_append row xs ys))
    (draws_on row t (blocks row xs) (blocks row ys) s acts mid more end tl first second)

-- the samples of draws of all lengths
pub need_append : (row : SourceRow) (xs ys : List ℕ) → need_of row (xs ++ ys) ≡ need_of row xs + need_of row ys
need_append row xs ys = ap (λ k. k * need_of_block row) (blocks_append row xs ys) ∙ add-mul (blocks row xs) (blocks row ys) (need_of_block row)

module _ (row : SourceRow) (found : List ℕ → List ℕ → Option Alarm) where
  -- what becomes of the blocks behind the samples of one
  abbrev Follows : ℕ → SourceState → List ℕ → List ℕ → List SourceAct → List SourceAct → Result (List ℕ) SourceRefusal → Result (List ℕ) SourceRefusal → Type 0
  Follows n s read out reads rest end result =
      MatchResult end
      (λ block. let bytes = conditioned row.cond block in
      let now = source_after_all row s reads in
      let made = Block s.taken now.taken bytes in
      (more : List SourceAct) × (rest ≡ made ∷ more) × Draws row found n (source_after row now made) (read ++ block) (out ++ bytes) more result)
      (λ why. (rest ≡ []) × (result ≡ Err why))

  -- a draw that was refused is refused for more blocks
  pub draws_refused : (n m : ℕ) (s : SourceState) (read out : List ℕ) (acts : List SourceAct) (why : SourceRefusal)
      → Draws row found n s read out acts (Err why) → Draws row found (n + m) s read out acts (Err why)
  draws_refused zero m s read out acts why (a, b) = cc
  draws_refused (suc n) m s read out acts why (reads, rest, end, are, g, w) =
      let e : suc n + m ≡ suc (n + m) = omega arith in
      subst (λ k. Draws row found k s read out acts (Err why)) (sym e)
      (reads, rest, end, are, g, by end w (λ s read out acts d. draws_refused n m s read out acts why d)) where
        by : (end : Result (List ℕ) SourceRefusal) → Follows n s read out reads rest end (Err why)
            → ((s : SourceState) (read out : List ℕ) (acts : List SourceAct) → Draws row found n s read out acts (Err why) → Draws row found (n + m) s read out acts (Err why))
            → Follows (n + m) s read out reads rest end (Err why)
        by (Ok block) (more, is, d) ih =
            let now = source_after_all row s reads in
            let made = Block s.taken now.taken (conditioned row.cond block) in
            (more, is, ih (source_after row now made) (read ++ block) (out ++ conditioned row.cond block) more d)
        by (Err x) h ih = h

-- the same of draws of several wants
pub wants_refused : (row : SourceRow) (found : List ℕ → List ℕ → Option Alarm) (s : SourceState) (xs ys : List ℕ) (acts : List SourceAct) (why : SourceRefusal)
    → Drawn row found s xs acts (Err why) → Drawn row found s (xs ++ ys) acts (Err why)
wants_refused row found s xs ys acts why d =
    subst (λ k. Draws row found k s [] [] acts (Err why)) (sym (blocks_append row xs ys)) (draws_refused row found (blocks row xs) (blocks row ys) s [] [] acts why d)
