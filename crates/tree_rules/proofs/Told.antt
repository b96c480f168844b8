-- What a source that tells its samples gives: the next ones, and blocks of them one behind the other.
use Rattle.std.proofs.Common.{◌≡◌, ◌∙◌, ◌++◌, ◌∷◌, ◌+◌, ◌-◌, ◌*◌, ◌<◌, ◌≤◌, ℕ, List, [], zero, suc, true, false, length, take, drop, refl, sym, ap, subst, arith, append-nil, append_assoc, length-append, take-append-drop, suc-mul}
use Rattle.std.specs.Prelude.{option_map, ◌||◌, Option, Some, None, Result, Ok, Err, MatchOption, MatchResult, IfSome}
use Rattle.std.proofs.Math.Seq.{take-append_seam, drop-append_seam}
use Rattle.conditioner.specs.Conditioned.{conditioned}
use Rattle.health_tests.specs.declared.windows.Alarm.{Alarm}
use Rattle.entropy_source.proofs.Joins.{gathered, samples_append}
use Rattle.entropy_source.specs.Counted.{samples_of, gave_none}
use Rattle.entropy_source.specs.Draws.{AreNext, Draws, Gathers}
use Rattle.entropy_source.specs.Source.{Alarmed, Began, Block, Read, SourceAct, SourceState, Started, need_of_block, source_after, source_after_all}
use Rattle.entropy_source.specs.declared.answers.SourceRefusal.{SourceRefusal}
use Rattle.entropy_source.specs.declared.answers.SourceRefusal.TheVariants.{HealthFailed}
use Rattle.entropy_source.specs.declared.answers.SourceRow.{SourceRow}
use Rattle.tree_rules.specs.Causes.{blocks_told}

pub gave_append : (xs ys : List SourceAct) → gave_none (xs ++ ys) ≡ (gave_none xs || gave_none ys)
gave_append [] ys = refl
gave_append (Began ∷ xs) ys = gave_append xs ys
gave_append (Read asked None count ∷ xs) ys = gave_append xs ys
gave_append (Read asked (Some []) count ∷ xs) ys = refl
gave_append (Read asked (Some (x ∷ got)) count ∷ xs) ys = gave_append xs ys
gave_append (Alarmed i t ∷ xs) ys = gave_append xs ys
gave_append (Started ∷ xs) ys = gave_append xs ys
gave_append (Block a b c ∷ xs) ys = gave_append xs ys

next_of : (told : Option (List ℕ)) (left got : List ℕ) → told ≡ Some left → IfSome told (λ l. IfSome (Some got) (λ xs. AreNext l xs)) → AreNext left got
next_of None left got is h = cc
next_of (Some l) left got is h = let same : l ≡ left = cc in subst (λ z. AreNext z got) same h

front_is : (left got : List ℕ) → AreNext left got → left ≡ got ++ drop (length got) left
front_is left got n = sym (take-append-drop (length got) left) ∙ ap (λ z. z ++ drop (length got) left) n.next

-- Reads for one block or the start-up give the next samples, no more than are lacking; and fewer where a read gave none, since none is left.
pub record Took (lacks : ℕ) (left : List ℕ) (now : SourceState) (acts : List SourceAct) (end : Result (List ℕ) SourceRefusal) : Type 0 where
  pub rest : List ℕ
  pub parts : left ≡ samples_of acts ++ rest
  pub few : length (samples_of acts) ≤ lacks
  pub short : gave_none acts ≡ true → (length (samples_of acts) < lacks) × (rest ≡ [])
  pub full : (block : List ℕ) → end ≡ Ok block → (gave_none acts ≡ false) × (length (samples_of acts) ≡ lacks) × (now.told ≡ Some rest)

module _ (row : SourceRow) (found : List ℕ → List ℕ → Option Alarm) where
  pub took : (lacks : ℕ) (s : SourceState) (has read left : List ℕ) (acts : List SourceAct) (end : Result (List ℕ) SourceRefusal) → s.told ≡ Some left
      → Gathers row found lacks s has read acts end → Took lacks left (source_after_all row s acts) acts end
  took lacks s has read left [] end told (a, is) =
      record { rest = left; parts = refl; few = omega arith; short = λ h. cc; full = λ block h. (refl, sym a, told) }
  took lacks s has read left (Read asked None count ∷ acts) end told (a, b, c, none, is) =
      subst (λ z. Took lacks left (source_after_all row (source_after row s (Read asked None count)) z) (Read asked None count ∷ z) end) (sym none)
      (record { rest = left; parts = refl; few = omega arith; short = λ h. cc; full = λ block h. cc })
  took lacks s has read left (Read asked (Some []) count ∷ acts) end told (a, b, c, none, is) =
      subst (λ z. Took lacks left (source_after_all row (source_after row s (Read asked (Some []) count)) z) (Read asked (Some []) count ∷ z) end) (sym none)
      (record { rest = left; parts = refl; few = omega arith; short = λ h. (a, (next_of s.told left [] told c.told).ended refl); full = λ block h. cc })
  took lacks s has read left (Read asked (Some (x ∷ xs)) count ∷ acts) end told (a, b, c, g) =
      by (found read (x ∷ xs)) (λ h. took (lacks - length (x ∷ xs)) next (has ++ x ∷ xs) (read ++ x ∷ xs) behind acts end (ap (λ o. after_it o) told) h) g where
        next : SourceState
        next = source_after row s (Read asked (Some (x ∷ xs)) count)

        after_it : Option (List ℕ) → Option (List ℕ)
        after_it o = option_map (λ l. drop (length (x ∷ xs)) l) o

        behind : List ℕ
        behind = drop (length (x ∷ xs)) left

        first : left ≡ (x ∷ xs) ++ behind
        first = front_is left (x ∷ xs) (next_of s.told left (x ∷ xs) told c.told)

        within : length (x ∷ xs) ≤ lacks
        within = let f = c.few in omega (arith, f, b)

        by : (o : Option Alarm)
            → (Gathers row found (lacks - length (x ∷ xs)) next (has ++ x ∷ xs) (read ++ x ∷ xs) acts end → Took (lacks - length (x ∷ xs)) behind (source_after_all row next acts) acts end)
            → MatchOption o (Gathers row found (lacks - length (x ∷ xs)) next (has ++ x ∷ xs) (read ++ x ∷ xs) acts end)
            (λ f. (acts ≡ Alarmed (s.taken + f.at) f.test ∷ []) × (end ≡ Err (HealthFailed (s.taken + f.at) f.test)))
            → Took lacks left (source_after_all row next acts) (Read asked (Some (x ∷ xs)) count ∷ acts) end
        by None ih h = let r = ih h in let sum = length-append (x ∷ xs) (samples_of acts) in let few = r.few in record {
          rest = r.rest;
          parts = first ∙ (ap (λ z. (x ∷ xs) ++ z) r.parts ∙ sym (append_assoc (x ∷ xs) (samples_of acts) r.rest));
          few = omega (arith, sum, few, within);
          short = λ h. let d = r.short h in (let l = d.0 in omega (arith, sum, l, within), d.1);
          full = λ block h. let d = r.full block h in (d.0, (let e = d.1 in omega (arith, sum, e, within)), d.2);
        }
        by (Some f) ih (last, is) =
            subst (λ z. Took lacks left (source_after_all row next z) (Read asked (Some (x ∷ xs)) count ∷ z) end) (sym last)
            (let sum = length-append (x ∷ xs) [] in record {
              rest = behind;
              parts = first ∙ ap (λ z. z ++ behind) (sym (append-nil (x ∷ xs)));
              few = omega (arith, sum, within);
              short = λ h. cc;
              full = λ block h. let no : Err (HealthFailed (s.taken + f.at) f.test) ≡ Ok block = sym is ∙ h in cc;
            })
  took lacks s has read left (Began ∷ acts) end told g = absurd g
  took lacks s has read left (Alarmed i t ∷ acts) end told g = absurd g
  took lacks s has read left (Started ∷ acts) end told g = absurd g
  took lacks s has read left (Block a b c ∷ acts) end told g = absurd g

  abbrev m : ℕ
  m = need_of_block row

  -- a draw of so many blocks gives the next samples, block by block
  pub record TookAll (n : ℕ) (left out : List ℕ) (acts : List SourceAct) (end : Result (List ℕ) SourceRefusal) : Type 0 where
    pub rest : List ℕ
    pub parts : left ≡ samples_of acts ++ rest
    pub few : length (samples_of acts) ≤ n * m
    pub short : gave_none acts ≡ true → (length (samples_of acts) < n * m) × (rest ≡ [])
    pub bytes : (all : List ℕ) → end ≡ Ok all → all ≡ out ++ blocks_told row n left

  pub took_all : (n : ℕ) (s : SourceState) (read left out : List ℕ) (acts : List SourceAct) (end : Result (List ℕ) SourceRefusal) → s.told ≡ Some left
      → Draws row found n s read out acts end → TookAll n left out acts end
  took_all zero s read left out acts end told (none, is) =
      subst (λ z. TookAll zero left out z end) (sym none)
      (record { rest = left; parts = refl; few = omega arith; short = λ h. cc; bytes = λ all h. let same : all ≡ out = cc (h, is) in same ∙ sym (append-nil out) })
  took_all (suc n) s read left out acts end told (reads, back, x, are, g, w) =
      subst (λ z. TookAll (suc n) left out z end) (sym are)
      (by x g (took m s [] read left reads x told g) w (λ s read left out acts told d. took_all n s read left out acts end told d)) where
        now : SourceState
        now = source_after_all row s reads

        more_than : suc n * m ≡ n * m + m
        more_than = suc-mul n m

        by : (x : Result (List ℕ) SourceRefusal) → Gathers row found m s [] read reads x → Took m left now reads x → MatchResult x
            (λ block. let bytes = conditioned row.cond block in
            let now = source_after_all row s reads in
            let made = Block s.taken now.taken bytes in
            (more : List SourceAct) × (back ≡ made ∷ more)
            × Draws row found n (source_after row now made) (read ++ block) (out ++ bytes) more end)
            (λ why. (back ≡ []) × (end ≡ Err why))
            → ((s : SourceState) (read left out : List ℕ) (acts : List SourceAct) → s.told ≡ Some left → Draws row found n s read out acts end → TookAll n left out acts end)
            → TookAll (suc n) left out (reads ++ back) end
        by (Ok block) g r (more, is, d) ih =
            let f = r.full block refl in
            let bytes = conditioned row.cond block in
            let made = Block s.taken now.taken bytes in
            let i = ih (source_after row now made) (read ++ block) r.rest (out ++ bytes) more f.2 d in
            let samples : samples_of (reads ++ made ∷ more) ≡ samples_of reads ++ samples_of more = samples_append reads (made ∷ more) in
            let sum : length (samples_of (reads ++ made ∷ more)) ≡ length (samples_of reads) + length (samples_of more) =
            ap (λ z. length {A = ℕ} z) samples ∙ length-append (samples_of reads) (samples_of more) in
            let count = f.1 in
            let whole : block ≡ samples_of reads = gathered row found m s [] read reads block g in
            let front : take m left ≡ block = ap (λ z. take z left) (sym count) ∙ (ap (λ z. take (length (samples_of reads)) z) r.parts
            ∙ (take-append_seam (samples_of reads) r.rest ∙ sym whole)) in
            let behind : drop m left ≡ r.rest = ap (λ z. drop z left) (sym count) ∙ (ap (λ z. drop (length (samples_of reads)) z) r.parts ∙ drop-append_seam (samples_of reads) r.rest) in
            subst (λ z. TookAll (suc n) left out (reads ++ z) end) (sym is) (record {
              rest = i.rest;
              parts = r.parts ∙ (ap (λ z. samples_of reads ++ z) i.parts
                  ∙ (sym (append_assoc (samples_of reads) (samples_of more) i.rest) ∙ ap (λ z. z ++ i.rest) (sym samples)));
              few = let few = i.few in omega (arith, sum, count, few, more_than);
              short = λ h.
                  let there : gave_none more ≡ true = subst (λ b. (b || gave_none more) ≡ true) f.0 (sym (gave_append reads (made ∷ more)) ∙ h) in
                  let e = i.short there in (let l = e.0 in omega (arith, sum, count, l, more_than), e.1);
              bytes = λ all h.
                  i.bytes all h ∙ (append_assoc out bytes (blocks_told row n r.rest)
                  ∙ ap (λ z. out ++ z) (ap (λ z. conditioned row.cond z ++ blocks_told row n r.rest) (sym front)
                  ∙ ap (λ z. conditioned row.cond (take m left) ++ blocks_told row n z) (sym behind)));
            })
        by (Err why) g r (none, is) ih =
            subst (λ z. TookAll (suc n) left out (reads ++ z) end) (sym none)
            (subst (λ z. TookAll (suc n) left out z end) (sym (append-nil reads)) (record {
              rest = r.rest;
              parts = r.parts;
              few = let few = r.few in omega (arith, few, more_than);
              short = λ h. let e = r.short h in (let l = e.0 in omega (arith, l, more_than), e.1);
              bytes = λ all h. let no : Err why ≡ Ok all = sym is ∙ h in cc;
            }))
