-- Sources that are started one after another.
use Rattle.std.proofs.Common.{◌≡◌, ◌≢◌, ◌≤◌, ◌<◌, ℕ, zero, suc, ◌+◌, List, [], ◌∷◌, length, drop, take, get_or, refl, sym, ap, ◌∙◌, subst, arith, inl, inr}
use Rattle.std.specs.Prelude.{Option, Some, unwrap_or, slice_get}
use Rattle.std.proofs.Math.ListN.{set, length-set}
use Rattle.std.proofs.lemmas.Bool.{cases_lt}
use Rattle.std.proofs.lemmas.Option.{slice_get_past, slice_get-get_or}
use Rattle.std.proofs.lemmas.List.{get_or-set_same, get_or-set_other, get_or-take, length-take}
use Rattle.tree_config.specs.declared.plan.SourcePlan.{SourcePlan}
use Rattle.entropy_source.specs.Views.{SourceView}
use Rattle.rbgtree.specs.Check.{IsTried, AreTriedUpTo, AreTried}
use Rattle.rbgtree.specs.declared.printed.SourceLine.{SourceLine}

same : {A : Type 0} (a b : A) → Some a ≡ Some b → a ≡ b
same a b h = ap (λ (o : Option _). unwrap_or o a) h

pub nothing : {S : Type 0} (xs : List S) → length xs ≡ 0 → xs ≡ []
nothing [] h = refl
nothing (x ∷ xs) h = absurd (omega arith)

at_drop : {S : Type 0} (xs : List S) (i : ℕ) (x : S) (rest : List S) → drop i xs ≡ x ∷ rest → slice_get xs i ≡ Some x
at_drop [] zero x rest h = absurd cc
at_drop [] (suc i) x rest h = absurd cc
at_drop (y ∷ xs) zero x rest h = ap (λ (l : List _). Some (get_or l 0 y)) h
at_drop (y ∷ xs) (suc i) x rest h = at_drop xs i x rest h

pub drop_next : {S : Type 0} (xs : List S) (i : ℕ) (x : S) (rest : List S) → drop i xs ≡ x ∷ rest → drop (i + 1) xs ≡ rest
drop_next [] zero x rest h = absurd cc
drop_next [] (suc i) x rest h = absurd cc
drop_next (y ∷ xs) zero x rest h = ap (λ (l : List _). drop 1 l) h
drop_next (y ∷ xs) (suc i) x rest h =
    let next : suc i + 1 ≡ suc (i + 1) = omega arith in
    ap (λ (n : ℕ). drop n (y ∷ xs)) next ∙ drop_next xs i x rest h

pub drop_within : {S : Type 0} (xs : List S) (i : ℕ) (x : S) (rest : List S) → drop i xs ≡ x ∷ rest → i < length xs
drop_within [] zero x rest h = absurd cc
drop_within [] (suc i) x rest h = absurd cc
drop_within (y ∷ xs) zero x rest h = omega arith
drop_within (y ∷ xs) (suc i) x rest h = let less : i < length xs = drop_within xs i x rest h in omega (arith, less)

pub drop_end : {S : Type 0} (xs : List S) (i : ℕ) → drop i xs ≡ [] → length xs ≤ i
drop_end [] i h = omega arith
drop_end (y ∷ xs) zero h = absurd cc
drop_end (y ∷ xs) (suc i) h = let past : length xs ≤ i = drop_end xs i h in omega (arith, past)

set_here : (lines : List SourceLine) (i : ℕ) (line : SourceLine) → i < length lines → slice_get (set lines i line) i ≡ Some line
set_here lines i line less =
    let within : i < length (set lines i line) = subst (λ (n : ℕ). i < n) (sym (length-set lines i line)) less in
    slice_get-get_or (set lines i line) i line within ∙ ap Some (get_or-set_same lines i line line less)

set_else : (lines : List SourceLine) (j i : ℕ) (line : SourceLine) → j ≢ i → slice_get (set lines i line) j ≡ slice_get lines j
set_else lines j i line other = elim (cases_lt j (length lines)) [
  | inl less ↦
      let within : j < length (set lines i line) = subst (λ (n : ℕ). j < n) (sym (length-set lines i line)) less in
      slice_get-get_or (set lines i line) j line within ∙ (ap Some (get_or-set_other lines i j line line other) ∙ sym (slice_get-get_or lines j line less))
  | inr past ↦
      let beyond : length (set lines i line) ≤ j = subst (λ (n : ℕ). n ≤ j) (sym (length-set lines i line)) past in
      slice_get_past (set lines i line) j beyond ∙ sym (slice_get_past lines j past)
]

-- a start of a source, whatever the source is like afterwards
abbrev pub Tried : {S : Type 0} → (S → Option (List ℕ)) → (S → ℕ) → (S → ℕ → Option (List ℕ) → S → Type 0) → ℕ → SourcePlan → S → SourceLine → Type 0
Tried {S} told faults reads i plan samples line = (after : SourceView S) × IsTried told faults reads i plan samples after line

-- one source more
pub tried_more : {S : Type 0} (told : S → Option (List ℕ)) (faults : S → ℕ) (reads : S → ℕ → Option (List ℕ) → S → Type 0) (plans : List SourcePlan) (opened : List S) (lines : List SourceLine) (i : ℕ) (plan : SourcePlan) (samples : S) (rest : List S) (line : SourceLine)
    → AreTriedUpTo told faults reads i plans opened lines → slice_get plans i ≡ Some plan → drop i opened ≡ samples ∷ rest → i < length lines → Tried told faults reads i plan samples line
    → AreTriedUpTo told faults reads (i + 1) plans opened (set lines i line)
tried_more {S} told faults reads plans opened lines i plan samples rest line before plan_is samples_are within tried j p x l less p_is x_is l_is = elim (cases_lt j i) [
  | inl earlier ↦
      let other : j ≢ i = λ (e : j ≡ i). absurd (omega (arith, e)) in
      before j p x l earlier p_is x_is (sym (set_else lines j i line other) ∙ l_is)
  | inr not_earlier ↦
      let here : i ≡ j = omega arith in
      let plan_same : plan ≡ p = same plan p (sym plan_is ∙ (ap (λ (n : ℕ). slice_get plans n) here ∙ p_is)) in
      let samples_same : samples ≡ x = same samples x (sym (at_drop opened i samples rest samples_are) ∙ (ap (λ (n : ℕ). slice_get opened n) here ∙ x_is)) in
      let line_same : line ≡ l = same line l (sym (set_here lines i line within) ∙ (ap (λ (n : ℕ). slice_get (set lines i line) n) here ∙ l_is)) in
      subst (λ (n : ℕ). Tried told faults reads n p x l) here (subst (λ (y : SourceLine). Tried told faults reads i p x y) line_same
      (subst (λ (s : S). Tried told faults reads i p s line) samples_same (subst (λ (q : SourcePlan). Tried told faults reads i q samples line) plan_same tried)))
]

taken_at : (lines : List SourceLine) (n j : ℕ) (line : SourceLine) → n ≤ length lines → j < n → slice_get (take n lines) j ≡ Some line → slice_get lines j ≡ Some line
taken_at lines n j line enough less is =
    let short : j < length (take n lines) = omega (arith, length-take n lines) in
    let long : j < length lines = omega (arith, enough) in
    slice_get-get_or lines j line long ∙ (ap Some (sym (get_or-take n lines j line less)) ∙ (sym (slice_get-get_or (take n lines) j line short) ∙ is))

-- all sources
pub tried_all : {S : Type 0} (told : S → Option (List ℕ)) (faults : S → ℕ) (reads : S → ℕ → Option (List ℕ) → S → Type 0) (plans : List SourcePlan) (opened : List S) (lines : List SourceLine) (i : ℕ)
    → AreTriedUpTo told faults reads i plans opened lines → length opened ≡ length plans → drop i opened ≡ [] → length plans ≤ length lines
    → AreTried told faults reads plans opened (take (length plans) lines)
tried_all {S} told faults reads plans opened lines i before count end enough =
    let past : length plans ≤ i = let done = drop_end opened i end in omega (arith, done, count) in
    record {
      samples = count;
      count = omega (arith, length-take (length plans) lines, enough);
      each = λ (j : ℕ) (p : SourcePlan) (x : S) (l : SourceLine) (less : j < length plans) (p_is : slice_get plans j ≡ Some p)
          (x_is : slice_get opened j ≡ Some x) (l_is : slice_get (take (length plans) lines) j ≡ Some l).
          let earlier : j < i = omega (arith, past, less) in
          before j p x l earlier p_is x_is (taken_at lines (length plans) j l enough less l_is);
    }
