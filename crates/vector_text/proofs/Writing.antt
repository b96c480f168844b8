-- Lines that are written one after another.
use Rattle.std.proofs.Common.{◌≡◌, ℕ, List, [], ◌∷◌, ◌++◌, codes, refl, sym, ap, ◌∙◌, subst, append_assoc, append-nil, Option, Some, None, Result, Ok, Err}
use Rattle.std.specs.Io.KnownBytes.{Appends}
use Rattle.rbg_bytes.specs.Streams.{AppendsFront, TakesAll}
use Rattle.rbg_bytes.proofs.Fronts.{appends_both, front_after, front_within}
use Rattle.vector_text.specs.Printing.{text_of}

-- nothing is written
pub appends_none : (a : Option (List ℕ)) → Appends a a []
appends_none None = tt
appends_none (Some x) = sym (append-nil x)

-- a piece behind another
pub takes_after : {T E : Type 0} (a b c : Option (List ℕ)) (r : Result T E) (bs cs : List ℕ) → Appends a b bs → TakesAll b c r cs → TakesAll a c r (bs ++ cs)
takes_after a b c (Ok done) bs cs p q = appends_both a b c bs cs p q
takes_after a b c (Err why) bs cs p q = front_after a b c bs cs p q

-- ---- a line before others

line_first : (l : List ℕ) (ls : List (List ℕ)) → (l ++ codes "\n") ++ text_of ls ≡ text_of (l ∷ ls)
line_first l ls = append_assoc l (codes "\n") (text_of ls)

pub line_fails : (a b : Option (List ℕ)) (l : List ℕ) (ls : List (List ℕ)) → AppendsFront a b (l ++ codes "\n") → AppendsFront a b (text_of (l ∷ ls))
line_fails a b l ls p = subst (λ (x : List ℕ). AppendsFront a b x) (line_first l ls) (front_within a b (l ++ codes "\n") (text_of ls) p)

pub line_then_front : (a b c : Option (List ℕ)) (l : List ℕ) (ls : List (List ℕ)) → Appends a b (l ++ codes "\n") → AppendsFront b c (text_of ls)
    → AppendsFront a c (text_of (l ∷ ls))
line_then_front a b c l ls p q = subst (λ (x : List ℕ). AppendsFront a c x) (line_first l ls) (front_after a b c (l ++ codes "\n") (text_of ls) p q)

pub line_then : {T E : Type 0} (a b c : Option (List ℕ)) (r : Result T E) (l : List ℕ) (ls : List (List ℕ)) → Appends a b (l ++ codes "\n") → TakesAll b c r (text_of ls)
    → TakesAll a c r (text_of (l ∷ ls))
line_then a b c r l ls p q = subst (λ (x : List ℕ). TakesAll a c r x) (line_first l ls) (takes_after a b c r (l ++ codes "\n") (text_of ls) p q)

-- ---- lines before others

text_both : (ls ms : List (List ℕ)) → text_of ls ++ text_of ms ≡ text_of (ls ++ ms)
text_both [] ms = refl
text_both (l ∷ ls) ms = append_assoc l (10 ∷ text_of ls) (text_of ms) ∙ ap (λ (x : List ℕ). l ++ 10 ∷ x) (text_both ls ms)

pub lines_fail : (a b : Option (List ℕ)) (ls ms : List (List ℕ)) → AppendsFront a b (text_of ls) → AppendsFront a b (text_of (ls ++ ms))
lines_fail a b ls ms p = subst (λ (x : List ℕ). AppendsFront a b x) (text_both ls ms) (front_within a b (text_of ls) (text_of ms) p)

pub lines_then_front : (a b c : Option (List ℕ)) (ls ms : List (List ℕ)) → Appends a b (text_of ls) → AppendsFront b c (text_of ms) → AppendsFront a c (text_of (ls ++ ms))
lines_then_front a b c ls ms p q = subst (λ (x : List ℕ). AppendsFront a c x) (text_both ls ms) (front_after a b c (text_of ls) (text_of ms) p q)

pub lines_then : {T E : Type 0} (a b c : Option (List ℕ)) (r : Result T E) (ls ms : List (List ℕ)) → Appends a b (text_of ls) → TakesAll b c r (text_of ms)
    → TakesAll a c r (text_of (ls ++ ms))
lines_then a b c r ls ms p q = subst (λ (x : List ℕ). TakesAll a c r x) (text_both ls ms) (takes_after a b c r (text_of ls) (text_of ms) p q)
