-- What a line does to what stands in a text.
use Rattle.std.proofs.Common.{◌≡◌, ℕ, ◌+◌, List, [], ◌∷◌, Bool, true, false, cond, refl, sym, ap, ◌∙◌, subst, Option, Some, None}
use Rattle.vector_text.specs.declared.case.Family.{Family}
use Rattle.vector_text.specs.declared.case.Case.{Case}
use Rattle.vector_text.specs.declared.shape.Shape.{Shape}
use Rattle.vector_text.specs.declared.spot.Took as tooks
use Rattle.vector_text.specs.declared.spot.Answer as answers
use Rattle.vector_text.specs.Shapes.{shape_of, ends_group}
use Rattle.vector_text.specs.Groups.{Group, is_whole, case_of}
use Rattle.vector_text.specs.Text.{Entry, ACase, TheEnd, AFault, Place, Step, does, closed, closing, behind_step, from_line, entries_from}
use Rattle.vector_text.specs.Spots.{took_of, answer_of, closes, Says, lines_behind}

-- ---- what stands in lines, from the first of them on

abbrev pub later_of : Family → List (List ℕ) → Place → List Entry
later_of family later = λ q. entries_from family q later

pub entries_line : (f : Family) (p : Place) (line : List ℕ) (later : List (List ℕ)) → entries_from f p (line ∷ later) ≡ from_line p line (shape_of f line) (later_of f later)
unfolding entries_from
entries_line f p line later = refl

pub entries_end : (f : Family) (p : Place) → entries_from f p [] ≡ closing p.group (TheEnd ∷ [])
unfolding entries_from
entries_end f p = refl

cond_same : {A : Type 0} (b : Bool) (x : A) → cond b x x ≡ x
cond_same true x = refl
cond_same false x = refl

-- a line that ends no group
line_inside : (p : Place) (line : List ℕ) (shape : Shape) (k : Place → List Entry) → ends_group shape ≡ false
    → from_line p line shape k ≡ behind_step (p.number + 1) (does p line shape) k
line_inside p line shape k e = ap (λ (b : Bool). cond b (closing p.group (behind_step (p.number + 1) (does (closed p) line shape) k)) (behind_step (p.number + 1) (does p line shape) k)) e

closed_none : (p : Place) → p.group ≡ None → closed p ≡ p
closed_none p h = ap (λ (g : Option Group). record p { group = g }) (sym h)

-- a line where no group is open
line_outside : (p : Place) (line : List ℕ) (shape : Shape) (k : Place → List Entry) → p.group ≡ None
    → from_line p line shape k ≡ behind_step (p.number + 1) (does p line shape) k
line_outside p line shape k h =
    let x = behind_step (p.number + 1) (does p line shape) k in
    ap (λ (g : Option Group). cond (ends_group shape) (closing g (behind_step (p.number + 1) (does (closed p) line shape) k)) x) h
    ∙ (ap (λ (q : Place). cond (ends_group shape) (behind_step (p.number + 1) (does q line shape) k) x) (closed_none p h)
    ∙ cond_same (ends_group shape) x)

-- ---- the answer to a line

step_says : (took : tooks.Took) (q : Place) (s : Step) (number : ℕ) (f : Family) (line : List ℕ) (later : List (List ℕ)) (before : List Entry) (case : Case) → took_of took q ≡ s
    → before ≡ behind_step number s (later_of f later) → Says (answer_of took number) before case (entries_from f q (lines_behind (answer_of took number) line later))
step_says tooks.TheVariants.Goes q s number f line later before case e h = h ∙ sym (ap (λ (x : Step). behind_step number x (later_of f later)) e)
step_says tooks.TheVariants.Skips q s number f line later before case e h = h ∙ sym (ap (λ (x : Step). behind_step number x (later_of f later)) e)
step_says (tooks.TheVariants.Fails why) q s number f line later before case e h = h ∙ sym (ap (λ (x : Step). behind_step number x (later_of f later)) e)

module _ (f : Family) (p q : Place) (line : List ℕ) (later : List (List ℕ)) (case : Case) where
  pub says_inside : (took : tooks.Took) → took_of took q ≡ does p line (shape_of f line) → ends_group (shape_of f line) ≡ false
      → Says (answer_of took (p.number + 1)) (entries_from f p (line ∷ later)) case (entries_from f q (lines_behind (answer_of took (p.number + 1)) line later))
  says_inside took e ends =
      step_says took q _ (p.number + 1) f line later _ case e (entries_line f p line later ∙ line_inside p line (shape_of f line) (later_of f later) ends)

  pub says_outside : (took : tooks.Took) → took_of took q ≡ does p line (shape_of f line) → p.group ≡ None
      → Says (answer_of took (p.number + 1)) (entries_from f p (line ∷ later)) case (entries_from f q (lines_behind (answer_of took (p.number + 1)) line later))
  says_outside took e none =
      step_says took q _ (p.number + 1) f line later _ case e (entries_line f p line later ∙ line_outside p line (shape_of f line) (later_of f later) none)

-- the group that was open comes first
closing_first : (g : Group) (b : Bool) (case : Case) (rest : List Entry) (before : List Entry) → is_whole g ≡ b → (is_whole g ≡ true → case ≡ case_of g)
    → before ≡ closing (Some g) rest → Says (cond b answers.TheVariants.Case (answers.TheVariants.Fault g.line 5)) before case rest
closing_first g true case rest before e same h =
    h ∙ (ap (λ (x : Bool). cond x (ACase (case_of g) ∷ rest) (AFault g.line 5 ∷ [])) e ∙ ap (λ (x : Case). ACase x ∷ rest) (sym (same e)))
closing_first g false case rest before e same h = h ∙ ap (λ (x : Bool). cond x (ACase (case_of g) ∷ rest) (AFault g.line 5 ∷ [])) e

-- what stands behind it, where it is a case; a fault has nothing behind it
behind_any : (g : Group) (b : Bool) (case : Case) (before rest : List Entry) (f : Family) (q : Place) (line : List ℕ) (later : List (List ℕ))
    → Says (cond b answers.TheVariants.Case (answers.TheVariants.Fault g.line 5)) before case rest → rest ≡ entries_from f q (line ∷ later)
    → Says (cond b answers.TheVariants.Case (answers.TheVariants.Fault g.line 5)) before case
    (entries_from f q (lines_behind (cond b answers.TheVariants.Case (answers.TheVariants.Fault g.line 5)) line later))
behind_any g true case before rest f q line later h e = h ∙ ap (λ (x : List Entry). ACase case ∷ x) e
behind_any g false case before rest f q line later h e = h

-- a line that ends the open group
pub says_closed : (f : Family) (p q : Place) (g : Group) (line : List ℕ) (later : List (List ℕ)) (case : Case) → p.group ≡ Some g → q ≡ closed p
    → ends_group (shape_of f line) ≡ true → (is_whole g ≡ true → case ≡ case_of g)
    → Says (closes g) (entries_from f p (line ∷ later)) case (entries_from f q (lines_behind (closes g) line later))
says_closed f p q g line later case o is ends same =
    let shape = shape_of f line in
    let rest = behind_step (p.number + 1) (does (closed p) line shape) (later_of f later) in
    let first : entries_from f p (line ∷ later) ≡ closing (Some g) rest =
    entries_line f p line later ∙ (ap (λ (b : Bool). cond b (closing p.group rest) (behind_step (p.number + 1) (does p line shape) (later_of f later))) ends
    ∙ ap (λ (x : Option Group). closing x rest) o) in
    let again : rest ≡ entries_from f q (line ∷ later) =
    sym (ap (λ (x : Place). entries_from f x (line ∷ later)) is ∙ (entries_line f (closed p) line later ∙ line_outside (closed p) line shape (later_of f later) refl)) in
    behind_any g (is_whole g) case _ rest f q line later (closing_first g (is_whole g) case rest _ refl same first) again

-- ---- the end

pub says_ended : (f : Family) (p q : Place) (g : Group) (case : Case) → p.group ≡ Some g → q ≡ closed p → (is_whole g ≡ true → case ≡ case_of g)
    → Says (closes g) (entries_from f p []) case (entries_from f q [])
says_ended f p q g case o is same =
    let last : entries_from f q [] ≡ TheEnd ∷ [] = ap (λ (x : Place). entries_from f x []) is ∙ entries_end f (closed p) in
    subst (λ (rest : List Entry). Says (closes g) (entries_from f p []) case rest) (sym last)
    (closing_first g (is_whole g) case (TheEnd ∷ []) _ refl same (entries_end f p ∙ ap (λ (x : Option Group). closing x (TheEnd ∷ [])) o))

pub says_end : (f : Family) (p : Place) → p.group ≡ None → entries_from f p [] ≡ TheEnd ∷ []
says_end f p none = entries_end f p ∙ ap (λ (o : Option Group). closing o (TheEnd ∷ [])) none
