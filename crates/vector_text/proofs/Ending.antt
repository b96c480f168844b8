-- The entries of a text end once.
use Rattle.std.proofs.Common.{ℕ, ◌+◌, List, [], ◌∷◌, Bool, true, false, cond, refl, sym, subst, Option, Some, None}
use Rattle.std.specs.Str.Lines.{lines}
use Rattle.vector_text.specs.declared.case.Family.{Family}
use Rattle.vector_text.specs.Shapes.{shape_of, ends_group}
use Rattle.vector_text.specs.Groups.{Group, is_whole, case_of}
use Rattle.vector_text.specs.Text.{Entry, ACase, TheEnd, AFault, EndsOnce, Place, Step, Goes, Skips, Fails, at_start, behind_step, closed, closing, does, entries, entries_from}
use Rattle.vector_text.proofs.Steps.{entries_end, entries_line, later_of}

ends_cond : (b : Bool) (x y : List Entry) → EndsOnce x → EndsOnce y → EndsOnce (cond b x y)
ends_cond true x y h k = h
ends_cond false x y h k = k

ends_closing : (o : Option Group) (later : List Entry) → EndsOnce later → EndsOnce (closing o later)
ends_closing None later h = h
ends_closing (Some g) later h = ends_cond (is_whole g) (ACase (case_of g) ∷ later) (AFault g.line 5 ∷ []) h refl

ends_step : (number : ℕ) (s : Step) (k : Place → List Entry) → ((q : Place) → EndsOnce (k q)) → EndsOnce (behind_step number s k)
ends_step number (Goes q) k h = h q
ends_step number (Skips q) k h = h q
ends_step number (Fails why) k h = refl

ends_from : (f : Family) (p : Place) (ls : List (List ℕ)) → EndsOnce (entries_from f p ls)
ends_from f p [] = subst EndsOnce (sym (entries_end f p)) (ends_closing p.group (TheEnd ∷ []) refl)
ends_from f p (line ∷ later) =
    let shape = shape_of f line in
    let k = later_of f later in
    let h : (q : Place) → EndsOnce (entries_from f q later) = λ q. ends_from f q later in
    subst EndsOnce (sym (entries_line f p line later))
    (ends_cond (ends_group shape) _ _ (ends_closing p.group _ (ends_step (p.number + 1) (does (closed p) line shape) k h)) (ends_step (p.number + 1) (does p line shape) k h))

pub ends_all : (f : Family) (text : List ℕ) → EndsOnce (entries f text)
ends_all f text = ends_from f at_start (lines text)
