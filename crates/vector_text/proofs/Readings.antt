-- A line that is too long.
use Rattle.std.proofs.Common.{◌≡◌, ◌<◌, ℕ, ◌+◌, List, [], ◌∷◌, length, Bool, cond, ap, ◌∙◌, lt-ltb}
use Rattle.vector_text.specs.declared.case.Family.{Family}
use Rattle.vector_text.specs.declared.shape.Shape.{Shape}
use Rattle.vector_text.specs.declared.shape.Shape.TheVariants.{Long}
use Rattle.vector_text.specs.Shapes.{shape_of, trimmed, trimmed_shape}
use Rattle.std.specs.Prelude.{Option, None}
use Rattle.vector_text.specs.declared.feed.Found.{Found}
use Rattle.vector_text.specs.declared.feed.Found.TheVariants as founds
use Rattle.vector_text.specs.declared.feed.Found.TheVariants.{End, Line}
use Rattle.vector_text.specs.Feeding.{BeginsLong, Finds, Window}
use Rattle.vector_text.specs.Reading.{FitsFound}
use Rattle.vector_text.specs.Text.{AFault, Place, from_line, entries_from}
use Rattle.vector_text.proofs.Steps.{entries_line, later_of}

shape_long : (f : Family) (line : List ℕ) → 16384 < length line → shape_of f line ≡ Long
unfolding shape_of
shape_long f line h = ap (λ (b : Bool). cond b Long (trimmed_shape f (trimmed line))) (lt-ltb 16384 (length line) h)

pub long_says : (f : Family) (p : Place) (ls : List (List ℕ)) → BeginsLong ls → entries_from f p ls ≡ AFault (p.number + 1) 1 ∷ []
long_says f p [] h = absurd h
long_says f p (line ∷ later) h = entries_line f p line later ∙ ap (λ (s : Shape). from_line p line s (later_of f later)) (shape_long f line h)

-- a line that was found is within the bytes that were read
pub fits_found : (found : Found) (w : Window) → ((left : Option (List ℕ)) → Finds found left w) → FitsFound found w
fits_found End w finds = tt
fits_found (Line len whole) w finds = let line = finds None in (line.short, line.some, line.within)
fits_found founds.Long w finds = tt
