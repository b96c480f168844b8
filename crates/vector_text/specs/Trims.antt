-- Blanks at the ends of a text, and a text parted at its first `=`.
-- This project's own.
use Rattle.std.specs.Prelude.{ℕ, ◌+◌, ◌==◌, ◌||◌, Bool, List, [], ◌∷◌, take, drop, position, if◌then◌else◌, Option, Some, None}
use Rattle.vector_text.specs.declared.trim.Blank.{Blank}
use Rattle.vector_text.specs.declared.trim.Blank.TheVariants.{Space, SpaceOrTab}

abbrev pub is_blank : Blank → ℕ → Bool
is_blank Space c = c == 32
is_blank SpaceOrTab c = c == 32 || c == 9

-- without the bytes at the front that pass
abbrev pub without_first : (ℕ → Bool) → List ℕ → List ℕ
without_first p [] = []
without_first p (c ∷ cs) = if p c then without_first p cs else c ∷ cs

-- a byte before what is kept of those behind it: it goes too where it passes and none of them is kept
abbrev pub before_kept : (ℕ → Bool) → ℕ → List ℕ → List ℕ
before_kept p c [] = if p c then [] else c ∷ []
before_kept p c (d ∷ ds) = c ∷ d ∷ ds

-- without the bytes at the end that pass
abbrev pub without_last : (ℕ → Bool) → List ℕ → List ℕ
without_last p [] = []
without_last p (c ∷ cs) = before_kept p c (without_last p cs)

abbrev pub is_equals : ℕ → Bool
is_equals c = c == 61

-- what stands before a `=` and behind it
pub record Parts : Type 0 where
  pub name : List ℕ
  pub value : List ℕ

-- the parts at the `=` at a place: spaces right beside it belong to neither
abbrev pub parted_at : List ℕ → Option ℕ → Option Parts
parted_at t None = None
parted_at t (Some i) = Some (record { name = without_last (is_blank Space) (take i t); value = without_first (is_blank Space) (drop (i + 1) t) })

-- the parts at the first `=`
abbrev pub parted : List ℕ → Option Parts
parted t = parted_at t (position is_equals t)
