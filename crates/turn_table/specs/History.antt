-- Histories over an opening: the entries of one caller, the states after a history, and which histories are legal.
-- This project's own.
use Rattle.std.specs.Prelude.{◌≡◌, ℕ, ◌==◌, List, [], ◌∷◌, ◌++◌, slice_index, if◌then◌else◌}
use Rattle.turn_table.specs.Meaning.{Meaning}

-- the first number of an entry is its caller's
abbrev pub Entry : Type 0
Entry = List ℕ

abbrev pub caller_of : Entry → ℕ
caller_of e = slice_index e 0

-- the entries of one caller
abbrev pub of_caller : ℕ → List Entry → List Entry
of_caller k [] = []
of_caller k (e ∷ es) = if caller_of e == k then e ∷ of_caller k es else of_caller k es

-- the first history is a front of the second
abbrev pub Begins : List Entry → List Entry → Type 0
Begins xs ys = (rest : List Entry) × (ys ≡ xs ++ rest)

module _ (after : ℕ → List ℕ → Entry → List ℕ) where
  -- the states after a history, from those before it
  abbrev pub states : (ℕ → List ℕ) → List Entry → ℕ → List ℕ
  states s [] = s
  states s (e ∷ es) = states (λ k. after k (s k) e) es

  module _ (fits : (ℕ → List ℕ) → Entry → Type 0) where
    -- each entry fits the states after those before it
    abbrev pub Legal : (ℕ → List ℕ) → List Entry → Type 0
    Legal s [] = Unit {0}
    Legal s (e ∷ es) = fits s e × Legal (λ k. after k (s k) e) es

module _ {V : Type 0} (M : Meaning V) where
  -- the state of a slot after an opening and a history
  abbrev pub state_of : List ℕ → List Entry → ℕ → List ℕ
  state_of o h = states (M.after o) (M.start o) h

  -- the opening is legal, and so is the history behind it
  abbrev pub LegalOver : List ℕ → List Entry → Type 0
  LegalOver o h = M.legal o × Legal (M.after o) (M.fits o) (M.start o) h
