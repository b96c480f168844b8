-- Texts in a row and what comes of the next, over any values X that are served, each with its text.
-- This project's own.
use Rattle.std.specs.Prelude.{◌≡◌, ◌≢◌, ℕ, List, [], ◌++◌, flat_map}
use Rattle.std.specs.List.{AllByRecursion}

-- b is a proper prefix of some text, perhaps empty
abbrev pub IsPartOf : {X : Type 0} → (X → List ℕ) → (X → Type 0) → List ℕ → Type 0
IsPartOf {X} text Served b = (x : X) × (more : List ℕ) × (more ≢ []) × Served x × (b ++ more ≡ text x)

-- no text begins with b
abbrev pub BeginsNoneOf : {X : Type 0} → (X → List ℕ) → (X → Type 0) → List ℕ → Type 0
BeginsNoneOf {X} text Served b = (x : X) (more : List ℕ) → Served x → b ++ more ≡ text x → ⊥

-- b is the texts in a row and then a part of a text
pub record Splits {X : Type 0} (text : X → List ℕ) (Served : X → Type 0) (b : List ℕ) (xs : List X) (rest : List ℕ) : Type 0 where
  pub served : AllByRecursion Served xs
  pub bytes : b ≡ flat_map text xs ++ rest
  pub part : IsPartOf text Served rest
