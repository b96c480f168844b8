-- What openings, entries, states and values mean to a machine, and the two laws that it owes.
-- This project's own.
use Rattle.std.specs.Prelude.{◌≡◌, ℕ, List, Bool, true, false}

-- To the table an opening, an entry and the state of a slot are lists of numbers.
pub record Meaning (V : Type 0) : Type 1 where
  -- the opening is legal
  pub legal : List ℕ → Type 0
  -- by an opening, the state of a slot after it
  pub start : List ℕ → ℕ → List ℕ
  -- by an opening, a slot lies on the path of a target
  pub path : List ℕ → ℕ → ℕ → Type 0
  -- the entry touches the slot
  pub touches : List ℕ → ℕ → Bool
  -- by an opening, and by the state of each slot, the entry fits
  pub fits : List ℕ → (ℕ → List ℕ) → List ℕ → Type 0
  -- by an opening, the state of a slot after an entry, from the slot's own state before it
  pub after : List ℕ → ℕ → List ℕ → List ℕ → List ℕ
  -- the value stands for the state
  pub stands : V → List ℕ → Type 0

-- an entry that fits some states fits all states that are the same at the slots that it touches
abbrev pub ReadsTouched : {V : Type 0} → Meaning V → Type 0
ReadsTouched M = (o e : List ℕ) (s t : ℕ → List ℕ) → ((k : ℕ) → M.touches e k ≡ true → s k ≡ t k) → M.fits o s e → M.fits o t e

-- an entry that fits leaves each slot alone that it does not touch
abbrev pub LeavesOthers : {V : Type 0} → Meaning V → Type 0
LeavesOthers M = (o e : List ℕ) (s : ℕ → List ℕ) (k : ℕ) → M.fits o s e → M.touches e k ≡ false → M.after o k (s k) e ≡ s k
