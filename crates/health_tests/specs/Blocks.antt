-- Blocks of samples that go past both tests at once, and the numbers after them.
-- This project's own.
use Rattle.std.specs.Prelude.{◌≡◌, ◌≢◌, ◌<◌, ◌≤◌, ℕ, ◌+◌, List, [], ◌∷◌, length, slice_index, ⊤}
use Rattle.health_tests.specs.declared.numbers.Tail.{Tail}
use Rattle.health_tests.specs.Cutoffs.{Limits}

-- each sample differs from the one before it and from a certain one
abbrev pub AllDiffer : ℕ → ℕ → List ℕ → Type 0
AllDiffer before certain [] = ⊤
AllDiffer before certain (s ∷ more) = (s ≢ before) × (s ≢ certain) × AllDiffer s certain more

-- within a window, sixteen such samples lead from these numbers to those; a run of one is below the cutoff
pub record GoesPast (c : Limits) (t : Tail) (x : List ℕ) (n : Tail) : Type 0 where
  pub single : 2 ≤ c.rct
  pub long : length x ≡ 16
  pub begun : 0 < t.place
  pub within : t.place + 16 < c.window
  pub differ : AllDiffer t.last t.first x
  pub numbers : n ≡ record { run = 1; place = t.place + 16; equal = t.equal; last = slice_index x 15; first = t.first }
