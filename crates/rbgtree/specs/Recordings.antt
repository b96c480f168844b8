-- The samples that a world tells, and what their opening gives and leaves.
-- This project's own.
use Rattle.std.specs.Prelude.{◌≡◌, ◌≢◌, ◌⊎◌, ℕ, List, [], ◌∷◌, Result, MatchResult}
use Rattle.std.specs.declared.option.Option.{Option}
use Rattle.std.specs.declared.option.Option.TheVariants.{None, Some}

-- what is to be had of samples: those to come, where they are told, and how often they have failed
pub record Recording : Type 0 where
  pub told : Option (List ℕ)
  pub faults : ℕ

-- samples as a recording, by what they tell and by their count of faults
abbrev pub recording_of : {S : Type 0} → (S → Option (List ℕ)) → (S → ℕ) → S → Recording
recording_of told faults samples = record { told = told samples; faults = faults samples }

-- names, each with a recording
abbrev pub Recordings : Type 0
Recordings = List (List ℕ × Recording)

-- the first entry of that name is this one, and the other entries are left
abbrev pub TakesOut : {X : Type 0} → List (List ℕ × X) → List ℕ → X → List (List ℕ × X) → Type 0
TakesOut [] name x rest = ⊥
TakesOut {X} (entry ∷ entries) name x rest =
    ((entry.0 ≡ name) × (entry.1 ≡ x) × (rest ≡ entries))
    ⊎ ((entry.0 ≢ name) × ((later : List (List ℕ × X)) × (rest ≡ entry ∷ later) × TakesOut entries name x later))

-- where the recordings are told, those of the first entry of that name were given and are gone; after a failure all are there
abbrev pub OpensSamples : {S E : Type 0} → (S → Option (List ℕ)) → (S → ℕ) → Option Recordings → Option Recordings → List ℕ → Result S E → Type 0
OpensSamples told faults None now name result = now ≡ None
OpensSamples told faults (Some before) now name result = MatchResult result
    (λ samples. (rest : Recordings) × (now ≡ Some rest) × TakesOut before name (recording_of told faults samples) rest)
    (λ _. now ≡ Some before)
