-- What many draws on a source come to.
-- This project's own; SP 800-90B 3.1.5 for the conditioned blocks that a draw gives.
use Rattle.std.specs.Prelude.{◌≡◌, ℕ, zero, suc, List, [], ◌++◌, Option, None, Ok, ⊤}
use Rattle.sha2.specs.Sha256.{sha256}
use Rattle.entropy_source.specs.Views.{SourceView, HasDrawn}
use Rattle.entropy_source.specs.declared.answers.Range.{Range}
use Rattle.tree_config.specs.Tree.{Tree}
use Rattle.tree_rules.specs.Slots.{source_row}
use Rattle.rbg_bench.specs.declared.outcome.Outcome.{Outcome}
use Rattle.rbg_bench.specs.declared.ramp.Ramp.{Ramp}

-- so many draws of n bytes, one after another and none of them refused, lead from one state of the source to another and give these bytes
unfoldable pub Give : {S : Type 0} → (S → Option (List ℕ)) → (S → ℕ) → (S → ℕ → Option (List ℕ) → S → Type 0) → ℕ → ℕ → SourceView S → SourceView S → List ℕ → Type 0
Give told faults reads n zero before now bytes = (now ≡ before) × (bytes ≡ [])
Give {S = S} told faults reads n (suc times) before now bytes =
    (between : SourceView S) × (front : List ℕ) × (last : List ℕ) × (range : Range) × Give told faults reads n times before between front
    × HasDrawn told faults reads n last (Ok range) between now × (bytes ≡ front ++ last)

-- so many draws were made, and the outcome counts them and is the SHA-256 of their bytes
pub record HaveGiven {S : Type 0} (told : S → Option (List ℕ)) (faults : S → ℕ) (reads : S → ℕ → Option (List ℕ) → S → Type 0) (n times : ℕ)
    (before now : SourceView S) (outcome : Outcome) : Type 0 where
  pub bytes : List ℕ
  pub give : Give told faults reads n times before now bytes
  pub done : outcome.done ≡ times
  pub digest : outcome.digest ≡ sha256 bytes

-- the same on source 0 of a plan, over samples that count up
pub record DrewOn (p : Tree) (n times : ℕ) (outcome : Outcome) : Type 0 where
  pub before : SourceView Ramp
  pub now : SourceView Ramp
  pub row : before.row ≡ source_row p 0
  pub given : HaveGiven (λ (r : Ramp). None) (λ (r : Ramp). 0) (λ (r : Ramp) (asked : ℕ) (got : Option (List ℕ)) (later : Ramp). ⊤) n times before now outcome
