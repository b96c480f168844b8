-- How the reads among a source's acts lead from samples to samples.
-- This project's own.
use Rattle.std.specs.Prelude.{◌≡◌, ℕ, List, [], ◌∷◌, Option}
use Rattle.entropy_source.specs.Source.{SourceAct, Read}

-- The reads among the acts are all reads that were made from the first samples to the last, in order: each leads from the samples
-- before it to those after it, as `reads` says by how many it asked for and by what it gave, and its count is that of the faults
-- afterwards.
abbrev pub LeadBy : {S : Type 0} → (S → ℕ → Option (List ℕ) → S → Type 0) → (S → ℕ) → S → List SourceAct → S → Type 0
LeadBy reads faults before [] after = before ≡ after
LeadBy {S = S} reads faults before (Read asked got count ∷ acts) after =
    (next : S) × reads before asked got next × (count ≡ faults next) × LeadBy reads faults next acts after
LeadBy reads faults before (_ ∷ acts) after = LeadBy reads faults before acts after
