-- Reads that follow one another.
use Rattle.std.proofs.Common.{ℕ, List, [], ◌∷◌, ◌++◌, sym, subst}
use Rattle.std.specs.Prelude.{Option}
use Rattle.entropy_source.specs.Source.{SourceAct, Began, Read, Alarmed, Started, Block}
use Rattle.entropy_source.specs.Reads.{LeadBy}

-- reads that lead from samples to samples, and others that lead on from there
pub lead_on : {S : Type 0} (reads : S → ℕ → Option (List ℕ) → S → Type 0) (faults : S → ℕ) (a b c : S) (xs ys : List SourceAct)
    → LeadBy reads faults a xs b → LeadBy reads faults b ys c → LeadBy reads faults a (xs ++ ys) c
lead_on reads faults a b c [] ys first second = subst (λ z. LeadBy reads faults z ys c) (sym first) second
lead_on reads faults a b c (Read asked got count ∷ xs) ys (next, one, is, first) second = (next, one, is, lead_on reads faults next b c xs ys first second)
lead_on reads faults a b c (Began ∷ xs) ys first second = lead_on reads faults a b c xs ys first second
lead_on reads faults a b c (Alarmed index test ∷ xs) ys first second = lead_on reads faults a b c xs ys first second
lead_on reads faults a b c (Started ∷ xs) ys first second = lead_on reads faults a b c xs ys first second
lead_on reads faults a b c (Block from to bytes ∷ xs) ys first second = lead_on reads faults a b c xs ys first second
