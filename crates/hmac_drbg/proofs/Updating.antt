-- How the parts of a text are joined, and what the update leaves.
use Rattle.std.proofs.Common.{◌≡◌, ℕ, ◌∷◌, List, [], ◌++◌, append_assoc}
use Rattle.hmac_core.proofs.Lengths.{length-hmac}
use Rattle.hmac_drbg.proofs.Updates.{update-none, update-some, with_additional-none, with_additional-some}

pub regroup : (value : List ℕ) (mark : ℕ) (first second third : List ℕ) →
    value ++ mark ∷ [] ++ first ++ second ++ third ≡ value ++ mark ∷ (first ++ second ++ third)
regroup value mark first second third = simp append_assoc

pub ruleset halving = (regroup, length-hmac)

pub ruleset updating = (update-none, update-some)

pub ruleset absorbing = (with_additional-none, with_additional-some)
