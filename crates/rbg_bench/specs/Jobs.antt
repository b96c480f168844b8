-- What words ask for, and which numbers they may hold.
-- This project's own.
use Rattle.std.specs.Prelude.{◌≡◌, ◌≤◌, ℕ, List, [], ◌∷◌, codes}
use Rattle.rbg_bench.specs.declared.job.Job.{Job}
use Rattle.rbg_bench.specs.declared.job.Job.TheVariants.{Generates, Reseeds, Repeats, Tests}
use Rattle.rbg_bench.specs.Words.{mechanism_name, primitive_name, form_name, Writes}

-- two words: a name and a number
abbrev pub AreNameAndNumber : List (List ℕ) → List ℕ → ℕ → Type 0
AreNameAndNumber (word ∷ times ∷ []) name t = (word ≡ name) × Writes times t
AreNameAndNumber _ name t = ⊥

-- three words: a name and two numbers
abbrev pub AreNameAndNumbers : List (List ℕ) → List ℕ → ℕ → ℕ → Type 0
AreNameAndNumbers (word ∷ size ∷ times ∷ []) name s t = (word ≡ name) × Writes size s × Writes times t
AreNameAndNumbers _ name s t = ⊥

-- four words: a first one, a name and two numbers
abbrev pub AreWordNameAndNumbers : List (List ℕ) → List ℕ → List ℕ → ℕ → ℕ → Type 0
AreWordNameAndNumbers (word ∷ words) first name s t = (word ≡ first) × AreNameAndNumbers words name s t
AreWordNameAndNumbers _ first name s t = ⊥

-- the words ask for this job
abbrev pub AsksFor : List (List ℕ) → Job → Type 0
AsksFor words (Generates mechanism bytes times) = AreNameAndNumbers words (mechanism_name mechanism) bytes times
AsksFor words (Reseeds mechanism bytes times) = AreWordNameAndNumbers words (codes "reseeded") (mechanism_name mechanism) bytes times
AsksFor words (Repeats primitive times) = AreNameAndNumber words (primitive_name primitive) times
AsksFor words (Tests form samples times) = AreNameAndNumbers words (form_name form) samples times

-- its numbers are those that are served
abbrev pub IsInRange : Job → Type 0
IsInRange (Generates mechanism bytes times) = (bytes ≤ 65536) × (1 ≤ times) × (times ≤ 1000000)
IsInRange (Reseeds mechanism bytes times) = (bytes ≤ 65536) × (1 ≤ times) × (times ≤ 1000000)
IsInRange (Repeats primitive times) = (1 ≤ times) × (times ≤ 100000000)
IsInRange (Tests form samples times) = (1 ≤ samples) × (samples ≤ 16777216) × (1 ≤ times) × (times ≤ 1000000)
