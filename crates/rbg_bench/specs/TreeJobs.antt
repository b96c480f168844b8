-- What words ask of a tree, and which numbers they may hold.
-- This project's own.
use Rattle.std.specs.Prelude.{◌≡◌, ◌≤◌, ℕ, Bool, true, false, List, [], ◌∷◌, codes}
use Rattle.rbg_bench.specs.Words.{Writes}
use Rattle.rbg_bench.specs.declared.tree_job.TreeJob.{TreeJob}
use Rattle.rbg_bench.specs.declared.tree_job.TreeJob.TheVariants.{Calls, Draws}

-- the word for calls without prediction resistance, and with it
abbrev pub calls_name : Bool → List ℕ
calls_name false = codes "calls"
calls_name true = codes "calls-pr"

-- the words ask for this work
abbrev pub AsksTree : List (List ℕ) → TreeJob → Type 0
AsksTree (word ∷ node ∷ bytes ∷ times ∷ []) (Calls n b pr t) = (word ≡ calls_name pr) × Writes node n × Writes bytes b × Writes times t
AsksTree (word ∷ bytes ∷ times ∷ []) (Draws b t) = (word ≡ codes "draws") × Writes bytes b × Writes times t
AsksTree _ job = ⊥

-- its numbers are those that are served
abbrev pub IsServed : TreeJob → Type 0
IsServed (Calls n b pr t) = (n ≤ 62) × (b ≤ 65536) × (1 ≤ t) × (t ≤ 1000000)
IsServed (Draws b t) = (1 ≤ b) × (b ≤ 4096) × (1 ≤ t) × (t ≤ 1000000)
