-- What is counted on the acts of a node in a row: its seedings and its generates, whether it is instantiated, its reseed counter, and
-- the seed that it keeps.
-- SP 800-90A Rev. 1, 10.1.2.1 and 10.2.1.1 for the reseed counter; the rest is this project's own.
use Rattle.std.specs.Prelude.{ℕ, ◌+◌, List, [], ◌∷◌, Bool, true, false, Option, None}
use Rattle.rbg_nodes.specs.Node.{NodeAct, Seeded, Gave, Cleared}

abbrev pub seedings_of : List NodeAct → ℕ
seedings_of [] = 0
seedings_of (Seeded how material string ∷ acts) = seedings_of acts + 1
seedings_of (_ ∷ acts) = seedings_of acts

abbrev pub generates_of : List NodeAct → ℕ
generates_of [] = 0
generates_of (Gave add len bytes ∷ acts) = generates_of acts + 1
generates_of (_ ∷ acts) = generates_of acts

-- whether the last of the acts Seeded and Cleared is a seeding, or what was before the acts where there is none of them
abbrev pub live_after : Bool → List NodeAct → Bool
live_after before [] = before
live_after before (Seeded how material string ∷ acts) = live_after true acts
live_after before (Cleared ∷ acts) = live_after false acts
live_after before (_ ∷ acts) = live_after before acts

-- one more than the generates since the last seeding, none since the node was uninstantiated, and what was before the acts where
-- there is neither
abbrev pub counter_after : ℕ → List NodeAct → ℕ
counter_after before [] = before
counter_after before (Seeded how material string ∷ acts) = counter_after 1 acts
counter_after before (Gave add len bytes ∷ acts) = counter_after (before + 1) acts
counter_after before (Cleared ∷ acts) = counter_after 0 acts

-- the seed that was kept before the acts, where no seeding is among them
abbrev pub kept_after : Option (List ℕ) → List NodeAct → Option (List ℕ)
kept_after kept [] = kept
kept_after kept (Seeded how material string ∷ acts) = kept_after None acts
kept_after kept (_ ∷ acts) = kept_after kept acts
