-- The words of each command.
-- This project's own.
use Rattle.std.specs.Prelude.{◌≡◌, ◌≤◌, ◌<◌, ◌^◌, ℕ, List, [], ◌∷◌, codes, decimal}
use Rattle.vector_text.specs.declared.case.Family.{Family}
use Rattle.vector_text.specs.declared.case.Family.TheVariants.{Hmac, Ctr}
use Rattle.rbgtree.specs.declared.load.Load.{Load}
use Rattle.rbgtree.specs.declared.top.Command.{Command}
use Rattle.rbgtree.specs.declared.top.Command.TheVariants as commands

-- `seed` and the name of a file
abbrev pub IsSeedCommand : List (List ℕ) → List ℕ → Type 0
IsSeedCommand words name = words ≡ codes "seed" ∷ name ∷ []

-- `answer` and the name of a file
abbrev pub IsAnswerCommand : List (List ℕ) → List ℕ → Type 0
IsAnswerCommand words name = words ≡ codes "answer" ∷ name ∷ []

-- `check` and the name of a file
abbrev pub IsCheckCommand : List (List ℕ) → List ℕ → Type 0
IsCheckCommand words name = words ≡ codes "check" ∷ name ∷ []

-- `load`, the name of a file, and two numbers in decimal digits, without a sign and without leading zeros: how many calls, at most
-- 10,000,000, and the seed
pub record IsLoadCommand (words : List (List ℕ)) (name : List ℕ) (load : Load) : Type 0 where
  pub words_are : words ≡ codes "load" ∷ name ∷ decimal load.count ∷ decimal load.seed ∷ []
  pub count : load.count ≤ 10000000
  pub seed : load.seed < 2 ^ 64

-- the word for a family
abbrev pub family_word : Family → List ℕ
family_word Hmac = codes "hmac"
family_word Ctr = codes "ctr"

-- `replay`, a family and the name of a file
abbrev pub IsReplayCommand : List (List ℕ) → Family → List ℕ → Type 0
IsReplayCommand words family name = words ≡ codes "replay" ∷ family_word family ∷ name ∷ []

-- the words are this command
abbrev pub IsCommand : List (List ℕ) → Command → Type 0
IsCommand words (commands.Seed name) = IsSeedCommand words name.now
IsCommand words (commands.Answer name) = IsAnswerCommand words name.now
IsCommand words (commands.Check name) = IsCheckCommand words name.now
IsCommand words (commands.Load name load) = IsLoadCommand words name.now load
IsCommand words (commands.Replay family name) = IsReplayCommand words family name.now

-- the words are no command
pub record IsNoCommand (words : List (List ℕ)) : Type 0 where
  pub seed : (name : List ℕ) → IsSeedCommand words name → ⊥
  pub answer : (name : List ℕ) → IsAnswerCommand words name → ⊥
  pub check : (name : List ℕ) → IsCheckCommand words name → ⊥
  pub load : (name : List ℕ) (load : Load) → IsLoadCommand words name load → ⊥
  pub replay : (family : Family) (name : List ℕ) → IsReplayCommand words family name → ⊥
