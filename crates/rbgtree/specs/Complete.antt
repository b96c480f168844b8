-- When the program ends with its work done: where the words, the files and the input are in order, and nothing fails.
-- This project's own.
use Rattle.std.specs.Prelude.{◌≡◌, ◌≤◌, ◌<◌, ◌⊎◌, ℕ, List, [], length, take, slice_get, Option, Some, None, Ok}
use Rattle.rbg_bytes.specs.Streams.{Rose}
use Rattle.frame_codec.specs.Frames.{Asked, IsScript}
use Rattle.rbg_nodes.specs.Node.{New, seed_len}
use Rattle.rbg_nodes.specs.Views.{row_of}
use Rattle.tree_config.specs.Tree.{Tree, Plan, stock_tree}
use Rattle.tree_config.specs.declared.plan.NodePlan.{NodePlan}
use Rattle.rbgtree.specs.Files.{Entries, IsFile}
use Rattle.rbgtree.specs.Check.{HasTried, first_refused}
use Rattle.vector_text.specs.declared.case.Family.{Family}
use Rattle.vector_text.specs.Feeding.{most_bytes}
use Rattle.vector_replay.specs.declared.totals.Totals.{Totals}
use Rattle.vector_replay.specs.Report.{Counted}
use Rattle.vector_replay.specs.Replaying.{replayed}
use Rattle.rbgtree.specs.Commands.{IsSeedCommand, IsAnswerCommand, IsCheckCommand, IsLoadCommand, IsReplayCommand}
use Rattle.rbgtree.specs.Seeds.{planned_file}
use Rattle.rbgtree.specs.Run.{Outside}
use Rattle.rbgtree.specs.declared.load.Load.{Load}
use Rattle.rbgtree.specs.declared.printed.SourceLine.{SourceLine}
use Rattle.rbgtree.specs.declared.status.Status.{Status}
use Rattle.rbgtree.specs.declared.status.Status.TheVariants.{Done, Memory}

-- no count of faults rose
pub record NoneRose (before now : Outside) : Type 0 where
  pub world : Rose before.world now.world → ⊥
  pub input : Rose before.input now.input → ⊥
  pub output : Rose before.output now.output → ⊥

-- the files are told, and the first of that name has these bytes
abbrev pub IsToldFile : Option Entries → List ℕ → List ℕ → Type 0
IsToldFile None name bytes = ⊥
IsToldFile (Some entries) name bytes = IsFile entries name bytes

-- a node's seed file is told, and has as many bytes as an instantiation takes
abbrev pub HasLongFile : Option Entries → Option (List ℕ) → NodePlan → Type 0
HasLongFile files None plan = Unit {0}
HasLongFile files (Some name) plan = (bytes : List ℕ) × IsToldFile files name bytes × (seed_len (row_of plan) New ≤ length bytes)

-- those of all nodes are
abbrev pub HaveLongFiles : (NodePlan → Option (List ℕ)) → Tree → Option Entries → Type 0
HaveLongFiles file p files = (n : ℕ) (plan : NodePlan) → slice_get p.nodes n ≡ Some plan → HasLongFile files (file plan) plan

-- seed files that are long enough, over an input that is whole frames, fewer than 1,048,576 of them
pub record CanBeServed (file : NodePlan → Option (List ℕ)) (p : Tree) (before : Outside) : Type 0 where
  pub seeds : HaveLongFiles file p before.files
  pub script : List ℕ
  pub input : before.left ≡ Some script
  pub asked : List Asked
  pub frames : IsScript script asked []
  pub few : length asked < 1048576

-- `seed`, with a seed file that is long enough for the stock plan
pub record SeedCanBeServed (words : List (List ℕ)) (before : Outside) : Type 0 where
  pub name : List ℕ
  pub command : IsSeedCommand words name
  pub served : CanBeServed (λ (plan : NodePlan). Some name) stock_tree before

-- `answer`, with a configuration that has no fault, and seed files that are long enough for its plan
pub record AnswerCanBeServed (words : List (List ℕ)) (before : Outside) : Type 0 where
  pub name : List ℕ
  pub command : IsAnswerCommand words name
  pub text : List ℕ
  pub file : IsToldFile before.files name text
  pub tree : Tree
  pub plan : Plan text (Ok tree)
  pub served : CanBeServed planned_file tree before

-- `load`, with a configuration that has no fault, and seed files that are long enough for its plan
pub record LoadCanBeMade (words : List (List ℕ)) (before : Outside) : Type 0 where
  pub name : List ℕ
  pub load : Load
  pub command : IsLoadCommand words name load
  pub text : List ℕ
  pub file : IsToldFile before.files name text
  pub tree : Tree
  pub plan : Plan text (Ok tree)
  pub seeds : HaveLongFiles planned_file tree before.files

-- `check`, with a configuration that has no fault, over samples of which each start is passed
pub record CanBePassed {S : Type 0} (told : S → Option (List ℕ)) (faults : S → ℕ) (reads : S → ℕ → Option (List ℕ) → S → Type 0) (words : List (List ℕ)) (before now : Outside) : Type 0 where
  pub name : List ℕ
  pub command : IsCheckCommand words name
  pub text : List ℕ
  pub file : IsToldFile before.files name text
  pub tree : Tree
  pub plan : Plan text (Ok tree)
  pub passes : (lines : List SourceLine) → HasTried told faults reads tree before.recordings now.recordings lines → first_refused lines ≡ None

-- `replay`, with a text that has no fault, bad lengths included, and of which no case differs
pub record ReplayCanPass (words : List (List ℕ)) (before : Outside) : Type 0 where
  pub family : Family
  pub name : List ℕ
  pub command : IsReplayCommand words family name
  pub text : List ℕ
  pub file : IsToldFile before.files name text
  pub totals : Totals
  pub passes : (replayed family (take most_bytes text)).end ≡ Counted totals
  pub none : totals.differed ≡ 0

-- the work is then done, unless memory is lacking
abbrev pub IsComplete : {S : Type 0} → (S → Option (List ℕ)) → (S → ℕ) → (S → ℕ → Option (List ℕ) → S → Type 0) → List (List ℕ) → Outside → Outside → Status → Type 0
IsComplete told faults reads words before now status =
    NoneRose before now → SeedCanBeServed words before ⊎ AnswerCanBeServed words before ⊎ CanBePassed told faults reads words before now ⊎ LoadCanBeMade words before ⊎ ReplayCanPass words before → (status ≡ Done) ⊎ (status ≡ Memory)
