-- What the program does, by the status that it ends with, and what each status rests on.
-- This project's own.
use Rattle.std.specs.Prelude.{◌≡◌, ◌⊎◌, ℕ, List, [], Some}
use Rattle.std.specs.declared.option.Option.{Option}
use Rattle.rbg_bytes.specs.Streams.{Rose}
use Rattle.tree_config.specs.Tree.{Tree, stock_tree}
use Rattle.tree_config.specs.declared.plan.NodePlan.{NodePlan}
use Rattle.tree_rules.specs.History.{Entry, Opening, acts_of}
use Rattle.session_core.specs.Answers.{Answered, AreRight, entries_of}
use Rattle.session_core.specs.Session.{IsHeld}
use Rattle.session_core.specs.declared.end.End.{End}
use Rattle.rbgtree.specs.Files.{Entries}
use Rattle.rbgtree.specs.Recordings.{Recordings}
use Rattle.rbgtree.specs.Check.{IsPlanOf, HasNoPlan, HasChecked}
use Rattle.rbgtree.specs.Commands.{IsSeedCommand, IsAnswerCommand, IsCheckCommand, IsLoadCommand, IsReplayCommand, IsNoCommand}
use Rattle.rbgtree.specs.Seeds.{planned_file}
use Rattle.rbgtree.specs.Replay.{Replays}
use Rattle.vector_text.specs.declared.case.Family.{Family}
use Rattle.rbgtree.specs.Statuses.{status_of}
use Rattle.rbgtree.specs.Trees.{AreAllReads, EndedFrom, EndedOver, IsOpened}
use Rattle.rbgtree.specs.Load.{LoadedPlan}
use Rattle.rbgtree.specs.declared.load.Load.{Load}
use Rattle.rbgtree.specs.declared.status.Status.{Status}
use Rattle.rbgtree.specs.declared.status.Status.TheVariants.{Usage, ReadFault, WriteFault, OpenFault}

-- what is told of the world, the input and the output at a moment, and their counts of faults
pub record Outside : Type 0 where
  pub files : Option Entries
  pub recordings : Option Recordings
  pub left : Option (List ℕ)
  pub out : Option (List ℕ)
  pub world : ℕ
  pub input : ℕ
  pub output : ℕ

-- the world, the input and the output at a moment
abbrev pub outside_of : {W I O : Type 0} → (W → Option Entries) → (W → Option Recordings) → (W → ℕ) → (I → Option (List ℕ)) → (I → ℕ)
    → (O → Option (List ℕ)) → (O → ℕ) → W → I → O → Outside
outside_of files recordings world_faults left input_faults out output_faults world input output = record {
  files = files world;
  recordings = recordings world;
  left = left input;
  out = out output;
  world = world_faults world;
  input = input_faults input;
  output = output_faults output;
}

-- nothing was read from the input, and nothing was written
pub record IsUntouched (before now : Outside) : Type 0 where
  pub left : now.left ≡ before.left
  pub out : now.out ≡ before.out

-- the entries of requests are right behind the opening calls o, by caller 1, and the reads among all their acts are those that were made,
-- from these samples on
pub record AreServed {S : Type 0} (faults : S → ℕ) (reads : S → ℕ → Option (List ℕ) → S → Type 0) (f : Opening) (o : List Entry) (samples : List S) (es : List Answered) : Type 0 where
  pub right : AreRight 1 f o [] es
  pub after : List S
  pub made : AreAllReads faults reads f.plan samples after (acts_of (entries_of es))

-- A tree of the plan was opened over these seeds and over the samples that the plan names, and one session of at most 1,048,576 frames
-- was held on it. Its replies are those of entries by caller 1, one for each frame that was answered, in order, which behind the opening calls
-- make a legal history, use no sample twice and are quiet after alarms. The reads among the acts of the opening calls, and then of these
-- entries, are exactly those that were made of the samples that were opened.
pub record Served {S : Type 0} (told : S → Option (List ℕ)) (faults : S → ℕ) (reads : S → ℕ → Option (List ℕ) → S → Type 0) (p : Tree) (seeds : List (List ℕ)) (before now : Outside)
    (end : End) : Type 0 where
  pub between : List S
  pub tree : IsOpened told faults reads p seeds before.recordings now.recordings between
  pub session : IsHeld (AreServed faults reads tree.f tree.o between) 1048576 end before.left now.left before.out now.out

-- a session was held, and ended so
abbrev pub HasServed : {S : Type 0} → (S → Option (List ℕ)) → (S → ℕ) → (S → ℕ → Option (List ℕ) → S → Type 0) → Tree → Outside → Outside → List (List ℕ) → Status → Type 0
HasServed told faults reads p before now seeds status = (end : End) × (status ≡ status_of end) × Served told faults reads p seeds before now end

-- what was done with a plan and a seed for each node
abbrev pub RanOver : {S : Type 0} → (S → Option (List ℕ)) → (S → ℕ) → (S → ℕ → Option (List ℕ) → S → Type 0) → Tree → List (List ℕ) → Outside → Outside → Status → Type 0
RanOver told faults reads p seeds before now status =
    EndedOver told faults p seeds before.recordings now.recordings (IsUntouched before now) (HasServed told faults reads p before now seeds) status

-- what was done with a plan whose nodes have their seeds from these files
abbrev pub RanPlan : {S : Type 0} → (S → Option (List ℕ)) → (S → ℕ) → (S → ℕ → Option (List ℕ) → S → Type 0) → (NodePlan → Option (List ℕ)) → Tree → Outside → Outside → Status → Type 0
RanPlan told faults reads file p before now status =
    EndedFrom told faults before.files file p before.recordings now.recordings (IsUntouched before now) (HasServed told faults reads p before now) status

-- what `seed` did: the one node of the stock plan has its seed from the file of this name
abbrev pub RanSeed : {S : Type 0} → (S → Option (List ℕ)) → (S → ℕ) → (S → ℕ → Option (List ℕ) → S → Type 0) → List ℕ → Outside → Outside → Status → Type 0
RanSeed told faults reads name before now status = RanPlan told faults reads (λ (plan : NodePlan). Some name) stock_tree before now status

-- what `answer` did: with the plan of the file of this name, or without one
abbrev pub RanAnswer : {S : Type 0} → (S → Option (List ℕ)) → (S → ℕ) → (S → ℕ → Option (List ℕ) → S → Type 0) → List ℕ → Outside → Outside → Status → Type 0
RanAnswer told faults reads name before now status =
    (HasNoPlan before.files name status × (now.recordings ≡ before.recordings) × IsUntouched before now)
    ⊎ ((tree : Tree) × IsPlanOf before.files name tree × RanPlan told faults reads planned_file tree before now status)

-- what `check` did, by the status; it reads nothing from the input
abbrev pub RanCheck : {S : Type 0} → (S → Option (List ℕ)) → (S → ℕ) → (S → ℕ → Option (List ℕ) → S → Type 0) → List ℕ → Outside → Outside → Status → Type 0
RanCheck told faults reads name before now status =
    (now.left ≡ before.left)
    × ((HasNoPlan before.files name status × (now.recordings ≡ before.recordings) × (now.out ≡ before.out))
    ⊎ ((tree : Tree) × IsPlanOf before.files name tree × HasChecked told faults reads tree before.recordings now.recordings before.out now.out status))

-- what `load` did, by the status; it reads nothing from the input
abbrev pub RanLoad : {S : Type 0} → (S → Option (List ℕ)) → (S → ℕ) → (S → ℕ → Option (List ℕ) → S → Type 0) → List ℕ → Load → Outside → Outside → Status → Type 0
RanLoad told faults reads name load before now status =
    (now.left ≡ before.left)
    × ((HasNoPlan before.files name status × (now.recordings ≡ before.recordings) × (now.out ≡ before.out))
    ⊎ ((tree : Tree) × IsPlanOf before.files name tree × LoadedPlan told faults reads before.files tree load before.recordings now.recordings before.out now.out status))

-- what `replay` did, by the status; it reads nothing from the input, and opens no samples
abbrev pub RanReplay : Family → List ℕ → Outside → Outside → Status → Type 0
RanReplay family name before now status =
    (now.left ≡ before.left) × (now.recordings ≡ before.recordings) × Replays before.files family name now.world before.out now.out status

-- what was done, by the words and the status; files stay as they are. The first three arguments say what samples tell, how often
-- they failed, and which reads lead from one value of them to another.
abbrev pub Ran : {S : Type 0} → (S → Option (List ℕ)) → (S → ℕ) → (S → ℕ → Option (List ℕ) → S → Type 0) → List (List ℕ) → Outside → Outside → Status → Type 0
Ran told faults reads words before now status =
    ((name : List ℕ) × IsSeedCommand words name × RanSeed told faults reads name before now status)
    ⊎ ((name : List ℕ) × IsAnswerCommand words name × RanAnswer told faults reads name before now status)
    ⊎ ((name : List ℕ) × IsCheckCommand words name × RanCheck told faults reads name before now status)
    ⊎ ((name : List ℕ) × (load : Load) × IsLoadCommand words name load × RanLoad told faults reads name load before now status)
    ⊎ ((family : Family) × (name : List ℕ) × IsReplayCommand words family name × RanReplay family name before now status)
    ⊎ (IsNoCommand words × (status ≡ Usage) × (now.recordings ≡ before.recordings) × IsUntouched before now)

-- no count of faults grew
pub record IsFaultless (before now : Outside) : Type 0 where
  pub world : now.world ≡ before.world
  pub input : now.input ≡ before.input
  pub output : now.output ≡ before.output

-- A fault of the outside is answered only where its count rose in this call, with that count, and no other count grew. With
-- every other status none grew.
abbrev pub HasStatusCause : Outside → Outside → Status → Type 0
HasStatusCause before now (ReadFault count) =
    Rose before.input now.input × (count ≡ now.input) × (now.world ≡ before.world) × (now.output ≡ before.output)
HasStatusCause before now (WriteFault count) =
    Rose before.output now.output × (count ≡ now.output) × (now.world ≡ before.world) × (now.input ≡ before.input)
HasStatusCause before now (OpenFault count) =
    Rose before.world now.world × (count ≡ now.world) × (now.input ≡ before.input) × (now.output ≡ before.output)
HasStatusCause before now status = IsFaultless before now
