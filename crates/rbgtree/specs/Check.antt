-- What `check` does: the plan of a configuration, the samples of each source, one start of each, and what is printed of them.
-- SP 800-90B 4.3 for a start; else this project's own.
use Rattle.std.specs.Prelude.{◌≡◌, ◌<◌, ℕ, ◌==◌, if◌then◌else◌, List, [], ◌∷◌, ◌++◌, length, take, map, flat_map, slice_get, Option, Some, None, Result, Ok, Err}
use Rattle.std.specs.Io.KnownBytes.{Appends}
use Rattle.rbg_bytes.specs.Streams.{Rose, AppendsFront}
use Rattle.health_tests.specs.Numbers.{no_tail}
use Rattle.entropy_source.specs.Views.{SourceView, opened_view, HasStarted}
use Rattle.tree_rules.specs.Slots.{source_row_of}
use Rattle.entropy_source.specs.declared.answers.SourceRefusal.{SourceRefusal}
use Rattle.tree_config.specs.Tree.{Tree, Plan}
use Rattle.tree_config.specs.declared.plan.SourcePlan.{SourcePlan}
use Rattle.rbgtree.specs.Files.{Entries, IsWholeFile}
use Rattle.rbgtree.specs.Recordings.{Recording, Recordings, recording_of, TakesOut}
use Rattle.rbgtree.specs.Printed.{source_line, source_text, node_lines}
use Rattle.rbgtree.specs.declared.check.NotOpened.{NotOpened}
use Rattle.rbgtree.specs.declared.check.NotOpened.TheVariants.{Fault, OutOfMemory}
use Rattle.rbgtree.specs.declared.printed.SourceLine.{SourceLine}
use Rattle.rbgtree.specs.declared.status.Status.{Status}
use Rattle.rbgtree.specs.declared.status.Status.TheVariants.{Done, Config, Memory, WriteFault, OpenFault, SourceRefused}

-- where the recordings are told, that of the name was opened, and is gone
abbrev pub OpensOne : Option Recordings → Option Recordings → List ℕ → Recording → Type 0
OpensOne None now name opened = now ≡ None
OpensOne (Some before) now name opened = (rest : Recordings) × (now ≡ Some rest) × TakesOut before name opened rest

-- the recordings of these names were opened one after another
abbrev pub OpensAll : Option Recordings → Option Recordings → List (List ℕ) → List Recording → Type 0
OpensAll before now [] [] = now ≡ before
OpensAll before now (name ∷ names) (opened ∷ more) =
    (between : Option Recordings) × OpensOne before between name opened × OpensAll between now names more
OpensAll before now _ _ = ⊥

-- the names of a plan's samples, source by source
abbrev pub sample_names : List SourcePlan → List (List ℕ)
sample_names sources = map (λ (source : SourcePlan). source.samples) sources

-- Samples were not all opened: those of the first sources were, and those of the next one could not be; or, for want of memory,
-- none were.
abbrev pub HasNotOpened : {S : Type 0} → (S → Option (List ℕ)) → (S → ℕ) → List SourcePlan → Option Recordings → Option Recordings → NotOpened → Type 0
HasNotOpened {S} told faults sources before now Fault = (opened : List S) × (length opened < length sources)
    × OpensAll before now (take (length opened) (sample_names sources)) (map (recording_of told faults) opened)
HasNotOpened told faults sources before now OutOfMemory = now ≡ before

-- how the program ends where a file could not be read or samples could not be opened, with the world's count of faults
abbrev pub status_without : NotOpened → ℕ → Status
status_without Fault count = OpenFault count
status_without OutOfMemory count = Memory

-- the world's count rose where samples could not be opened, and is as it was otherwise
abbrev pub HasOpenCause : {T : Type 0} → ℕ → ℕ → Result T NotOpened → Type 0
HasOpenCause before now (Err Fault) = Rose before now
HasOpenCause before now result = now ≡ before

-- One start of source j, over these samples, and what is printed of it. The source, and with it the count of faults of its samples,
-- is then as the acts of the start leave it.
pub record IsTried {S : Type 0} (told : S → Option (List ℕ)) (faults : S → ℕ) (reads : S → ℕ → Option (List ℕ) → S → Type 0) (j : ℕ) (plan : SourcePlan) (samples : S) (after : SourceView S) (line : SourceLine) : Type 0 where
  pub result : Result (Unit {0}) SourceRefusal
  pub started : HasStarted told faults reads result (opened_view (source_row_of plan) no_tail samples) after
  pub printed : line ≡ source_line j plan after.taken result

-- One start of each of the first n sources. What is read of the samples later is not said.
abbrev pub AreTriedUpTo : {S : Type 0} → (S → Option (List ℕ)) → (S → ℕ) → (S → ℕ → Option (List ℕ) → S → Type 0) → ℕ → List SourcePlan → List S → List SourceLine → Type 0
AreTriedUpTo {S} told faults reads n plans opened lines =
    (j : ℕ) (plan : SourcePlan) (samples : S) (line : SourceLine) → j < n
    → slice_get plans j ≡ Some plan → slice_get opened j ≡ Some samples → slice_get lines j ≡ Some line → (after : SourceView S) × IsTried told faults reads j plan samples after line

-- one start of each source
pub record AreTried {S : Type 0} (told : S → Option (List ℕ)) (faults : S → ℕ) (reads : S → ℕ → Option (List ℕ) → S → Type 0) (plans : List SourcePlan) (opened : List S) (lines : List SourceLine) : Type 0 where
  pub samples : length opened ≡ length plans
  pub count : length lines ≡ length plans
  pub each : AreTriedUpTo told faults reads (length plans) plans opened lines

-- the least source whose start was refused
abbrev pub first_refused : List SourceLine → Option ℕ
first_refused [] = None
first_refused (line ∷ lines) = if line.answer.code == 0 then first_refused lines else Some line.number

-- all that is printed: a line of each source and of each node, in order
abbrev pub printed : Tree → List SourceLine → List ℕ
printed tree lines = flat_map source_text lines ++ node_lines tree

-- the plan is that of the file of this name, where the files are told
abbrev pub IsPlanOf : Option Entries → List ℕ → Tree → Type 0
IsPlanOf files name tree = (text : List ℕ) × IsWholeFile files name text × Plan text (Ok tree)

-- how the program ends without a plan: with the fault of the file of this name, where the files are told, for want of memory, or
-- because the file could not be read
abbrev pub HasNoPlan : Option Entries → List ℕ → Status → Type 0
HasNoPlan files name (Config fault) = (text : List ℕ) × IsWholeFile files name text × Plan text (Err fault)
HasNoPlan files name Memory = Unit {0}
HasNoPlan files name (OpenFault count) = Unit {0}
HasNoPlan files name status = ⊥

-- the samples of a plan's sources were opened, and there is one start of each source
pub record HasTried {S : Type 0} (told : S → Option (List ℕ)) (faults : S → ℕ) (reads : S → ℕ → Option (List ℕ) → S → Type 0) (tree : Tree) (before now : Option Recordings) (lines : List SourceLine) : Type 0 where
  pub opened : List S
  pub opens : OpensAll before now (sample_names tree.sources) (map (recording_of told faults) opened)
  pub tried : AreTried told faults reads tree.sources opened lines

-- what became of a plan, by the status: where samples could not be opened, those of the sources before are gone, and nothing is
-- printed; after a failed write a front of the lines is
abbrev pub HasChecked : {S : Type 0} → (S → Option (List ℕ)) → (S → ℕ) → (S → ℕ → Option (List ℕ) → S → Type 0) → Tree → Option Recordings → Option Recordings → Option (List ℕ) → Option (List ℕ) → Status → Type 0
HasChecked told faults reads tree before now out_before out_now Memory = HasNotOpened told faults tree.sources before now OutOfMemory × (out_now ≡ out_before)
HasChecked told faults reads tree before now out_before out_now (OpenFault count) = HasNotOpened told faults tree.sources before now Fault × (out_now ≡ out_before)
HasChecked told faults reads tree before now out_before out_now Done =
    (lines : List SourceLine) × HasTried told faults reads tree before now lines × (first_refused lines ≡ None) × Appends out_before out_now (printed tree lines)
HasChecked told faults reads tree before now out_before out_now (SourceRefused source) =
    (lines : List SourceLine) × HasTried told faults reads tree before now lines × (first_refused lines ≡ Some source) × Appends out_before out_now (printed tree lines)
HasChecked told faults reads tree before now out_before out_now (WriteFault count) =
    (lines : List SourceLine) × HasTried told faults reads tree before now lines × AppendsFront out_before out_now (printed tree lines)
HasChecked told faults reads tree before now out_before out_now status = ⊥

-- the world's count rose where the file could not be read, and is as it was otherwise
abbrev pub HasPlanCause : {T : Type 0} → ℕ → ℕ → Result T Status → Type 0
HasPlanCause before now (Err (OpenFault count)) = Rose before now × (count ≡ now)
HasPlanCause before now result = now ≡ before

-- the count of the world or of the output rose where samples could not be opened or a write failed; else none grew
abbrev pub HasCheckCause : ℕ → ℕ → ℕ → ℕ → Status → Type 0
HasCheckCause world_before world_now out_before out_now (OpenFault count) =
    Rose world_before world_now × (count ≡ world_now) × (out_now ≡ out_before)
HasCheckCause world_before world_now out_before out_now (WriteFault count) =
    Rose out_before out_now × (count ≡ out_now) × (world_now ≡ world_before)
HasCheckCause world_before world_now out_before out_now status = (world_now ≡ world_before) × (out_now ≡ out_before)
