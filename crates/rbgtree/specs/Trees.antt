-- What becomes of a plan: the samples that it names are opened, and a tree over them and over its seeds.
-- This project's own.
use Rattle.std.specs.Prelude.{◌≡◌, ◌⊎◌, ℕ, List, [], length, map, Option}
use Rattle.tree_config.specs.Tree.{Tree}
use Rattle.tree_config.specs.declared.plan.NodePlan.{NodePlan}
use Rattle.tree_rules.specs.History.{Act, Entry, Opening, acts_of}
use Rattle.tree_rules.specs.Openings.{IsOpening}
use Rattle.tree_core.specs.Made.{AreReads, samples_in}
use Rattle.tree_core.specs.Solo.{AreLong, IsCause, SoloView, StandAfter}
use Rattle.tree_core.specs.declared.refusal.OpenRefusal.TheVariants as refusals
use Rattle.rbgtree.specs.Files.{Entries}
use Rattle.rbgtree.specs.Recordings.{Recording, Recordings, recording_of}
use Rattle.rbgtree.specs.Check.{HasNotOpened, OpensAll, sample_names}
use Rattle.rbgtree.specs.Seeds.{AreSeeds, IsOver}
use Rattle.rbgtree.specs.declared.check.NotOpened.{NotOpened}
use Rattle.rbgtree.specs.declared.check.NotOpened.TheVariants.{Fault, OutOfMemory}
use Rattle.rbgtree.specs.declared.status.Status.{Status}
use Rattle.rbgtree.specs.declared.status.Status.TheVariants.{Memory, OpenFault, SeedShort}

-- The reads among these acts are exactly those that were made of the samples of a plan's sources, from these to those, one for each source,
-- also where they tell nothing.
pub record AreAllReads {S : Type 0} (faults : S → ℕ) (reads : S → ℕ → Option (List ℕ) → S → Type 0) (p : Tree) (before after : List S) (acts : List Act) : Type 0 where
  pub count : length before ≡ length p.sources
  pub count_after : length after ≡ length p.sources
  pub made : AreReads reads faults p before after acts

-- A tree of the plan was opened over these seeds and over the samples that the plan names, which its opening calls left as these. The reads
-- among their acts are exactly those that were made.
pub record IsOpened {S : Type 0} (told : S → Option (List ℕ)) (faults : S → ℕ) (reads : S → ℕ → Option (List ℕ) → S → Type 0) (p : Tree) (seeds : List (List ℕ)) (before now : Option Recordings)
    (left : List S) : Type 0 where
  pub f : Opening
  pub o : List Entry
  pub over : IsOver before now p seeds f
  pub opening : IsOpening f o
  pub samples : List S
  pub recorded : over.opened ≡ map (recording_of told faults) samples
  pub made : AreAllReads faults reads p samples left (acts_of o)

-- a tree that was opened so, and stands after its opening calls
pub record OpensTree {S : Type 0} (told : S → Option (List ℕ)) (faults : S → ℕ) (reads : S → ℕ → Option (List ℕ) → S → Type 0) (p : Tree) (seeds : List (List ℕ)) (before now : Option Recordings)
    (t : SoloView S) : Type 0 where
  pub opened : IsOpened told faults reads p seeds before now (samples_in t.sources)
  pub plan : opened.f.plan ≡ t.plan
  pub stand : StandAfter told faults opened.f opened.o [] t.nodes t.sources
  pub calls : t.calls ≡ 0

-- the samples that the plan names were opened one after another
abbrev pub HasOpened : Tree → Option Recordings → Option Recordings → Type 0
HasOpened p before now = (opened : List Recording) × OpensAll before now (sample_names p.sources) opened

-- what became of the samples where no tree was opened: those of the first sources were opened and those of the next one could not be;
-- or, for want of memory, all were, or none
abbrev pub HasNoTree : {S : Type 0} → (S → Option (List ℕ)) → (S → ℕ) → Tree → Option Recordings → Option Recordings → NotOpened → Type 0
HasNoTree told faults p before now Fault = HasNotOpened told faults p.sources before now Fault
HasNoTree told faults p before now OutOfMemory = (now ≡ before) ⊎ HasOpened p before now

-- how the program ends where the seed of a node, the least such one, is too short
abbrev pub IsShort : Tree → List (List ℕ) → Status → Type 0
IsShort p seeds (SeedShort node have need) = IsCause p seeds (refusals.SeedShort node have need)
IsShort p seeds status = ⊥

-- How the program ended over a plan and a seed for each node, by the status: no samples are opened where a seed is too short, of which the
-- least node is told. `Idle` says that no work was begun, and `Did` by each other status what was done.
abbrev pub EndedOver : {S : Type 0} → (S → Option (List ℕ)) → (S → ℕ) → Tree → List (List ℕ) → Option Recordings → Option Recordings → Type 0 → (Status → Type 0) → Status → Type 0
EndedOver told faults p seeds before now Idle Did Memory = Idle × HasNoTree told faults p before now OutOfMemory
EndedOver told faults p seeds before now Idle Did (OpenFault count) = Idle × AreLong p seeds (length p.nodes) × HasNoTree told faults p before now Fault
EndedOver told faults p seeds before now Idle Did (SeedShort node have need) = Idle × (now ≡ before) × IsShort p seeds (SeedShort node have need)
EndedOver told faults p seeds before now Idle Did status = Did status

-- how the program ends without seeds: for want of memory, or because a seed file could not be read
abbrev pub HasNoSeeds : Status → Type 0
HasNoSeeds Memory = Unit {0}
HasNoSeeds (OpenFault count) = Unit {0}
HasNoSeeds status = ⊥

-- how the program ended over a plan whose nodes have their seeds from these files: all seed files are read first
abbrev pub EndedFrom : {S : Type 0} → (S → Option (List ℕ)) → (S → ℕ) → Option Entries → (NodePlan → Option (List ℕ)) → Tree → Option Recordings → Option Recordings → Type 0
    → (List (List ℕ) → Status → Type 0) → Status → Type 0
EndedFrom told faults files file p before now Idle Did status =
    (HasNoSeeds status × (now ≡ before) × Idle)
    ⊎ ((seeds : List (List ℕ)) × AreSeeds files file p.nodes seeds × EndedOver told faults p seeds before now Idle (Did seeds) status)
