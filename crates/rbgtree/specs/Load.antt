-- What `load` does: calls that a seed states, on a tree, and the lines of what they leave.
-- This project's own.
use Rattle.std.specs.Prelude.{◌≡◌, ◌++◌, ℕ, List, [], length, map, Option, Result}
use Rattle.std.specs.Io.KnownBytes.{Appends}
use Rattle.rbg_bytes.specs.Streams.{AppendsFront, TakesAll}
use Rattle.tree_config.specs.Tree.{Tree}
use Rattle.tree_rules.specs.History.{Entry, Opening, acts_of, opened}
use Rattle.tree_rules.specs.Openings.{IsHistory, states_behind}
use Rattle.tree_rules.specs.Apart.{Apart}
use Rattle.tree_rules.specs.Quiet.{Quiet}
use Rattle.tree_load.specs.Load.{stated_calls}
use Rattle.rbgtree.specs.Files.{Entries}
use Rattle.rbgtree.specs.Recordings.{Recordings}
use Rattle.rbgtree.specs.Seeds.{planned_file}
use Rattle.rbgtree.specs.Trees.{AreAllReads, EndedFrom, EndedOver, IsOpened}
use Rattle.rbgtree.specs.Counts.{load_text}
use Rattle.rbgtree.specs.declared.load.Load.{Load}
use Rattle.rbgtree.specs.declared.status.Status.{Status}
use Rattle.rbgtree.specs.declared.status.Status.TheVariants.{Done, WriteFault}

-- The calls that a load states were made by caller 1 behind the opening calls o, without strings. Their entries, in order, make a legal history,
-- use no sample twice and are quiet after alarms; the reads among their acts are exactly those that were made, from these samples on. The text
-- has the counts that they leave.
pub record AreStated {S : Type 0} (faults : S → ℕ) (reads : S → ℕ → Option (List ℕ) → S → Type 0) (f : Opening) (o : List Entry) (load : Load) (samples : List S) (text : List ℕ) : Type 0 where
  pub es : List Entry
  pub calls : map (λ (e : Entry). e.call) es ≡ stated_calls (length f.plan.nodes) load.seed load.count
  pub callers : map (λ (e : Entry). e.caller) es ≡ map (λ (e : Entry). 1) es
  pub strings : map (λ (e : Entry). e.string) es ≡ map (λ (e : Entry). []) es
  pub history : IsHistory f o es
  pub apart : Apart f.plan (o ++ es)
  pub quiet : Quiet f.plan (opened f) (o ++ es)
  pub after : List S
  pub made : AreAllReads faults reads f.plan samples after (acts_of es)
  pub printed : text ≡ load_text f.plan load.count es (states_behind f o es)

-- they were made on a tree that was just opened, and of this text all was printed, or, after a failed write, a front
abbrev pub PrintsLoad : {S T E : Type 0} → (S → ℕ) → (S → ℕ → Option (List ℕ) → S → Type 0) → Opening → List Entry → Load → List S → Option (List ℕ) → Option (List ℕ) → Result T E → Type 0
PrintsLoad faults reads f o load samples before now result = (text : List ℕ) × AreStated faults reads f o load samples text × TakesAll before now result text

-- a tree of the plan was opened over these seeds and over the samples that the plan names, and the calls of the load were made on it
pub record IsLoaded {S : Type 0} (told : S → Option (List ℕ)) (faults : S → ℕ) (reads : S → ℕ → Option (List ℕ) → S → Type 0) (p : Tree) (seeds : List (List ℕ)) (load : Load)
    (before now : Option Recordings) (text : List ℕ) : Type 0 where
  pub between : List S
  pub tree : IsOpened told faults reads p seeds before now between
  pub stated : AreStated faults reads tree.f tree.o load between text

-- the work of `load`, by the status: all of the text was printed, or, after a failed write, a front of it
abbrev pub HasLoaded : {S : Type 0} → (S → Option (List ℕ)) → (S → ℕ) → (S → ℕ → Option (List ℕ) → S → Type 0) → Tree → Load → Option Recordings → Option Recordings
    → Option (List ℕ) → Option (List ℕ) → List (List ℕ) → Status → Type 0
HasLoaded told faults reads p load before now out_before out_now seeds Done =
    (text : List ℕ) × IsLoaded told faults reads p seeds load before now text × Appends out_before out_now text
HasLoaded told faults reads p load before now out_before out_now seeds (WriteFault count) =
    (text : List ℕ) × IsLoaded told faults reads p seeds load before now text × AppendsFront out_before out_now text
HasLoaded told faults reads p load before now out_before out_now seeds status = ⊥

-- what was done with a plan and a seed for each node; nothing is printed where no tree was opened
abbrev pub LoadedOver : {S : Type 0} → (S → Option (List ℕ)) → (S → ℕ) → (S → ℕ → Option (List ℕ) → S → Type 0) → Tree → List (List ℕ) → Load → Option Recordings → Option Recordings
    → Option (List ℕ) → Option (List ℕ) → Status → Type 0
LoadedOver told faults reads p seeds load before now out_before out_now status =
    EndedOver told faults p seeds before now (out_now ≡ out_before) (HasLoaded told faults reads p load before now out_before out_now seeds) status

-- what was done with a plan, whose nodes have their seeds from the files that it names
abbrev pub LoadedPlan : {S : Type 0} → (S → Option (List ℕ)) → (S → ℕ) → (S → ℕ → Option (List ℕ) → S → Type 0) → Option Entries → Tree → Load → Option Recordings → Option Recordings
    → Option (List ℕ) → Option (List ℕ) → Status → Type 0
LoadedPlan told faults reads files p load before now out_before out_now status =
    EndedFrom told faults files planned_file p before now (out_now ≡ out_before) (HasLoaded told faults reads p load before now out_before out_now) status
