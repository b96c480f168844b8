-- The one-thread tree: what contracts see of it, what it is opened over, and how it stands after a history.
-- This project's own.
use Rattle.std.specs.Prelude.{◌≡◌, ◌<◌, ◌++◌, ℕ, List, [], ◌∷◌, length, slice_get, unwrap_or, Option, Some, None}
use Rattle.tree_config.specs.Tree.{Tree}
use Rattle.entropy_source.specs.Views.{SourceView}
use Rattle.rbg_nodes.specs.Views.{NodeView, too_short}
use Rattle.tree_rules.specs.declared.call.Call.{Call}
use Rattle.tree_rules.specs.declared.reply.Reply.{Reply}
use Rattle.tree_rules.specs.Slots.{node_row}
use Rattle.tree_rules.specs.History.{Entry, Opening, acts_of, opened}
use Rattle.tree_rules.specs.Openings.{IsOpening, IsHistory, states_behind}
pub use Rattle.tree_rules.specs.Stands.{IsGiven, StandAfter, StandIn}
use Rattle.tree_rules.specs.Apart.{Apart}
use Rattle.tree_rules.specs.Quiet.{Quiet}
use Rattle.tree_core.specs.Made.{AreReads, samples_in}
use Rattle.tree_core.specs.Reasons.{HasReason}
use Rattle.tree_core.specs.declared.refusal.OpenRefusal.{OpenRefusal}
use Rattle.tree_core.specs.declared.refusal.OpenRefusal.TheVariants.{SeedShort, OutOfMemory}

-- a tree: its plan, its nodes and its sources in the order of their numbers, and the calls made
pub record SoloView (S : Type 0) : Type 0 where
  pub plan : Tree
  pub nodes : List NodeView
  pub sources : List (SourceView S)
  pub calls : ℕ

-- they stand after some legal history of a plan
pub record HaveHistory {S : Type 0} (told : S → Option (List ℕ)) (faults : S → ℕ) (p : Tree) (nodes : List NodeView) (sources : List (SourceView S)) : Type 0 where
  pub f : Opening
  pub o : List Entry
  pub es : List Entry
  pub plan_is : f.plan ≡ p
  pub history : IsHistory f o es
  pub stand : StandAfter told faults f o es nodes sources

-- a tree that was just opened: it stands after its opening calls
pub record OpensAs {S : Type 0} (told : S → Option (List ℕ)) (faults : S → ℕ) (p : Tree) (samples : List S) (seeds : List (List ℕ)) (t : SoloView S) : Type 0 where
  pub f : Opening
  pub o : List Entry
  pub plan_is : t.plan ≡ p
  pub given : IsGiven told faults p samples seeds f
  pub is_opening : IsOpening f o
  pub stand : StandAfter told faults f o [] t.nodes t.sources
  pub calls : t.calls ≡ 0

-- the same, with the reads that its opening calls made
pub record OpensBy {S : Type 0} (told : S → Option (List ℕ)) (faults : S → ℕ) (reads : S → ℕ → Option (List ℕ) → S → Type 0) (p : Tree) (samples : List S) (seeds : List (List ℕ))
    (t : SoloView S) : Type 0 where
  pub opens : OpensAs told faults p samples seeds t
  pub made : AreReads reads faults p samples (samples_in t.sources) (acts_of opens.o)

-- node k's seed, and that the seeds of the first nodes are long enough
abbrev pub seed_in : List (List ℕ) → ℕ → List ℕ
seed_in seeds k = unwrap_or (slice_get seeds k) []

abbrev pub AreLong : Tree → List (List ℕ) → ℕ → Type 0
AreLong p seeds count = (k : ℕ) → k < count → too_short (node_row p k) (seed_in seeds k) ≡ None

-- why a tree was not opened: the least node whose seed is too short, with the bytes that it has and needs; want of memory is free
abbrev pub IsCause : Tree → List (List ℕ) → OpenRefusal → Type 0
IsCause p seeds (SeedShort node have need) =
    (node < length p.nodes) × (too_short (node_row p node) (seed_in seeds node) ≡ Some (record { have = have; need = need })) × AreLong p seeds node
IsCause p seeds OutOfMemory = Unit {0}

-- a call that was made by caller 1 behind a history, over samples of the sources: with its entry the history is legal again, uses no sample
-- twice and is quiet after alarms, the reply has its reason, the tree stands after it, and the reads of its entry are those that were made
pub record GoesOn {S : Type 0} (told : S → Option (List ℕ)) (faults : S → ℕ) (reads : S → ℕ → Option (List ℕ) → S → Type 0) (f : Opening) (o h : List Entry) (samples : List S)
    (c : Call) (string : List ℕ) (reply : Reply) (bytes : List ℕ) (nodes : List NodeView) (sources : List (SourceView S)) : Type 0 where
  pub entry : Entry
  pub caller_is : entry.caller ≡ 1
  pub call_is : entry.call ≡ c
  pub string_is : entry.string ≡ string
  pub reply_is : entry.reply ≡ reply
  pub bytes_are : entry.bytes ≡ bytes
  pub history : IsHistory f o (h ++ entry ∷ [])
  pub apart : Apart f.plan (o ++ (h ++ entry ∷ []))
  pub quiet : Quiet f.plan (opened f) (o ++ (h ++ entry ∷ []))
  pub reason : HasReason f.plan (states_behind f o h) entry
  pub stand : StandAfter told faults f o (h ++ entry ∷ []) nodes sources
  pub made : AreReads reads faults f.plan samples (samples_in sources) entry.acts
