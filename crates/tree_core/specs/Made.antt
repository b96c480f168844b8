-- Which reads were made of the samples of a tree's sources.
-- This project's own.
use Rattle.std.specs.Prelude.{◌≡◌, ℕ, List, map, slice_get, Option, Some}
use Rattle.tree_config.specs.Tree.{Tree}
use Rattle.entropy_source.specs.Views.{SourceView}
use Rattle.entropy_source.specs.Reads.{LeadBy}
use Rattle.rbg_nodes.specs.Views.{NodeView}
use Rattle.tree_rules.specs.declared.call.Call.{Call}
use Rattle.tree_rules.specs.declared.reply.Reply.{Reply}
use Rattle.tree_rules.specs.Slots.{source_slot}
use Rattle.tree_rules.specs.History.{Act, at_slot}
use Rattle.tree_rules.specs.Served.{Served}
use Rattle.tree_core.specs.Whole.{states_of}

-- the samples of sources
abbrev pub samples_in : {S : Type 0} → List (SourceView S) → List S
samples_in {S} sources = map (λ (v : SourceView S). v.samples) sources

-- The reads among the acts of each source are those that were made on it, in order: they lead from its samples before to its samples
-- after, as `reads` says, also where it doesn't tell its samples. Both lists are in the order of the sources.
abbrev pub AreReads : {S : Type 0} → (S → ℕ → Option (List ℕ) → S → Type 0) → (S → ℕ) → Tree → (before after : List S) → List Act → Type 0
AreReads {S} reads faults p before after acts =
    (j : ℕ) (s t : S) → slice_get before j ≡ Some s → slice_get after j ≡ Some t → LeadBy reads faults s (at_slot (source_slot p j) acts) t

-- a tree answered a call with this reply and these bytes, by acts among which stand exactly the reads that were made
pub record AnsweredBy {S : Type 0} (told : S → Option (List ℕ)) (faults : S → ℕ) (reads : S → ℕ → Option (List ℕ) → S → Type 0) (p : Tree)
    (nodes ns : List NodeView) (sources ss : List (SourceView S)) (c : Call) (string : List ℕ) (reply : Reply) (bytes : List ℕ) : Type 0 where
  pub served : Served p (states_of told faults nodes sources) (states_of told faults ns ss) c string reply bytes
  pub made : AreReads reads faults p (samples_in sources) (samples_in ss) served.acts
