-- Calls that caller 1 made in a row, without strings, and what they were answered.
-- This project's own.
use Rattle.std.specs.Prelude.{◌≡◌, ℕ, List, [], ◌++◌, ◌==◌, length, map, filter, not, Bool, Option}
use Rattle.entropy_source.specs.Views.{SourceView}
use Rattle.rbg_nodes.specs.Views.{NodeView}
use Rattle.tree_rules.specs.declared.call.Call.{Call}
use Rattle.tree_rules.specs.History.{Entry, Opening, acts_of, opened}
use Rattle.tree_rules.specs.Openings.{IsHistory}
use Rattle.tree_rules.specs.Stands.{StandAfter}
use Rattle.tree_rules.specs.Apart.{Apart}
use Rattle.tree_rules.specs.Quiet.{Quiet}
use Rattle.tree_core.specs.Made.{AreReads, samples_in}

-- an entry is Done, or it was refused
abbrev pub is_done : Entry → Bool
is_done e = e.reply.code == 0

abbrev pub is_refused : Entry → Bool
is_refused e = not (e.reply.code == 0)

-- The calls were made by caller 1 behind the history, without strings, so many of them were Done and so many refused. There are entries
-- of exactly these calls in their order, with which the history is legal, uses no sample twice and is quiet after alarms, and the nodes
-- and sources stand after it. The reads among their acts are exactly those that were made, from these samples to the sources'.
pub record AreMade {S : Type 0} (told : S → Option (List ℕ)) (faults : S → ℕ) (reads : S → ℕ → Option (List ℕ) → S → Type 0) (f : Opening) (o h : List Entry)
    (samples : List S) (calls : List Call) (done refused : ℕ) (nodes : List NodeView) (sources : List (SourceView S)) : Type 0 where
  pub entries : List Entry
  pub calls_are : map (λ (e : Entry). e.call) entries ≡ calls
  pub callers : map (λ (e : Entry). e.caller) entries ≡ map (λ (e : Entry). 1) entries
  pub strings : map (λ (e : Entry). e.string) entries ≡ map (λ (e : Entry). []) entries
  pub history : IsHistory f o (h ++ entries)
  pub apart : Apart f.plan (o ++ (h ++ entries))
  pub quiet : Quiet f.plan (opened f) (o ++ (h ++ entries))
  pub stand : StandAfter told faults f o (h ++ entries) nodes sources
  pub made : AreReads reads faults f.plan samples (samples_in sources) (acts_of entries)
  pub done_are : done ≡ length (filter is_done entries)
  pub refused_are : refused ≡ length (filter is_refused entries)
