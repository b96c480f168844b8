-- Draws on a source that is held, and its start.
-- This project's own.
use Rattle.std.specs.Prelude.{◌≡◌, ℕ, ◌+◌, ◌≤◌, ◌^◌, List, map, Option, Some, None, Result, Ok, Err, MatchResult, []}
use Rattle.health_tests.specs.declared.numbers.Tail.{Tail}
use Rattle.tree_config.specs.Tree.{Tree}
use Rattle.entropy_source.specs.declared.answers.SourceRefusal.{SourceRefusal}
use Rattle.entropy_source.specs.declared.answers.SourceMode.TheVariants.{Running}
use Rattle.entropy_source.specs.Source.{SourceAct, need_of}
use Rattle.entropy_source.specs.Draws.{Drawn, Start, portions}
use Rattle.tree_rules.specs.Slots.{source_row, source_slot}
use Rattle.tree_rules.specs.Chain.{source_at}
use Rattle.tree_rules.specs.Fits.{at_source, found_by}
use Rattle.entropy_source.specs.Views.{SourceView}
use Rattle.tree_acts.specs.Hold.{Hold, states_held, source_held}
use Rattle.tree_acts.specs.Did.{Did}

-- source j may be drawn from for these lengths
pub record Runs {S : Type 0} (told : S → Option (List ℕ)) (faults : S → ℕ) (p : Tree) (h : Hold (SourceView S)) (j : ℕ) (more : ℕ) : Type 0 where
  pub mode : (source_held told faults h (source_slot p j)).mode ≡ Running
  pub room : (source_held told faults h (source_slot p j)).taken + more ≤ 2 ^ 60

-- the lengths were drawn from source j, with these strings, or refused
pub record Drew {S : Type 0} (told : S → Option (List ℕ)) (faults : S → ℕ) (reads : S → ℕ → Option (List ℕ) → S → Type 0) (p : Tree) (h t : Hold (SourceView S)) (j : ℕ)
    (lens : List ℕ) (result : Option SourceRefusal) (strings : List (List ℕ)) : Type 0 where
  pub acts : List SourceAct
  pub end : Result (List ℕ) SourceRefusal
  pub draw : Drawn (source_row p j) (found_by (Some (source_at p (states_held told faults h) j))) (source_held told faults h (source_slot p j)) lens acts end
  pub did : Did told faults reads p h t (map (at_source (source_at p (states_held told faults h) j)) acts)
  pub answer : MatchResult end (λ all. (result ≡ None) × (strings ≡ portions (source_row p j) lens all)) (λ why. result ≡ Some why)
  pub mode : result ≡ None → (source_held told faults t (source_slot p j)).mode ≡ Running
  pub taken : result ≡ None → (source_held told faults t (source_slot p j)).taken ≡ (source_held told faults h (source_slot p j)).taken + need_of (source_row p j) lens
  pub tail : (t : Tail) × ((source_held told faults h (source_slot p j)).tail ≡ Some t)

-- a start without bytes, by why it was refused
abbrev pub start_end : Option SourceRefusal → Result (List ℕ) SourceRefusal
start_end None = Ok []
start_end (Some why) = Err why

-- source j was started, or refused
pub record Started {S : Type 0} (told : S → Option (List ℕ)) (faults : S → ℕ) (reads : S → ℕ → Option (List ℕ) → S → Type 0) (p : Tree) (h t : Hold (SourceView S)) (j : ℕ)
    (result : Option SourceRefusal) : Type 0 where
  pub acts : List SourceAct
  pub start : Start (source_row p j) (source_held told faults h (source_slot p j)) acts (start_end result)
  pub did : Did told faults reads p h t (map (at_source (source_at p (states_held told faults h) j)) acts)
