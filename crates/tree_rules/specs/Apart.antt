-- No sample is used twice: the places of a source's samples that blocks, start-ups and blocks that were never full use.
-- This project's own.
use Rattle.std.specs.Prelude.{◌≤◌, ◌<◌, ℕ, ◌+◌, List, [], ◌∷◌, ◌++◌, length}
use Rattle.tree_config.specs.Tree.{Tree}
use Rattle.entropy_source.specs.Source.{SourceAct, Read, Block, given}
use Rattle.tree_rules.specs.Slots.{source_slot}
use Rattle.tree_rules.specs.History.{Entry, at_slot}

-- the places from the first up to the one behind the last
pub record Span : Type 0 where
  pub from : ℕ
  pub to : ℕ

abbrev pub span : ℕ → ℕ → Span
span from to = record { from = from; to = to }

-- The places that a source's acts in one entry use, in order: those that each block names, and those of the samples read between, which
-- went into no block. `first` is the place of the first sample behind the last act that was no read, and `taken` that of the next sample.
abbrev pub spans : ℕ → ℕ → List SourceAct → List Span
spans first taken [] = span first taken ∷ []
spans first taken (Read asked got count ∷ acts) = spans first (taken + length (given got)) acts
spans first taken (Block from to bytes ∷ acts) = span from to ∷ spans taken taken acts
spans first taken (_ ∷ acts) = span first taken ∷ spans taken taken acts

-- the samples taken after acts
abbrev pub taken_after : ℕ → List SourceAct → ℕ
taken_after taken [] = taken
taken_after taken (Read asked got count ∷ acts) = taken_after (taken + length (given got)) acts
taken_after taken (_ ∷ acts) = taken_after taken acts

-- the places that the source at a slot uses in entries in a row
abbrev pub all_spans : ℕ → ℕ → List Entry → List Span
all_spans k taken [] = []
all_spans k taken (e ∷ es) = spans taken taken (at_slot k e.acts) ++ all_spans k (taken_after taken (at_slot k e.acts)) es

-- each begins where the one before it ends, or later, so that no place lies in two
abbrev pub InARow : ℕ → List Span → Type 0
InARow low [] = Unit {0}
InARow low (x ∷ xs) = (low ≤ x.from) × (x.from ≤ x.to) × InARow x.to xs

-- a place lies in a span
pub record Lies (place : ℕ) (x : Span) : Type 0 where
  pub low : x.from ≤ place
  pub high : place < x.to

-- of every source
abbrev pub Apart : Tree → List Entry → Type 0
Apart p es = (j : ℕ) → InARow 0 (all_spans (source_slot p j) 0 es)
