-- The opening calls, one after the other.
-- This project's own.
use Rattle.std.specs.Prelude.{◌≡◌, ◌==◌, ℕ, List, [], ◌∷◌, map, filter, length, Option}
use Rattle.std.specs.List.{range_with_len}
use Rattle.tree_config.specs.Tree.{Tree}
use Rattle.entropy_source.specs.Views.{SourceView}
use Rattle.rbg_nodes.specs.Views.{NodeView}
use Rattle.tree_rules.specs.declared.call.Call.{Call}
use Rattle.tree_rules.specs.declared.call.Call.TheVariants.{Instantiate, Start}
use Rattle.tree_rules.specs.History.{Entry, Opening, acts_of, opened, states_after}
use Rattle.tree_rules.specs.Fits.{Legal}
use Rattle.tree_rules.specs.Openings.{depth}
use Rattle.tree_core.specs.Made.{AreReads, samples_in}
use Rattle.tree_core.specs.Solo.{StandIn}

-- a Start of each source, and an Instantiate of each node that stands so deep
abbrev pub start_calls : Tree → List Call
start_calls p = map (λ j. Start j) (range_with_len 0 (length p.sources))

abbrev pub one_at : Tree → ℕ → ℕ → List Call
one_at p d n = map (λ n. Instantiate n 0) (filter (λ n. depth p n == d) (n ∷ []))

abbrev pub calls_at : Tree → ℕ → List Call
calls_at p d = map (λ n. Instantiate n 0) (filter (λ n. depth p n == d) (range_with_len 0 (length p.nodes)))

-- calls without strings that caller 0 made from the opening on, over samples of the sources, and how the tree stands after them
pub record OpenedBy {S : Type 0} (told : S → Option (List ℕ)) (faults : S → ℕ) (reads : S → ℕ → Option (List ℕ) → S → Type 0) (f : Opening) (samples : List S) (calls : List Call)
    (nodes : List NodeView) (sources : List (SourceView S)) : Type 0 where
  pub o : List Entry
  pub calls_are : map (λ (e : Entry). e.call) o ≡ calls
  pub callers_are : map (λ (e : Entry). e.caller) o ≡ map (λ (e : Entry). 0) o
  pub strings_are : map (λ (e : Entry). e.string) o ≡ map (λ (e : Entry). []) o
  pub legal : Legal f.plan (opened f) o
  pub stand : StandIn told faults f.plan (states_after f.plan (opened f) o) nodes sources
  pub made : AreReads reads faults f.plan samples (samples_in sources) (acts_of o)
