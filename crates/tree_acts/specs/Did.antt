-- What acts in a row do to what is held.
-- This project's own.
use Rattle.std.specs.Prelude.{◌≡◌, ℕ, List, Option, Some}
use Rattle.std.specs.Option.{option_map}
use Rattle.tree_config.specs.Tree.{Tree}
use Rattle.entropy_source.specs.Views.{SourceView}
use Rattle.entropy_source.specs.Reads.{LeadBy}
use Rattle.rbg_nodes.specs.Views.{NodeView}
use Rattle.tree_rules.specs.History.{Act, at_slot, own, slot_after_all}
use Rattle.tree_acts.specs.Hold.{Hold, states_held}

-- The reads among the acts of each source are those that were made on it, in order: they lead from its samples before to its samples
-- after, as `reads` says, also where it doesn't tell its samples. A source without an act has the samples that it had.
abbrev pub AreMade : {S : Type 0} → (S → ℕ → Option (List ℕ) → S → Type 0) → (S → ℕ) → Hold (SourceView S) → Hold (SourceView S) → List Act → Type 0
AreMade {S = S} reads faults h t acts =
    (k : ℕ) (v w : SourceView S) → h.sources k ≡ Some v → t.sources k ≡ Some w → LeadBy reads faults v.samples (at_slot k acts) w.samples

-- the acts were done to what is held: each slot's state is that after its own acts, no row changed, and no other reads were made
pub record Did {S : Type 0} (told : S → Option (List ℕ)) (faults : S → ℕ) (reads : S → ℕ → Option (List ℕ) → S → Type 0) (p : Tree) (h t : Hold (SourceView S))
    (acts : List Act) : Type 0 where
  pub states : (k : ℕ) → states_held told faults t k ≡ slot_after_all p k (states_held told faults h k) (own k acts)
  pub nodes : (k : ℕ) → option_map (λ (v : NodeView). v.row) (t.nodes k) ≡ option_map (λ (v : NodeView). v.row) (h.nodes k)
  pub sources : (k : ℕ) → option_map (λ (v : SourceView S). v.row) (t.sources k) ≡ option_map (λ (v : SourceView S). v.row) (h.sources k)
  pub made : AreMade reads faults h t acts
