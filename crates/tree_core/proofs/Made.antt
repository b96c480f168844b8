-- Reads of the samples of a tree's sources: none, those of a call, and those of calls in a row.
use Rattle.std.proofs.Common.{◌≡◌, ◌∙◌, ◌+◌, ◌++◌, ◌∷◌, ℕ, List, [], suc, length, map, refl, sym, ap, subst, arith, append-nil}
use Rattle.std.specs.Prelude.{Option, Some, None, slice_get}
use Rattle.std.specs.Option.{option_map}
use Rattle.std.proofs.lemmas.List.{length-map}
use Rattle.std.proofs.lemmas.Option.{slice_get-map, slice_get_within}
use Rattle.std.proofs.lemmas.Grind.{flat_map-append}
use Rattle.tree_config.specs.Tree.{Tree}
use Rattle.entropy_source.specs.Views.{SourceView}
use Rattle.entropy_source.specs.Reads.{LeadBy}
use Rattle.entropy_source.proofs.Leading.{lead_on}
use Rattle.rbg_nodes.specs.Views.{NodeView}
use Rattle.tree_rules.specs.Slots.{source_slot}
use Rattle.tree_rules.specs.History.{Act, Entry, acts_of, at_slot}
use Rattle.tree_rules.proofs.Sources.{at_slot-append}
use Rattle.tree_acts.specs.Did.{AreMade}
use Rattle.tree_core.specs.Fresh.{sources_from}
use Rattle.tree_core.specs.Made.{AreReads, samples_in}
use Rattle.tree_core.specs.Whole.{AreOfPlan, all_held, source_behind}
use Rattle.tree_core.proofs.Wholes.{behind_at, within}

-- the acts of a history and of one entry more
pub acts_more : (o : List Entry) (e : Entry) → acts_of (o ++ e ∷ []) ≡ acts_of o ++ e.acts
acts_more o e = flat_map-append (λ (e : Entry). e.acts) o (e ∷ []) ∙ ap (λ z. acts_of o ++ z) (append-nil e.acts)

-- what stands in a mapped list
from_map : {A B : Type 0} (f : A → B) (o : Option A) (y : B) → option_map f o ≡ Some y → (x : A) × (o ≡ Some x) × (f x ≡ y)
from_map f None y e = cc
from_map f (Some x) y e = (x, refl, cc)

module _ {S : Type 0} (reads : S → ℕ → Option (List ℕ) → S → Type 0) (faults : S → ℕ) (p : Tree) where
  pub reads_none : (before : List S) → AreReads reads faults p before before []
  reads_none before j s t e f = let same : s ≡ t = cc in same

  pub reads_on : (a b c : List S) (xs ys : List Act) → length b ≡ length a → AreReads reads faults p a b xs → AreReads reads faults p b c ys → AreReads reads faults p a c (xs ++ ys)
  reads_on a b c xs ys len first second j s t e f =
      let low = slice_get_within a j s e in
      let (m, at) = within b j (omega (arith, len, low)) in
      subst (λ z. LeadBy reads faults s z t) (sym (at_slot-append (source_slot p j) xs ys))
      (lead_on reads faults s m t (at_slot (source_slot p j) xs) (at_slot (source_slot p j) ys) (first j s m e at) (second j m t at f))

  -- what was made of sources that are held was made of all
  pub reads_held : (nodes ns : List NodeView) (sources ss : List (SourceView S)) (acts : List Act) → AreOfPlan p nodes sources → AreOfPlan p ns ss
      → AreMade reads faults (all_held nodes sources) (all_held ns ss) acts → AreReads reads faults p (samples_in sources) (samples_in ss) acts
  reads_held nodes ns sources ss acts are now made j s t e f =
      let (v, at, is) = from_map (λ (v : SourceView S). v.samples) (slice_get sources j) s (sym (slice_get-map (λ (v : SourceView S). v.samples) sources j) ∙ e) in
      let (w, on, same) = from_map (λ (v : SourceView S). v.samples) (slice_get ss j) t (sym (slice_get-map (λ (v : SourceView S). v.samples) ss j) ∙ f) in
      let here : source_behind (length nodes) sources (source_slot p j) ≡ Some v = ap (λ n. source_behind (length nodes) sources (n + j)) (sym are.node_count) ∙ (behind_at (length nodes) sources j ∙ at) in
      let there : source_behind (length ns) ss (source_slot p j) ≡ Some w = ap (λ n. source_behind (length ns) ss (n + j)) (sym now.node_count) ∙ (behind_at (length ns) ss j ∙ on) in
      subst (λ z. LeadBy reads faults z (at_slot (source_slot p j) acts) t) is
      (subst (λ z. LeadBy reads faults v.samples (at_slot (source_slot p j) acts) z) same (made (source_slot p j) v w here there))

pub samples_count : {S : Type 0} (sources : List (SourceView S)) → length (samples_in sources) ≡ length sources
samples_count {S} sources = length-map sources (λ (v : SourceView S). v.samples)

-- a source that was just opened has the samples that were given
pub samples_given : {S : Type 0} (p : Tree) (j : ℕ) (samples : List S) → samples_in (sources_from p j samples) ≡ samples
samples_given p j [] = refl
samples_given p j (s ∷ samples) = ap (λ z. s ∷ z) (samples_given p (suc j) samples)
