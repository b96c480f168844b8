-- The lines of the counts of nodes and of sources that stand in given states.
use Rattle.std.proofs.Common.{◌≡◌, ◌∙◌, ◌<◌, ℕ, List, length, get_or, zero-add, sym, ap, subst, arith}
use Rattle.std.specs.Prelude.{Option, IfSome, slice_get}
use Rattle.std.specs.List.{range_with_len}
use Rattle.std.proofs.lemmas.List.FromFn.{get_or-range_with_len}
use Rattle.tree_config.specs.Tree.{Tree}
use Rattle.entropy_source.specs.Source.{SourceState}
use Rattle.entropy_source.specs.Views.{SourceView, source_state}
use Rattle.rbg_nodes.specs.Views.{NodeView, counts_of}
use Rattle.rbg_nodes.specs.declared.node.NodeCounts.{NodeCounts}
use Rattle.tree_rules.specs.History.{States, node_in, source_in}
use Rattle.tree_rules.specs.Slots.{source_slot}
use Rattle.tree_rules.specs.Stands.{StandIn}
use Rattle.tree_core.proofs.Wholes.{within}
use Rattle.rbgtree.specs.Counts.{node_counts_at, node_counts_text, source_counts_at, source_counts_text}

module _ {S : Type 0} (told : S → Option (List ℕ)) (faults : S → ℕ) (p : Tree) (s : States) (nodes : List NodeView) (sources : List (SourceView S)) (stand : StandIn told faults p s nodes sources) where
  pub node_line : (n : ℕ) (counts : NodeCounts) → n < length p.nodes → IfSome (slice_get nodes n) (λ (v : NodeView). counts ≡ counts_of v.state)
      → node_counts_at s (get_or (range_with_len 0 (length p.nodes)) n 0) ≡ node_counts_text n counts
  node_line n counts less are =
      let (v, at) = within nodes n (omega (arith, less, stand.node_count)) in
      let is : counts ≡ counts_of v.state = subst (λ (o : Option NodeView). IfSome o (λ (v : NodeView). counts ≡ counts_of v.state)) at are in
      let state : node_in (s n) ≡ v.state = ap node_in (sym (stand.nodes_are n v at).1) in
      ap (node_counts_at s) (get_or-range_with_len 0 (length p.nodes) n 0 less ∙ zero-add n) ∙ ap (node_counts_text n) (ap counts_of state ∙ sym is)

  pub source_line : (j taken blocks : ℕ) → j < length p.sources → IfSome (slice_get sources j) (λ (v : SourceView S). (taken ≡ v.taken) × (blocks ≡ v.blocks))
      → source_counts_at p s (get_or (range_with_len 0 (length p.sources)) j 0) ≡ source_counts_text j taken blocks
  source_line j taken blocks less are =
      let (v, at) = within sources j (omega (arith, less, stand.source_count)) in
      let is : (taken ≡ v.taken) × (blocks ≡ v.blocks) = subst (λ (o : Option (SourceView S)). IfSome o (λ (v : SourceView S). (taken ≡ v.taken) × (blocks ≡ v.blocks))) at are in
      let state : source_in (s (source_slot p j)) ≡ source_state told faults v = ap source_in (sym (stand.sources_are j v at).1) in
      let taken_is : (source_in (s (source_slot p j))).taken ≡ taken = ap (λ (x : SourceState). x.taken) state ∙ sym is.0 in
      let blocks_are : (source_in (s (source_slot p j))).blocks ≡ blocks = ap (λ (x : SourceState). x.blocks) state ∙ sym is.1 in
      ap (source_counts_at p s) (get_or-range_with_len 0 (length p.sources) j 0 less ∙ zero-add j)
      ∙ (ap (λ (t : ℕ). source_counts_text j t (source_in (s (source_slot p j))).blocks) taken_is ∙ ap (source_counts_text j taken) blocks_are)
