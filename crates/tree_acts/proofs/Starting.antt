-- A start of a source that is held.
use Rattle.std.proofs.Common.{◌≡◌, ◌+◌, ◌≤◌, ◌^◌, ℕ, List, refl, sym, subst}
use Rattle.std.specs.Prelude.{Option, Some, Result}
use Rattle.tree_config.specs.Tree.{Tree}
use Rattle.entropy_source.specs.declared.answers.SourceRow.{SourceRow}
use Rattle.entropy_source.specs.declared.answers.SourceRefusal.{SourceRefusal}
use Rattle.entropy_source.specs.Source.{SourceState}
use Rattle.entropy_source.specs.Draws.{Start}
use Rattle.entropy_source.specs.Views.{SourceView, source_state, HasStarted, without_bytes}
use Rattle.tree_rules.specs.Slots.{source_row, source_slot}
use Rattle.tree_rules.specs.Chain.{source_at}
use Rattle.tree_acts.specs.Hold.{Hold, IsOfPlan, PutsSource, states_held, source_held}
use Rattle.tree_acts.specs.Drew.{Started, start_end}
use Rattle.tree_acts.proofs.Doing.{did_source}
use Rattle.tree_acts.proofs.Drawing.{held_source, row_source}

module _ {S : Type 0} (told : S → Option (List ℕ)) (faults : S → ℕ) (p : Tree) where
  pub started_at : {T : Type 0} (reads : S → ℕ → Option (List ℕ) → S → Type 0) (h t : Hold (SourceView S)) (j k : ℕ) (v w : SourceView S) (result : Result T SourceRefusal) (r : Option SourceRefusal)
      → k ≡ source_slot p j → IsOfPlan p h → h.sources k ≡ Some v → PutsSource h t k w → w.row ≡ v.row
      → (source_held told faults h (source_slot p j)).taken + (source_row p j).startup ≤ 2 ^ 60
      → (v.taken + v.row.startup ≤ 2 ^ 60 → HasStarted told faults reads result v w)
      → without_bytes result ≡ start_end r → Started told faults reads p h t j r
  started_at {T} reads h t j k v w result r slot plan at puts rows room acts is =
      let at' : h.sources (source_slot p j) ≡ Some v = subst (λ k. h.sources k ≡ Some v) slot at in
      let puts' : PutsSource h t (source_slot p j) w = subst (λ k. PutsSource h t k w) slot puts in
      let state = held_source told faults p h j v plan at' in
      let row = row_source told faults p h j v plan at' in
      let room' : v.taken + v.row.startup ≤ 2 ^ 60 =
      subst (λ (s : SourceState). s.taken + v.row.startup ≤ 2 ^ 60) state
      (subst (λ (r : SourceRow). (source_held told faults h (source_slot p j)).taken + r.startup ≤ 2 ^ 60) (sym row) room) in
      let it = acts room' in
      record {
        acts = it.acts;
        start = subst (λ (r : SourceRow). Start r (source_held told faults h (source_slot p j)) it.acts (start_end r')) row
            (subst (λ (s : SourceState). Start v.row s it.acts (start_end r')) (sym state) (subst (λ z. Start v.row (source_state told faults v) it.acts z) is it.start));
        did = did_source told faults p reads h t j v w it.acts (source_at p (states_held told faults h) j) refl plan at' puts' rows it.state it.made;
      } where
        r' : Option SourceRefusal
        r' = r
