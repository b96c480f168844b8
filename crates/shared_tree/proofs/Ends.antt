-- What is left when the table of turns is closed.
use Rattle.std.proofs.Common.{◌≡◌, ◌<◌, ◌≤◌, ◌+◌, ◌-◌, ◌^◌, ℕ, List, [], ◌∷◌, length, refl, sym, ap, ◌∙◌, subst, arith}
use Rattle.std.specs.Prelude.{Option, Some, All, slice_get}
use Rattle.std.proofs.lemmas.List.{length-map}
use mathlib.Core.Option.{some, some-injective}
use lib.ListN.{get_elem?}
use Rattle.entropy_source.specs.Views.{SourceView}
use Rattle.rbg_nodes.specs.Views.{NodeView}
use Rattle.turn_table.specs.History as table
use Rattle.turn_table.specs.Closes.{Closes, IsPartOf}
use Rattle.turn_table.specs.Passes.{Standing, IsIdle, opening_of}
use Rattle.turn_table.proofs.Totals.{inside_of}
use Rattle.tree_rules.specs.Counts.{AreCounts, HasCounts}
use Rattle.tree_rules.specs.History.{Entry, Opening, SlotState}
use Rattle.tree_rules.specs.Slots.{slot_count, source_row}
use Rattle.tree_rules.specs.Openings.{states_behind}
use Rattle.tree_rules.specs.Codes.{entry_list}
use Rattle.tree_rules.specs.Stands.{view_state, IsOf, StandsAt, StandsFor}
use Rattle.tree_rules.specs.Table.{opening_list, start, after_entry, FitsLists}
use Rattle.tree_rules.proofs.Growing.{counts_small}
use Rattle.tree_rules.proofs.Listing.{tells_one}
use Rattle.tree_core.specs.Solo.{HaveHistory, StandAfter}
use Rattle.tree_core.specs.Whole.{AreAtMost}
use Rattle.shared_tree.specs.declared.machine.SlotValue.{SlotValue}
use Rattle.shared_tree.specs.declared.machine.SlotValue.TheVariants.{Node, Source}
use Rattle.shared_tree.specs.Machine.{slot_view, tree_meaning}
use Rattle.shared_tree.specs.Sorted.{nodes_in, sources_in}
use Rattle.shared_tree.specs.Passes.{SharedView, AreReady}
use Rattle.shared_tree.specs.Closes.{IsClosed}
use Rattle.shared_tree.proofs.Answering.{whole}
use Rattle.shared_tree.proofs.Elements.{item_of}
use Rattle.shared_tree.proofs.Reading.{Read, read, stands_at}
use Rattle.shared_tree.proofs.Sorting.{node_count, node_at, source_at, both_counts}

-- passes that are ready are idle
pub all_idle : (t : SharedView) (passes : List Standing) → AreReady t passes → All (λ (p : Standing). (p.table ≡ t.table) × IsIdle (opening_of passes) t.callers p.view) passes
all_idle t passes ready k d inside =
    let r = ready k d inside in (r.0.table_is, record { opening_is = r.1; callers_is = r.0.callers_is; no_turn = r.0.no_turn })

module _ {S : Type 0} (told : S → Option (List ℕ)) (faults : S → ℕ) where
  abbrev stands : SlotValue S → List ℕ → Type 0
  stands x s = StandsFor told faults (slot_view x) s

  module _ (f : Opening) (o : List Entry) (h : List (List ℕ)) (rd : Read f o h) (values : List (SlotValue S))
      (each : (k : ℕ) → k < length values → (x : SlotValue S) × (get_elem? values k ≡ some x) × stands x (table.states (after_entry (opening_list f o)) (start (opening_list f o)) h k)) where
    abbrev list_at : ℕ → List ℕ
    list_at k = table.states (after_entry (opening_list f o)) (start (opening_list f o)) h k

    at_each : (k : ℕ) (x : SlotValue S) → get_elem? values k ≡ some x → StandsAt told faults f o k (list_at k) (slot_view x)
    at_each k x at =
        let e = each k (inside_of values k x at) in
        stands_at told faults f o k (list_at k) (states_behind f o rd.entries k) (slot_view x) (rd.tell k)
        (subst (λ (y : SlotValue S). stands y (list_at k)) (some-injective e.0 x (sym e.1 ∙ at)) e.2)

    state_each : (k : ℕ) (x : SlotValue S) → get_elem? values k ≡ some x → view_state told faults (slot_view x) ≡ states_behind f o rd.entries k
    state_each k x at = tells_one f o k (list_at k) (view_state told faults (slot_view x)) (states_behind f o rd.entries k) (at_each k x at).tells (rd.tell k)

    all_of : (k : ℕ) (x : SlotValue S) → get_elem? values k ≡ some x → IsOf f.plan (0 + k) (slot_view x)
    all_of k x at = let e : k ≡ 0 + k = omega arith in subst (λ (n : ℕ). IsOf f.plan n (slot_view x)) e (at_each k x at).is_of

    pub stand_after : length values ≡ slot_count f.plan → StandAfter told faults f o rd.entries (nodes_in values) (sources_in values)
    stand_after count =
        let n = node_count f.plan 0 values all_of (omega arith) (omega arith) in let b = both_counts values in record {
          node_count = omega arith;
          source_count = omega arith;
          nodes_are = λ k v at.
              let w = node_at f.plan 0 values all_of k v (item_of (nodes_in values) k v at) in
              ((at_each k (Node v) w).is_of.row, state_each k (Node v) w);
          sources_are = λ j v at.
              let i : ℕ = length f.plan.nodes + j in
              let w = source_at f.plan 0 values all_of j i v (omega arith) (item_of (sources_in values) j v at) in
              let e : i - length f.plan.nodes ≡ j = omega arith in
              ((at_each i (Source v) w).is_of.row ∙ ap (λ (z : ℕ). source_row f.plan z) e, state_each i (Source v) w);
        }

  -- counts after a history that is not too long
  pub few_after : (f : Opening) (o h : List Entry) (nodes : List NodeView) (sources : List (SourceView S)) → StandAfter told faults f o h nodes sources
      → ((k : ℕ) → HasCounts (2 ^ 61) (states_behind f o h k)) → AreAtMost nodes (2 ^ 61)
  few_after f o h nodes sources stand few = record { seeds = λ k v at. (counts k v at).seeds; gives = λ k v at. (counts k v at).gives } where
    counts : (k : ℕ) (v : NodeView) → slice_get nodes k ≡ Some v → AreCounts (2 ^ 61) v.state
    counts k v at = subst (λ (s : SlotState). HasCounts (2 ^ 61) s) (sym (stand.nodes_are k v at).1) (few k)

  -- what the table leaves, as the tree has it
  pub record Left (t : SharedView) (passes : List Standing) (calls : ℕ) (nodes : List NodeView) (sources : List (SourceView S)) : Type 0 where
    pub have : HaveHistory told faults t.plan nodes sources
    pub closed : IsClosed told faults t passes (record { plan = t.plan; nodes = nodes; sources = sources; calls = 0 }) calls

  pub left : (t : SharedView) (passes : List Standing) (calls : ℕ) (values : List (SlotValue S)) → AreReady t passes → 0 < length passes
      → length values ≡ slot_count t.plan → Closes (tree_meaning told faults) (opening_of passes) passes calls values → Left t passes calls (nodes_in values) (sources_in values)
  left t [] calls values ready there count cl = absurd (omega arith)
  left t (s ∷ more) calls values ready there count cl =
      let pass = (ready 0 s (omega arith)).0 in
      let h : List (List ℕ) = cl.history in
      let rd = read pass.f pass.o h pass.is_opening (subst (λ (l : List ℕ). table.Legal (after_entry l) (FitsLists l) (start l) h) pass.opening_is cl.legal.1) in
      let each = subst (λ (l : List ℕ). (k : ℕ) → k < length values → (x : SlotValue S) × (get_elem? values k ≡ some x) × stands x (table.states (after_entry l) (start l) h k)) pass.opening_is cl.values_are in
      let all : length values ≡ slot_count pass.f.plan = count ∙ ap slot_count (sym pass.plan_is) in
      let stand = stand_after pass.f pass.o h rd values each all in
      let long : length h ≡ length rd.entries = ap (λ (l : List (List ℕ)). length l) rd.are ∙ length-map rd.entries (λ (e : Entry). entry_list e) in
      let small : length rd.entries ≤ 2 ^ 46 = (let a = cl.few in let b = cl.length_is in omega (arith, a, b, long)) in
      record {
        have = record { f = pass.f; o = pass.o; es = rd.entries; plan_is = pass.plan_is; history = rd.history; stand = stand };
        closed = record {
          f = pass.f;
          o = pass.o;
          entries = rd.entries;
          opening_is = pass.opening_is;
          plan_is = pass.plan_is;
          whole = whole pass.f pass.o rd.entries rd.history;
          length_is = cl.length_is ∙ long;
          sum_is = cl.sum_is;
          few = cl.few;
          numbers_are = cl.numbers_are;
          parts = subst (λ (g : List (List ℕ)). All (λ (p : Standing). IsPartOf g p.view) (s ∷ more)) rd.are cl.parts;
          plan_back = refl;
          stand = stand;
          fresh = refl;
          few_counts = few_after pass.f pass.o rd.entries (nodes_in values) (sources_in values) stand (counts_small pass.f pass.o rd.entries rd.history small);
        };
      }

  pub left_as : (t : SharedView) (passes : List Standing) (calls : ℕ) (values : List (SlotValue S)) (nodes : List NodeView) (sources : List (SourceView S)) → AreReady t passes → 0 < length passes
      → length values ≡ slot_count t.plan → Closes (tree_meaning told faults) (opening_of passes) passes calls values → nodes ≡ nodes_in values → sources ≡ sources_in values → Left t passes calls nodes sources
  left_as t passes calls values nodes sources ready there count cl a b =
      subst (λ (z : List NodeView × List (SourceView S)). Left t passes calls z.0 z.1) (λ i. (sym a i, sym b i)) (left t passes calls values ready there count cl)
