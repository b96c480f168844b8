-- The values of a tree that was just opened, and its passes.
use Rattle.std.proofs.Common.{◌≡◌, ◌<◌, ◌≤◌, ◌+◌, ◌-◌, ℕ, suc, List, [], ◌∷◌, ◌++◌, map, length, length-append, refl, sym, ap, ◌∙◌, subst, arith}
use Rattle.std.specs.Prelude.{Option, slice_index_or}
use Rattle.std.proofs.lemmas.List.{length-map}
use mathlib.Core.Logic.{dite}
use mathlib.Core.Option.{some}
use native.Mathlib.Decide.{dec_le}
use lib.ListN.{get_elem?}
use Rattle.atomic_table.proofs.Lists.{at_longer, at_map}
use Rattle.entropy_source.specs.Views.{SourceView}
use Rattle.rbg_nodes.specs.Views.{NodeView}
use Rattle.turn_table.specs.History.{of_caller}
use Rattle.turn_table.specs.Passes.{Standing, IsNew}
use Rattle.turn_table.specs.Opens.{MayOpen, Opens}
use Rattle.tree_config.specs.Tree.{Tree}
use Rattle.tree_rules.specs.Slots.{slot_count, source_row}
use Rattle.tree_rules.specs.Stands.{StandsFor}
use Rattle.tree_rules.specs.Openings.{states_behind}
use Rattle.tree_rules.specs.Table.{opening_list, start}
use Rattle.tree_core.specs.Solo.{SoloView, OpensAs}
use Rattle.tree_core.proofs.Wholes.{within}
use Rattle.shared_tree.specs.declared.machine.SlotValue.{SlotValue}
use Rattle.shared_tree.specs.declared.machine.SlotValue.TheVariants.{Node, Source}
use Rattle.shared_tree.specs.Machine.{slot_view, tree_meaning}
use Rattle.shared_tree.specs.Passes.{SharedView, AreReady, IsPassOf}
use Rattle.shared_tree.specs.Opens.{IsOpened, IsOpeningOf}
use Rattle.shared_tree.proofs.Elements.{item_of, at_behind}

module _ {S : Type 0} (told : S → Option (List ℕ)) (faults : S → ℕ) where
  abbrev node_value : NodeView → SlotValue S
  node_value v = Node v

  abbrev source_value : SourceView S → SlotValue S
  source_value v = Source v

  module _ (p : Tree) (samples : List S) (seeds : List (List ℕ)) (t : SoloView S) (op : OpensAs told faults p samples seeds t) where
    abbrev values : List (SlotValue S)
    values = map Node t.nodes ++ map Source t.sources

    value_at : (k : ℕ) → k < length values → (x : SlotValue S) × (get_elem? values k ≡ some x) × StandsFor told faults (slot_view x) (start (opening_list op.f op.o) k)
    value_at k inside =
        let st = op.stand in let n = st.node_count in let m = st.source_count in
        let a : length (map (λ (v : NodeView). node_value v) t.nodes) ≡ length t.nodes = length-map t.nodes (λ (v : NodeView). node_value v) in
        let b : length (map (λ (v : SourceView S). source_value v) t.sources) ≡ length t.sources = length-map t.sources (λ (v : SourceView S). source_value v) in
        let c = length-append (map (λ (v : NodeView). node_value v) t.nodes) (map (λ (v : SourceView S). source_value v) t.sources) in
        dite (dec_le (suc k) (length t.nodes))
        (λ low.
        let v = within t.nodes k low in let is = st.nodes_are k v.0 v.1 in (
          Node v.0,
          at_longer (map Node t.nodes) (map Source t.sources) k (Node v.0) (at_map Node t.nodes k v.0 (item_of t.nodes k v.0 v.1)),
          record { f = op.f; o = op.o; k = k; at = record { tells = record { touched = []; list_is = refl; state_is = is.1 }; is_of = record { low = omega arith; row = is.0 } } },
        ))
        (λ high.
        let j : ℕ = k - length t.nodes in
        let here : j < length t.sources = omega arith in
        let v = within t.sources j here in let is = st.sources_are j v.0 v.1 in
        let same : length op.f.plan.nodes + j ≡ k = omega arith in
        let from : k - length op.f.plan.nodes ≡ j = omega arith in (
          Source v.0,
          at_behind (map Node t.nodes) (map Source t.sources) j (Source v.0) (at_map Source t.sources j v.0 (item_of t.sources j v.0 v.1)) k (omega arith),
          record {
            f = op.f;
            o = op.o;
            k = k;
            at = record {
              tells = record { touched = []; list_is = refl; state_is = is.1 ∙ ap (λ (z : ℕ). states_behind op.f op.o [] z) same };
              is_of = record { high = omega arith; low = omega arith; row = is.0 ∙ ap (λ (z : ℕ). source_row op.f.plan z) (sym from) };
            };
          },
        ))

    value_count : length values ≡ slot_count op.f.plan
    value_count =
        let n = op.stand.node_count in let m = op.stand.source_count in
        let a : length (map (λ (v : NodeView). node_value v) t.nodes) ≡ length t.nodes = length-map t.nodes (λ (v : NodeView). node_value v) in
        let b : length (map (λ (v : SourceView S). source_value v) t.sources) ≡ length t.sources = length-map t.sources (λ (v : SourceView S). source_value v) in
        let c = length-append (map (λ (v : NodeView). node_value v) t.nodes) (map (λ (v : SourceView S). source_value v) t.sources) in omega (arith, n, m, a, b, c)

    pub few_values : (nodes : List NodeView) (sources : List (SourceView S)) → nodes ≡ t.nodes → sources ≡ t.sources → length nodes + length sources ≤ 65535
    few_values nodes sources a b =
        let n = op.stand.node_count in let m = op.stand.source_count in
        let x = op.is_opening.planned.few_nodes in let y = op.is_opening.planned.few_sources in
        let c = ap (λ (l : List NodeView). length l) a in let d = ap (λ (l : List (SourceView S)). length l) b in omega (arith, n, m, x, y, c, d)

    pub values_are : (nodes : List NodeView) (sources : List (SourceView S)) → nodes ≡ t.nodes → sources ≡ t.sources → map Node nodes ++ map Source sources ≡ values
    values_are nodes sources a b = λ i. map Node (a i) ++ map Source (b i)

    pub slots_are : (q : Tree) → q ≡ p → (vs : List (SlotValue S)) → vs ≡ values → length vs ≡ slot_count q
    slots_are q a vs is = ap (λ (l : List (SlotValue S)). length l) is ∙ (value_count ∙ ap slot_count (op.given.plan_is ∙ sym a))

    pub may_open : (q : Tree) (xs : List S) (ys : List (List ℕ)) → q ≡ p → xs ≡ samples → ys ≡ seeds → (vs : List (SlotValue S)) → vs ≡ values
        → MayOpen (tree_meaning told faults) (IsOpeningOf told faults q xs ys) vs
    may_open q xs ys a b c vs is = record {
      opening = opening_list op.f op.o;
      passes = record {
        f = op.f;
        o = op.o;
        opening_is = refl;
        is_opening = op.is_opening;
        given = record {
          plan_is = op.given.plan_is ∙ sym a;
          seeds_are = op.given.seeds_are ∙ sym c;
          told_are = op.given.told_are ∙ ap (λ (l : List S). map told l) (sym b);
          faults_are = op.given.faults_are ∙ ap (λ (l : List S). map faults l) (sym b);
        };
      };
      legal = record { f = op.f; o = op.o; opening_is = refl; is_opening = op.is_opening };
      values_are = subst (λ (l : List (SlotValue S)). (k : ℕ) → k < length l → (x : SlotValue S) × (get_elem? l k ≡ some x) × StandsFor told faults (slot_view x) (start (opening_list op.f op.o) k)) (sym is) value_at;
    }

  -- what the table of turns says of its passes is what the tree says of them
  module _ (p : Tree) (samples : List S) (seeds : List (List ℕ)) where
    given_as : (q : Tree) (xs : List S) (ys : List (List ℕ)) → q ≡ p → xs ≡ samples → ys ≡ seeds → (l : List ℕ) → IsOpeningOf told faults q xs ys l → IsOpeningOf told faults p samples seeds l
    given_as q xs ys a b c l op = record {
      f = op.f;
      o = op.o;
      opening_is = op.opening_is;
      is_opening = op.is_opening;
      given = record {
        plan_is = op.given.plan_is ∙ a;
        seeds_are = op.given.seeds_are ∙ c;
        told_are = op.given.told_are ∙ ap (λ (l : List S). map told l) b;
        faults_are = op.given.faults_are ∙ ap (λ (l : List S). map faults l) b;
      };
    }

    new_pass : (l : List ℕ) (op : IsOpeningOf told faults p samples seeds l) (t : SharedView) → t.plan ≡ p → (s : Standing) → s.table ≡ t.table → IsNew l t.callers s.view
        → IsPassOf t s × IsNew (opening_list op.f op.o) t.callers s.view
    new_pass l op t is s own new = (
      record {
        f = op.f;
        o = op.o;
        table_is = own;
        opening_is = new.opening_is ∙ op.opening_is;
        plan_is = op.given.plan_is ∙ sym is;
        is_opening = op.is_opening;
        callers_is = new.callers_is;
        own = new.no_entry ∙ ap (λ h. of_caller s.view.number h) (sym new.unseen);
        no_turn = new.no_turn;
      },
      subst (λ (m : List ℕ). IsNew m t.callers s.view) op.opening_is new,
    )

    pub is_opened : (q : Tree) (xs : List S) (ys : List (List ℕ)) → q ≡ p → xs ≡ samples → ys ≡ seeds → (callers : ℕ) (t : SharedView) (passes : List Standing) → t.plan ≡ p → t.callers ≡ callers
        → Opens (tree_meaning told faults) (IsOpeningOf told faults q xs ys) callers t.table passes → IsOpened told faults p samples seeds callers t passes
    is_opened q xs ys a b c callers t passes plan count opens =
        let op = given_as q xs ys a b c opens.opening opens.passes in record {
          f = op.f;
          o = op.o;
          given = op.given;
          is_opening = op.is_opening;
          plan_is = plan;
          callers_is = count;
          count = opens.count;
          each = λ k d inside.
              let e = opens.each k d inside in
              let n = new_pass opens.opening op t plan (slice_index_or passes k d) e.0 (subst (λ (n : ℕ). IsNew opens.opening n (slice_index_or passes k d).view) (sym count) e.1) in
              (n.0, subst (λ (n : ℕ). IsNew (opening_list op.f op.o) n (slice_index_or passes k d).view) count n.1);
        }

-- the passes of a tree that was just opened are ready
pub all_ready : {S : Type 0} (told : S → Option (List ℕ)) (faults : S → ℕ) (p : Tree) (samples : List S) (seeds : List (List ℕ)) (callers : ℕ) (t : SharedView) (passes : List Standing)
    → IsOpened told faults p samples seeds callers t passes → AreReady t passes
all_ready told faults p samples seeds callers t [] is k d inside = absurd (omega arith)
all_ready told faults p samples seeds callers t (s ∷ more) is k d inside =
    let e = is.each k d inside in
    let first = (is.each 0 s (omega arith)).1.opening_is in (e.0, e.1.opening_is ∙ sym first)
