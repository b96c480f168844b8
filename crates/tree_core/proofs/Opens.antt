-- A tree as it is opened, before its opening calls and after them.
use Rattle.std.proofs.Common.{◌≡◌, ◌∙◌, ◌≤◌, ◌+◌, ◌-◌, ◌∷◌, ℕ, List, [], zero, suc, length, map, Bool, true, false, refl, sym, ap, subst, arith}
use Rattle.std.specs.Prelude.{Option, Some, None, slice_get, unwrap_or, nat_lt, if◌then◌else◌}
use Rattle.std.specs.Option.{option_map}
use Rattle.std.proofs.lemmas.Bool.Decides.{nat_tests}
use Rattle.std.proofs.lemmas.List.{length-map}
use Rattle.std.proofs.lemmas.Option.{slice_get-map, slice_get_within}
use Rattle.health_tests.specs.Numbers.{no_tail}
use Rattle.tree_config.specs.Tree.{Tree, IsTree}
use Rattle.tree_config.specs.Planned.{IsPlanned}
use Rattle.entropy_source.specs.Source.{opened_source}
use Rattle.entropy_source.specs.Views.{SourceView, source_state, opened_view}
use Rattle.rbg_nodes.specs.Node.{fresh_node, kept_seed}
use Rattle.rbg_nodes.specs.Views.{NodeView}
use Rattle.tree_rules.specs.Slots.{node_row, source_number, source_row, source_slot}
use Rattle.tree_rules.specs.History.{Opening, NodeIs, SourceIs, States, acts_of, opened}
use Rattle.tree_rules.specs.Openings.{opening_calls}
use Rattle.tree_rules.proofs.Parting.{place_of, high}
use Rattle.tree_acts.specs.Hold.{IsNodeOf, IsSourceOf}
use Rattle.tree_core.specs.Fresh.{AreFresh, sources_from}
use Rattle.tree_core.specs.Opened.{OpenedBy}
use Rattle.tree_core.specs.Made.{AreReads, samples_in}
use Rattle.tree_core.specs.Solo.{OpensBy, StandIn, seed_in}
use Rattle.tree_core.specs.Whole.{AreAtMost, AreOfPlan}
use Rattle.tree_core.proofs.Made.{samples_given}

-- what stands in states of a plan is of the plan
pub stand_of_plan : {S : Type 0} (told : S → Option (List ℕ)) (faults : S → ℕ) (p : Tree) (s : States) (nodes : List NodeView) (sources : List (SourceView S))
    → StandIn told faults p s nodes sources → AreOfPlan p nodes sources
stand_of_plan {S} told faults p s nodes sources stand = record {
  node_count = stand.node_count;
  source_count = stand.source_count;
  rows = record { node = λ k v at. node k v at; source = λ k v at. source k v (nat_lt k (length nodes)) refl at };
} where
  node : (k : ℕ) (v : NodeView) → slice_get nodes k ≡ Some v → IsNodeOf p k v
  node k v at = let low = slice_get_within nodes k v at in let count = stand.node_count in record { low = omega (arith, low, count); row = (stand.nodes_are k v at).0 }

  source : (k : ℕ) (v : SourceView S) (b : Bool) → nat_lt k (length nodes) ≡ b → (if b then None else slice_get sources (k - length nodes)) ≡ Some v → IsSourceOf p k v
  source k v true e at = cc
  source k v false e at =
      let count = stand.node_count in let many = stand.source_count in
      let ge : length nodes ≤ k = grind (arith, nat_tests) in
      let low = slice_get_within sources (k - length nodes) v at in
      let same : k - length nodes ≡ source_number p k = ap (λ n. k - n) count in
      record {
        high = omega (arith, ge, count);
        low = omega (arith, low, many, same);
        row = (stand.sources_are (k - length nodes) v at).0 ∙ ap (λ j. source_row p j) same;
      }

opened_at : {S : Type 0} (p : Tree) (i : ℕ) (xs : List S) (j : ℕ) (v : SourceView S) → slice_get (sources_from p i xs) j ≡ Some v
    → (s : S) × (slice_get xs j ≡ Some s) × (v ≡ opened_view (source_row p (i + j)) no_tail s)
opened_at p i [] j v e = cc
opened_at p i (x ∷ xs) zero v e = let z : i + 0 ≡ i = omega arith in (x, refl, (let w : v ≡ opened_view (source_row p i) no_tail x = cc in w ∙ ap (λ k. opened_view (source_row p k) no_tail x) (sym z)))
opened_at p i (x ∷ xs) (suc j) v e =
    let (s, at, is) = opened_at p (suc i) xs j v e in
    let z : suc i + j ≡ i + suc j = omega arith in
    (s, at, is ∙ ap (λ k. opened_view (source_row p k) no_tail s) z)

length_from : {S : Type 0} (p : Tree) (i : ℕ) (xs : List S) → length (sources_from p i xs) ≡ length xs
length_from p i [] = refl
length_from p i (x ∷ xs) = ap (λ n. suc n) (length_from p (suc i) xs)

abbrev pub given : {S : Type 0} → (S → Option (List ℕ)) → (S → ℕ) → Tree → List S → List (List ℕ) → Opening
given told faults p samples seeds = record { plan = p; seeds = seeds; told = map told samples; faults = map faults samples }

module _ {S : Type 0} (told : S → Option (List ℕ)) (faults : S → ℕ) (p : Tree) (samples : List S) (seeds : List (List ℕ)) (nodes : List NodeView) (sources : List (SourceView S))
    (fresh : AreFresh p seeds (length p.nodes) nodes) (are : sources ≡ sources_from p 0 samples) (count : length samples ≡ length p.sources) where
  pub fresh_stand : StandIn told faults p (opened (given told faults p samples seeds)) nodes sources
  fresh_stand = record {
    node_count = fresh.len;
    source_count = ap (λ (xs : List (SourceView S)). length xs) are ∙ (length_from p 0 samples ∙ count);
    nodes_are = λ k v at. node k v at (fresh.at k v at);
    sources_are = λ j v at. source j v (opened_at p 0 samples j v (subst (λ xs. slice_get xs j ≡ Some v) are at));
  } where
    node : (k : ℕ) (v : NodeView) → slice_get nodes k ≡ Some v → v ≡ record { row = node_row p k; state = fresh_node (kept_seed (node_row p k) (seed_in seeds k)) }
        → (v.row ≡ node_row p k) × (NodeIs v.state ≡ opened (given told faults p samples seeds) k)
    node k v at is =
        let low = slice_get_within nodes k v at in let len = fresh.len in
        let b : nat_lt k (length p.nodes) ≡ true = grind (arith, nat_tests) in
        (ap (λ (v : NodeView). v.row) is, ap (λ (v : NodeView). NodeIs v.state) is ∙ rw b refl)

    source : (j : ℕ) (v : SourceView S) → ((s : S) × (slice_get samples j ≡ Some s) × (v ≡ opened_view (source_row p (0 + j)) no_tail s))
        → (v.row ≡ source_row p j) × (SourceIs (source_state told faults v) ≡ opened (given told faults p samples seeds) (source_slot p j))
    source j v (s, at, is) =
        let z : 0 + j ≡ j = omega arith in
        let view : v ≡ opened_view (source_row p j) no_tail s = is ∙ ap (λ k. opened_view (source_row p k) no_tail s) z in
        let tells : slice_get (map told samples) (source_number p (source_slot p j)) ≡ Some (told s) = ap (λ k. slice_get (map told samples) k) (place_of (length p.nodes) j) ∙ (slice_get-map told samples j ∙ ap (λ o. option_map told o) at) in
        let fails : slice_get (map faults samples) (source_number p (source_slot p j)) ≡ Some (faults s) = ap (λ k. slice_get (map faults samples) k) (place_of (length p.nodes) j) ∙ (slice_get-map faults samples j ∙ ap (λ o. option_map faults o) at) in (
          ap (λ (v : SourceView S). v.row) view,
          ap (λ (v : SourceView S). SourceIs (source_state told faults v)) view
              ∙ (ap (λ (o : Option (Option (List ℕ))). SourceIs (opened_source (unwrap_or o None) (faults s))) (sym tells)
              ∙ (ap (λ (o : Option ℕ). SourceIs (opened_source (unwrap_or (slice_get (map told samples) (source_number p (source_slot p j))) None) (unwrap_or o 0))) (sym fails)
              ∙ sym (ap (λ (b : Bool). if b then NodeIs (fresh_node (kept_seed (node_row p (source_slot p j)) (unwrap_or (slice_get seeds (source_slot p j)) [])))
              else SourceIs (opened_source (unwrap_or (slice_get (map told samples) (source_number p (source_slot p j))) None) (unwrap_or (slice_get (map faults samples) (source_number p (source_slot p j))) 0)))
              (high (length p.nodes) j)))),
        )

  pub fresh_of_plan : AreOfPlan p nodes sources
  fresh_of_plan = stand_of_plan told faults p (opened (given told faults p samples seeds)) nodes sources fresh_stand

  pub fresh_counts : AreAtMost nodes 0
  fresh_counts = record {
    seeds = λ k v at. (let is = ap (λ (v : NodeView). v.state.seeds) (fresh.at k v at) in omega (arith, is));
    gives = λ k v at. (let is = ap (λ (v : NodeView). v.state.gives) (fresh.at k v at) in omega (arith, is));
  }

  pub opens_by : (reads : S → ℕ → Option (List ℕ) → S → Type 0) (ns : List NodeView) (ss : List (SourceView S)) → IsPlanned 0 p → IsTree 8 p.nodes → length seeds ≡ length p.nodes
      → OpenedBy told faults reads (given told faults p samples seeds) (samples_in sources) (opening_calls p) ns ss
      → OpensBy told faults reads p samples seeds (record { plan = p; nodes = ns; sources = ss; calls = 0 })
  opens_by reads ns ss range tree many by = record {
    opens = record {
      f = given told faults p samples seeds;
      o = by.o;
      plan_is = refl;
      given = record { plan_is = refl; seeds_are = refl; told_are = refl; faults_are = refl };
      is_opening = record {
        planned = range;
        tree = tree;
        seeds = many;
        long = fresh.long;
        told = length-map samples told ∙ count;
        faults = length-map samples faults ∙ count;
        calls = by.calls_are;
        callers = by.callers_are;
        strings = by.strings_are;
        legal = by.legal;
      };
      stand = by.stand;
      calls = refl;
    };
    made = subst (λ z. AreReads reads faults p z (samples_in ss) (acts_of by.o)) (ap (λ (xs : List (SourceView S)). samples_in xs) are ∙ samples_given p 0 samples) by.made;
  }
