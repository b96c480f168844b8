-- From a call over a tree that stands in some states to the entry of a history that leaves them.
use Rattle.std.proofs.Common.{◌≡◌, ◌∙◌, ◌<◌, ◌+◌, ◌-◌, ◌++◌, ◌∷◌, ℕ, List, [], length, Bool, true, false, refl, sym, ap, subst, arith, inl, inr}
use Rattle.std.specs.Prelude.{Option, Some, None, IsSome, slice_get, nat_lt, if◌then◌else◌}
use Rattle.std.proofs.lemmas.List.{map-append}
use Rattle.std.proofs.lemmas.Option.{slice_get_past, slice_get_cases, slice_get_within}
use Rattle.tree_config.specs.Tree.{Tree, IsTree}
use Rattle.tree_config.specs.Planned.{IsPlanned}
use Rattle.entropy_source.specs.Views.{SourceView, source_state}
use Rattle.rbg_nodes.specs.Views.{NodeView}
use Rattle.tree_rules.specs.declared.call.Call.{Call}
use Rattle.tree_rules.specs.declared.reply.Reply.{Reply}
use Rattle.tree_rules.specs.Slots.{source_row, source_slot}
use Rattle.tree_rules.specs.History.{Entry, Opening, States, NodeIs, SourceIs, acts_of, after, has, opened, own, slot_after_all, states_after}
use Rattle.tree_rules.specs.Fits.{Fits, Legal}
use Rattle.tree_rules.specs.Served.{Served, entry_of}
use Rattle.tree_rules.specs.Openings.{IsHistory, states_behind}
use Rattle.tree_rules.proofs.Near.{near}
use Rattle.tree_rules.proofs.Parts.{joined, states_parts}
use Rattle.tree_rules.proofs.Parting.{place_of, apart}
use Rattle.tree_rules.proofs.Plans.{takes_samples}
use Rattle.tree_rules.proofs.Quieting.{quiet}
use Rattle.tree_acts.specs.Hold.{IsHeld}
use Rattle.tree_acts.specs.Made.{ServedBy}
use Rattle.tree_core.specs.Opened.{OpenedBy}
use Rattle.tree_core.specs.Made.{AreReads, samples_in}
use Rattle.tree_core.specs.Reasons.{HasReason}
use Rattle.tree_core.specs.Solo.{GoesOn, StandIn, StandAfter}
use Rattle.tree_core.specs.Whole.{AreOfPlan, all_held, source_behind, states_of}
use Rattle.tree_core.proofs.Made.{acts_more, reads_held, reads_on, samples_count}
use Rattle.tree_core.proofs.Wholes.{behind_at, chain_held}

module _ {S : Type 0} (told : S → Option (List ℕ)) (faults : S → ℕ) (p : Tree) where
  -- the states of nodes and sources
  pub node_state : (nodes : List NodeView) (sources : List (SourceView S)) (k : ℕ) (v : NodeView) → slice_get nodes k ≡ Some v → states_of told faults nodes sources k ≡ NodeIs v.state
  node_state nodes sources k v at = rw at refl

  pub source_state_at : (nodes : List NodeView) (sources : List (SourceView S)) (j : ℕ) (v : SourceView S) → length nodes ≡ length p.nodes → slice_get sources j ≡ Some v
      → states_of told faults nodes sources (source_slot p j) ≡ SourceIs (source_state told faults v)
  source_state_at nodes sources j v count at =
      let none : slice_get nodes (length p.nodes + j) ≡ None = slice_get_past nodes (length p.nodes + j) (omega (arith, count)) in
      let some : source_behind (length nodes) sources (length p.nodes + j) ≡ Some v = ap (λ n. source_behind (length nodes) sources (n + j)) (sym count) ∙ (behind_at (length nodes) sources j ∙ at) in
      rw (none, some) refl

  -- they agree with the states in which they stand
  pub agree : (s : States) (nodes : List NodeView) (sources : List (SourceView S)) → StandIn told faults p s nodes sources → (k : ℕ) → k < length p.nodes + length p.sources
      → states_of told faults nodes sources k ≡ s k
  agree s nodes sources stand k low = elim (slice_get_cases nodes k).1 [
    | inl (v, less, at, is) ↦ node_state nodes sources k v at ∙ (stand.nodes_are k v at).1
    | inr (ge, none) ↦ (let c = stand.node_count in let d = stand.source_count in
        elim (slice_get_cases sources (k - length nodes)).1 [
          | inl (v, less, at, is) ↦ (let same : source_slot p (k - length nodes) ≡ k = omega (arith, c, ge) in
              ap (λ i. states_of told faults nodes sources i) (sym same) ∙ (source_state_at nodes sources (k - length nodes) v c at ∙ ((stand.sources_are (k - length nodes) v at).1 ∙ ap s same)))
          | inr (past, gone) ↦ absurd (omega (arith, c, d, ge, past, low))
        ])
  ]

  module _ (range : IsPlanned 0 p) (tree : IsTree 8 p.nodes) (s : States) (nodes ns : List NodeView) (sources ss : List (SourceView S)) (stand : StandIn told faults p s nodes sources) (are : AreOfPlan p nodes sources)
      (now : AreOfPlan p ns ss) (c : Call) (string : List ℕ) (reply : Reply) (bytes : List ℕ)
      (served : Served p (states_of told faults nodes sources) (states_of told faults ns ss) c string reply bytes) (caller : ℕ) where
    abbrev pub entry : Entry
    entry = entry_of p (states_of told faults nodes sources) c string reply bytes served.acts caller

    low_of : (k : ℕ) → has entry.chain k ≡ true → states_of told faults nodes sources k ≡ s k
    low_of k h = agree s nodes sources stand k (low (chain_held p nodes sources are range tree (states_of told faults nodes sources) c string k h)) where
      low : IsHeld (all_held nodes sources) k → k < length p.nodes + length p.sources
      low held = elim held [
        | inl is ↦ (elim (slice_get_cases nodes k).1 [
          | inl (v, less, at, e) ↦ (let c = are.node_count in omega (arith, c, less))
          | inr (ge, none) ↦ absurd (let z : IsSome (slice_get nodes k) = is in let y : IsSome {T = NodeView} None = subst (λ (o : Option NodeView). IsSome o) none z in let x : false ≡ true = y in cc)
        ])
        | inr is ↦ by (nat_lt k (length nodes)) is
      ] where
        by : (b : Bool) → IsSome (if b then None else slice_get sources (k - length nodes)) → k < length p.nodes + length p.sources
        by true is = absurd (let x : false ≡ true = is in cc)
        by false is = elim (slice_get_cases sources (k - length nodes)).1 [
          | inl (v, less, at, e) ↦ (let c = are.node_count in let d = are.source_count in omega (arith, c, d, less))
          | inr (ge, none) ↦ absurd (let y : IsSome {T = SourceView S} None = subst (λ (o : Option (SourceView S)). IsSome o) none is in let x : false ≡ true = y in cc)
        ]

    -- the entry fits the states
    pub fits_in : Fits p s entry
    fits_in = near p (states_of told faults nodes sources) s entry low_of (served.fits caller)

    -- and leaves the states in which the tree stands now
    pub stand_now : StandIn told faults p (λ k. after p k (s k) entry) ns ss
    stand_now = record {
      node_count = now.node_count;
      source_count = now.source_count;
      nodes_are = λ k v at. (
        (now.rows.node k v at).row,
        (let c = now.node_count in let low = slice_get_within ns k v at in
            sym (node_state ns ss k v at) ∙ (served.leaves k ∙ ap (λ x. slot_after_all p k x (own k served.acts)) (agree s nodes sources stand k (omega (arith, c, low))))),
      );
      sources_are = λ j v at. (
        source_row_is j v at,
        (let d = now.source_count in let low = slice_get_within ss j v at in
            sym (source_state_at ns ss j v now.node_count at)
            ∙ (served.leaves (source_slot p j) ∙ ap (λ x. slot_after_all p (source_slot p j) x (own (source_slot p j) served.acts)) (agree s nodes sources stand (source_slot p j) (omega (arith, d, low))))),
      );
    } where
      source_row_is : (j : ℕ) (v : SourceView S) → slice_get ss j ≡ Some v → v.row ≡ source_row p j
      source_row_is j v at =
          let some : source_behind (length ns) ss (length p.nodes + j) ≡ Some v = (let c = now.node_count in ap (λ n. source_behind (length ns) ss (n + j)) (sym c) ∙ (behind_at (length ns) ss j ∙ at)) in
          (now.rows.source (source_slot p j) v some).row ∙ ap (λ k. source_row p k) (place_of (length p.nodes) j)

-- a history goes on with the entry of a call
module _ {S : Type 0} (told : S → Option (List ℕ)) (faults : S → ℕ) (reads : S → ℕ → Option (List ℕ) → S → Type 0) (f : Opening) (o h : List Entry) (is : IsHistory f o h) (nodes ns : List NodeView) (sources ss : List (SourceView S)) where
  pub goes_on : StandAfter told faults f o h nodes sources → AreOfPlan f.plan nodes sources → AreOfPlan f.plan ns ss → (c : Call) (string : List ℕ) (reply : Reply) (bytes : List ℕ)
      → ServedBy told faults reads f.plan (all_held nodes sources) (all_held ns ss) c string reply bytes → ((e : Entry) → Fits f.plan (states_behind f o h) e → HasReason f.plan (states_behind f o h) e)
      → GoesOn told faults reads f o h (samples_in sources) c string reply bytes ns ss
  goes_on stand are now c string reply bytes by reason =
      let served = by.served in
      let range = is.opening.planned in let tree = is.opening.tree in
      let e = entry told faults f.plan range tree (states_behind f o h) nodes ns sources ss stand are now c string reply bytes served 1 in
      let fit = fits_in told faults f.plan range tree (states_behind f o h) nodes ns sources ss stand are now c string reply bytes served 1 in
      let more : IsHistory f o (h ++ e ∷ []) = record { opening = is.opening; legal = joined f.plan (states_after f.plan (opened f) o) h (e ∷ []) is.legal (fit, tt) } in
      let whole : Legal f.plan (opened f) (o ++ (h ++ e ∷ [])) = joined f.plan (opened f) o (h ++ e ∷ []) is.opening.legal more.legal in
      record {
        entry = e;
        caller_is = refl;
        call_is = refl;
        string_is = refl;
        reply_is = refl;
        bytes_are = refl;
        history = more;
        apart = apart f (o ++ (h ++ e ∷ [])) whole;
        quiet = quiet f (o ++ (h ++ e ∷ [])) (takes_samples 0 f.plan range) whole;
        reason = reason e fit;
        stand = subst (λ s. StandIn told faults f.plan s ns ss) (sym (states_parts f.plan (states_after f.plan (opened f) o) h (e ∷ [])))
            (stand_now told faults f.plan range tree (states_behind f o h) nodes ns sources ss stand are now c string reply bytes served 1);
        made = reads_held reads faults f.plan nodes ns sources ss served.acts are now by.made;
      }

-- an opening call more
module _ {S : Type 0} (told : S → Option (List ℕ)) (faults : S → ℕ) (reads : S → ℕ → Option (List ℕ) → S → Type 0) (f : Opening) (range : IsPlanned 0 f.plan) (tree : IsTree 8 f.plan.nodes)
    (samples : List S) (nodes ns : List NodeView) (sources ss : List (SourceView S)) (count : length samples ≡ length f.plan.sources) where
  pub one_opened_more : (calls : List Call) → OpenedBy told faults reads f samples calls nodes sources → AreOfPlan f.plan nodes sources → AreOfPlan f.plan ns ss → (c : Call) (reply : Reply) (bytes : List ℕ)
      → ServedBy told faults reads f.plan (all_held nodes sources) (all_held ns ss) c [] reply bytes → OpenedBy told faults reads f samples (calls ++ c ∷ []) ns ss
  one_opened_more calls by are now c reply bytes answer =
      let served = answer.served in
      let many : length (samples_in sources) ≡ length samples = samples_count sources ∙ (are.source_count ∙ sym count) in
      let s = states_after f.plan (opened f) by.o in
      let e = entry told faults f.plan range tree s nodes ns sources ss by.stand are now c [] reply bytes served 0 in
      record {
        o = by.o ++ e ∷ [];
        calls_are = map-append (λ (e : Entry). e.call) by.o (e ∷ []) ∙ ap (λ z. z ++ c ∷ []) by.calls_are;
        callers_are = map-append (λ (e : Entry). e.caller) by.o (e ∷ []) ∙ (ap (λ z. z ++ 0 ∷ []) by.callers_are ∙ sym (map-append (λ (e : Entry). 0) by.o (e ∷ [])));
        strings_are = map-append (λ (e : Entry). e.string) by.o (e ∷ []) ∙ (ap (λ z. z ++ [] ∷ []) by.strings_are ∙ sym (map-append (λ (e : Entry). []) by.o (e ∷ [])));
        legal = joined f.plan (opened f) by.o (e ∷ []) by.legal (fits_in told faults f.plan range tree s nodes ns sources ss by.stand are now c [] reply bytes served 0, tt);
        stand = subst (λ s. StandIn told faults f.plan s ns ss) (sym (states_parts f.plan (opened f) by.o (e ∷ [])))
            (stand_now told faults f.plan range tree s nodes ns sources ss by.stand are now c [] reply bytes served 0);
        made = subst (λ z. AreReads reads faults f.plan samples (samples_in ss) z) (sym (acts_more by.o e))
            (reads_on reads faults f.plan samples (samples_in sources) (samples_in ss) (acts_of by.o) served.acts many by.made
            (reads_held reads faults f.plan nodes ns sources ss served.acts are now answer.made));
      }

  pub one_opened_of : (p : Tree) → f.plan ≡ p → (calls : List Call) → OpenedBy told faults reads f samples calls nodes sources → AreOfPlan p nodes sources → AreOfPlan p ns ss → (c : Call) (reply : Reply) (bytes : List ℕ)
      → ServedBy told faults reads p (all_held nodes sources) (all_held ns ss) c [] reply bytes → OpenedBy told faults reads f samples (calls ++ c ∷ []) ns ss
  one_opened_of p is calls by are now c reply bytes served =
      one_opened_more calls by (subst (λ p. AreOfPlan p nodes sources) (sym is) are) (subst (λ p. AreOfPlan p ns ss) (sym is) now) c reply bytes
      (subst (λ p. ServedBy told faults reads p (all_held nodes sources) (all_held ns ss) c [] reply bytes) (sym is) served)
