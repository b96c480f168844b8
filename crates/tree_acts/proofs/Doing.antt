-- Acts in a row on what is held.
use Rattle.std.proofs.Common.{◌≡◌, ◌≢◌, ◌∙◌, ◌∷◌, ◌++◌, ℕ, List, [], true, false, map, refl, sym, ap, subst, inl, inr, arith}
use Rattle.std.specs.Prelude.{◌==◌, ◌⊎◌, if◌then◌else◌, Bool, Option, Some, None}
use Rattle.std.specs.Option.{option_map}
use Rattle.std.proofs.lemmas.Bool.Decides.{eqb_tells}
use Rattle.tree_config.specs.Tree.{Tree}
use Rattle.entropy_source.specs.Views.{SourceView, source_state}
use Rattle.entropy_source.specs.Reads.{LeadBy}
use Rattle.entropy_source.specs.Source.{SourceAct, SourceState, source_after, source_after_all}
use Rattle.entropy_source.proofs.Leading.{lead_on}
use Rattle.rbg_nodes.specs.Node.{NodeAct, node_after}
use Rattle.rbg_nodes.specs.Views.{NodeView}
use Rattle.tree_rules.specs.History.{Act, AtNode, AtSource, SourceIs, SlotAct, SlotState, at_slot, own, slot_after, slot_after_all, sources_in}
use Rattle.tree_rules.specs.Slots.{node_row, source_row, source_number, source_slot}
use Rattle.tree_rules.specs.Chain.{SourceLink}
use Rattle.tree_rules.specs.Fits.{at_source}
use Rattle.tree_rules.proofs.Leaves.{own-append}
use Rattle.tree_rules.proofs.Sources.{at_slot-append}
use Rattle.tree_acts.specs.Hold.{Hold, PutsNode, PutsSource, states_held, IsOfPlan}
use Rattle.tree_acts.specs.Did.{Did}

pub own_here : (k : ℕ) (l : SourceLink) (acts : List SourceAct) → (l.slot == k) ≡ true → own k (map (at_source l) acts) ≡ map AtSource acts
own_here k l [] b = refl
own_here k l (a ∷ acts) b = rw (b, own_here k l acts b) refl

pub own_else : (k : ℕ) (l : SourceLink) (acts : List SourceAct) → (l.slot == k) ≡ false → own k (map (at_source l) acts) ≡ []
own_else k l [] b = refl
own_else k l (a ∷ acts) b = rw b (own_else k l acts b)

pub source_acts : (p : Tree) (k : ℕ) (s : SourceState) (acts : List SourceAct) → slot_after_all p k (SourceIs s) (map AtSource acts) ≡ SourceIs (source_after_all (source_row p (source_number p k)) s acts)
source_acts p k s [] = refl
source_acts p k s (a ∷ acts) = source_acts p k (source_after (source_row p (source_number p k)) s a) acts

abbrev Tells : ℕ → ℕ → Type 0
Tells a b = (((a == b) ≡ true) × (a ≡ b)) ⊎ (((a == b) ≡ false) × (a ≢ b))

pub after_append : (p : Tree) (k : ℕ) (x : SlotState) (xs ys : List SlotAct)
    → slot_after_all p k x (xs ++ ys) ≡ slot_after_all p k (slot_after_all p k x xs) ys
after_append p k x [] ys = refl
after_append p k x (a ∷ xs) ys = after_append p k (slot_after p k x a) xs ys

-- the same source has the same samples
same_samples : {S : Type 0} (o : Option (SourceView S)) (v w : SourceView S) → o ≡ Some v → o ≡ Some w → v.samples ≡ w.samples
same_samples {S} o v w a b = let same : v ≡ w = cc in ap (λ (x : SourceView S). x.samples) same

sources_all : (acts : List SourceAct) → sources_in (map AtSource acts) ≡ acts
sources_all [] = refl
sources_all (a ∷ acts) = ap (λ z. a ∷ z) (sources_all acts)

module _ {S : Type 0} (told : S → Option (List ℕ)) (faults : S → ℕ) (p : Tree) (reads : S → ℕ → Option (List ℕ) → S → Type 0) where
  pub did_none : (h : Hold (SourceView S)) → Did told faults reads p h h []
  did_none h = record { states = λ k. refl; nodes = λ k. refl; sources = λ k. refl; made = λ k v w a b. same_samples (h.sources k) v w a b }

  pub did_join : (h t u : Hold (SourceView S)) (xs ys : List Act) → Did told faults reads p h t xs → Did told faults reads p t u ys → Did told faults reads p h u (xs ++ ys)
  did_join h t u xs ys a b = record {
    states = λ k. b.states k ∙ (ap (λ x. slot_after_all p k x (own k ys)) (a.states k)
        ∙ (sym (after_append p k (states_held told faults h k) (own k xs) (own k ys)) ∙ ap (λ z. slot_after_all p k (states_held told faults h k) z) (sym (own-append k xs ys))));
    nodes = λ k. b.nodes k ∙ a.nodes k;
    sources = λ k. b.sources k ∙ a.sources k;
    made = λ k v w e f. on k v w e f (t.sources k) refl;
  } where
    on : (k : ℕ) (v w : SourceView S) → h.sources k ≡ Some v → u.sources k ≡ Some w → (o : Option (SourceView S)) → t.sources k ≡ o
        → LeadBy reads faults v.samples (at_slot k (xs ++ ys)) w.samples
    on k v w e f None g = let same = a.sources k in absurd (cc)
    on k v w e f (Some x) g =
        subst (λ z. LeadBy reads faults v.samples z w.samples) (sym (at_slot-append k xs ys))
        (lead_on reads faults v.samples x.samples w.samples (at_slot k xs) (at_slot k ys) (a.made k v x e g) (b.made k x w g f))

  -- one act of a node
  pub did_node : (h t : Hold (SourceView S)) (n : ℕ) (v w : NodeView) (a : NodeAct) → IsOfPlan p h → h.nodes n ≡ Some v → PutsNode h t n w
      → w ≡ record v { state = node_after v.row v.state a } → Did told faults reads p h t (record { slot = n; act = AtNode a } ∷ [])
  did_node h t n v w a plan at puts is = record {
    states = λ k. by_state k (eqb_tells n k);
    nodes = λ k. by_row k (eqb_tells n k);
    sources = λ k. ap (λ (o : Option (SourceView S)). option_map (λ (v : SourceView S). v.row) o) (puts.sources k);
    made = λ k x y e f. by_made x y (n == k) (same_samples (h.sources k) x y e (sym (puts.sources k) ∙ f));
  } where
    by_made : (x y : SourceView S) (b : Bool) → x.samples ≡ y.samples → LeadBy reads faults x.samples (sources_in (if b then AtNode a ∷ [] else [])) y.samples
    by_made x y true e = e
    by_made x y false e = e

    now : t.nodes n ≡ Some (record v { state = node_after v.row v.state a })
    now = puts.there ∙ ap Some is

    row : v.row ≡ node_row p n
    row = (plan.node n v at).row

    by_state : (k : ℕ) → Tells n k → states_held told faults t k ≡ slot_after_all p k (states_held told faults h k) (own k (record { slot = n; act = AtNode a } ∷ []))
    by_state k o = elim o [
      | inl (b, e) ↦ subst (λ k. (n == k) ≡ true → states_held told faults t k ≡ slot_after_all p k (states_held told faults h k) (own k (record { slot = n; act = AtNode a } ∷ []))) e
          (λ b. rw (b, now, at, row) refl) b
      | inr (b, e) ↦ rw (b, puts.others k (λ x. e (sym x)), puts.sources k) refl
    ]

    by_row : (k : ℕ) → Tells n k → option_map (λ (v : NodeView). v.row) (t.nodes k) ≡ option_map (λ (v : NodeView). v.row) (h.nodes k)
    by_row k o = elim o [
      | inl (b, e) ↦ subst (λ k. option_map (λ (v : NodeView). v.row) (t.nodes k) ≡ option_map (λ (v : NodeView). v.row) (h.nodes k)) e (rw (now, at) refl)
      | inr (b, e) ↦ ap (λ (o : Option NodeView). option_map (λ (v : NodeView). v.row) o) (puts.others k (λ x. e (sym x)))
    ]

  -- acts of a source
  pub did_source : (h t : Hold (SourceView S)) (j : ℕ) (v w : SourceView S) (acts : List SourceAct) (l : SourceLink) → l.slot ≡ source_slot p j
      → IsOfPlan p h → h.sources (source_slot p j) ≡ Some v → PutsSource h t (source_slot p j) w → w.row ≡ v.row
      → source_state told faults w ≡ source_after_all v.row (source_state told faults v) acts → LeadBy reads faults v.samples acts w.samples
      → Did told faults reads p h t (map (at_source l) acts)
  did_source h t j v w acts l slot plan at puts row is lead = record {
    states = λ k. by_state k (eqb_tells (source_slot p j) k);
    nodes = λ k. ap (λ (o : Option NodeView). option_map (λ (v : NodeView). v.row) o) (puts.nodes k);
    sources = λ k. by_row k (eqb_tells (source_slot p j) k);
    made = λ k x y e f. by_made k x y e f (eqb_tells (source_slot p j) k);
  } where
    by_made : (k : ℕ) (x y : SourceView S) → h.sources k ≡ Some x → t.sources k ≡ Some y → Tells (source_slot p j) k
        → LeadBy reads faults x.samples (at_slot k (map (at_source l) acts)) y.samples
    by_made k x y e f o = elim o [
      | inl (b, same) ↦ (let first = same_samples (h.sources k) v x (subst (λ k. h.sources k ≡ Some v) same at) e in
          let last = same_samples (t.sources k) w y (subst (λ k. t.sources k ≡ Some w) same puts.there) f in
          let acts_are = ap sources_in (own_here k l acts (ap (λ n. n == k) slot ∙ b)) ∙ sources_all acts in
          subst (λ z. LeadBy reads faults x.samples z y.samples) (sym acts_are)
          (subst (λ z. LeadBy reads faults z acts y.samples) first (subst (λ z. LeadBy reads faults v.samples acts z) last lead)))
      | inr (b, apart) ↦ (let none = ap sources_in (own_else k l acts (ap (λ n. n == k) slot ∙ b)) in
          subst (λ z. LeadBy reads faults x.samples z y.samples) (sym none) (same_samples (h.sources k) x y e (sym (puts.others k (λ i. apart (sym i))) ∙ f)))
    ]

    planned : v.row ≡ source_row p (source_number p (source_slot p j))
    planned = (plan.source (source_slot p j) v at).row

    no_node : h.nodes (source_slot p j) ≡ None
    no_node = by (h.nodes (source_slot p j)) refl where
      by : (o : Option NodeView) → h.nodes (source_slot p j) ≡ o → o ≡ None
      by None e = refl
      by (Some x) e = absurd (let a = (plan.node (source_slot p j) x e).low in omega (arith, a))

    by_state : (k : ℕ) → Tells (source_slot p j) k → states_held told faults t k ≡ slot_after_all p k (states_held told faults h k) (own k (map (at_source l) acts))
    by_state k o = elim o [
      | inl (b, e) ↦ subst (λ k. (source_slot p j == k) ≡ true → states_held told faults t k ≡ slot_after_all p k (states_held told faults h k) (own k (map (at_source l) acts))) e
          (λ b. rw (own_here (source_slot p j) l acts (ap (λ n. n == source_slot p j) slot ∙ b), puts.nodes (source_slot p j), no_node, puts.there, at)
          (sym (source_acts p (source_slot p j) (source_state told faults v) acts ∙ ap SourceIs (ap (λ r. source_after_all r (source_state told faults v) acts) (sym planned) ∙ sym is)))) b
      | inr (b, e) ↦ rw (own_else k l acts (ap (λ n. n == k) slot ∙ b), puts.others k (λ x. e (sym x)), puts.nodes k) refl
    ]

    by_row : (k : ℕ) → Tells (source_slot p j) k → option_map (λ (v : SourceView S). v.row) (t.sources k) ≡ option_map (λ (v : SourceView S). v.row) (h.sources k)
    by_row k o = elim o [
      | inl (b, e) ↦ subst (λ k. option_map (λ (v : SourceView S). v.row) (t.sources k) ≡ option_map (λ (v : SourceView S). v.row) (h.sources k)) e (rw (puts.there, at) (ap Some row))
      | inr (b, e) ↦ ap (λ (o : Option (SourceView S)). option_map (λ (v : SourceView S). v.row) o) (puts.others k (λ x. e (sym x)))
    ]
