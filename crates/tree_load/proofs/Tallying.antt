-- Runs of Generates and Status calls that are Done, counted.
use Rattle.std.proofs.Common.{◌≡◌, ◌∙◌, ◌++◌, ◌∷◌, ◌+◌, ◌*◌, ◌<◌, ◌≤◌, ℕ, List, [], zero, suc, Bool, true, false, length, refl, sym, ap, subst, arith, add-mul, inl, inr}
use Rattle.std.proofs.lemmas.Bool.{cases_lt}
use Rattle.std.proofs.lemmas.Bool.Decides.{nat_tests}
use Rattle.std.proofs.Math.ListN.{replicate}
use Rattle.std.specs.Prelude.{◌⊎◌, if◌then◌else◌, flat_map, nat_lt, None, slice_get, unwrap_or}
use Rattle.std.specs.List.{range_with_len}
use Rattle.entropy_source.specs.Source.{blocks_for, need_of_block, opened_source}
use Rattle.entropy_source.specs.declared.answers.SourceRow.{SourceRow}
use Rattle.rbg_nodes.specs.Node.{entropy_len, fresh_node, kept_seed}
use Rattle.rbg_nodes.specs.Views.{counts_of}
use Rattle.rbg_nodes.specs.declared.node.NodeCounts.{NodeCounts}
use Rattle.rbg_nodes.specs.declared.node.NodeRow.{NodeRow}
use Rattle.tree_config.specs.Planned.{IsPlanned}
use Rattle.tree_config.specs.Tree.{IsTree, Tree}
use Rattle.tree_rules.specs.Fits.{Fits, Legal}
use Rattle.tree_rules.specs.History.{Entry, NodeIs, Opening, SlotState, SourceIs, States, after, has, node_in, opened, own, slot_after_all, source_in, states_after}
use Rattle.tree_rules.specs.Links.{Gives, is_rs, is_xor, last_link}
use Rattle.tree_rules.specs.Openings.{IsHistory, states_behind}
use Rattle.tree_rules.specs.Slots.{node_plan, node_row, source_number, source_row, source_slot}
use Rattle.tree_rules.specs.declared.call.Call.{Call}
use Rattle.tree_rules.specs.declared.call.Call.TheVariants.{Generate, Instantiate, Reseed, Start, Status, Uninstantiate}
use Rattle.tree_rules.proofs.Growing.{raised_entry}
use Rattle.tree_rules.proofs.Leaves.{slots}
use Rattle.tree_rules.proofs.Parting.{IsSource, opened_is_source, source_next}
use Rattle.tree_rules.proofs.Parts.{both, states_parts}
use Rattle.tree_rules.proofs.Seeding.{status_stays}
use Rattle.tree_core.specs.declared.solo.SourceCounts.{SourceCounts}
use Rattle.tree_load.specs.Tally.{all_asks, all_blocks, asks, blocks_by, counter_for, gives_for, is_child, is_from, node_by, reseeds_for, source_by, sum_of, drawn_len}
use Rattle.tree_load.specs.Tallied.{AreDone, IsPlain, asked_by, counts_at, source_counts_at, with_call}
use Rattle.tree_load.proofs.Asking.{same_sums}
use Rattle.tree_load.proofs.Capping.{entry_caps}
use Rattle.tree_load.proofs.Climbing.{moved, with_one}
use Rattle.tree_load.proofs.Generating.{Generated, chain, counted, draws_on, generated, moves}
use Rattle.tree_load.proofs.Lining.{AreCapped, are_low}
use Rattle.tree_load.proofs.Moving.{none_moved}
use Rattle.tree_load.proofs.Totals.{blocks_all, steps}

-- where nothing is asked of any node by calls, nothing is asked of any node
none_reseeds : (row : NodeRow) (c : ℕ) → reseeds_for row c [] ≡ 0
none_reseeds row c = by (is_rs row.kind) where
  by : (b : Bool) → ◌≡◌ {A = ℕ} (if b then (if b then 0 else 0) else 0) 0
  by true = refl
  by false = refl

none_gives : (row : NodeRow) → gives_for row [] ≡ 0
none_gives row = by (is_rs row.kind) where
  by : (b : Bool) → ◌≡◌ {A = ℕ} (if b then 0 else 0) 0
  by true = refl
  by false = refl

pub all_empty : (g : ℕ → List ℕ) → ((m : ℕ) → g m ≡ []) → (xs : List ℕ) → flat_map g xs ≡ []
all_empty g none [] = refl
all_empty g none (x ∷ xs) = ap (λ z. z ++ flat_map g xs) (none x) ∙ all_empty g none xs

none_asks : (far : ℕ) (p : Tree) (c : ℕ → ℕ) (own : ℕ → List ℕ) → ((m : ℕ) → own m ≡ []) → (n : ℕ) → asks far p c own n ≡ []
unfolding asks
none_asks zero p c own none n = none n
none_asks (suc far) p c own none n =
    ap (λ z. z ++ flat_map kids (range_with_len 0 (length p.nodes))) (none n)
    ∙ all_empty kids (λ m. by m (is_child p n m) (none_asks far p c own none m)) (range_with_len 0 (length p.nodes)) where
      kids : ℕ → List ℕ
      kids m = if is_child p n m then replicate (reseeds_for (node_row p m) (c m) (asks far p c own m)) (entropy_len (node_row p m)) else []

      by : (m : ℕ) (b : Bool) → asks far p c own m ≡ [] → (if b then replicate (reseeds_for (node_row p m) (c m) (asks far p c own m)) (entropy_len (node_row p m)) else []) ≡ []
      by m false e = refl
      by m true e = ap (λ z. replicate z (entropy_len (node_row p m))) (ap (λ z. reseeds_for (node_row p m) (c m) z) e ∙ none_reseeds (node_row p m) (c m))

-- counts with the same numbers
pub counts_eq : (x y : NodeCounts) → x.live ≡ y.live → x.counter ≡ y.counter → x.seeds ≡ y.seeds → x.gives ≡ y.gives → x ≡ y
counts_eq x y l c s g =
    let whole : Bool → ℕ → ℕ → ℕ → NodeCounts = λ a b d e. record { live = a; counter = b; seeds = d; gives = e } in
    let same : whole x.live x.counter x.seeds x.gives ≡ whole y.live y.counter y.seeds y.gives = rw (l, c, s, g) refl in same

pub sources_eq : (x y : SourceCounts) → x.taken ≡ y.taken → x.blocks ≡ y.blocks → x ≡ y
sources_eq x y t b =
    let whole : ℕ → ℕ → SourceCounts = λ a d. record { taken = a; blocks = d } in
    let same : whole x.taken x.blocks ≡ whole y.taken y.blocks = rw (t, b) refl in same

-- a source's slot has no reseed counter
no_counter : (x : SlotState) → IsSource x → (node_in x).counter ≡ 0
no_counter (SourceIs y) h = refl
no_counter (NodeIs y) h = absurd h

module _ (p : Tree) (plan : IsPlanned 0 p) (tree : IsTree 8 p.nodes) where
  -- states as histories leave them
  pub record AreKept (s : States) : Type 0 where
    pub nodes : (k : ℕ) → k < length p.nodes → s k ≡ NodeIs (node_in (s k))
    pub sources : (j : ℕ) → IsSource (s (source_slot p j))
    pub capped : AreCapped p s

  keeps : (s : States) (e : Entry) → Fits p s e → AreKept s → AreKept (λ k. after p k (s k) e)
  keeps s e f kept = record {
    nodes = nodes;
    sources = λ j. (source_next p (source_slot p j) (s (source_slot p j)) (own (source_slot p j) e.acts) (kept.sources j)).1;
    capped = entry_caps 8 0 p s e tree plan f kept.capped;
  } where
    nodes : (k : ℕ) → k < length p.nodes → after p k (s k) e ≡ NodeIs (node_in (after p k (s k) e))
    nodes k low =
        let (y, is, up) = raised_entry 0 p s e plan f k (node_in (s k)) in
        let there : after p k (s k) e ≡ NodeIs y = ap (λ z. slot_after_all p k z (own k e.acts)) (kept.nodes k low) ∙ is in
        there ∙ ap NodeIs (sym (ap node_in there))

  pub kept_after : (es : List Entry) (s : States) → Legal p s es → AreKept s → AreKept (states_after p s es)
  kept_after [] s legal kept = kept
  kept_after (e ∷ es) s (fit, legal) kept = kept_after es (λ k. after p k (s k) e) legal (keeps s e fit kept)

  -- the counters after a Generate are those that its chain leaves
  module _ (s : States) (kept : AreKept s) (e : Entry) (n len : ℕ) (g : Generated p s e n len) (fit : Fits p s e) (c : ℕ → ℕ) (same : (m : ℕ) → c m ≡ (node_in (s m)).counter) where
    next_same : (m : ℕ) → moved c (chain p s n len) m ≡ (node_in (after p m (s m) e)).counter
    next_same m = by (cases_lt m (length p.nodes)) where
      off : length p.nodes ≤ m → (b : Bool) → has (slots (chain p s n len)) m ≡ b → b ≡ false
      off high false is = refl
      off high true is = let l = are_low p s false 8 tree (length p.nodes) n (Gives len) g.low m is in absurd (omega (arith, l, high))

      by : (m < length p.nodes) ⊎ (length p.nodes ≤ m) → moved c (chain p s n len) m ≡ (node_in (after p m (s m) e)).counter
      by (inl low) =
          let m' = moves p plan tree s e n len g m (node_in (s m)) c (kept.nodes m low) (same m) in
          sym (ap (λ z. (node_in z).counter) m'.is ∙ m'.counter_is)
      by (inr high) =
          let place : source_slot p (source_number p m) ≡ m = omega (arith, high) in
          let before : IsSource (s m) = subst (λ z. IsSource (s z)) place (kept.sources (source_number p m)) in
          let now : IsSource (after p m (s m) e) = (source_next p m (s m) (own m e.acts) before).1 in
          none_moved c m (chain p s n len) (let h = off high (has (slots (chain p s n len)) m) refl in h)
          ∙ (same m ∙ (no_counter (s m) before ∙ sym (no_counter (after p m (s m) e) now)))

  -- every node
  pub nodes_tallied : (es : List Entry) (s : States) (c : ℕ → ℕ) → AreKept s → Legal p s es → AreDone es → ((m : ℕ) → c m ≡ (node_in (s m)).counter) → (k : ℕ) → k < length p.nodes
      → counts_at (states_after p s es) k ≡ node_by p c (asked_by es) k (counts_at s k)
  nodes_tallied [] s c kept legal all same k low =
      let row : NodeRow = node_row p k in
      let none = none_asks (length p.nodes) p c (asked_by []) (λ m. refl) k in
      let r = ap (λ z. reseeds_for row (c k) z) none ∙ none_reseeds row (c k) in
      let v = ap (λ z. gives_for row z) none ∙ none_gives row in
      let w = ap (λ z. counter_for row (c k) z) none in
      counts_eq (counts_at s k) (node_by p c (asked_by []) k (counts_at s k)) refl (sym (w ∙ same k)) (omega (arith, r)) (omega (arith, v))
  nodes_tallied (e ∷ es) s c kept (fit, legal) (plainly, code, all) same k low =
      by e.call refl plainly (λ d h. nodes_tallied es now d (keeps s e fit kept) legal all h k low) where
        now : States
        now m = after p m (s m) e

        Goal : NodeCounts → Type 0
        Goal x = counts_at (states_after p now es) k ≡ x

        with_it : Call → ℕ → List ℕ
        with_it z m = with_call z m (asked_by es m)

        by : (z : Call) → e.call ≡ z → IsPlain z
            → ((d : ℕ → ℕ) → ((m : ℕ) → d m ≡ (node_in (now m)).counter) → counts_at (states_after p now es) k ≡ node_by p d (asked_by es) k (counts_at now k))
            → counts_at (states_after p now es) k ≡ node_by p c (asked_by (e ∷ es)) k (counts_at s k)
        by (Status n) is h ih =
            let stays = status_stays p s e n fit is in
            let rest = ih c (λ m. same m ∙ sym (ap (λ z. (node_in z).counter) (stays m (s m)))) in
            subst (λ z. Goal (node_by p c (with_it z) k (counts_at s k))) (sym is)
            (rest ∙ ap (λ z. node_by p c (asked_by es) k (counts_of (node_in z))) (stays k (s k)))
        by (Generate n len x true) is h ih = cc
        by (Generate n len x false) is h ih =
            let g = generated p plan tree s e n len x fit is code in
            let ls = chain p s n len in
            let rest = ih (moved c ls) (next_same s kept e n len g fit c same) in
            let m = moves p plan tree s e n len g k (node_in (s k)) c (kept.nodes k low) (same k) in
            let t = steps p plan tree s kept.capped e n len g c same (asked_by es) k in
            let at : node_in (now k) ≡ m.now = ap node_in m.is in
            let a = m.seeds_are in let b = m.gives_are in let u = t.reseeds in let v = t.gives in
            subst (λ z. Goal (node_by p c (with_it z) k (counts_at s k))) (sym is)
            (rest ∙ (ap (λ z. node_by p (moved c ls) (asked_by es) k (counts_of z)) at
            ∙ counts_eq (node_by p (moved c ls) (asked_by es) k (counts_of m.now)) (node_by p c (with_one (asked_by es) n len) k (counts_at s k))
            m.live_is (sym t.counter) (omega (arith, a, u)) (omega (arith, b, v))))
        by (Instantiate n x) is h ih = absurd h
        by (Reseed n z) is h ih = absurd h
        by (Uninstantiate n) is h ih = absurd h
        by (Start j) is h ih = absurd h

  -- every source
  no_blocks : (row : SourceRow) (q : NodeRow) (c : ℕ) (xs : List ℕ) → xs ≡ [] → blocks_by q row c xs ≡ 0
  no_blocks row q c xs none =
      ap (λ z. blocks_by q row c z) none
      ∙ (ap (λ z. z * blocks_for row (drawn_len q) + (if is_xor q.kind then 0 else 0)) (none_reseeds q c) ∙ by (is_xor q.kind)) where
        by : (b : Bool) → 0 * blocks_for row (drawn_len q) + (if b then 0 else 0) ≡ 0
        by true = omega arith
        by false = omega arith

  zeros : (a k : ℕ) → sum_of (λ (m : ℕ). 0) (range_with_len a k) ≡ 0
  zeros a zero = refl
  zeros a (suc k) = let z = zeros (a + 1) k in omega (arith, z)

  none_blocks : (c : ℕ → ℕ) (j : ℕ) → all_blocks p c (asked_by []) j ≡ 0
  none_blocks c j = same_sums f (λ m. 0) (λ m. by m (is_from j (node_plan p m).origin)) 0 (length p.nodes) ∙ zeros 0 (length p.nodes) where
    f : ℕ → ℕ
    f m = if is_from j (node_plan p m).origin then blocks_by (node_row p m) (source_row p j) (c m) (all_asks p c (asked_by []) m) else 0

    by : (m : ℕ) (b : Bool) → (if b then blocks_by (node_row p m) (source_row p j) (c m) (all_asks p c (asked_by []) m) else 0) ≡ 0
    by m true = no_blocks (source_row p j) (node_row p m) (c m) (all_asks p c (asked_by []) m) (none_asks (length p.nodes) p c (asked_by []) (λ i. refl) m)
    by m false = refl

  pub sources_tallied : (es : List Entry) (s : States) (c : ℕ → ℕ) → AreKept s → Legal p s es → AreDone es → ((m : ℕ) → c m ≡ (node_in (s m)).counter) → (j : ℕ)
      → source_counts_at p (states_after p s es) j ≡ source_by p c (asked_by es) j (source_counts_at p s j)
  sources_tallied [] s c kept legal all same j =
      let none = none_blocks c j in
      let t : all_blocks p c (asked_by []) j * need_of_block (source_row p j) ≡ 0 = ap (λ z. z * need_of_block (source_row p j)) none ∙ (let z : 0 * need_of_block (source_row p j) ≡ 0 = omega arith in z) in
      sources_eq (source_counts_at p s j) (source_by p c (asked_by []) j (source_counts_at p s j)) (omega (arith, t)) (omega (arith, none))
  sources_tallied (e ∷ es) s c kept (fit, legal) (plainly, code, all) same j =
      by e.call refl plainly (λ d h. sources_tallied es now d (keeps s e fit kept) legal all h j) where
        now : States
        now m = after p m (s m) e

        Goal : SourceCounts → Type 0
        Goal x = source_counts_at p (states_after p now es) j ≡ x

        with_it : Call → ℕ → List ℕ
        with_it z m = with_call z m (asked_by es m)

        by : (z : Call) → e.call ≡ z → IsPlain z
            → ((d : ℕ → ℕ) → ((m : ℕ) → d m ≡ (node_in (now m)).counter) → source_counts_at p (states_after p now es) j ≡ source_by p d (asked_by es) j (source_counts_at p now j))
            → source_counts_at p (states_after p now es) j ≡ source_by p c (asked_by (e ∷ es)) j (source_counts_at p s j)
        by (Status n) is h ih =
            let stays = status_stays p s e n fit is in
            let rest = ih c (λ m. same m ∙ sym (ap (λ z. (node_in z).counter) (stays m (s m)))) in
            subst (λ z. Goal (source_by p c (with_it z) j (source_counts_at p s j))) (sym is)
            (rest ∙ ap (λ z. source_by p c (asked_by es) j (record { taken = (source_in z).taken; blocks = (source_in z).blocks })) (stays (source_slot p j) (s (source_slot p j))))
        by (Generate n len x true) is h ih = cc
        by (Generate n len x false) is h ih =
            let g = generated p plan tree s e n len x fit is code in
            let ls = chain p s n len in
            let rest = ih (moved c ls) (next_same s kept e n len g fit c same) in
            let m = counted p plan tree s e n len g j (kept.sources j) in
            let t = blocks_all p plan tree s kept.capped e n len g c same (asked_by es) j in
            let need : ℕ = need_of_block (source_row p j) in
            let more : all_blocks p c (with_one (asked_by es) n len) j * need ≡ draws_on p j (last_link ls) * need + all_blocks p (moved c ls) (asked_by es) j * need =
            ap (λ z. z * need) t ∙ add-mul (draws_on p j (last_link ls)) (all_blocks p (moved c ls) (asked_by es) j) need in
            let a = m.blocks_are in let b = m.taken_are in
            subst (λ z. Goal (source_by p c (with_it z) j (source_counts_at p s j))) (sym is)
            (rest ∙ sources_eq (source_by p (moved c ls) (asked_by es) j (source_counts_at p now j)) (source_by p c (with_one (asked_by es) n len) j (source_counts_at p s j))
            (omega (arith, b, more)) (omega (arith, a, t)))
        by (Instantiate n x) is h ih = absurd h
        by (Reseed n z) is h ih = absurd h
        by (Uninstantiate n) is h ih = absurd h
        by (Start i) is h ih = absurd h

-- every opening and every history
opened_kept : (f : Opening) (plan : IsPlanned 0 f.plan) (tree : IsTree 8 f.plan.nodes) → AreKept f.plan plan tree (opened f)
opened_kept f plan tree = record { nodes = nodes; sources = opened_is_source f; capped = capped } where
  at : (k : ℕ) (b : Bool) → SlotState
  at k b = if b then NodeIs (fresh_node (kept_seed (node_row f.plan k) (unwrap_or (slice_get f.seeds k) [])))
      else SourceIs (opened_source (unwrap_or (slice_get f.told (source_number f.plan k)) None) (unwrap_or (slice_get f.faults (source_number f.plan k)) 0))

  nodes : (k : ℕ) → k < length f.plan.nodes → opened f k ≡ NodeIs (node_in (opened f k))
  nodes k low = let yes : nat_lt k (length f.plan.nodes) ≡ true = grind (arith, nat_tests) in
      subst (λ b. at k b ≡ NodeIs (node_in (at k b))) (sym yes) refl

  capped : AreCapped f.plan (opened f)
  capped k = by (nat_lt k (length f.plan.nodes)) where
    by : (b : Bool) → (node_in (at k b)).counter ≤ (node_row f.plan k).interval + 1
    by true = omega arith
    by false = omega arith

module _ (f : Opening) (o h es : List Entry) (is : IsHistory f o (h ++ es)) where
  abbrev before : States
  before = states_behind f o h

  first : States
  first = states_after f.plan (opened f) o

  legal : Legal f.plan (states_after f.plan (opened f) o) h × Legal f.plan before es
  legal = both f.plan (states_after f.plan (opened f) o) h es is.legal

  pub kept : AreKept f.plan is.opening.planned is.opening.tree before
  kept = kept_after f.plan is.opening.planned is.opening.tree h (states_after f.plan (opened f) o) legal.0
      (kept_after f.plan is.opening.planned is.opening.tree o (opened f) is.opening.legal (opened_kept f is.opening.planned is.opening.tree))

  pub nodes_decided : AreDone es → (n : ℕ) → n < length f.plan.nodes
      → counts_at (states_behind f o (h ++ es)) n ≡ node_by f.plan (λ m. (counts_at before m).counter) (asked_by es) n (counts_at before n)
  nodes_decided all n low =
      subst (λ s. counts_at s n ≡ node_by f.plan (λ m. (counts_at before m).counter) (asked_by es) n (counts_at before n)) (sym (states_parts f.plan (states_after f.plan (opened f) o) h es))
      (nodes_tallied f.plan is.opening.planned is.opening.tree es before (λ m. (counts_at before m).counter) kept legal.1 all (λ m. refl) n low)

  pub sources_decided : AreDone es → (j : ℕ)
      → source_counts_at f.plan (states_behind f o (h ++ es)) j ≡ source_by f.plan (λ m. (counts_at before m).counter) (asked_by es) j (source_counts_at f.plan before j)
  sources_decided all j =
      subst (λ s. source_counts_at f.plan s j ≡ source_by f.plan (λ m. (counts_at before m).counter) (asked_by es) j (source_counts_at f.plan before j)) (sym (states_parts f.plan (states_after f.plan (opened f) o) h es))
      (sources_tallied f.plan is.opening.planned is.opening.tree es before (λ m. (counts_at before m).counter) kept legal.1 all (λ m. refl) j)
