-- The counts after calls do not know the order in which lengths are asked.
use Rattle.std.proofs.Common.{◌≡◌, ◌++◌, ◌<◌, ◌∙◌, ◌+◌, ◌*◌, ℕ, List, [], zero, suc, Bool, true, false, length, refl, sym, ap, arith, subst}
use Rattle.std.proofs.Math.ListN.{replicate}
use Rattle.std.specs.Prelude.{if◌then◌else◌, flat_map}
use Rattle.std.specs.List.{range_with_len}
use Rattle.entropy_source.specs.Source.{blocks_for, need_of_block}
use Rattle.entropy_source.specs.declared.answers.SourceRow.{SourceRow}
use Rattle.rbg_nodes.specs.Node.{entropy_len}
use Rattle.rbg_nodes.specs.declared.node.NodeCounts.{NodeCounts}
use Rattle.rbg_nodes.specs.declared.node.NodeRow.{NodeRow}
use Rattle.tree_config.specs.Tree.{Tree}
use Rattle.tree_rules.specs.Links.{is_xor}
use Rattle.tree_rules.specs.Slots.{node_plan, node_row, source_row}
use Rattle.tree_core.specs.declared.solo.SourceCounts.{SourceCounts}
use Rattle.tree_load.specs.Tally.{SameLengths, all_asks, all_blocks, asks, blocks_by, counter_for, is_child, is_from, node_by, reseeds_for, source_by, sum_of, drawn_len}
use Rattle.tree_load.proofs.Asking.{flat_weighs, same_gives, same_length, same_reseeds, sum-append}
use Rattle.tree_load.specs.Weights.{by_length}
use Rattle.tree_load.proofs.Stepping.{counter_by}
use Rattle.tree_rules.specs.History.{Entry, Opening}
use Rattle.tree_rules.specs.Openings.{IsHistory, states_behind}
use Rattle.tree_load.specs.Tallied.{AreDone, asked_by, counts_at, source_counts_at}
use Rattle.tree_load.proofs.Tallying.{counts_eq, nodes_decided, sources_decided}

-- sums over the first numbers in a row alone
same_below : (f g : ℕ → ℕ) (a k : ℕ) → ((m : ℕ) → m < a + k → f m ≡ g m) → sum_of f (range_with_len a k) ≡ sum_of g (range_with_len a k)
same_below f g a zero at = refl
same_below f g a (suc k) at =
    let e = at a (omega arith) in
    let r = same_below f g (a + 1) k (λ m l. at m (omega (arith, l))) in omega (arith, e, r)

module _ (p : Tree) (c d : ℕ → ℕ) (counters : (m : ℕ) → m < length p.nodes → c m ≡ d m) (own others : ℕ → List ℕ)
    (same : (n : ℕ) → n < length p.nodes → SameLengths (own n) (others n)) where
  reseeds : (row : NodeRow) (m : ℕ) → m < length p.nodes → (xs ys : List ℕ) → SameLengths xs ys → reseeds_for row (c m) xs ≡ reseeds_for row (d m) ys
  reseeds row m low xs ys h = same_reseeds row (c m) xs ys h ∙ ap (λ z. reseeds_for row z ys) (counters m low)

  same_asks : (far n : ℕ) → n < length p.nodes → SameLengths (asks far p c own n) (asks far p d others n)
  unfolding asks
  same_asks zero n low w = same n low w
  same_asks (suc far) n low w =
      let a = sum-append w (own n) (flat_map (kids c own) all) in
      let b = sum-append w (others n) (flat_map (kids d others) all) in
      let i = flat_weighs w (kids c own) all in
      let j = flat_weighs w (kids d others) all in
      let k = same n low w in
      let e = same_below (λ m. sum_of w (kids c own m)) (λ m. sum_of w (kids d others m)) 0 (length p.nodes) (λ m l. (let there : m < length p.nodes = omega (arith, l) in by m there (is_child p n m) (same_asks far m there))) in
      omega (arith, a, b, i, j, k, e) where
        all : List ℕ
        all = range_with_len 0 (length p.nodes)

        kids : (ℕ → ℕ) → (ℕ → List ℕ) → ℕ → List ℕ
        kids c own m = if is_child p n m then replicate (reseeds_for (node_row p m) (c m) (asks far p c own m)) (entropy_len (node_row p m)) else []

        by : (m : ℕ) → m < length p.nodes → (b : Bool) → SameLengths (asks far p c own m) (asks far p d others m)
            → sum_of w (if b then replicate (reseeds_for (node_row p m) (c m) (asks far p c own m)) (entropy_len (node_row p m)) else [])
            ≡ sum_of w (if b then replicate (reseeds_for (node_row p m) (d m) (asks far p d others m)) (entropy_len (node_row p m)) else [])
        by m l true h = ap (λ z. sum_of w (replicate z (entropy_len (node_row p m)))) (reseeds (node_row p m) m l (asks far p c own m) (asks far p d others m) h)
        by m l false h = refl

  abbrev xs : ℕ → List ℕ
  xs n = all_asks p c own n

  abbrev ys : ℕ → List ℕ
  ys n = all_asks p d others n

  both : (n : ℕ) → n < length p.nodes → SameLengths (xs n) (ys n)
  both n low = same_asks (length p.nodes) n low

  counter_same : (row : NodeRow) (n : ℕ) → n < length p.nodes → counter_for row (c n) (xs n) ≡ counter_for row (d n) (ys n)
  counter_same row n low =
      counter_by row (c n) (xs n)
      ∙ (ap (by_length row (c n) (reseeds_for row (c n) (xs n))) (same_length (xs n) (ys n) (both n low))
      ∙ (ap (λ z. by_length row (c n) z (length (ys n))) (reseeds row n low (xs n) (ys n) (both n low))
      ∙ (ap (λ z. by_length row z (reseeds_for row (d n) (ys n)) (length (ys n))) (counters n low) ∙ sym (counter_by row (d n) (ys n)))))

  pub node_same : (n : ℕ) → n < length p.nodes → (x y : NodeCounts) → x ≡ y → node_by p c own n x ≡ node_by p d others n y
  node_same n low x y is =
      let row : NodeRow = node_row p n in
      let r = reseeds row n low (xs n) (ys n) (both n low) in
      let v = same_gives row (xs n) (ys n) (both n low) in
      ap (λ z. node_by p c own n z) is
      ∙ counts_eq (node_by p c own n y) (node_by p d others n y) refl (counter_same row n low) (omega (arith, r)) (omega (arith, v))

  blocks_same : (row : SourceRow) (n : ℕ) → n < length p.nodes → blocks_by (node_row p n) row (c n) (xs n) ≡ blocks_by (node_row p n) row (d n) (ys n)
  blocks_same row n low =
      let f : ℕ = blocks_for row (drawn_len (node_row p n)) in
      let a = ap (λ z. z * f) (reseeds (node_row p n) n low (xs n) (ys n) (both n low)) in
      let b = by (is_xor (node_row p n).kind) in omega (arith, a, b) where
        by : (b : Bool) → (if b then sum_of (λ k. blocks_for row k) (xs n) else 0) ≡ (if b then sum_of (λ k. blocks_for row k) (ys n) else 0)
        by true = both n low (λ k. blocks_for row k)
        by false = refl

  pub source_same : (j : ℕ) (x : SourceCounts) → source_by p c own j x ≡ source_by p d others j x
  source_same j x =
      let all : all_blocks p c own j ≡ all_blocks p d others j = same_below f g 0 (length p.nodes) (λ m l. by m (omega (arith, l)) (is_from j (node_plan p m).origin)) in
      ap (λ z. record { taken = x.taken + z * need_of_block (source_row p j); blocks = x.blocks + z }) all where
        f : ℕ → ℕ
        f m = if is_from j (node_plan p m).origin then blocks_by (node_row p m) (source_row p j) (c m) (xs m) else 0

        g : ℕ → ℕ
        g m = if is_from j (node_plan p m).origin then blocks_by (node_row p m) (source_row p j) (d m) (ys m) else 0

        by : (m : ℕ) → m < length p.nodes → (b : Bool) → (if b then blocks_by (node_row p m) (source_row p j) (c m) (xs m) else 0) ≡ (if b then blocks_by (node_row p m) (source_row p j) (d m) (ys m) else 0)
        by m l true = blocks_same (source_row p j) m l
        by m l false = refl

-- two runs over one plan
module _ (f g : Opening) (o q h i es fs : List Entry) (first : IsHistory f o (h ++ es)) (second : IsHistory g q (i ++ fs)) (plan : f.plan ≡ g.plan) (all : AreDone es) (others : AreDone fs)
    (counts : (n : ℕ) → n < length f.plan.nodes → counts_at (states_behind f o h) n ≡ counts_at (states_behind g q i) n)
    (same : (n : ℕ) → n < length f.plan.nodes → SameLengths (asked_by es n) (asked_by fs n)) where
  abbrev c : ℕ → ℕ
  c m = (counts_at (states_behind f o h) m).counter

  abbrev d : ℕ → ℕ
  d m = (counts_at (states_behind g q i) m).counter

  counters : (m : ℕ) → m < length f.plan.nodes → c m ≡ d m
  counters m low = ap (λ (x : NodeCounts). x.counter) (counts m low)

  pub runs_same : (n : ℕ) → n < length f.plan.nodes → counts_at (states_behind f o (h ++ es)) n ≡ counts_at (states_behind g q (i ++ fs)) n
  runs_same n low =
      nodes_decided f o h es first all n low
      ∙ (node_same f.plan c d counters (asked_by es) (asked_by fs) same n low (counts_at (states_behind f o h) n) (counts_at (states_behind g q i) n) (counts n low)
      ∙ (ap (λ p. node_by p d (asked_by fs) n (counts_at (states_behind g q i) n)) plan
      ∙ sym (nodes_decided g q i fs second others n (subst (λ (p : Tree). n < length p.nodes) plan low))))

  pub run_sources_same : (j : ℕ) → source_counts_at f.plan (states_behind f o h) j ≡ source_counts_at g.plan (states_behind g q i) j
      → source_counts_at f.plan (states_behind f o (h ++ es)) j ≡ source_counts_at g.plan (states_behind g q (i ++ fs)) j
  run_sources_same j sources =
      sources_decided f o h es first all j
      ∙ (source_same f.plan c d counters (asked_by es) (asked_by fs) same j (source_counts_at f.plan (states_behind f o h) j)
      ∙ (ap (λ x. source_by f.plan d (asked_by fs) j x) sources
      ∙ (ap (λ p. source_by p d (asked_by fs) j (source_counts_at g.plan (states_behind g q i) j)) plan
      ∙ sym (sources_decided g q i fs second others j))))
