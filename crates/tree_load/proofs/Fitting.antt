-- The numbers of every run fit 64 bits.
use Rattle.std.proofs.Common.{◌≡◌, ◌++◌, ◌+◌, ◌-◌, ◌*◌, ◌/◌, ◌<◌, ◌≤◌, ◌^◌, ℕ, List, [], zero, suc, Bool, true, false, length, refl, sym, ap, subst, arith}
use Rattle.std.proofs.Math.Nat.{div-mul-le_self}
use Rattle.std.proofs.lemmas.Nat.{le-div}
use Rattle.std.specs.Prelude.{if◌then◌else◌, Option, Some, None, slice_get, unwrap_or}
use Rattle.std.specs.List.{range_with_len}
use Rattle.rbg_nodes.specs.Node.{entropy_len}
use Rattle.rbg_nodes.specs.Views.{row_of}
use Rattle.rbg_nodes.specs.declared.node.NodeCounts.{NodeCounts}
use Rattle.rbg_nodes.specs.declared.node.NodeRow.{NodeRow}
use Rattle.tree_config.specs.Planned.{IsPlanned}
use Rattle.tree_config.specs.Planned as planned
use Rattle.tree_config.specs.Tree.{Tree}
use Rattle.tree_config.specs.declared.plan.NodePlan.{NodePlan}
use Rattle.tree_core.specs.declared.solo.SourceCounts.{SourceCounts}
use Rattle.tree_rules.specs.Counts.{HasCounts}
use Rattle.tree_rules.specs.History.{Entry, NodeIs, Opening, SlotState, SourceIs, node_in}
use Rattle.tree_rules.specs.Links.{is_rs}
use Rattle.tree_rules.specs.Openings.{IsHistory, states_behind}
use Rattle.tree_rules.specs.Slots.{no_node, node_row}
use Rattle.tree_rules.proofs.Growing.{counts_small}
use Rattle.tree_load.specs.declared.tally.Weight.TheVariants.{One}
use Rattle.tree_load.specs.Tally.{all_asks, asks, chunks_for, gives_for, is_child, reseeds_by, sum_of}
use Rattle.tree_load.specs.Tallied.{AreDone, asked_by, counts_at, source_counts_at}
use Rattle.tree_load.specs.Fits.{AllFit, SourceFits}
use Rattle.tree_load.specs.Weights.{weigh}
use Rattle.tree_load.proofs.Asking.{length_weighs}
use Rattle.tree_load.proofs.Bounding.{history_limited}
use Rattle.tree_load.proofs.Lining.{some_interval}
use Rattle.tree_load.proofs.Tallying.{kept, nodes_decided, sources_decided}
use Rattle.tree_load.proofs.Weighing.{asks_weigh, hands, none_below, sum_least}

-- more lengths are no fewer reseeds
div_least : (a b i : ℕ) → 0 < i → a ≤ b → a / i ≤ b / i
div_least a b i some h = let m = div-mul-le_self a i in le-div (a / i) b i some (omega (arith, m, h))

reseeds_least : (i c a b : ℕ) → 0 < i → a ≤ b → reseeds_by i c a ≤ reseeds_by i c b
reseeds_least i c zero b some h = omega arith
reseeds_least i c (suc a) zero some h = absurd (omega (arith, h))
reseeds_least i c (suc a) (suc b) some h = div_least (c + suc a - 2) (c + suc b - 2) i some (omega (arith, h))

module _ (p : Tree) (plan : IsPlanned 0 p) (c : ℕ → ℕ) (own : ℕ → List ℕ) where
  abbrev times : ℕ → ℕ → ℕ
  times far n = sum_of (weigh One) (asks far p c own n)

  -- children that are followed further ask no less
  deeper : (far n : ℕ) → times far n ≤ times (suc far) n
  deeper zero n =
      let a = ap (λ z. sum_of (weigh One) z) (none_below p c own One 0 n []) in
      let b = asks_weigh p c own One 0 n plan in omega (arith, a, b)
  deeper (suc far) n =
      let a = asks_weigh p c own One far n plan in
      let b = asks_weigh p c own One (suc far) n plan in
      let less = sum_least (hands p c own One far n) (hands p c own One (suc far) n) (λ m. by m (is_child p n m) (deeper far m)) (range_with_len 0 (length p.nodes)) in omega (arith, a, b, less) where
        by : (m : ℕ) (b : Bool) → times far m ≤ times (suc far) m
            → (if b then reseeds_by (node_row p m).interval (c m) (times far m) * weigh One (entropy_len (node_row p m)) else 0)
            ≤ (if b then reseeds_by (node_row p m).interval (c m) (times (suc far) m) * weigh One (entropy_len (node_row p m)) else 0)
        by m true h = let r = reseeds_least (node_row p m).interval (c m) (times far m) (times (suc far) m) (some_interval 0 p m plan) h in omega (arith, r)
        by m false h = omega arith

  all_deeper : (k far l n : ℕ) → l ≡ far + k → times far n ≤ times l n
  all_deeper zero far l n is = let e : l ≡ far = omega (arith, is) in subst (λ z. times far n ≤ times z n) (sym e) (omega arith)
  all_deeper (suc k) far l n is =
      let a = all_deeper k far (far + k) n refl in
      let b = deeper (far + k) n in
      let e : l ≡ suc (far + k) = omega (arith, is) in subst (λ z. times far n ≤ times z n) (sym e) (omega (arith, a, b))

-- a node gives once at least for each length
gives_least : (row : NodeRow) (xs : List ℕ) → length xs ≤ gives_for row xs
gives_least row xs = by (is_rs row.kind) where
  by : (b : Bool) → length xs ≤ (if b then sum_of (λ len. chunks_for row len) xs else length xs)
  by true = let a = length_weighs xs in let b = sum_least (λ (x : ℕ). 1) (λ len. chunks_for row len) (λ x. omega arith) xs in omega (arith, a, b)
  by false = omega arith

high_interval : (p : Tree) (n : ℕ) → IsPlanned 0 p → (node_row p n).interval ≤ 2 ^ 48
high_interval p n plan = by (slice_get p.nodes n) (plan.node n) where
  by : (o : Option NodePlan) → ((x : NodePlan) → o ≡ Some x → planned.IsNode 0 (length p.sources) (length p.nodes) x) → (row_of (unwrap_or o no_node)).interval ≤ 2 ^ 48
  by None f = omega arith
  by (Some x) f = (f x refl).interval_high

few_seeds : (most : ℕ) (x : SlotState) → HasCounts most x → (node_in x).seeds ≤ most
few_seeds most (NodeIs y) h = h.seeds
few_seeds most (SourceIs y) h = omega arith

few_gives : (most : ℕ) (x : SlotState) → HasCounts most x → (node_in x).gives ≤ most
few_gives most (NodeIs y) h = h.gives
few_gives most (SourceIs y) h = omega arith

module _ (f : Opening) (o h es : List Entry) (is : IsHistory f o (h ++ es)) (all : AreDone es) where
  abbrev before : ℕ → NodeCounts
  before n = counts_at (states_behind f o h) n

  pub nodes_fit : length (h ++ es) ≤ 2 ^ 46 → AllFit f.plan (counts_at (states_behind f o h)) (asked_by es)
  nodes_fit few = record {
    asked = asked;
    seeds = λ n low. (let e = ap (λ (x : NodeCounts). x.seeds) (nodes_decided f o h es is all n low) in
        let a = few_seeds (2 ^ 61) (states_behind f o (h ++ es) n) (counts_small f o (h ++ es) is few n) in omega (arith, e, a));
    gives = λ n low. (let e = ap (λ (x : NodeCounts). x.gives) (nodes_decided f o h es is all n low) in
        let a = few_gives (2 ^ 61) (states_behind f o (h ++ es) n) (counts_small f o (h ++ es) is few n) in omega (arith, e, a));
  } where
    asked : (far n : ℕ) → far ≤ length f.plan.nodes → n < length f.plan.nodes → (before n).counter + length (asks far f.plan (λ m. (before m).counter) (asked_by es) n) < 2 ^ 64
    asked far n deep low =
        let p = f.plan in
        let c : ℕ → ℕ = λ m. (before m).counter in
        let xs = all_asks p c (asked_by es) n in
        let a = length_weighs (asks far p c (asked_by es) n) in
        let b = length_weighs xs in
        let d = all_deeper p is.opening.planned c (asked_by es) (length p.nodes - far) far (length p.nodes) n (omega (arith, deep)) in
        let g = gives_least (node_row p n) xs in
        let e = ap (λ (x : NodeCounts). x.gives) (nodes_decided f o h es is all n low) in
        let m = few_gives (2 ^ 61) (states_behind f o (h ++ es) n) (counts_small f o (h ++ es) is few n) in
        let i = high_interval p n is.opening.planned in
        let k = (kept f o h es is).capped n in
        omega (arith, a, b, d, g, e, m, i, k)

  pub sources_fit : (j : ℕ) → SourceFits f.plan (counts_at (states_behind f o h)) (asked_by es) j (source_counts_at f.plan (states_behind f o h) j)
  sources_fit j =
      let same = sources_decided f o h es is all j in
      let limit = history_limited f o (h ++ es) is j in
      let t = limit.taken in let b = limit.blocks in record {
        blocks = subst (λ (x : SourceCounts). x.blocks < 2 ^ 64) same (omega (arith, t, b));
        taken = subst (λ (x : SourceCounts). x.taken < 2 ^ 64) same (omega (arith, t));
      }
