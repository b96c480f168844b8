-- Sums over what is asked, and that they fit 64 bits.
use Rattle.std.proofs.Common.{◌≡◌, ◌∙◌, ◌++◌, ◌∷◌, ◌+◌, ◌-◌, ◌*◌, ◌<◌, ◌≤◌, ◌^◌, ℕ, List, [], zero, suc, Bool, true, false, length, refl, sym, ap, arith}
use Rattle.std.proofs.Math.ListN.{replicate}
use Rattle.std.specs.Prelude.{◌==◌, if◌then◌else◌, flat_map, is_some, min, Option, Some, None}
use Rattle.std.specs.List.{range_with_len}
use Rattle.rbg_nodes.specs.Node.{entropy_len}
use Rattle.rbg_nodes.specs.declared.node.NodeCounts.{NodeCounts}
use Rattle.rbg_nodes.specs.declared.node.NodeRow.{NodeRow}
use Rattle.tree_config.specs.Planned.{IsPlanned}
use Rattle.tree_config.specs.Tree.{Tree, parent_in}
use Rattle.tree_rules.specs.declared.call.Call.{Call}
use Rattle.tree_rules.specs.declared.call.Call.TheVariants.{Generate, Instantiate, Reseed, Start, Status, Uninstantiate}
use Rattle.tree_rules.specs.Links.{is_rs}
use Rattle.tree_rules.specs.Slots.{node_plan, node_row}
use Rattle.tree_rules.proofs.Lasting.{parent_is_childs}
use Rattle.tree_load.specs.declared.tally.Weight.{Weight}
use Rattle.tree_load.specs.declared.tally.Weight.TheVariants.{Chunks, One}
use Rattle.tree_load.specs.Tally.{all_asks, asks, chunks_for, gives_for, is_child, is_parent, node_tally, reseeds_by, reseeds_for, sum_of}
use Rattle.tree_load.specs.Tallied.{asked_of, with_call}
use Rattle.tree_load.specs.Fits.{AllFit}
use Rattle.tree_load.specs.Weights.{by_length, weigh}
use Rattle.tree_load.proofs.Stepping.{counter_by}
use Rattle.tree_load.proofs.Tallying.{counts_eq}
use Rattle.tree_load.proofs.Asking.{flat_weighs, length_weighs, replicate_weighs, same_sums, sum-append}

-- a sum of less is less
pub sum_least : (f g : ℕ → ℕ) → ((x : ℕ) → f x ≤ g x) → (xs : List ℕ) → sum_of f xs ≤ sum_of g xs
sum_least f g less [] = omega arith
sum_least f g less (x ∷ xs) = let a = less x in let b = sum_least f g less xs in omega (arith, a, b)

-- how often a node is asked fits
pub fits : (p : Tree) (before : ℕ → NodeCounts) (own : ℕ → List ℕ) → AllFit p before own → (far n : ℕ) → far ≤ length p.nodes → n < length p.nodes
    → (before n).counter + sum_of (weigh One) (asks far p (λ m. (before m).counter) own n) < 2 ^ 64
fits p before own all far n deep low =
    let a = length_weighs (asks far p (λ m. (before m).counter) own n) in
    let b = all.asked far n deep low in omega (arith, a, b)

pub below_fits : (p : Tree) (before : ℕ → NodeCounts) (own : ℕ → List ℕ) → AllFit p before own → (far m : ℕ) → far ≤ length p.nodes → m < length p.nodes
    → sum_of (weigh One) (asks (far - 1) p (λ m. (before m).counter) own m) < 2 ^ 64
below_fits p before own all far m deep low = let a = fits p before own all (far - 1) m (omega (arith, deep)) low in omega (arith, a)

pub asked_fits : (p : Tree) (before : ℕ → NodeCounts) (own : ℕ → List ℕ) → AllFit p before own → (far n : ℕ) → far ≡ length p.nodes → n < length p.nodes
    → sum_of (weigh One) (asks far p (λ m. (before m).counter) own n) < 2 ^ 64
asked_fits p before own all far n deep low = let a = fits p before own all far n (omega (arith, deep)) low in omega (arith, a)

-- the lengths that calls ask, with those of one more call
pub with_weight : (f : ℕ → ℕ) (c : Call) (n : ℕ) (lens : List ℕ) → sum_of f (with_call c n lens) ≡ sum_of f (with_call c n []) + sum_of f lens
with_weight f (Generate m count x y) n lens = by (m == n) where
  by : (b : Bool) → sum_of f (if b then count ∷ lens else lens) ≡ sum_of f (if b then count ∷ [] else []) + sum_of f lens
  by true = omega arith
  by false = omega arith
with_weight f (Instantiate m x) n lens = omega arith
with_weight f (Reseed m x) n lens = omega arith
with_weight f (Uninstantiate m) n lens = omega arith
with_weight f (Start m) n lens = omega arith
with_weight f (Status m) n lens = omega arith

pub calls_weigh : (f : ℕ → ℕ) (n : ℕ) (xs ys : List Call) → sum_of f (asked_of (xs ++ ys) n) ≡ sum_of f (asked_of xs n) + sum_of f (asked_of ys n)
calls_weigh f n [] ys = omega arith
calls_weigh f n (c ∷ xs) ys =
    let a = with_weight f c n (asked_of (xs ++ ys) n) in let b = with_weight f c n (asked_of xs n) in
    let r = calls_weigh f n xs ys in omega (arith, a, b, r)

-- a sum over the first numbers in a row, and one more
pub sum_more : (f : ℕ → ℕ) (a k : ℕ) → sum_of f (range_with_len a (suc k)) ≡ sum_of f (range_with_len a k) + f (a + k)
sum_more f a zero = let e : a + 0 ≡ a = omega arith in let g = ap f e in omega (arith, g)
sum_more f a (suc k) =
    let r = sum_more f (a + 1) k in
    let e : a + 1 + k ≡ a + suc k = omega arith in let g = ap f e in omega (arith, r, g)

pub sum_next : (f : ℕ → ℕ) (k : ℕ) → sum_of f (range_with_len 0 (k + 1)) ≡ sum_of f (range_with_len 0 k) + f k
sum_next f k =
    let one : k + 1 ≡ suc k = omega arith in
    let e : 0 + k ≡ k = omega arith in
    let g = ap f e in let r = sum_more f 0 k in let s = ap (λ z. sum_of f (range_with_len 0 z)) one in omega (arith, g, r, s)

pub sum_front : (f : ℕ → ℕ) (a k l : ℕ) → k ≤ l → sum_of f (range_with_len a k) ≤ sum_of f (range_with_len a l)
sum_front f a zero l h = omega arith
sum_front f a (suc k) zero h = absurd (omega (arith, h))
sum_front f a (suc k) (suc l) h = let r = sum_front f (a + 1) k l (omega (arith, h)) in omega (arith, r)

-- the reseeds of a node that isn't an RBG3(RS)
pub not_rs : (p : Tree) → IsPlanned 0 p → (n m : ℕ) → is_child p n m ≡ true → is_rs (node_row p m).kind ≡ false
not_rs p plan n m child = (parent_is_childs 0 p m plan (by (parent_in (node_plan p m).origin) child)).1 where
  by : (o : Option ℕ) → is_parent n o ≡ true → is_some o ≡ true
  by None h = cc
  by (Some q) h = refl

module _ (p : Tree) (c : ℕ → ℕ) (own : ℕ → List ℕ) (w : Weight) (far n : ℕ) where
  -- what child m hands on
  abbrev pub hands : ℕ → ℕ
  hands m = if is_child p n m then reseeds_by (node_row p m).interval (c m) (sum_of (weigh One) (asks far p c own m)) * weigh w (entropy_len (node_row p m)) else 0

  -- what is asked of a node: by calls, and what its children hand on
  pub asks_weigh : IsPlanned 0 p → sum_of (weigh w) (asks (suc far) p c own n) ≡ sum_of (weigh w) (own n) + sum_of hands (range_with_len 0 (length p.nodes))
  unfolding asks
  asks_weigh plan =
      let a = sum-append (weigh w) (own n) (flat_map kids all) in
      let b = flat_weighs (weigh w) kids all in
      let e = same_sums (λ m. sum_of (weigh w) (kids m)) hands (λ m. by m (is_child p n m) refl) 0 (length p.nodes) in omega (arith, a, b, e) where
        all : List ℕ
        all = range_with_len 0 (length p.nodes)

        kids : ℕ → List ℕ
        kids m = if is_child p n m then replicate (reseeds_for (node_row p m) (c m) (asks far p c own m)) (entropy_len (node_row p m)) else []

        by : (m : ℕ) (b : Bool) → is_child p n m ≡ b
            → sum_of (weigh w) (if b then replicate (reseeds_for (node_row p m) (c m) (asks far p c own m)) (entropy_len (node_row p m)) else [])
            ≡ (if b then reseeds_by (node_row p m).interval (c m) (sum_of (weigh One) (asks far p c own m)) * weigh w (entropy_len (node_row p m)) else 0)
        by m false is = refl
        by m true is =
            let r : reseeds_for (node_row p m) (c m) (asks far p c own m) ≡ reseeds_by (node_row p m).interval (c m) (sum_of (weigh One) (asks far p c own m)) =
            ap (λ b. if b then gives_for (node_row p m) (asks far p c own m) else reseeds_by (node_row p m).interval (c m) (length (asks far p c own m))) (not_rs p plan n m is)
            ∙ ap (reseeds_by (node_row p m).interval (c m)) (length_weighs (asks far p c own m)) in
            replicate_weighs (weigh w) (reseeds_for (node_row p m) (c m) (asks far p c own m)) (entropy_len (node_row p m))
            ∙ ap (λ z. z * weigh w (entropy_len (node_row p m))) r

  pub none_below : (b : List ℕ) → asks 0 p c own n ≡ own n
  unfolding asks
  none_below b = refl

-- one step of a loop over the children of a node, and its ends
module _ (p : Tree) (before : ℕ → NodeCounts) (own : ℕ → List ℕ) (w : Weight) (far n : ℕ) (fit : sum_of (weigh w) (asks far p (λ m. (before m).counter) own n) < 2 ^ 64) where
  abbrev c : ℕ → ℕ
  c m = (before m).counter

  abbrev Whole : ℕ → Type 0
  Whole r = r ≡ sum_of (weigh w) (asks far p c own n)

  -- that of calls alone
  pub alone : far ≡ 0 → (r : ℕ) → (sum_of (weigh w) (own n) < 2 ^ 64 → r ≡ sum_of (weigh w) (own n)) → Whole r
  alone none r h =
      let base : asks far p c own n ≡ own n = ap (λ z. asks z p c own n) none ∙ none_below p c own w far n [] in
      let e = ap (λ z. sum_of (weigh w) z) base in
      h (omega (arith, fit, e)) ∙ sym e

  module _ (plan : IsPlanned 0 p) (some : far ≡ 0 → ⊥) where
    abbrev f : ℕ → ℕ
    f = hands p c own w (far - 1) n

    whole : sum_of (weigh w) (asks far p c own n) ≡ sum_of (weigh w) (own n) + sum_of f (range_with_len 0 (length p.nodes))
    whole =
        let one : suc (far - 1) ≡ far = by far some in
        ap (λ z. sum_of (weigh w) (asks z p c own n)) (sym one) ∙ asks_weigh p c own w (far - 1) n plan where
          by : (far : ℕ) → (far ≡ 0 → ⊥) → suc (far - 1) ≡ far
          by zero h = absurd (h refl)
          by (suc k) h = omega arith

    total : sum_of (weigh w) (own n) + sum_of f (range_with_len 0 (length p.nodes)) < 2 ^ 64
    total = let a = whole in omega (arith, a, fit)

    pub begins : (r : ℕ) → (sum_of (weigh w) (own n) < 2 ^ 64 → r ≡ sum_of (weigh w) (own n)) → r ≡ sum_of (weigh w) (own n) + 0
    begins r h = let t = total in let e = h (omega (arith, t)) in omega (arith, e)

    module _ (m sum : ℕ) (there : m < length p.nodes) (was : sum ≡ sum_of (weigh w) (own n) + sum_of f (range_with_len 0 m)) where
      abbrev Next : ℕ → Type 0
      Next r = r ≡ sum_of (weigh w) (own n) + sum_of f (range_with_len 0 (m + 1))

      pub no_child : is_child p n m ≡ false → Next sum
      no_child is =
          let e : f m ≡ 0 = ap (λ b. if b then reseeds_by (node_row p m).interval (c m) (sum_of (weigh One) (asks (far - 1) p c own m)) * weigh w (entropy_len (node_row p m)) else 0) is in
          let s = sum_next f m in omega (arith, was, e, s)

      pub child : is_child p n m ≡ true → AllFit p before own → far ≤ length p.nodes → (times hands r : ℕ) → times ≡ sum_of (weigh One) (asks (far - 1) p c own m)
          → (let reseeds = reseeds_by (node_row p m).interval (c m) times in
          c m + times < 2 ^ 64 → reseeds * weigh w (entropy_len (node_row p m)) < 2 ^ 64 → hands ≡ reseeds * weigh w (entropy_len (node_row p m)))
          → r ≡ min (sum + hands) (2 ^ 64 - 1) → Next r
      child is all deep times hands r times_are handed r_is =
          let x : ℕ = reseeds_by (node_row p m).interval (c m) times * weigh w (entropy_len (node_row p m)) in
          let e : f m ≡ x = ap (λ b. if b then reseeds_by (node_row p m).interval (c m) (sum_of (weigh One) (asks (far - 1) p c own m)) * weigh w (entropy_len (node_row p m)) else 0) is
          ∙ ap (λ z. reseeds_by (node_row p m).interval (c m) z * weigh w (entropy_len (node_row p m))) (sym times_are) in
          let s = sum_next f m in
          let front = sum_front f 0 (m + 1) (length p.nodes) (omega (arith, there)) in
          let t = total in
          let below = fits p before own all (far - 1) m (omega (arith, deep)) there in
          let h = handed (omega (arith, below, times_are)) (omega (arith, e, s, front, t)) in
          omega (arith, was, e, s, front, t, h, r_is)

    pub ends : (m sum : ℕ) → m ≡ length p.nodes → sum ≡ sum_of (weigh w) (own n) + sum_of f (range_with_len 0 m) → Whole sum
    ends m sum is was = was ∙ (ap (λ z. sum_of (weigh w) (own n) + sum_of f (range_with_len 0 z)) is ∙ sym whole)

-- what a node that isn't an RBG3(RS) gives and reseeds, and an RBG3(RS), by what is asked of it
pub gives_plain : (row : NodeRow) (xs : List ℕ) → is_rs row.kind ≡ false → gives_for row xs ≡ sum_of (weigh One) xs
gives_plain row xs no_rs = ap (λ b. if b then sum_of (λ len. chunks_for row len) xs else length xs) no_rs ∙ length_weighs xs

pub gives_chunks : (row : NodeRow) (xs : List ℕ) (size : ℕ) → size ≡ entropy_len row → is_rs row.kind ≡ true → sum_of (weigh (Chunks size)) xs ≡ gives_for row xs
gives_chunks row xs size is rs = ap (λ z. sum_of (weigh (Chunks z)) xs) is ∙ sym (ap (λ b. if b then sum_of (λ len. chunks_for row len) xs else length xs) rs)

pub reseeds_chunks : (row : NodeRow) (c : ℕ) (xs : List ℕ) → is_rs row.kind ≡ true → gives_for row xs ≡ reseeds_for row c xs
reseeds_chunks row c xs rs = sym (ap (λ b. if b then gives_for row xs else reseeds_by row.interval c (length xs)) rs)

pub reseeds_plain : (row : NodeRow) (xs : List ℕ) (interval counter c times r : ℕ) → is_rs row.kind ≡ false → interval ≡ row.interval → counter ≡ c → times ≡ sum_of (weigh One) xs
    → c + sum_of (weigh One) xs < 2 ^ 64 → (counter + times < 2 ^ 64 → r ≡ reseeds_by interval counter times) → r ≡ reseeds_for row c xs
reseeds_plain row xs interval counter c times r no_rs is from times_are fit h =
    h (omega (arith, fit, from, times_are))
    ∙ (ap (λ z. reseeds_by z counter times) is ∙ (ap (λ z. reseeds_by row.interval z times) from ∙ (ap (reseeds_by row.interval c) times_are
    ∙ (ap (reseeds_by row.interval c) (sym (length_weighs xs)) ∙ sym (ap (λ b. if b then gives_for row xs else reseeds_by row.interval c (length xs)) no_rs)))))

-- the counts of a node, put together
pub tally_is : (p : Tree) (before : ℕ → NodeCounts) (own : ℕ → List ℕ) (n : ℕ) (x y : NodeCounts) (times reseeds gives : ℕ) → let xs = all_asks p (λ m. (before m).counter) own n in
    AllFit p before own → n < length p.nodes → x ≡ before n → times ≡ sum_of (weigh One) xs → reseeds ≡ reseeds_for (node_row p n) (before n).counter xs → gives ≡ gives_for (node_row p n) xs
    → y.live ≡ x.live → (x.counter + times < 2 ^ 64 → y.counter ≡ by_length (node_row p n) x.counter reseeds times)
    → y.seeds ≡ min (x.seeds + reseeds) (2 ^ 64 - 1) → y.gives ≡ min (x.gives + gives) (2 ^ 64 - 1) → y ≡ node_tally p before own n
tally_is p before own n x y times reseeds gives all low is times_are reseeds_are gives_are live counter seeds given =
    let row : NodeRow = node_row p n in
    let c : ℕ = (before n).counter in
    let xs = all_asks p (λ m. (before m).counter) own n in
    let at = ap (λ (z : NodeCounts). z.counter) is in
    let s = ap (λ (z : NodeCounts). z.seeds) is in
    let g = ap (λ (z : NodeCounts). z.gives) is in
    let fit = fits p before own all (length p.nodes) n (omega arith) low in
    let a = all.seeds n low in let b = all.gives n low in
    counts_eq y (node_tally p before own n) (live ∙ ap (λ (z : NodeCounts). z.live) is)
    (counter (omega (arith, fit, at, times_are))
    ∙ (ap (λ z. by_length row z reseeds times) at ∙ (ap (λ z. by_length row c z times) reseeds_are ∙ (ap (by_length row c (reseeds_for row c xs)) (times_are ∙ sym (length_weighs xs)) ∙ sym (counter_by row c xs)))))
    (omega (arith, a, s, seeds, reseeds_are)) (omega (arith, b, g, given, gives_are))

pub chunks_fit : (p : Tree) (before : ℕ → NodeCounts) (own : ℕ → List ℕ) → AllFit p before own → (far n size : ℕ) → far ≡ length p.nodes → n < length p.nodes
    → size ≡ entropy_len (node_row p n) → is_rs (node_row p n).kind ≡ true → sum_of (weigh (Chunks size)) (asks far p (λ m. (before m).counter) own n) < 2 ^ 64
chunks_fit p before own all far n size deep low is rs =
    let e = ap (λ z. sum_of (weigh (Chunks size)) (asks z p (λ m. (before m).counter) own n)) deep in
    let g = gives_chunks (node_row p n) (all_asks p (λ m. (before m).counter) own n) size is rs in
    let a = all.gives n low in omega (arith, e, g, a)
