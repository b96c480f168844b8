-- What one call more changes in the counts of one node: its generates, its reseeds, its reseed counter.
use Rattle.std.proofs.Common.{◌≡◌, ◌∙◌, ◌∷◌, ◌+◌, ◌-◌, ◌*◌, ◌<◌, ◌≤◌, ℕ, List, [], zero, suc, Bool, true, false, length, refl, sym, ap, subst, arith, eqb-true, zero-add, add-zero}
use Rattle.std.specs.Prelude.{◌==◌, ◌||◌, if◌then◌else◌}
use Rattle.std.proofs.Math.Bool.{or-true}
use Rattle.rbg_nodes.specs.declared.node.NodeRow.{NodeRow}
use Rattle.rbg_nodes.specs.Node.{is_due}
use Rattle.tree_rules.specs.History.{Distinct, has}
use Rattle.tree_rules.specs.Links.{Gives, Link, is_rs, must_by, must_seed}
use Rattle.tree_rules.proofs.Leaves.{or_false, slots}
use Rattle.tree_acts.specs.Chained.{len_of}
use Rattle.tree_load.specs.Tally.{SameLengths, chunks_for, counter_for, gives_for, reseeds_by, reseeds_for, sum_of}
use Rattle.tree_load.specs.Weights.{by_length}
use Rattle.tree_load.proofs.Asking.{same_gives, same_length, same_reseeds, length_weighs}
use Rattle.tree_load.proofs.Climbing.{asked_at, counter_behind, due, less_of, moved, not_due, not_less, with_counter}
use Rattle.tree_load.proofs.Moving.{gives_at, gives_of, none_given, none_moved, none_seeded, seeds_at, seeds_of}

-- nothing is asked by links at other slots
pub none_asked : (w : ℕ → ℕ) (k : ℕ) (ls : List Link) → has (slots ls) k ≡ false → asked_at w k ls ≡ 0
none_asked w k [] h = refl
none_asked w k (l ∷ ls) h =
    let d = or_false (l.slot == k) (has (slots ls) k) h in
    let e = ap (λ b. if b then w (len_of l.task) else 0) d.0 in let r = none_asked w k ls d.1 in omega (arith, e, r)

-- the weights of what is asked of node k, before and behind a chain
abbrev pub Asked : ℕ → List Link → List ℕ → List ℕ → Type 0
Asked k ls xs ys = (w : ℕ → ℕ) → sum_of w xs ≡ asked_at w k ls + sum_of w ys

-- what becomes of the counts of a node: by all that is asked as by the chain and then by the rest
pub record Steps (row : NodeRow) (k c d : ℕ) (ls : List Link) (xs ys : List ℕ) : Type 0 where
  pub gives : gives_for row xs ≡ gives_at k ls + gives_for row ys
  pub reseeds : reseeds_for row c xs ≡ seeds_at k ls + reseeds_for row d ys
  pub counter : counter_for row c xs ≡ counter_for row d ys

-- a counter behind nothing, and behind something
pub counter_by : (row : NodeRow) (c : ℕ) (xs : List ℕ) → counter_for row c xs ≡ by_length row c (reseeds_for row c xs) (length xs)
counter_by row c [] = refl
counter_by row c (x ∷ xs) = refl

-- a node that isn't of the chain
pub off_chain : (row : NodeRow) (k c d : ℕ) (ls : List Link) (xs ys : List ℕ) → has (slots ls) k ≡ false → d ≡ c → Asked k ls xs ys → Steps row k c d ls xs ys
off_chain row k c d ls xs ys off is asked =
    let same : SameLengths xs ys = λ w. asked w ∙ (ap (λ z. z + sum_of w ys) (none_asked w k ls off) ∙ zero-add (sum_of w ys)) in
    let g = none_given k ls off in let s = none_seeded k ls off in
    let a = same_gives row xs ys same in let b = same_reseeds row c xs ys same in
    let e = ap (λ z. reseeds_for row z ys) is in record {
      gives = omega (arith, g, a);
      reseeds = omega (arith, s, b, e);
      counter = counter_by row c xs ∙ (ap (by_length row c (reseeds_for row c xs)) (same_length xs ys same)
          ∙ (ap (λ z. by_length row c z (length ys)) b ∙ (sym (counter_by row c ys) ∙ ap (λ z. counter_for row z ys) (sym is))));
    }

-- a node of the chain: its link gives, behind it no other one stands at its slot
or_first : (a b : Bool) → (a || false || b) ≡ true → b ≡ false → a ≡ true
or_first true b h i = refl
or_first false true h i = cc
or_first false false h i = cc

or_none : (a b : Bool) → (a || false || b) ≡ false → a ≡ false
or_none false b h = refl
or_none true b h = cc

module _ (l : Link) (len : ℕ) (task : l.task ≡ Gives len) (high : l.state.counter ≤ l.row.interval + 1) (some : 1 ≤ l.row.interval) (xs ys : List ℕ)
    (more : (w : ℕ → ℕ) → sum_of w xs ≡ w len + sum_of w ys) where
  length_more : length xs ≡ suc (length ys)
  length_more = let a = length_weighs xs in let b = length_weighs ys in let c = more (λ (x : ℕ). 1) in omega (arith, a, b, c)

  gives_more : gives_for l.row xs ≡ gives_of l len + gives_for l.row ys
  gives_more = by (is_rs l.row.kind) where
    by : (b : Bool) → (if b then sum_of (λ n. chunks_for l.row n) xs else length xs)
        ≡ (if b then chunks_for l.row len else 1) + (if b then sum_of (λ n. chunks_for l.row n) ys else length ys)
    by true = more (λ n. chunks_for l.row n)
    by false = omega (arith, length_more)

  must : Bool
  must = must_seed false l

  reseeds_more : reseeds_for l.row l.state.counter xs ≡ seeds_of l len + reseeds_for l.row (counter_behind l) ys
  reseeds_more = by (is_rs l.row.kind) refl gives_more (must_seed false l) refl where
    plain : (b : Bool) → is_rs l.row.kind ≡ false → must_seed false l ≡ b
        → reseeds_by l.row.interval l.state.counter (length xs) ≡ (if b then 1 else 0) + reseeds_by l.row.interval (if b then 2 else l.state.counter + 1) (length ys)
    plain true no_rs seeds =
        let now : is_due l.row l.state ≡ true = or_first (is_due l.row l.state) (is_rs l.row.kind) (sym (ap (must_by false l) task) ∙ seeds) no_rs in
        ap (reseeds_by l.row.interval l.state.counter) length_more ∙ due l.row.interval l.state.counter (length ys) (less_of l.row.interval l.state.counter now) high some
    plain false no_rs seeds =
        let now : is_due l.row l.state ≡ false = or_none (is_due l.row l.state) (is_rs l.row.kind) (sym (ap (must_by false l) task) ∙ seeds) in
        ap (reseeds_by l.row.interval l.state.counter) length_more
        ∙ (not_due l.row.interval l.state.counter (length ys) (not_less l.row.interval l.state.counter now) some ∙ sym (zero-add (reseeds_by l.row.interval (l.state.counter + 1) (length ys))))

    by : (b : Bool) → is_rs l.row.kind ≡ b → gives_for l.row xs ≡ gives_of l len + gives_for l.row ys → (m : Bool) → must_seed false l ≡ m
        → (if b then gives_for l.row xs else reseeds_by l.row.interval l.state.counter (length xs))
        ≡ (if b then chunks_for l.row len else (if m then 1 else 0)) + (if b then gives_for l.row ys else reseeds_by l.row.interval (if m then 2 else l.state.counter + 1) (length ys))
    by true rs g m seeds = g ∙ ap (λ b. (if b then chunks_for l.row len else 1) + gives_for l.row ys) rs
    by false no_rs g m seeds = plain m no_rs seeds

  counter_more : counter_for l.row l.state.counter xs ≡ counter_for l.row (counter_behind l) ys
  counter_more = counter_by l.row l.state.counter xs
      ∙ (ap (by_length l.row l.state.counter (reseeds_for l.row l.state.counter xs)) length_more
      ∙ (by (is_rs l.row.kind) refl (must_seed false l) refl (length ys) refl reseeds_more ∙ sym (counter_by l.row (counter_behind l) ys))) where
        r : ℕ
        r = reseeds_for l.row l.state.counter xs

        q : ℕ
        q = reseeds_for l.row (counter_behind l) ys

        times : (i r q : ℕ) → r ≡ 1 + q → i * r ≡ i + i * q
        times i r q h = ap (λ z. i * z) h ∙ (let e : i * (1 + q) ≡ i + i * q = omega arith in e)

        -- nothing is reseeded where nothing is asked
        nothing : (n : ℕ) → length ys ≡ zero → is_rs l.row.kind ≡ false → l.row.interval * q ≡ 0
        nothing n is no_rs =
            let none : q ≡ 0 = ap (λ b. if b then gives_for l.row ys else reseeds_by l.row.interval (counter_behind l) (length ys)) no_rs ∙ ap (reseeds_by l.row.interval (counter_behind l)) is in
            ap (λ z. l.row.interval * z) none ∙ (let e : l.row.interval * 0 ≡ 0 = omega arith in e)

        over : must_seed false l ≡ true → is_rs l.row.kind ≡ false → l.row.interval < l.state.counter
        over seeds no_rs = less_of l.row.interval l.state.counter (or_first (is_due l.row l.state) (is_rs l.row.kind) (sym (ap (must_by false l) task) ∙ seeds) no_rs)

        plain : (m : Bool) → is_rs l.row.kind ≡ false → must_seed false l ≡ m → (n : ℕ) → length ys ≡ n → r ≡ (if m then 1 else 0) + q
            → l.state.counter + suc n - l.row.interval * r ≡ by_length l.row (if m then 2 else l.state.counter + 1) q n
        plain true no_rs seeds zero is h = let e = times l.row.interval r q h in let z = nothing zero is no_rs in let i = over seeds no_rs in omega (arith, e, z, i, high)
        plain true no_rs seeds (suc n) is h =
            let e = times l.row.interval r q h in let i = over seeds no_rs in
            let f = ap (λ b. if b then 2 else 2 + suc n - l.row.interval * q) no_rs in omega (arith, e, i, high, f)
        plain false no_rs seeds zero is h = let e : l.row.interval * r ≡ l.row.interval * q = ap (λ z. l.row.interval * z) (h ∙ zero-add q) in let z = nothing zero is no_rs in omega (arith, e, z)
        plain false no_rs seeds (suc n) is h =
            let e : l.row.interval * r ≡ l.row.interval * q = ap (λ z. l.row.interval * z) (h ∙ zero-add q) in
            let f = ap (λ b. if b then 2 else l.state.counter + 1 + suc n - l.row.interval * q) no_rs in omega (arith, e, f)

        by : (b : Bool) → is_rs l.row.kind ≡ b → (m : Bool) → must_seed false l ≡ m → (n : ℕ) → length ys ≡ n → r ≡ seeds_of l len + q
            → by_length l.row l.state.counter r (suc n) ≡ by_length l.row (counter_behind l) q n
        by true rs m seeds zero is h =
            let must : must_seed false l ≡ true = ap (must_by false l) task ∙ (ap (λ z. is_due l.row l.state || false || z) rs ∙ or-true (is_due l.row l.state || false)) in
            ap (λ b. if b then 2 else l.state.counter + 1 - l.row.interval * r) rs ∙ sym (ap (λ b. if b then 2 else l.state.counter + 1) must)
        by true rs m seeds (suc n) is h =
            ap (λ b. if b then 2 else l.state.counter + suc (suc n) - l.row.interval * r) rs ∙ sym (ap (λ b. if b then 2 else counter_behind l + suc n - l.row.interval * q) rs)
        by false no_rs m seeds n is h =
            let parts : r ≡ (if m then 1 else 0) + q = h ∙ (ap (λ b. (if b then chunks_for l.row len else (if must_seed false l then 1 else 0)) + q) no_rs ∙ ap (λ b. (if b then 1 else 0) + q) seeds) in
            ap (λ b. if b then 2 else l.state.counter + suc n - l.row.interval * r) no_rs
            ∙ (plain m no_rs seeds n is parts ∙ ap (λ z. by_length l.row z q n) (sym (ap (λ b. if b then 2 else l.state.counter + 1) seeds)))

  steps : (k d : ℕ) (ls : List Link) → d ≡ counter_behind l → gives_at k ls ≡ gives_of l len → seeds_at k ls ≡ seeds_of l len → Steps l.row k l.state.counter d ls xs ys
  steps k d ls is g s =
      let a = gives_more in let b = reseeds_more in
      let e = ap (λ z. reseeds_for l.row z ys) is in record {
        gives = omega (arith, a, g);
        reseeds = omega (arith, b, s, e);
        counter = counter_more ∙ ap (λ z. counter_for l.row z ys) (sym is);
      }

-- the links at node k have its row and its counter, which is at most one above its interval, and give
abbrev pub AreGiving : NodeRow → ℕ → ℕ → List Link → Type 0
AreGiving row k c [] = Unit {0}
AreGiving row k c (l ∷ ls) = (l.slot ≡ k → (l.row ≡ row) × (l.state.counter ≡ c)) × (l.task ≡ Gives (len_of l.task)) × (l.state.counter ≤ l.row.interval + 1) × (1 ≤ l.row.interval) × AreGiving row k c ls

-- node k after all links of a chain
pub on_chain : (row : NodeRow) (k : ℕ) (c : ℕ → ℕ) (ls : List Link) (xs ys : List ℕ) → AreGiving row k (c k) ls → Distinct (slots ls) → has (slots ls) k ≡ true
    → Asked k ls xs ys → Steps row k (c k) (moved c ls k) ls xs ys
on_chain row k c [] xs ys are d h asked = cc
on_chain row k c (l ∷ ls) xs ys (same, task, high, some, are) (off, d) h asked =
    by (l.slot == k) refl h asked (λ a i j. on_chain row k (with_counter c l.slot (counter_behind l)) ls xs ys a d i j) where
      wc : ℕ → ℕ
      wc = with_counter c l.slot (counter_behind l)

      len : ℕ
      len = len_of l.task

      by : (b : Bool) → (l.slot == k) ≡ b → (b || has (slots ls) k) ≡ true → ((w : ℕ → ℕ) → sum_of w xs ≡ (if b then w len else 0) + asked_at w k ls + sum_of w ys)
          → (AreGiving row k (wc k) ls → has (slots ls) k ≡ true → Asked k ls xs ys → Steps row k (wc k) (moved wc ls k) ls xs ys)
          → Steps row k (c k) (moved wc ls k) (l ∷ ls) xs ys
      by true at h asked ih =
          let slot_is : l.slot ≡ k = eqb-true l.slot k at in
          let off_k : has (slots ls) k ≡ false = subst (λ z. has (slots ls) z ≡ false) slot_is off in
          let more : (w : ℕ → ℕ) → sum_of w xs ≡ w len + sum_of w ys = λ w. (let a = asked w in let n = none_asked w k ls off_k in omega (arith, a, n)) in
          let moved_is : moved wc ls k ≡ counter_behind l = none_moved wc k ls off_k ∙ ap (λ b. if b then counter_behind l else c k) at in
          let g : gives_at k (l ∷ ls) ≡ gives_of l len = ap (λ b. (if b then gives_of l len else 0) + gives_at k ls) at ∙ ap (λ z. gives_of l len + z) (none_given k ls off_k) ∙ add-zero (gives_of l len) in
          let s : seeds_at k (l ∷ ls) ≡ seeds_of l len = ap (λ b. (if b then seeds_of l len else 0) + seeds_at k ls) at ∙ ap (λ z. seeds_of l len + z) (none_seeded k ls off_k) ∙ add-zero (seeds_of l len) in
          let t = steps l len task high some xs ys more k (moved wc ls k) (l ∷ ls) moved_is g s in
          let are_same = same slot_is in
          subst (λ z. Steps z k (c k) (moved wc ls k) (l ∷ ls) xs ys) are_same.0 (subst (λ z. Steps l.row k z (moved wc ls k) (l ∷ ls) xs ys) are_same.1 t)
      by false at h asked ih =
          let kept : wc k ≡ c k = ap (λ b. if b then counter_behind l else c k) at in
          let less : Asked k ls xs ys = λ w. (let a = asked w in omega (arith, a)) in
          let t = subst (λ z. Steps row k z (moved wc ls k) ls xs ys) kept (ih (subst (λ z. AreGiving row k z ls) (sym kept) are) h less) in
          let e = ap (λ b. if b then gives_of l len else 0) at in let f = ap (λ b. if b then seeds_of l len else 0) at in
          let a = t.gives in let r = t.reseeds in record {
            gives = omega (arith, a, e);
            reseeds = omega (arith, r, f);
            counter = t.counter;
          }
