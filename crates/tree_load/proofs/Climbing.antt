-- What one call more asks of all nodes: a length of each node of its chain, in the counters that the chain leaves.
use Rattle.std.proofs.Common.{◌≡◌, ◌∙◌, ◌∷◌, ◌+◌, ◌-◌, ◌*◌, ◌/◌, ◌<◌, ◌≤◌, ℕ, List, [], zero, suc, Bool, true, false, length, refl, sym, ap, subst, arith, eq-eqb}
use Rattle.std.specs.Prelude.{◌==◌, ◌&&◌, ◌||◌, if◌then◌else◌, nat_lt, is_some, Option, Some, None}
use Rattle.std.proofs.Math.Nat.{add-div_left, div-eq_of_lt, zero-div}
use Rattle.std.proofs.Common.{zero-add}
use Rattle.std.proofs.lemmas.Bool.Decides.{nat_tests}
use Rattle.tree_config.specs.Tree.{Tree, parent_in}
use Rattle.tree_config.specs.Planned.{IsPlanned}
use Rattle.rbg_nodes.specs.Node.{entropy_len, is_due}
use Rattle.tree_rules.specs.Slots.{node_plan, node_row}
use Rattle.tree_rules.specs.History.{States}
use Rattle.tree_rules.specs.Links.{Gives, Link, asks_parent, is_alive, is_rs, last_link, link, must_seed, seeding_len}
use Rattle.tree_rules.proofs.Lasting.{parent_is_childs}
use Rattle.tree_acts.specs.Chained.{len_of, links_from}
use Rattle.tree_acts.proofs.Over.{links_end, links_step}
use Rattle.tree_load.specs.Tally.{asks, gives_for, is_child, is_parent, reseeds_by, reseeds_for, sum_of}
use Rattle.tree_load.proofs.Asking.{Asks, Low, More, more_length, weighs}

-- the counters with one changed
abbrev pub with_counter : (ℕ → ℕ) → ℕ → ℕ → ℕ → ℕ
with_counter c n x m = if n == m then x else c m

-- what calls ask of the nodes, with one length more of node n
abbrev pub with_one : (ℕ → List ℕ) → ℕ → ℕ → ℕ → List ℕ
with_one own n len m = if n == m then len ∷ own m else own m

-- the counter that a node which gives is left with, the counters after links, and what links ask of node k
abbrev pub counter_behind : Link → ℕ
counter_behind l = if must_seed false l then 2 else l.state.counter + 1

abbrev pub moved : (ℕ → ℕ) → List Link → ℕ → ℕ
moved c [] = c
moved c (l ∷ ls) = moved (with_counter c l.slot (counter_behind l)) ls

abbrev pub asked_at : (ℕ → ℕ) → ℕ → List Link → ℕ
asked_at w k [] = 0
asked_at w k (l ∷ ls) = (if l.slot == k then w (len_of l.task) else 0) + asked_at w k ls

-- the counters are those of the links, one after the other, and none is more than one above its interval
abbrev pub AreOf : (ℕ → ℕ) → List Link → Type 0
AreOf c [] = Unit {0}
AreOf c (l ∷ ls) = (c l.slot ≡ l.state.counter) × (l.state.counter ≤ l.row.interval + 1) × (1 ≤ l.row.interval) × AreOf (with_counter c l.slot (counter_behind l)) ls

-- the reseeds of a node that isn't due, and of one that is
pub not_due : (interval c more : ℕ) → c ≤ interval → 1 ≤ interval → reseeds_by interval c (suc more) ≡ reseeds_by interval (c + 1) more
not_due interval c zero low some = div-eq_of_lt {n = c + suc zero - 2} {m = interval} (omega arith)
not_due interval c (suc more) low some = let e : c + suc (suc more) - 2 ≡ c + 1 + suc more - 2 = omega arith in ap (λ x. x / interval) e

pub due : (interval c more : ℕ) → interval < c → c ≤ interval + 1 → 1 ≤ interval → reseeds_by interval c (suc more) ≡ 1 + reseeds_by interval 2 more
due interval c zero low high some =
    let e : c + suc zero - 2 ≡ interval + 0 = omega arith in
    let one = add-div_left 0 {k = interval} some in
    let none = zero-div interval in
    let f = ap (λ x. x / interval) e in omega (arith, one, f, none)
due interval c (suc more) low high some =
    let e : c + suc (suc more) - 2 ≡ interval + (2 + suc more - 2) = omega arith in
    let one = add-div_left (2 + suc more - 2) {k = interval} some in
    let f = ap (λ x. x / interval) e in omega (arith, one, f)

pub not_less : (a b : ℕ) → nat_lt a b ≡ false → b ≤ a
not_less a b h = grind (arith, nat_tests)

pub less_of : (a b : ℕ) → nat_lt a b ≡ true → a < b
less_of a b h = grind (arith, nat_tests)

module _ (least : ℕ) (p : Tree) (plan : IsPlanned least p) (s : States) where
  abbrev from : ℕ → ℕ → ℕ → List Link
  from far n len = links_from p s false (Gives len) far n

  -- a call of a node whose own part is all
  module _ (n len : ℕ) (c : ℕ → ℕ) (own : ℕ → List ℕ) where
    abbrev l : Link
    l = link p n (Gives len) (s n)

    abbrev d : ℕ → ℕ
    d = with_counter c n (counter_behind l)

    one_more : (w : ℕ → ℕ) (k : ℕ) → sum_of w (with_one own n len k) ≡ (if n == k then w len else 0) + sum_of w (own k)
    one_more w k = by (n == k) where
      by : (b : Bool) → sum_of w (if b then len ∷ own k else own k) ≡ (if b then w len else 0) + sum_of w (own k)
      by true = refl
      by false = omega arith

    others : (m : ℕ) → (n == m) ≡ false → c m ≡ d m
    others m h = sym (ap (λ b. if b then counter_behind l else c m) h)

    here : d n ≡ counter_behind l
    here = ap (λ b. if b then counter_behind l else c n) (eq-eqb n n refl)

    no_more : (w : ℕ → ℕ) (k : ℕ) → sum_of w (own k) ≡ (if is_child p k n then 0 * w (entropy_len (node_row p n)) else 0) + sum_of w (own k)
    no_more w k = by (is_child p k n) where
      by : (b : Bool) → sum_of w (own k) ≡ (if b then 0 * w (entropy_len (node_row p n)) else 0) + sum_of w (own k)
      by true = omega arith
      by false = omega arith

    -- it asks nothing of a parent
    ends : c n ≡ l.state.counter → 1 ≤ l.row.interval → is_alive l ≡ true → asks_parent false l ≡ false → Asks p n len 0 c d own own (with_one own n len)
    ends is some alive none = record {
      more = one_more;
      rest = no_more;
      others = others;
      reseeds = λ parent xs ys more. plain parent xs ys more (must_seed false l) refl;
    } where
      and_not : (a b e : Bool) → (a && b && e) ≡ false → a ≡ true → e ≡ true → b ≡ false
      and_not true false e h i j = refl
      and_not true true true h i j = cc
      and_not true true false h i j = cc
      and_not false b e h i j = cc

      or_not : (a b : Bool) → (a || false || b) ≡ false → (a ≡ false) × (b ≡ false)
      or_not false false h = (refl, refl)
      or_not false true h = cc
      or_not true b h = cc

      plain : is_some (parent_in (node_plan p n).origin) ≡ true → (xs ys : List ℕ) → More len xs ys → (b : Bool) → must_seed false l ≡ b
          → reseeds_for (node_row p n) (c n) xs ≡ 0 + reseeds_for (node_row p n) (d n) ys
      plain parent xs ys more true seeds = let no = and_not (is_alive l) (must_seed false l) (is_some (parent_in l.origin)) none alive parent in cc
      plain parent xs ys more false seeds =
          let parts = or_not (is_due l.row l.state) (is_rs l.row.kind) seeds in
          let low : l.state.counter ≤ l.row.interval = not_less l.row.interval l.state.counter parts.0 in
          let next : d n ≡ l.state.counter + 1 = here ∙ ap (λ b. if b then 2 else l.state.counter + 1) seeds in
          let len_is = more_length len xs ys more in
          ap (λ b. if b then gives_for l.row xs else reseeds_by l.row.interval (c n) (length xs)) parts.1
          ∙ (ap (λ z. reseeds_by l.row.interval z (length xs)) is
          ∙ (ap (reseeds_by l.row.interval l.state.counter) len_is
          ∙ (not_due l.row.interval l.state.counter (length ys) low some
          ∙ (ap (λ z. reseeds_by l.row.interval z (length ys)) (sym next)
          ∙ (sym (ap (λ b. if b then gives_for l.row ys else reseeds_by l.row.interval (d n) (length ys)) parts.1) ∙ sym (zero-add (reseeds_for (node_row p n) (d n) ys)))))))

    -- it is due and asks its parent q
    goes_on : (q : ℕ) → c n ≡ l.state.counter → l.state.counter ≤ l.row.interval + 1 → 1 ≤ l.row.interval → asks_parent false l ≡ true → parent_in (node_plan p n).origin ≡ Some q
        → Asks p n len 1 c d own (with_one own q (entropy_len (node_row p n))) (with_one own n len)
    goes_on q is high some asks parent = record {
      more = one_more;
      rest = rest;
      others = others;
      reseeds = λ has xs ys more. reseeds xs ys more;
    } where
      and_second : (a b e : Bool) → (a && b && e) ≡ true → b ≡ true
      and_second true true e h = refl
      and_second true false e h = cc
      and_second false b e h = cc

      or_first : (a b : Bool) → (a || false || b) ≡ true → b ≡ false → a ≡ true
      or_first true b h i = refl
      or_first false true h i = cc
      or_first false false h i = cc

      seeds : must_seed false l ≡ true
      seeds = and_second (is_alive l) (must_seed false l) (is_some (parent_in l.origin)) asks

      no_rs : is_rs l.row.kind ≡ false
      no_rs = (parent_is_childs least p n plan (ap is_some parent)).1

      rest : (w : ℕ → ℕ) (k : ℕ) → sum_of w (with_one own q (entropy_len (node_row p n)) k) ≡ (if is_child p k n then 1 * w (entropy_len (node_row p n)) else 0) + sum_of w (own k)
      rest w k = by (q == k) ∙ sym (ap (λ o. (if is_parent k o then 1 * w (entropy_len (node_row p n)) else 0) + sum_of w (own k)) parent) where
        by : (b : Bool) → sum_of w (if b then entropy_len (node_row p n) ∷ own k else own k) ≡ (if b then 1 * w (entropy_len (node_row p n)) else 0) + sum_of w (own k)
        by true = omega arith
        by false = omega arith

      reseeds : (xs ys : List ℕ) → More len xs ys → reseeds_for (node_row p n) (c n) xs ≡ 1 + reseeds_for (node_row p n) (d n) ys
      reseeds xs ys more =
          let is_due_now : is_due l.row l.state ≡ true = or_first (is_due l.row l.state) (is_rs l.row.kind) seeds no_rs in
          let low : l.row.interval < l.state.counter = less_of l.row.interval l.state.counter is_due_now in
          let next : d n ≡ 2 = here ∙ ap (λ b. if b then 2 else l.state.counter + 1) seeds in
          let len_is = more_length len xs ys more in
          ap (λ b. if b then gives_for l.row xs else reseeds_by l.row.interval (c n) (length xs)) no_rs
          ∙ (ap (λ z. reseeds_by l.row.interval z (length xs)) is
          ∙ (ap (reseeds_by l.row.interval l.state.counter) len_is
          ∙ (due l.row.interval l.state.counter (length ys) low high some
          ∙ (ap (λ z. 1 + reseeds_by l.row.interval z (length ys)) (sym next)
          ∙ sym (ap (λ b. 1 + (if b then gives_for l.row ys else reseeds_by l.row.interval (d n) (length ys))) no_rs)))))

  -- all nodes of a chain
  module _ (deep k : ℕ) (low : Low deep p k) (w : ℕ → ℕ) (own : ℕ → List ℕ) where
    abbrev Claim : ℕ → ℕ → (ℕ → ℕ) → List Link → Type 0
    Claim n len c ls = AreOf c ls → is_alive (last_link ls) ≡ true → asks_parent false (last_link ls) ≡ false
        → sum_of w (asks deep p c (with_one own n len) k) ≡ asked_at w k ls + sum_of w (asks deep p (moved c ls) own k)

    alone : (n len : ℕ) (c : ℕ → ℕ) → let top = link p n (Gives len) (s n) in asks_parent false top ≡ false → Claim n len c (top ∷ [])
    alone n len c none are alive whole =
        let next = with_counter c n (counter_behind (link p n (Gives len) (s n))) in
        let a = weighs p n len 0 c next own own (with_one own n len) (ends n len c own are.0 are.2 alive none) deep k low w in omega (arith, a)

    no_parent : (a b : Bool) → (a && b && false) ≡ true → ⊥
    no_parent true true e = cc
    no_parent true false e = cc
    no_parent false b e = cc

    pub climbs : (far n len : ℕ) (c : ℕ → ℕ) → Claim n len c (from far n len)
    climbs zero n len c = by (asks_parent false top) refl where
      top : Link
      top = link p n (Gives len) (s n)

      by : (b : Bool) → asks_parent false top ≡ b → Claim n len c (from zero n len)
      by false none = subst (Claim n len c) (sym (links_end p s false (Gives len) zero n none)) (alone n len c none)
      by true asks = let e : from zero n len ≡ top ∷ [] = rw asks refl in subst (Claim n len c) (sym e) (λ are alive whole. absurd (cc))
    climbs (suc far) n len c = by (asks_parent false top) refl (parent_in (node_plan p n).origin) refl (λ q d. climbs far q (seeding_len top) d) where
      top : Link
      top = link p n (Gives len) (s n)

      next : ℕ → ℕ
      next = with_counter c n (counter_behind top)

      by : (b : Bool) → asks_parent false top ≡ b → (o : Option ℕ) → parent_in (node_plan p n).origin ≡ o
          → ((q : ℕ) (d : ℕ → ℕ) → Claim q (seeding_len top) d (from far q (seeding_len top))) → Claim n len c (from (suc far) n len)
      by false none o at ih = subst (Claim n len c) (sym (links_end p s false (Gives len) (suc far) n none)) (alone n len c none)
      by true asks None at ih = absurd (no_parent (is_alive top) (must_seed false top) (subst (λ o. (is_alive top && must_seed false top && is_some o) ≡ true) at asks))
      by true asks (Some q) at ih =
          let one : suc far - 1 ≡ far = omega arith in
          let step : from (suc far) n len ≡ top ∷ from far q (seeding_len top) =
          links_step p s false (Gives len) (suc far) n q (λ z. cc) asks at ∙ ap (λ k. top ∷ from k q (seeding_len top)) one in
          subst (Claim n len c) (sym step)
          (λ are alive whole.
          let a = weighs p n len 1 c next own (with_one own q (entropy_len (node_row p n))) (with_one own n len) (goes_on n len c own q are.0 are.1 are.2 asks at) deep k low w in
          let b = ih q next are.3 alive whole in omega (arith, a, b))
