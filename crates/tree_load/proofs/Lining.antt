-- The links of a chain: each is that of a node in the state in which the call finds it, all but the last one are children that are
-- instantiated, and none stands twice.
use Rattle.std.proofs.Common.{◌≡◌, ◌∙◌, ◌∷◌, ◌+◌, ◌-◌, ◌<◌, ◌≤◌, ℕ, List, [], zero, suc, Bool, true, false, length, refl, sym, ap, subst, arith, eqb-true}
use Rattle.std.specs.Prelude.{◌==◌, ◌&&◌, ◌||◌, if◌then◌else◌, is_some, Option, Some, None, slice_get, unwrap_or}
use Rattle.tree_config.specs.Planned.{IsPlanned}
use Rattle.tree_config.specs.Planned as planned
use Rattle.tree_config.specs.Tree.{IsTree, Tree, parent_in, parents}
use Rattle.tree_config.proofs.Paths.{from_never}
use Rattle.std.proofs.lemmas.List.{length-map}
use Rattle.tree_rules.proofs.Depths.{same_parent}
use Rattle.tree_config.specs.declared.plan.NodePlan.{NodePlan}
use Rattle.rbg_nodes.specs.Node.{NodeState}
use Rattle.rbg_nodes.specs.Views.{row_of}
use Rattle.rbg_nodes.specs.declared.node.NodeRow.{NodeRow}
use Rattle.tree_rules.specs.History.{Distinct, States, has, node_in}
use Rattle.tree_rules.specs.Links.{Gives, Link, Task, asks_parent, chunks, first_link, is_alive, is_rs, last_link, link, must_seed, seeding_len, starts}
use Rattle.tree_rules.specs.Slots.{no_node, node_plan, node_row}
use Rattle.tree_rules.proofs.Lasting.{parent_is_childs}
use Rattle.tree_rules.proofs.Leaves.{slots}
use Rattle.tree_rules.proofs.Near.{has_first, has_rest}
use Rattle.tree_acts.specs.Chained.{len_of, links_from}
use Rattle.tree_acts.proofs.Alone.{alone}
use Rattle.tree_acts.proofs.Over.{links_end, links_step}
use Rattle.tree_load.proofs.Climbing.{AreOf, counter_behind, with_counter}
use Rattle.tree_load.proofs.Moving.{Found, Give}
use Rattle.tree_load.proofs.Stepping.{AreGiving}

-- a node whose parent gives has one, and is instantiated
pub asks_third : (a b c : Bool) → (a && b && c) ≡ true → c ≡ true
asks_third true true c h = h
asks_third true false c h = cc
asks_third false b c h = cc

pub asks_first : (a b c : Bool) → (a && b && c) ≡ true → a ≡ true
asks_first true b c h = refl
asks_first false b c h = cc

-- what holds of the links from every node on holds of those of a chain
module _ (p : Tree) (s : States) (pr : Bool) (Q : List Link → Type 0) (one : (n : ℕ) (task : Task) → Q (link p n task (s n) ∷ []))
    (more : (n q far : ℕ) (task : Task) → let l = link p n task (s n) in asks_parent pr l ≡ true → parent_in (node_plan p n).origin ≡ Some q
    → Q (links_from p s pr (Gives (seeding_len l)) far q) → Q (l ∷ links_from p s pr (Gives (seeding_len l)) far q)) where
  no_parent : (a b : Bool) → (a && b && false) ≡ true → ⊥
  no_parent true true e = cc
  no_parent true false e = cc
  no_parent false b e = cc

  pub along : (far n : ℕ) (task : Task) → Q (links_from p s pr task far n)
  along zero n task = by (asks_parent pr top) refl where
    top : Link
    top = link p n task (s n)

    by : (b : Bool) → asks_parent pr top ≡ b → Q (links_from p s pr task zero n)
    by false none = subst Q (sym (links_end p s pr task zero n none)) (one n task)
    by true asks = let e : links_from p s pr task zero n ≡ top ∷ [] = rw asks refl in subst Q (sym e) (one n task)
  along (suc far) n task = by (asks_parent pr top) refl (parent_in (node_plan p n).origin) refl (λ q. along far q (Gives (seeding_len top))) where
    top : Link
    top = link p n task (s n)

    by : (b : Bool) → asks_parent pr top ≡ b → (o : Option ℕ) → parent_in (node_plan p n).origin ≡ o
        → ((q : ℕ) → Q (links_from p s pr (Gives (seeding_len top)) far q)) → Q (links_from p s pr task (suc far) n)
    by false none o at ih = subst Q (sym (links_end p s pr task (suc far) n none)) (one n task)
    by true asks None at ih = absurd (no_parent (is_alive top) (must_seed pr top) (subst (λ o. (is_alive top && must_seed pr top && is_some o) ≡ true) at asks))
    by true asks (Some q) at ih =
        let less : suc far - 1 ≡ far = omega arith in
        let step : links_from p s pr task (suc far) n ≡ top ∷ links_from p s pr (Gives (seeding_len top)) far q =
        links_step p s pr task (suc far) n q (λ z. cc) asks at ∙ ap (λ k. top ∷ links_from p s pr (Gives (seeding_len top)) k q) less in
        subst Q (sym step) (more n q far task asks at (ih q))

-- a link is that of its node
pub record IsLine (p : Tree) (s : States) (l : Link) : Type 0 where
  pub row : l.row ≡ node_row p l.slot
  pub origin : l.origin ≡ (node_plan p l.slot).origin
  pub state : l.state ≡ node_in (s l.slot)

abbrev pub AreLines : Tree → States → List Link → Type 0
AreLines p s [] = Unit {0}
AreLines p s (l ∷ ls) = IsLine p s l × AreLines p s ls

abbrev pub AllGive : List Link → Type 0
AllGive [] = Unit {0}
AllGive (l ∷ ls) = (l.task ≡ Gives (len_of l.task)) × AllGive ls

abbrev pub AreChildren : Tree → List Link → Type 0
AreChildren p [] = Unit {0}
AreChildren p (l ∷ []) = Unit {0}
AreChildren p (l ∷ m ∷ ls) = (is_some (parent_in (node_plan p l.slot).origin) ≡ true) × (is_alive l ≡ true) × AreChildren p (m ∷ ls)

module _ (p : Tree) (s : States) (pr : Bool) where
  line : (n : ℕ) (task : Task) → IsLine p s (link p n task (s n))
  line n task = record { row = refl; origin = refl; state = refl }

  pub are_lines : (far n : ℕ) (task : Task) → AreLines p s (links_from p s pr task far n)
  are_lines = along p s pr (AreLines p s) (λ n task. (line n task, tt)) (λ n q far task asks at ih. (line n task, ih))

  pub are_children : (far n : ℕ) (task : Task) → AreChildren p (links_from p s pr task far n)
  are_children = along p s pr (AreChildren p) (λ n task. tt)
      (λ n q far task asks at ih.
      let l = link p n task (s n) in
      (asks_third (is_alive l) (must_seed pr l) (is_some (parent_in l.origin)) asks, asks_first (is_alive l) (must_seed pr l) (is_some (parent_in l.origin)) asks, ih))

  pub all_give : (far n len : ℕ) → AllGive (links_from p s pr (Gives len) far n)
  all_give far n len = along p s pr (λ ls. (first_link ls).task ≡ Gives (len_of (first_link ls).task) → AllGive ls)
      (λ n task h. (h, tt)) (λ n q far task asks at ih h. (h, ih refl)) far n (Gives len) refl

  pub are_distinct : (limit : ℕ) → IsTree limit p.nodes → (far n : ℕ) (task : Task) → Distinct (slots (links_from p s pr task far n))
  are_distinct limit tree = along p s pr (λ ls. Distinct (slots ls)) (λ n task. (refl, tt))
      (λ n q far task asks at ih. (alone p limit s pr (Gives (seeding_len (link p n task (s n)))) far n q tree at, ih))

  pub are_low : (limit : ℕ) → IsTree limit p.nodes → (far n : ℕ) (task : Task) → n < length p.nodes → (m : ℕ) → has (slots (links_from p s pr task far n)) m ≡ true → m < length p.nodes
  are_low limit tree far n task = along p s pr (λ ls. (first_link ls).slot < length p.nodes → (m : ℕ) → has (slots ls) m ≡ true → m < length p.nodes)
      (λ n task low m h. one n m low h)
      (λ n q far task asks at ih low m h. more n m (slots (links_from p s pr (Gives (seeding_len (link p n task (s n)))) far q)) low (ih (parent_low n q at) m) h) far n task where
        parent_low : (n q : ℕ) → parent_in (node_plan p n).origin ≡ Some q → q < length p.nodes
        parent_low n q at =
            let l = from_never (parents p.nodes) tree.parent n q (same_parent p.nodes n ∙ at) in
            let count = length-map p.nodes (λ (x : NodePlan). parent_in x.origin) in omega (arith, l, count)

        one : (n m : ℕ) → n < length p.nodes → has (n ∷ []) m ≡ true → m < length p.nodes
        one n m low h = by (n == m) refl h where
          by : (b : Bool) → (n == m) ≡ b → (b || false) ≡ true → m < length p.nodes
          by true is h = subst (λ z. z < length p.nodes) (eqb-true n m is) low
          by false is h = cc

        more : (n m : ℕ) (up : List ℕ) → n < length p.nodes → (has up m ≡ true → m < length p.nodes) → has (n ∷ up) m ≡ true → m < length p.nodes
        more n m up low ih h = by (n == m) refl h where
          by : (b : Bool) → (n == m) ≡ b → (b || has up m) ≡ true → m < length p.nodes
          by true is h = subst (λ z. z < length p.nodes) (eqb-true n m is) low
          by false is h = ih h

-- every interval is 1 at least
pub some_interval : (least : ℕ) (p : Tree) (n : ℕ) → IsPlanned least p → 1 ≤ (node_row p n).interval
some_interval least p n plan = by (slice_get p.nodes n) (plan.node n) where
  by : (o : Option NodePlan) → ((x : NodePlan) → o ≡ Some x → planned.IsNode least (length p.sources) (length p.nodes) x) → 1 ≤ (row_of (unwrap_or o no_node)).interval
  by None f = omega arith
  by (Some x) f = (f x refl).interval_low

-- no reseed counter is more than one above its interval
abbrev pub AreCapped : Tree → States → Type 0
AreCapped p s = (k : ℕ) → (node_in (s k)).counter ≤ (node_row p k).interval + 1

-- the links at k were found in its state
pub found : (p : Tree) (s : States) (k : ℕ) (x : NodeState) → node_in (s k) ≡ x → (ls : List Link) → AreLines p s ls → Found k x ls
found p s k x is [] lines = tt
found p s k x is (l ∷ ls) (line, lines) = (λ at. line.state ∙ (ap (λ z. node_in (s z)) at ∙ is), found p s k x is ls lines)

module _ (least : ℕ) (p : Tree) (plan : IsPlanned least p) (s : States) where
  gives_no_start : (task : Task) → task ≡ Gives (len_of task) → starts task ≡ false
  gives_no_start task h = ap starts h

  is_live : (l : Link) → l.task ≡ Gives (len_of l.task) → is_alive l ≡ true → l.state.live ≡ true
  is_live l gives alive = by l.state.live (gives_no_start l.task gives) alive where
    by : (b : Bool) → starts l.task ≡ false → (b || starts l.task) ≡ true → b ≡ true
    by true off h = refl
    by false off h = cc

  -- all give, where there are as many strings as the last one has chunks
  pub give : (drawn : List (List ℕ)) (ls : List Link) → AreLines p s ls → AllGive ls → AreChildren p ls → is_alive (last_link ls) ≡ true
      → (is_rs (last_link ls).row.kind ≡ true → length drawn ≡ length (chunks (last_link ls).row (len_of (last_link ls).task))) → Give drawn ls
  give drawn [] lines gives children alive strings = tt
  give drawn (l ∷ []) (line, lines) (gives, more) children alive strings = (gives, is_live l gives alive, strings, tt)
  give drawn (l ∷ m ∷ ls) (line, lines) (gives, more) (parent, lives, children) alive strings =
      let no_rs : is_rs l.row.kind ≡ false = ap (λ (r : NodeRow). is_rs r.kind) line.row ∙ (parent_is_childs least p l.slot plan parent).1 in
      (gives, is_live l gives lives, λ h. absurd (let e : true ≡ false = sym h ∙ no_rs in cc), give drawn (m ∷ ls) lines more children alive strings)

  cap_of : AreCapped p s → (l : Link) → IsLine p s l → l.state.counter ≤ l.row.interval + 1
  cap_of capped l line =
      let a = capped l.slot in let b = ap (λ (x : NodeState). x.counter) line.state in let c = ap (λ (r : NodeRow). r.interval) line.row in omega (arith, a, b, c)

  some_of : (l : Link) → IsLine p s l → 1 ≤ l.row.interval
  some_of l line = let a = some_interval least p l.slot plan in let c = ap (λ (r : NodeRow). r.interval) line.row in omega (arith, a, c)

  -- the counters are those of the links
  pub are_of : AreCapped p s → (c : ℕ → ℕ) (ls : List Link) → AreLines p s ls → Distinct (slots ls) → ((m : ℕ) → has (slots ls) m ≡ true → c m ≡ (node_in (s m)).counter)
      → AreOf c ls
  are_of capped c [] lines d same = tt
  are_of capped c (l ∷ ls) (line, lines) (off, d) same = (
    same l.slot (has_first l.slot (slots ls)) ∙ sym (ap (λ (x : NodeState). x.counter) line.state),
    cap_of capped l line,
    some_of l line,
    are_of capped (with_counter c l.slot (counter_behind l)) ls lines d (λ m h. by m h (l.slot == m) refl),
  ) where
    by : (m : ℕ) → has (slots ls) m ≡ true → (b : Bool) → (l.slot == m) ≡ b → (if b then counter_behind l else c m) ≡ (node_in (s m)).counter
    by m h true at = let on : has (slots ls) l.slot ≡ true = subst (λ z. has (slots ls) z ≡ true) (sym (eqb-true l.slot m at)) h in absurd (let e : true ≡ false = sym on ∙ off in cc)
    by m h false at = same m (has_rest l.slot (slots ls) m h)

  pub are_giving : AreCapped p s → (k c : ℕ) → c ≡ (node_in (s k)).counter → (ls : List Link) → AreLines p s ls → AllGive ls → AreGiving (node_row p k) k c ls
  are_giving capped k c is [] lines gives = tt
  are_giving capped k c is (l ∷ ls) (line, lines) (gives, more) = (
    λ at. (line.row ∙ ap (λ z. node_row p z) at, ap (λ (x : NodeState). x.counter) line.state ∙ (ap (λ z. (node_in (s z)).counter) at ∙ sym is)),
    gives,
    cap_of capped l line,
    some_of l line,
    are_giving capped k c is ls lines more,
  )
