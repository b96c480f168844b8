-- From the work of a node's parent to that of the node.
use Rattle.std.proofs.Common.{◌≡◌, ◌≢◌, ◌∙◌, ◌∷◌, ◌++◌, ◌+◌, ◌-◌, ◌<◌, ◌≤◌, ◌^◌, ◌*◌, ℕ, List, [], zero, suc, length, Bool, true, false, refl, sym, ap, subst, arith, inl, inr}
use Rattle.std.specs.Prelude.{◌&&◌, ◌||◌, ◌⊎◌, if◌then◌else◌, Option, Some, None, IsSome, not, is_some, slice_get, unwrap_or}
use Rattle.std.specs.Option.{option_map}
use Rattle.rbg_bytes.specs.declared.kind.Kind.{Kind}
use Rattle.rbg_bytes.specs.declared.kind.Kind.TheVariants.{HmacSha256, HmacSha384, HmacSha512, CtrAes128, CtrAes192, CtrAes256}
use Rattle.rbg_nodes.specs.Node.{New, Renew}
use Rattle.tree_config.specs.Tree.{Tree, IsTree, parent_in}
use Rattle.tree_config.specs.Planned as planned
use Rattle.tree_config.specs.Planned.{IsPlanned}
use Rattle.tree_config.specs.declared.plan.NodePlan.{NodePlan}
use Rattle.tree_config.specs.declared.plan.NodeKind.{NodeKind}
use Rattle.tree_config.specs.declared.plan.NodeKind.TheVariants.{Rbg1, Rbg2, Rbg3Xor, Rbg3Rs, Child}
use Rattle.tree_config.specs.declared.plan.Origin.{Origin}
use Rattle.tree_config.specs.declared.plan.Origin.TheVariants.{SeedFile, Source, Parent}
use Rattle.entropy_source.specs.Views.{SourceView}
use Rattle.rbg_nodes.specs.Views.{NodeView}
use Rattle.tree_rules.specs.declared.reply.Reply.{Reply}
use Rattle.tree_rules.specs.Slots.{no_node, node_plan, node_row}
use Rattle.tree_rules.specs.History.{Act, States, SlotState, slot_after_all}
use Rattle.tree_rules.specs.Links.{Task, Seeds, Gives, Rests, Link, link, last_link, first_link, is_alive, must_seed, must_by, asks_parent, seeding_len, seeding_by, is_rs, is_xor, starts}
use Rattle.tree_rules.specs.Chain.{source_of}
use Rattle.tree_rules.specs.Works.{task_work}
use Rattle.tree_rules.proofs.Near.{has_first, has_rest}
use Rattle.tree_acts.specs.Hold.{Hold, IsHeld, AreHeld, IsOfPlan, IsNodeOf, IsSourceOf, FewCounts, states_held, node_held}
use Rattle.tree_acts.specs.Chained.{links_from, rest_from, slots_with, len_of, Ready}
use Rattle.tree_acts.specs.Plainly.{plain}
use Rattle.tree_acts.specs.Did.{Did}
use Rattle.tree_acts.specs.Work.{Works, Worked, seeded_part}
use Rattle.tree_acts.proofs.Doing.{did_join}
use Rattle.tree_acts.proofs.Over.{over, refused_too, own_works, links_step, child_part}
use Rattle.tree_acts.proofs.Alone.{alone, apart}

module _ {S : Type 0} (told : S → Option (List ℕ)) (faults : S → ℕ) (p : Tree) where
  -- what is held at a node's slot is a node
  pub node_there : (h : Hold (SourceView S)) (n : ℕ) → IsOfPlan p h → n < length p.nodes → IsHeld h n → IsSome (h.nodes n)
  node_there h n plan low held = elim held [
    | inl is ↦ is
    | inr is ↦ by (h.sources n) refl is
  ] where
    by : (o : Option (SourceView S)) → h.sources n ≡ o → IsSome o → IsSome (h.nodes n)
    by (Some v) e is = let a = (plan.source n v e).high in absurd (omega (arith, a, low))
    by None e is = absurd (let f : false ≡ true = is in cc)

  pub first_there : (h : Hold (SourceView S)) (pr : Bool) (task : Task) (far n : ℕ) → IsOfPlan p h → n < length p.nodes
      → AreHeld h (slots_with p (states_held told faults h) pr (links_from p (states_held told faults h) pr task far n)) → IsSome (h.nodes n)
  first_there h pr task far n plan low held = node_there h n plan low (held n (has_first n _))

  -- acts leave what is held of the plan
  pub plan_still : (reads : S → ℕ → Option (List ℕ) → S → Type 0) (h t : Hold (SourceView S)) (acts : List Act) → Did told faults reads p h t acts → IsOfPlan p h → IsOfPlan p t
  plan_still reads h t acts did plan = record { node = λ k v e. by_node k v e (h.nodes k) refl; source = λ k v e. by_source k v e (h.sources k) refl } where
    by_node : (k : ℕ) (v : NodeView) → t.nodes k ≡ Some v → (o : Option NodeView) → h.nodes k ≡ o → IsNodeOf p k v
    by_node k v e None f = let same = did.nodes k in absurd (cc)
    by_node k v e (Some w) f =
        let same = did.nodes k in
        let row : v.row ≡ w.row = cc in
        let was = plan.node k w f in record { low = was.low; row = row ∙ was.row }

    by_source : (k : ℕ) (v : SourceView S) → t.sources k ≡ Some v → (o : Option (SourceView S)) → h.sources k ≡ o → IsSourceOf p k v
    by_source k v e None f = let same = did.sources k in absurd (cc)
    by_source k v e (Some w) f =
        let same = did.sources k in
        let row : v.row ≡ w.row = cc in
        let was = plan.source k w f in record { high = was.high; low = was.low; row = row ∙ was.row }

  pub node_still : (reads : S → ℕ → Option (List ℕ) → S → Type 0) (h t : Hold (SourceView S)) (acts : List Act) (n : ℕ) → Did told faults reads p h t acts → IsSome (h.nodes n) → IsSome (t.nodes n)
  node_still reads h t acts n did is = by (h.nodes n) (t.nodes n) (did.nodes n) is where
    by : (o q : Option NodeView) → option_map (λ (v : NodeView). v.row) q ≡ option_map (λ (v : NodeView). v.row) o → IsSome o → IsSome q
    by (Some v) (Some w) e is = refl
    by (Some v) None e is = absurd (cc)
    by None q e is = absurd (let f : false ≡ true = is in cc)

  -- a node that asks no parent is the only link
  pub only : (s : States) (pr : Bool) (task : Task) (far n : ℕ) → (far ≡ 0) ⊎ (asks_parent pr (link p n task (s n)) ≡ false)
      → links_from p s pr task far n ≡ link p n task (s n) ∷ []
  only s pr task zero n o = by (asks_parent pr (link p n task (s n))) where
    by : (b : Bool) → link p n task (s n) ∷ (if b then [] else []) ≡ link p n task (s n) ∷ []
    by true = refl
    by false = refl
  only s pr task (suc far) n o = elim o [
    | inl e ↦ absurd (omega (arith, e))
    | inr e ↦ rw e refl
  ]

  few_bytes : (l : Link) (k : Kind) → l.row.drbg ≡ k → (task : Task) → seeding_by l.row task ≤ 48
  few_bytes l HmacSha256 e (Seeds New) = rw e (omega arith)
  few_bytes l HmacSha256 e (Seeds Renew) = rw e (omega arith)
  few_bytes l HmacSha256 e (Gives len) = rw e (omega arith)
  few_bytes l HmacSha256 e Rests = rw e (omega arith)
  few_bytes l HmacSha384 e (Seeds New) = rw e (omega arith)
  few_bytes l HmacSha384 e (Seeds Renew) = rw e (omega arith)
  few_bytes l HmacSha384 e (Gives len) = rw e (omega arith)
  few_bytes l HmacSha384 e Rests = rw e (omega arith)
  few_bytes l HmacSha512 e (Seeds New) = rw e (omega arith)
  few_bytes l HmacSha512 e (Seeds Renew) = rw e (omega arith)
  few_bytes l HmacSha512 e (Gives len) = rw e (omega arith)
  few_bytes l HmacSha512 e Rests = rw e (omega arith)
  few_bytes l CtrAes128 e (Seeds New) = rw e (omega arith)
  few_bytes l CtrAes128 e (Seeds Renew) = rw e (omega arith)
  few_bytes l CtrAes128 e (Gives len) = rw e (omega arith)
  few_bytes l CtrAes128 e Rests = rw e (omega arith)
  few_bytes l CtrAes192 e (Seeds New) = rw e (omega arith)
  few_bytes l CtrAes192 e (Seeds Renew) = rw e (omega arith)
  few_bytes l CtrAes192 e (Gives len) = rw e (omega arith)
  few_bytes l CtrAes192 e Rests = rw e (omega arith)
  few_bytes l CtrAes256 e (Seeds New) = rw e (omega arith)
  few_bytes l CtrAes256 e (Seeds Renew) = rw e (omega arith)
  few_bytes l CtrAes256 e (Gives len) = rw e (omega arith)
  few_bytes l CtrAes256 e Rests = rw e (omega arith)

  few_asked : (l : Link) → len_of (Gives (seeding_len l)) ≤ 48
  few_asked l = few_bytes l l.row.drbg refl l.task

  limit_low : (b : Bool) → 48 ≤ (if b then 4096 else 65536)
  limit_low true = omega arith
  limit_low false = omega arith

  room_low : (b : Bool) (k : ℕ) → k ≤ 48 → (if b then k * 2 + 64 else 0) ≤ 192
  room_low true k h = omega arith
  room_low false k h = omega arith

  -- what serves a node and the links above it serves those alone
  pub ready_above : (h : Hold (SourceView S)) (pr : Bool) (task : Task) (n q far string out spare : ℕ) (l m : Link) (up : List Link) → l ≡ link p n task (states_held told faults h n)
      → q < length p.nodes → m ∷ up ≡ links_from p (states_held told faults h) pr (Gives (seeding_len l)) far q
      → Ready told faults p h pr task n (l ∷ m ∷ up) string out spare
      → Ready told faults p h pr (Gives (seeding_len l)) q (m ∷ up) 0 (seeding_len l) 192
  ready_above h pr task n q far string out spare l m up is low ls r = record {
    plan = r.plan;
    range = r.range;
    tree = r.tree;
    planned = low;
    held = λ k i. r.held k (has_rest l.slot (slots_with p (states_held told faults h) pr (m ∷ up)) k i);
    counts = r.counts;
    able = record {
      alive = r.able.alive;
      whole = r.able.whole;
      dead = λ e. absurd (let f : starts m.task ≡ false = first in cc);
      own = r.able.own;
      runs = r.able.runs;
      few = let a = few_asked l in let b = limit_low (is_xor m.row.kind || is_rs m.row.kind) in omega (arith, a, b, len);
    };
    brief = omega arith;
    asks = refl;
    room = room_low (is_xor (node_row p q).kind || is_rs (node_row p q).kind) (seeding_len l) (few_asked l);
  } where
    task_is : m.task ≡ Gives (seeding_len l)
    task_is = ap (λ (xs : List Link). (first_link xs).task) ls

    first : starts m.task ≡ false
    first = ap (λ (t : Task). starts t) task_is

    len : len_of m.task ≡ seeding_len l
    len = ap (λ (t : Task). len_of t) task_is

  both : (a b c : Bool) → (a && b && c) ≡ true → (a ≡ true) × (b ≡ true)
  both true true c h = (refl, refl)
  both true false c h = cc
  both false b c h = cc

  pub asks_seed : (pr : Bool) (l : Link) → asks_parent pr l ≡ true → (is_alive l ≡ true) × (must_seed pr l ≡ true)
  asks_seed pr l h = both (is_alive l) (must_seed pr l) (is_some (parent_in l.origin)) h

  -- a node with a parent is a child
  pub child_kind : (n q : ℕ) → IsPlanned 0 p → n < length p.nodes → parent_in (node_plan p n).origin ≡ Some q
      → (is_rs (node_row p n).kind ≡ false) × (is_xor (node_row p n).kind ≡ false)
  child_kind n q range low is = by (slice_get p.nodes n) refl is where
    kinds : (x : NodePlan) → parent_in x.origin ≡ Some q → (k : NodeKind) → x.kind ≡ k → (o : Origin) → x.origin ≡ o → planned.Fits 0 (length p.sources) (length p.nodes) k o
        → (is_rs k ≡ false) × (is_xor k ≡ false)
    kinds x is Child e o f g = (refl, refl)
    kinds x is Rbg1 e o f g = (refl, refl)
    kinds x is Rbg2 e o f g = (refl, refl)
    kinds x is Rbg3Xor e (SeedFile name) f g = absurd g
    kinds x is Rbg3Xor e (Parent r) f g = absurd g
    kinds x is Rbg3Xor e (Source j) f g = let i : parent_in (Source j) ≡ Some q = ap (λ (o : Origin). parent_in o) (sym f) ∙ is in cc
    kinds x is Rbg3Rs e (SeedFile name) f g = absurd g
    kinds x is Rbg3Rs e (Parent r) f g = absurd g
    kinds x is Rbg3Rs e (Source j) f g = let i : parent_in (Source j) ≡ Some q = ap (λ (o : Origin). parent_in o) (sym f) ∙ is in cc

    by : (o : Option NodePlan) → slice_get p.nodes n ≡ o → parent_in (unwrap_or o no_node).origin ≡ Some q
        → (is_rs (unwrap_or o no_node).kind ≡ false) × (is_xor (unwrap_or o no_node).kind ≡ false)
    by None e is = (refl, refl)
    by (Some x) e is = kinds x is x.kind refl x.origin refl (range.node n x e).origin

  -- what the links above a node do leaves the node alone
  pub state_still : (reads : S → ℕ → Option (List ℕ) → S → Type 0) (h t : Hold (SourceView S)) (pr : Bool) (task : Task) (far n q : ℕ) (r : Option Reply) (above : List ℕ)
      → IsTree 8 p.nodes → n < length p.nodes → parent_in (node_plan p n).origin ≡ Some q
      → Worked told faults reads p h t pr [] (links_from p (states_held told faults h) pr task far q)
      (source_of p (states_held told faults h) pr (last_link (links_from p (states_held told faults h) pr task far q))) r above
      → states_held told faults t n ≡ states_held told faults h n
  state_still reads h t pr task far n q r above tree low is w =
      let s = states_held told faults h in
      let ls = links_from p s pr task far q in
      w.did.states n ∙ ap (λ z. slot_after_all p n (states_held told faults h n) z)
      (own_works n pr [] ls (source_of p s pr (last_link ls)) r above w.acts (alone p 8 s pr task far n q tree is) (apart p s pr (last_link ls) n low) w.works)

  -- the work of a node's links, from that of the links above it
  pub risen : (reads : S → ℕ → Option (List ℕ) → S → Type 0) (h t u : Hold (SourceView S)) (pr : Bool) (task : Task) (far n q : ℕ) (string above bytes : List ℕ)
      → far ≢ 0 → IsPlanned 0 p → IsTree 8 p.nodes → n < length p.nodes → asks_parent pr (link p n task (states_held told faults h n)) ≡ true
      → parent_in (node_plan p n).origin ≡ Some q
      → Worked told faults reads p h t pr [] (links_from p (states_held told faults h) pr (Gives (seeding_len (link p n task (states_held told faults h n)))) (far - 1) q)
      (source_of p (states_held told faults h) pr (last_link (links_from p (states_held told faults h) pr (Gives (seeding_len (link p n task (states_held told faults h n)))) (far - 1) q))) None above
      → Did told faults reads p t u (seeded_part (link p n task (states_held told faults t n)) above string task).acts
      → bytes ≡ (seeded_part (link p n task (states_held told faults t n)) above string task).bytes
      → Worked told faults reads p h u pr string (links_from p (states_held told faults h) pr task far n)
      (source_of p (states_held told faults h) pr (last_link (links_from p (states_held told faults h) pr task far n))) None bytes
  risen reads h t u pr task far n q string above bytes more range tree low asks is w did gave =
      let s = states_held told faults h in
      let l = link p n task (s n) in
      let m = link p q (Gives (seeding_len l)) (s q) in
      let up = rest_from p s pr (Gives (seeding_len l)) (far - 1) q in
      let source = source_of p s pr (last_link (m ∷ up)) in
      let still = state_still reads h t pr (Gives (seeding_len l)) (far - 1) n q None above tree low is w in
      let kinds = child_kind n q range low is in
      let did' : Did told faults reads p t u (seeded_part l above string task).acts =
      subst (λ x. Did told faults reads p t u (seeded_part (link p n task x) above string task).acts) still did in
      let gave' : bytes ≡ (seeded_part l above string task).bytes = subst (λ x. bytes ≡ (seeded_part (link p n task x) above string task).bytes) still gave in
      let parts : (drawn : List (List ℕ)) → task_work pr drawn string l above task ≡ seeded_part l above string task =
      λ drawn. child_part pr drawn string above l q is kinds.0 kinds.1 task refl (asks_seed pr l asks).1 in
      subst (λ ls. Worked told faults reads p h u pr string ls (source_of p s pr (last_link ls)) None bytes) (sym (links_step p s pr task far n q more asks is))
      (record {
        acts = w.acts ++ (seeded_part l above string task).acts;
        did = did_join told faults p reads h t u w.acts (seeded_part l above string task).acts w.did did';
        works = subst (λ b. Works pr string (l ∷ m ∷ up) source None b (w.acts ++ (seeded_part l above string task).acts)) (sym gave')
            (over pr string l m up source above w.acts (seeded_part l above string task) parts w.works);
      })

  -- and from a refusal above it
  pub risen_refused : (reads : S → ℕ → Option (List ℕ) → S → Type 0) (h t : Hold (SourceView S)) (pr : Bool) (task : Task) (far n q : ℕ) (r : Reply) (string above bytes : List ℕ)
      → far ≢ 0 → asks_parent pr (link p n task (states_held told faults h n)) ≡ true → parent_in (node_plan p n).origin ≡ Some q
      → Worked told faults reads p h t pr [] (links_from p (states_held told faults h) pr (Gives (seeding_len (link p n task (states_held told faults h n)))) (far - 1) q)
      (source_of p (states_held told faults h) pr (last_link (links_from p (states_held told faults h) pr (Gives (seeding_len (link p n task (states_held told faults h n)))) (far - 1) q))) (Some r) above
      → Worked told faults reads p h t pr string (links_from p (states_held told faults h) pr task far n)
      (source_of p (states_held told faults h) pr (last_link (links_from p (states_held told faults h) pr task far n))) (Some r) bytes
  risen_refused reads h t pr task far n q r string above bytes more asks is w =
      let s = states_held told faults h in
      let l = link p n task (s n) in
      let m = link p q (Gives (seeding_len l)) (s q) in
      let up = rest_from p s pr (Gives (seeding_len l)) (far - 1) q in
      subst (λ ls. Worked told faults reads p h t pr string ls (source_of p s pr (last_link ls)) (Some r) bytes) (sym (links_step p s pr task far n q more asks is))
      (record {
        acts = w.acts;
        did = w.did;
        works = refused_too pr string l m up (source_of p s pr (last_link (m ∷ up))) r above bytes w.acts w.works;
      })

  -- a link in plain numbers asks as the link does
  must_plain : (pr : Bool) (l : Link) (task : Task) → must_by pr (plain l) task ≡ must_by pr l task
  must_plain pr l (Seeds how) = refl
  must_plain pr l (Gives len) = refl
  must_plain pr l Rests = refl

  pub asks_plain : (pr : Bool) (l : Link) → asks_parent pr (plain l) ≡ asks_parent pr l
  asks_plain pr l = ap (λ b. is_alive l && b && is_some (parent_in l.origin)) (must_plain pr l l.task)

  pub step_asks : (pr : Bool) (task : Task) (x : SlotState) (n k : ℕ) (y : Link) → k ≡ n → y ≡ plain (record (link p n task x) { origin = (node_plan p k).origin })
      → (b : Bool) → asks_parent pr y ≡ b → asks_parent pr (link p n task x) ≡ b
  step_asks pr task x n k y same is b asks =
      sym (asks_plain pr (link p n task x)) ∙ (ap (λ (i : ℕ). asks_parent pr (plain (record (link p n task x) { origin = (node_plan p i).origin }))) (sym same)
      ∙ (ap (λ (l : Link). asks_parent pr l) (sym is) ∙ asks))

  alive_or : (a b : Bool) → (a || b) ≡ true → (b ≡ true → a ≡ false) → a ≡ not b
  alive_or true true h f = f refl
  alive_or true false h f = refl
  alive_or false true h f = refl
  alive_or false false h f = cc

  pub alive_is : (pr : Bool) (l : Link) → is_alive l ≡ true → (starts l.task ≡ true → l.state.live ≡ false) → l.state.live ≡ not (starts l.task)
  alive_is pr l a d = alive_or l.state.live (starts l.task) a d

  pub few_at : (h : Hold (SourceView S)) (n : ℕ) → FewCounts h → IsSome (h.nodes n)
      → ((node_held told faults h n).seeds + 256 ≤ 2 ^ 62) × ((node_held told faults h n).gives + 256 ≤ 2 ^ 62)
  few_at h n few is = by (h.nodes n) refl is where
    by : (o : Option NodeView) → h.nodes n ≡ o → IsSome o → ((node_held told faults h n).seeds + 256 ≤ 2 ^ 62) × ((node_held told faults h n).gives + 256 ≤ 2 ^ 62)
    by (Some v) e is = rw e (few n v e)
    by None e is = absurd (let f : false ≡ true = is in cc)

  -- what serves a node that asks no parent
  pub ready_only : (h : Hold (SourceView S)) (pr : Bool) (task : Task) (far n string out spare : ℕ) → (far ≡ 0) ⊎ (asks_parent pr (link p n task (states_held told faults h n)) ≡ false)
      → Ready told faults p h pr task n (links_from p (states_held told faults h) pr task far n) string out spare
      → Ready told faults p h pr task n (link p n task (states_held told faults h n) ∷ []) string out spare
  ready_only h pr task far n string out spare o r =
      subst (λ ls. Ready told faults p h pr task n ls string out spare) (only (states_held told faults h) pr task far n o) r

  pub worked_only : (reads : S → ℕ → Option (List ℕ) → S → Type 0) (h t : Hold (SourceView S)) (pr : Bool) (task : Task) (far n : ℕ) (string : List ℕ) (r : Option Reply) (bytes : List ℕ)
      → (far ≡ 0) ⊎ (asks_parent pr (link p n task (states_held told faults h n)) ≡ false)
      → Worked told faults reads p h t pr string (link p n task (states_held told faults h n) ∷ []) (source_of p (states_held told faults h) pr (link p n task (states_held told faults h n))) r bytes
      → Worked told faults reads p h t pr string (links_from p (states_held told faults h) pr task far n)
      (source_of p (states_held told faults h) pr (last_link (links_from p (states_held told faults h) pr task far n))) r bytes
  worked_only reads h t pr task far n string r bytes o w =
      subst (λ ls. Worked told faults reads p h t pr string ls (source_of p (states_held told faults h) pr (last_link ls)) r bytes) (sym (only (states_held told faults h) pr task far n o)) w

  pub refused_some : (reads : S → ℕ → Option (List ℕ) → S → Type 0) (h t : Hold (SourceView S)) (pr : Bool) (task : Task) (far n q : ℕ) (r : Option Reply) (string above bytes : List ℕ)
      → far ≢ 0 → asks_parent pr (link p n task (states_held told faults h n)) ≡ true → parent_in (node_plan p n).origin ≡ Some q → is_some r ≡ true
      → Worked told faults reads p h t pr [] (links_from p (states_held told faults h) pr (Gives (seeding_len (link p n task (states_held told faults h n)))) (far - 1) q)
      (source_of p (states_held told faults h) pr (last_link (links_from p (states_held told faults h) pr (Gives (seeding_len (link p n task (states_held told faults h n)))) (far - 1) q))) r above
      → Worked told faults reads p h t pr string (links_from p (states_held told faults h) pr task far n)
      (source_of p (states_held told faults h) pr (last_link (links_from p (states_held told faults h) pr task far n))) r bytes
  refused_some reads h t pr task far n q None string above bytes more asks is some w = cc
  refused_some reads h t pr task far n q (Some r) string above bytes more asks is some w = risen_refused reads h t pr task far n q r string above bytes more asks is w

  pub none_of : (r : Option Reply) → is_some r ≡ false → r ≡ None
  none_of None h = refl
  none_of (Some r) h = cc
