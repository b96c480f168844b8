-- From the work of a chain to the entry of a call.
use Rattle.std.proofs.Common.{◌≡◌, ◌∙◌, ◌∷◌, ◌++◌, ◌+◌, ◌*◌, ◌<◌, ◌≤◌, ℕ, List, [], length, map, Bool, true, false, refl, sym, ap, subst, arith}
use Rattle.std.specs.Prelude.{◌||◌, if◌then◌else◌, Option, Some, None, Result, Ok, Err, MatchOption, MatchResult, take}
use Rattle.tree_config.specs.Tree.{Tree, IsTree}
use Rattle.tree_config.specs.Planned.{IsPlanned}
use Rattle.entropy_source.specs.Views.{SourceView}
use Rattle.entropy_source.specs.declared.answers.SourceRefusal.{SourceRefusal}
use Rattle.entropy_source.specs.Draws.{portions}
use Rattle.entropy_source.specs.declared.answers.Cause.TheVariants as causes
use Rattle.entropy_source.specs.declared.answers.SourceRefusal.TheVariants.{SourceSpent, InError, SourceFault, HealthFailed, WantOfEntropy}
use Rattle.health_tests.specs.declared.windows.Alarm.{Alarm}
use Rattle.tree_rules.specs.declared.call.Call.{Call}
use Rattle.tree_rules.specs.declared.call.Call.TheVariants.{Instantiate, Generate, Reseed, Uninstantiate, Start, Status}
use Rattle.tree_rules.specs.declared.reply.Reply.{Reply}
use Rattle.tree_rules.specs.History.{Act, Entry, States}
use Rattle.tree_rules.specs.Links.{Link, last_link, wanted}
use Rattle.tree_rules.specs.Chain.{Chain, SourceLink, source_of, named, asks_pr, task_of, node_chain, slots_of, wants}
use Rattle.tree_rules.specs.Replies.{chain_of, refusal, seeds_or_gives}
use Rattle.tree_rules.specs.Works.{worked}
use Rattle.tree_rules.specs.Fits.{AnswersBy, DrawsAndWorks, Follows, Serves, at_source, done, source_reply, found_by}
use Rattle.tree_rules.specs.Served.{entry_of}
use Rattle.tree_rules.specs.Slots.{node_row}
use Rattle.tree_rules.specs.Links.{Task, is_xor, is_rs}
use Rattle.tree_rules.specs.Replies.{asked_count, count_limit}
use Rattle.tree_acts.specs.Hold.{Hold, IsOfPlan, AreHeld, FewCounts, states_held}
use Rattle.tree_acts.specs.Chained.{links_from, len_of, room_for, Ready}
use Rattle.tree_acts.proofs.Free.{whole, able, names, brief, asks_len}
use Rattle.tree_acts.specs.Made.{ServedBy}
use Rattle.tree_acts.specs.Work.{Works, Worked}

take_front : (xs ys : List ℕ) → take (length xs) (xs ++ ys) ≡ xs
take_front [] ys = refl
take_front (x ∷ xs) ys = ap (λ z. x ∷ z) (take_front xs ys)

-- the reply of work, and the bytes behind it
abbrev pub reply_of : Option Reply → List ℕ → Reply
reply_of None bytes = done bytes
reply_of (Some r) bytes = r

abbrev pub bytes_of : Option Reply → List ℕ → List ℕ
bytes_of None bytes = bytes
bytes_of (Some r) bytes = []

-- the work of a chain is what the entry of its call has
works_draws : (c : Call) (string : List ℕ) (ls : List Link) (source : Option SourceLink) (r : Option Reply) (bytes : List ℕ) (acts : List Act) (e : Entry)
    → e.string ≡ string → e.acts ≡ acts → e.reply ≡ reply_of r bytes → e.bytes ≡ bytes_of r bytes
    → Works (asks_pr c) string ls source r bytes acts → DrawsAndWorks (found_by source) c ls (wants c (record { links = ls; source = source })) source e
works_draws c string ls None r bytes acts e es ea er eb (none, is, same) =
    let w = worked (asks_pr c) [] string ls in
    subst (λ z. let w = worked (asks_pr c) [] z ls in AnswersBy e w.acts (done w.bytes) w.bytes) (sym es)
    (record {
      acts_are = ea ∙ is;
      reply_is = er ∙ (ap (λ (r : Option Reply). reply_of r bytes) none ∙ ap (λ z. done z) same);
      bytes_are = eb ∙ (ap (λ (r : Option Reply). bytes_of r bytes) none ∙ same);
    })
works_draws c string ls (Some t) r bytes acts e es ea er eb (drawn, end, d, m) = (drawn, end, d, by end m) where
  by : (end : Result (List ℕ) SourceRefusal)
      → MatchResult end
      (λ all. let w = worked (asks_pr c) (portions t.row (wanted (asks_pr c) (last_link ls)) all) string ls in
      (r ≡ None) × (acts ≡ map (at_source t) drawn ++ w.acts) × (bytes ≡ w.bytes))
      (λ why. (r ≡ Some (source_reply t.number why)) × (acts ≡ map (at_source t) drawn))
      → MatchResult end
      (λ all. let w = worked (asks_pr c) (portions t.row (wanted (asks_pr c) (last_link ls)) all) e.string ls in
      AnswersBy e (map (at_source t) drawn ++ w.acts) (done w.bytes) w.bytes)
      (λ why. AnswersBy e (map (at_source t) drawn) (source_reply t.number why) [])
  by (Ok all) (none, is, same) =
      subst (λ z. let w = worked (asks_pr c) (portions t.row (wanted (asks_pr c) (last_link ls)) all) z ls in AnswersBy e (map (at_source t) drawn ++ w.acts) (done w.bytes) w.bytes) (sym es)
      (record {
        acts_are = ea ∙ is;
        reply_is = er ∙ (ap (λ (r : Option Reply). reply_of r bytes) none ∙ ap (λ z. done z) same);
        bytes_are = eb ∙ (ap (λ (r : Option Reply). bytes_of r bytes) none ∙ same);
      })
  by (Err why) (some, is) = record {
    acts_are = ea ∙ is;
    reply_is = er ∙ ap (λ (r : Option Reply). reply_of r bytes) some;
    bytes_are = eb ∙ ap (λ (r : Option Reply). bytes_of r bytes) some;
  }

serves_by : (found : List ℕ → List ℕ → Option Alarm) (ch : Chain) (e : Entry) (c : Call) → seeds_or_gives c ≡ true
    → DrawsAndWorks found c ch.links (wants c ch) ch.source e → Serves found ch e c
serves_by found ch e (Instantiate n x) h d = d
serves_by found ch e (Generate n x y z) h d = d
serves_by found ch e (Reseed n z) h d = d
serves_by found ch e (Uninstantiate n) h d = cc
serves_by found ch e (Start j) h d = cc
serves_by found ch e (Status n) h d = cc

module _ {S : Type 0} (told : S → Option (List ℕ)) (faults : S → ℕ) (p : Tree) where
  pub served_by : (reads : S → ℕ → Option (List ℕ) → S → Type 0) (h t : Hold (SourceView S)) (c : Call) (string : List ℕ) (r : Option Reply) (bytes : List ℕ) → seeds_or_gives c ≡ true
      → (let s = states_held told faults h in refusal p c string (chain_of p s c string) ≡ None)
      → (let s = states_held told faults h in chain_of p s c string ≡ node_chain p s c)
      → (let s = states_held told faults h in Worked told faults reads p h t (asks_pr c) string (node_chain p s c).links (node_chain p s c).source r bytes)
      → ServedBy told faults reads p h t c string (reply_of r bytes) (bytes_of r bytes)
  served_by reads h t c string r bytes what free whole w = record {
    served = record {
      acts = w.acts;
      fits = λ caller.
          let e = entry_of p s c string (reply_of r bytes) (bytes_of r bytes) w.acts caller in
          subst (λ (ch : Chain). Follows p (found_by ch.source) ch e) (sym whole)
          (record {
            chain_is = ap (λ (ch : Chain). slots_of ch) whole;
            answer = subst (λ (o : Option Reply). MatchOption o (Serves (found_by ch.source) ch e c) (λ reply. AnswersBy e [] reply [])) (sym (subst (λ (ch : Chain). refusal p c string ch ≡ None) whole free))
                (serves_by (found_by ch.source) ch e c what (works_draws c string ch.links ch.source r bytes w.acts e refl refl refl refl w.works));
          });
      leaves = w.did.states;
    };
    made = w.did.made;
  } where
    s : States
    s = states_held told faults h

    ch : Chain
    ch = node_chain p s c

  room_top : (b : Bool) (len spare whole : ℕ) → len ≤ (if b then 4096 else 65536) → len + spare ≡ whole → 65536 ≤ whole → (if b then len * 2 + 64 else 0) ≤ spare
  room_top true len spare whole l e w = omega arith
  room_top false len spare whole l e w = omega arith

  limit_high : (b : Bool) (len : ℕ) → len ≤ (if b then 4096 else 65536) → len ≤ 65536
  limit_high true len l = omega (arith, l)
  limit_high false len l = l

  -- the node that the call names, and the room behind the answer
  module _ (s : States) (c : Call) (string : List ℕ) (what : seeds_or_gives c ≡ true) (free : refusal p c string (chain_of p s c string) ≡ None) (range : IsPlanned 0 p) where
    free_whole : refusal p c string (node_chain p s c) ≡ None
    free_whole = subst (λ (ch : Chain). refusal p c string ch ≡ None) (whole p s c string what free) free

    pub named_there : named c < length p.nodes
    named_there = names p s c string what range free_whole

    pub count_within : IsTree 8 p.nodes → asked_count c ≤ 65536
    count_within tree =
        limit_high (is_xor (node_row p (named c)).kind || is_rs (node_row p (named c)).kind) (asked_count c)
        (subst (λ k. k ≤ count_limit (node_row p (named c)).kind) (asks_len c) (able p s c string what range free_whole 8 tree).few)

    pub room_behind : (out behind size : ℕ) → IsTree 8 p.nodes → out ≡ asked_count c → out + behind ≡ size → 65536 ≤ size
        → room_for (node_row p (named c)).kind (asked_count c) ≤ behind
    room_behind out behind size tree asks sizes room =
        room_top (is_xor (node_row p (named c)).kind || is_rs (node_row p (named c)).kind) (asked_count c) behind size
        (subst (λ k. k ≤ count_limit (node_row p (named c)).kind) (asks_len c) (able p s c string what range free_whole 8 tree).few)
        (ap (λ k. k + behind) (sym asks) ∙ sizes) room

  pub ready_top : (h : Hold (SourceView S)) (c : Call) (string : List ℕ) (out spare : ℕ) → seeds_or_gives c ≡ true
      → (let s = states_held told faults h in refusal p c string (chain_of p s c string) ≡ None)
      → IsOfPlan p h → AreHeld h (slots_of (chain_of p (states_held told faults h) c string)) → FewCounts h → IsPlanned 0 p → IsTree 8 p.nodes
      → out ≡ asked_count c → spare ≡ room_for (node_row p (named c)).kind (asked_count c)
      → (pr : Bool) (task : Task) (n far : ℕ) → pr ≡ asks_pr c → task ≡ task_of c → n ≡ named c → far ≡ length p.nodes
      → Ready told faults p h pr task n (links_from p (states_held told faults h) pr task far n) (length string) out spare
  ready_top h c string out spare what free plan held few range tree asks room pr task n far e f g i =
      let s = states_held told faults h in
      let is = whole p s c string what free in
      let free' : refusal p c string (node_chain p s c) ≡ None = subst (λ (ch : Chain). refusal p c string ch ≡ None) is free in
      let len = asks_len c in
      let spares : room_for (node_row p (named c)).kind (len_of (task_of c)) ≡ spare = ap (λ k. room_for (node_row p (named c)).kind k) len ∙ sym room in
      let R : Bool → Task → ℕ → ℕ → Type 0 = λ pr task n far. Ready told faults p h pr task n (links_from p s pr task far n) (length string) out spare in
      subst (λ pr. R pr task n far) (sym e) (subst (λ task. R (asks_pr c) task n far) (sym f) (subst (λ n. R (asks_pr c) (task_of c) n far) (sym g) (subst (λ far. R (asks_pr c) (task_of c) (named c) far) (sym i) (record {
        plan = plan;
        range = range;
        tree = tree;
        planned = names p s c string what range free';
        held = subst (λ (ch : Chain). AreHeld h (slots_of ch)) is held;
        counts = few;
        able = able p s c string what range free' 8 tree;
        brief = brief p s c string what range free';
        asks = asks ∙ sym len;
        room = omega (arith, spares);
      }))))

  pub worked_top : (reads : S → ℕ → Option (List ℕ) → S → Type 0) (h t : Hold (SourceView S)) (c : Call) (string : List ℕ) (r : Option Reply) (bytes : List ℕ)
      → (pr : Bool) (task : Task) (n far : ℕ) → pr ≡ asks_pr c → task ≡ task_of c → n ≡ named c → far ≡ length p.nodes
      → Worked told faults reads p h t pr string (links_from p (states_held told faults h) pr task far n) (source_of p (states_held told faults h) pr (last_link (links_from p (states_held told faults h) pr task far n))) r bytes
      → Worked told faults reads p h t (asks_pr c) string (node_chain p (states_held told faults h) c).links (node_chain p (states_held told faults h) c).source r bytes
  worked_top reads h t c string r bytes pr task n far e f g i w =
      let s = states_held told faults h in
      let R : Bool → Task → ℕ → ℕ → Type 0 = λ pr task n far. Worked told faults reads p h t pr string (links_from p s pr task far n) (source_of p s pr (last_link (links_from p s pr task far n))) r bytes in
      subst (λ far. R (asks_pr c) (task_of c) (named c) far) i (subst (λ n. R (asks_pr c) (task_of c) n far) g (subst (λ task. R (asks_pr c) task n far) f (subst (λ pr. R pr task n far) e w)))

  no_bytes : (j : ℕ) (why : SourceRefusal) → (source_reply j why).len ≡ 0
  no_bytes j (SourceSpent a b) = refl
  no_bytes j (InError causes.NotStarted) = refl
  no_bytes j (InError (causes.Alarm a b)) = refl
  no_bytes j (SourceFault a) = refl
  no_bytes j (HealthFailed a b) = refl
  no_bytes j (WantOfEntropy a) = refl

  pub refusal_len : (pr : Bool) (string : List ℕ) (ls : List Link) (source : Option SourceLink) (r : Reply) (bytes : List ℕ) (acts : List Act)
      → Works pr string ls source (Some r) bytes acts → r.len ≡ 0
  refusal_len pr string ls None r bytes acts (a, b, c) = cc
  refusal_len pr string ls (Some t) r bytes acts (drawn, end, d, m) = by end m where
    by : (end : Result (List ℕ) SourceRefusal)
        → MatchResult end
        (λ all. let w = worked pr (portions t.row (wanted pr (last_link ls)) all) string ls in
        (Some r ≡ None) × (acts ≡ map (at_source t) drawn ++ w.acts) × (bytes ≡ w.bytes))
        (λ why. (Some r ≡ Some (source_reply t.number why)) × (acts ≡ map (at_source t) drawn))
        → r.len ≡ 0
    by (Ok all) (a, b, c) = cc
    by (Err why) (a, b) = let is : r ≡ source_reply t.number why = cc in ap (λ (x : Reply). x.len) is ∙ no_bytes t.number why

  pub no_len : (reads : S → ℕ → Option (List ℕ) → S → Type 0) (h t : Hold (SourceView S)) (pr : Bool) (string : List ℕ) (ls : List Link) (source : Option SourceLink) (r : Reply) (bytes : List ℕ)
      → Worked told faults reads p h t pr string ls source (Some r) bytes → r.len ≡ 0
  no_len reads h t pr string ls source r bytes w = refusal_len pr string ls source r bytes w.acts w.works

  -- the bytes of the reply stand at the front of `out`
  pub served_some : (reads : S → ℕ → Option (List ℕ) → S → Type 0) (h t : Hold (SourceView S)) (c : Call) (string : List ℕ) (r : Reply) (bytes all : List ℕ) → seeds_or_gives c ≡ true
      → (let s = states_held told faults h in refusal p c string (chain_of p s c string) ≡ None)
      → Worked told faults reads p h t (asks_pr c) string (node_chain p (states_held told faults h) c).links (node_chain p (states_held told faults h) c).source (Some r) bytes
      → ServedBy told faults reads p h t c string r (take r.len all)
  served_some reads h t c string r bytes all what free w =
      let s = states_held told faults h in
      let none : r.len ≡ 0 = refusal_len (asks_pr c) string (node_chain p s c).links (node_chain p s c).source r bytes w.acts w.works in
      subst (λ k. ServedBy told faults reads p h t c string r (take k all)) (sym none)
      (served_by reads h t c string (Some r) bytes what free (whole p s c string what free) w)

  pub served_none : (reads : S → ℕ → Option (List ℕ) → S → Type 0) (h t : Hold (SourceView S)) (c : Call) (string : List ℕ) (bytes rest : List ℕ) (len : ℕ) → seeds_or_gives c ≡ true → len ≡ length bytes
      → (let s = states_held told faults h in refusal p c string (chain_of p s c string) ≡ None)
      → Worked told faults reads p h t (asks_pr c) string (node_chain p (states_held told faults h) c).links (node_chain p (states_held told faults h) c).source None bytes
      → ServedBy told faults reads p h t c string (record { code = 0; a = 0; b = 0; len = len }) (take len (bytes ++ rest))
  served_none reads h t c string bytes rest len what e free w =
      let s = states_held told faults h in
      subst (λ k. ServedBy told faults reads p h t c string (record { code = 0; a = 0; b = 0; len = k }) (take k (bytes ++ rest))) (sym e)
      (subst (λ z. ServedBy told faults reads p h t c string (done bytes) z) (sym (take_front bytes rest))
      (served_by reads h t c string None bytes what free (whole p s c string what free) w))
