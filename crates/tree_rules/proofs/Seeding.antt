-- What a call that is Done leaves of the node that it names.
use Rattle.std.proofs.Common.{◌≡◌, ◌∙◌, ◌++◌, ◌∷◌, ℕ, List, [], Bool, false, length, map, refl, sym, ap, subst, eq-eqb, append_assoc}
use Rattle.std.specs.Prelude.{if◌then◌else◌, Option, Some, None, Result, Ok, Err, MatchOption, MatchResult}
use Rattle.entropy_source.specs.Draws.{portions}
use Rattle.entropy_source.specs.declared.answers.SourceRefusal.{SourceRefusal}
use Rattle.health_tests.specs.declared.windows.Alarm.{Alarm}
use Rattle.rbg_nodes.specs.Node.{Cleared, How, New, Renew, NodeState, Seeded, node_after}
use Rattle.tree_config.specs.Tree.{Tree, parent_in}
use Rattle.tree_rules.specs.Chain.{Chain, SourceLink, asks_pr, named, node_chain, task_of, wants, whole_chain}
use Rattle.tree_rules.specs.Fits.{AnswersBy, DrawsAndWorks, Fits, Serves, Starts, at_source, done, found_by, source_reply}
use Rattle.tree_rules.specs.History.{Act, AtNode, AtSource, Entry, NodeIs, SlotAct, SlotState, States, after, node_in, own, slot_after, slot_after_all}
use Rattle.tree_rules.specs.Leaves.{HasLen, IsCleared, IsSeeded}
use Rattle.tree_rules.specs.Links.{Gives, Link, Seeds, asks_parent, first_link, link, links, seeding_len}
use Rattle.tree_rules.specs.Replies.{chain_of, refusal}
use Rattle.tree_rules.specs.Slots.{ancestors, node_plan, node_row}
use Rattle.tree_rules.specs.Works.{at_node, material, worked}
use Rattle.tree_rules.specs.declared.call.Call.{Call}
use Rattle.tree_rules.specs.declared.call.Call.TheVariants.{Generate, Instantiate, Reseed, Start, Status, Uninstantiate}
use Rattle.tree_rules.specs.declared.reply.Reply.{Reply}
use Rattle.tree_rules.proofs.Answered.{served}
use Rattle.tree_rules.proofs.Freeing.{chain_is_whole}
use Rattle.tree_rules.proofs.Leaves.{own-append}
use Rattle.tree_rules.proofs.Sources.{never_done}
use Rattle.tree_rules.proofs.Rightness.{slot-append}
use Rattle.tree_rules.proofs.Staying.{free_done, len_is}

-- a node stays a node
stays_node : (p : Tree) (k : ℕ) (x : NodeState) (acts : List SlotAct) → (y : NodeState) × (slot_after_all p k (NodeIs x) acts ≡ NodeIs y)
stays_node p k x [] = (x, refl)
stays_node p k x (AtNode a ∷ acts) = stays_node p k (node_after (node_row p k) x a) acts
stays_node p k x (AtSource a ∷ acts) = stays_node p k x acts

-- acts of which the last one seeds this node
record EndsSeeded (k : ℕ) (acts : List Act) : Type 0 where
  pub front : List Act
  pub link : Link
  pub slot : link.slot ≡ k
  pub how : How
  pub stuff : List ℕ
  pub string : List ℕ
  pub is : acts ≡ front ++ at_node link (Seeded how stuff string) ∷ []

ends_behind : (k : ℕ) (more acts : List Act) → EndsSeeded k acts → EndsSeeded k (more ++ acts)
ends_behind k more acts d = record {
  front = more ++ d.front;
  link = d.link;
  slot = d.slot;
  how = d.how;
  stuff = d.stuff;
  string = d.string;
  is = ap (λ z. more ++ z) d.is ∙ sym (append_assoc more d.front (at_node d.link (Seeded d.how d.stuff d.string) ∷ []));
}

is_seeded : (p : Tree) (k : ℕ) (x : NodeState) (acts : List Act) → EndsSeeded k acts → IsSeeded (node_in (slot_after_all p k (NodeIs x) (own k acts)))
is_seeded p k x acts d =
    let act : Act = at_node d.link (Seeded d.how d.stuff d.string) in
    let mine : own k (act ∷ []) ≡ AtNode (Seeded d.how d.stuff d.string) ∷ [] =
    ap (λ (b : Bool). if b then AtNode (Seeded d.how d.stuff d.string) ∷ [] else []) (eq-eqb d.link.slot k d.slot) in
    let all : own k acts ≡ own k d.front ++ AtNode (Seeded d.how d.stuff d.string) ∷ [] = ap (own k) d.is ∙ (own-append k d.front (act ∷ []) ∙ ap (λ z. own k d.front ++ z) mine) in
    let before = stays_node p k x (own k d.front) in
    let after_it : slot_after_all p k (NodeIs x) (own k acts) ≡ NodeIs (node_after (node_row p k) before.0 (Seeded d.how d.stuff d.string)) =
    ap (slot_after_all p k (NodeIs x)) all ∙ (slot-append p k (NodeIs x) (own k d.front) (AtNode (Seeded d.how d.stuff d.string) ∷ [])
    ∙ ap (λ z. slot_after p k z (AtNode (Seeded d.how d.stuff d.string))) before.1) in
    subst (λ z. IsSeeded (node_in z)) (sym after_it) (record { live = refl; counter = refl; kept = refl })

-- the first node of a chain has its acts last
first_last : (p : Tree) (s : States) (pr : Bool) (how : How) (n : ℕ) (up : List ℕ) (drawn : List (List ℕ)) (string : List ℕ)
    → EndsSeeded n (worked pr drawn string (links p s pr (Seeds how) (n ∷ up))).acts
first_last p s pr how n up drawn string =
    let l : Link = link p n (Seeds how) (s n) in
    let rest : List Link = if asks_parent pr l then links p s pr (Gives (seeding_len l)) up else [] in
    let above = worked pr drawn [] rest in
    record { front = above.acts; link = l; slot = refl; how = how; stuff = material l drawn above.bytes; string = string; is = refl }

seeds_last : (p : Tree) (s : States) (c : Call) (drawn : List (List ℕ)) (string : List ℕ) (how : How) → task_of c ≡ Seeds how
    → EndsSeeded (named c) (worked (asks_pr c) drawn string (node_chain p s c).links).acts
seeds_last p s (Instantiate n x) drawn string how is = first_last p s false New n (ancestors (length p.nodes) p (parent_in (node_plan p n).origin)) drawn string
seeds_last p s (Reseed n pr) drawn string how is = first_last p s pr Renew n (ancestors (length p.nodes) p (parent_in (node_plan p n).origin)) drawn string
seeds_last p s (Generate n x y z) drawn string how is = cc
seeds_last p s (Uninstantiate n) drawn string how is = cc
seeds_last p s (Start j) drawn string how is = cc
seeds_last p s (Status n) drawn string how is = cc

-- of a call that is Done
works_seeded : (p : Tree) (s : States) (e : Entry) (found : List ℕ → List ℕ → Option Alarm) (c : Call) (lens : List ℕ) (source : Option SourceLink) (how : How)
    → task_of c ≡ Seeds how → DrawsAndWorks found c (node_chain p s c).links lens source e → e.reply.code ≡ 0 → EndsSeeded (named c) e.acts
works_seeded p s e found c lens None how is w code = subst (λ acts. EndsSeeded (named c) acts) (sym w.acts_are) (seeds_last p s c [] e.string how is)
works_seeded p s e found c lens (Some t) how is (acts, end, drawn, answer) code = by end answer where
  by : (end : Result (List ℕ) SourceRefusal) → MatchResult end
      (λ bytes. let w = worked (asks_pr c) (portions t.row lens bytes) e.string (node_chain p s c).links in
      AnswersBy e (map (at_source t) acts ++ w.acts) (done w.bytes) w.bytes)
      (λ why. AnswersBy e (map (at_source t) acts) (source_reply t.number why) []) → EndsSeeded (named c) e.acts
  by (Ok bytes) answer =
      subst (λ acts. EndsSeeded (named c) acts) (sym answer.acts_are)
      (ends_behind (named c) (map (at_source t) acts) (worked (asks_pr c) (portions t.row lens bytes) e.string (node_chain p s c).links).acts
      (seeds_last p s c (portions t.row lens bytes) e.string how is))
  by (Err why) answer = absurd (never_done e t.number why answer.reply_is code)

serves_seeded : (p : Tree) (s : States) (e : Entry) (found : List ℕ → List ℕ → Option Alarm) (c : Call) (how : How) → task_of c ≡ Seeds how
    → Serves found (whole_chain p s c) e c → e.reply.code ≡ 0 → EndsSeeded (named c) e.acts
serves_seeded p s e found (Instantiate n x) how is w code =
    let ch = node_chain p s (Instantiate n x) in works_seeded p s e found (Instantiate n x) (wants (Instantiate n x) ch) ch.source how is w code
serves_seeded p s e found (Reseed n z) how is w code =
    let ch = node_chain p s (Reseed n z) in works_seeded p s e found (Reseed n z) (wants (Reseed n z) ch) ch.source how is w code
serves_seeded p s e found (Generate n x y z) how is w code = cc
serves_seeded p s e found (Uninstantiate n) how is w code = cc
serves_seeded p s e found (Start j) how is w code = cc
serves_seeded p s e found (Status n) how is w code = cc

-- a node that was instantiated or reseeded
pub seeded_now : (p : Tree) (s : States) (e : Entry) (how : How) → Fits p s e → task_of e.call ≡ Seeds how → e.reply.code ≡ 0 → (x : NodeState)
    → IsSeeded (node_in (after p (named e.call) (NodeIs x) e))
seeded_now p s e how f is code x =
    let free = free_done p s e f code in
    let w = served p s e f free in
    let on = subst (λ (ch : Chain). Serves (found_by ch.source) ch e e.call) (chain_is_whole p s e.call e.string free) w in
    is_seeded p (named e.call) x e.acts (serves_seeded p s e (found_by (whole_chain p s e.call).source) e.call how is on code)

-- a node that was uninstantiated, and one whose status was asked
pub cleared_now : (p : Tree) (s : States) (e : Entry) (n : ℕ) → Fits p s e → e.call ≡ Uninstantiate n → e.reply.code ≡ 0 → (x : NodeState)
    → IsCleared (node_in (after p n (NodeIs x) e))
cleared_now p s e n f is code x =
    let free = free_done p s e f code in
    let ch = chain_of p s e.call e.string in
    let w : Serves (found_by ch.source) ch e (Uninstantiate n) = subst (λ c. Serves (found_by ch.source) ch e c) is (served p s e f free) in
    let whole : ch ≡ node_chain p s (Uninstantiate n) = chain_is_whole p s e.call e.string free ∙ ap (λ c. whole_chain p s c) is in
    let slot : (first_link ch.links).slot ≡ n = ap (λ (z : Chain). (first_link z.links).slot) whole in
    let mine : own n e.acts ≡ AtNode Cleared ∷ [] =
    ap (own n) w.acts_are ∙ ap (λ (b : Bool). if b then AtNode Cleared ∷ [] else []) (eq-eqb (first_link ch.links).slot n slot) in
    subst (λ acts. IsCleared (node_in (slot_after_all p n (NodeIs x) acts))) (sym mine) (record { live = refl; counter = refl; working = refl })

pub status_stays : (p : Tree) (s : States) (e : Entry) (n : ℕ) → Fits p s e → e.call ≡ Status n → (k : ℕ) (x : SlotState) → after p k x e ≡ x
status_stays p s e n f is k x = ap (λ acts. slot_after_all p k x (own k acts)) (by (refusal p e.call e.string ch) f.answer) where
  ch : Chain
  ch = chain_of p s e.call e.string

  by : (o : Option Reply) → MatchOption o (Serves (found_by ch.source) ch e e.call) (λ reply. AnswersBy e [] reply []) → e.acts ≡ []
  by None w = let on : Serves (found_by ch.source) ch e (Status n) = subst (λ c. Serves (found_by ch.source) ch e c) is w in on.acts_are
  by (Some r) w = w.acts_are

-- how many bytes a call that is Done gives
no_bytes : (p : Tree) (s : States) (e : Entry) (found : List ℕ → List ℕ → Option Alarm) (c : Call) (lens : List ℕ) (source : Option SourceLink)
    → ((drawn : List (List ℕ)) → (worked (asks_pr c) drawn e.string (node_chain p s c).links).bytes ≡ [])
    → DrawsAndWorks found c (node_chain p s c).links lens source e → e.reply.code ≡ 0 → length e.bytes ≡ 0
no_bytes p s e found c lens None none w code = ap (λ z. length {A = ℕ} z) (w.bytes_are ∙ none [])
no_bytes p s e found c lens (Some t) none (acts, end, drawn, answer) code = by end answer where
  by : (end : Result (List ℕ) SourceRefusal) → MatchResult end
      (λ bytes. let w = worked (asks_pr c) (portions t.row lens bytes) e.string (node_chain p s c).links in
      AnswersBy e (map (at_source t) acts ++ w.acts) (done w.bytes) w.bytes)
      (λ why. AnswersBy e (map (at_source t) acts) (source_reply t.number why) []) → length e.bytes ≡ 0
  by (Ok bytes) answer = ap (λ z. length {A = ℕ} z) (answer.bytes_are ∙ none (portions t.row lens bytes))
  by (Err why) answer = ap (λ z. length {A = ℕ} z) answer.bytes_are

start_bytes : (e : Entry) (source : Option SourceLink) → Starts source e → length e.bytes ≡ 0
start_bytes e None w = absurd w
start_bytes e (Some t) (acts, end, start, answer) = ap (λ z. length {A = ℕ} z) answer.bytes_are

serves_len : (p : Tree) (s : States) (e : Entry) (found : List ℕ → List ℕ → Option Alarm) (c : Call) → Serves found (whole_chain p s c) e c
    → e.reply.code ≡ 0 → HasLen c (length e.bytes)
serves_len p s e found (Start i) w code = start_bytes e (whole_chain p s (Start i)).source w
serves_len p s e found (Uninstantiate n) w code = ap (λ z. length {A = ℕ} z) w.bytes_are
serves_len p s e found (Status n) w code = ap (λ z. length {A = ℕ} z) w.bytes_are
serves_len p s e found (Generate n x y z) w code = tt
serves_len p s e found (Instantiate n x) w code =
    let ch = node_chain p s (Instantiate n x) in no_bytes p s e found (Instantiate n x) (wants (Instantiate n x) ch) ch.source (λ drawn. refl) w code
serves_len p s e found (Reseed n z) w code =
    let ch = node_chain p s (Reseed n z) in no_bytes p s e found (Reseed n z) (wants (Reseed n z) ch) ch.source (λ drawn. refl) w code

pub done_len : (p : Tree) (s : States) (e : Entry) → Fits p s e → e.reply.code ≡ 0 → HasLen e.call e.reply.len
done_len p s e f code =
    let free = free_done p s e f code in
    let on = subst (λ (ch : Chain). Serves (found_by ch.source) ch e e.call) (chain_is_whole p s e.call e.string free) (served p s e f free) in
    subst (λ n. HasLen e.call n) (sym (len_is p s e f)) (serves_len p s e (found_by (whole_chain p s e.call).source) e.call on code)
