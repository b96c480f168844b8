-- What an entry that is right does to one source: nothing, a draw, or a start.
use Rattle.std.proofs.Common.{◌≡◌, ◌∙◌, ◌++◌, ◌∷◌, ◌≢◌, ℕ, List, [], Bool, true, false, map, refl, sym, ap, subst, eq-eqb, ne_eqb, arith, inl, inr, append-nil}
use Rattle.std.specs.Prelude.{◌⊎◌, ◌==◌, ◌&&◌, if◌then◌else◌, Option, Some, None, Result, Ok, Err, MatchOption, MatchResult, nat_lt, not}
use Rattle.entropy_source.specs.Draws.{portions}
use Rattle.entropy_source.specs.Source.{SourceAct, need_of}
use Rattle.entropy_source.specs.declared.answers.SourceRefusal.{SourceRefusal}
use Rattle.entropy_source.specs.declared.answers.SourceRefusal.TheVariants.{HealthFailed, InError, SourceFault, SourceSpent, WantOfEntropy}
use Rattle.rbg_nodes.specs.Node.{Cleared, NodeAct, NodeState, Renew, Seeded, node_after}
use Rattle.rbg_bytes.specs.Xor.{xor_bytes}
use Rattle.tree_config.specs.Tree.{Tree}
use Rattle.tree_config.specs.declared.plan.Origin.{Origin}
use Rattle.tree_config.specs.declared.plan.Origin.TheVariants.{Parent, SeedFile, Source}
use Rattle.tree_rules.specs.Chain.{Chain, SourceLink, asks_pr, need, need_by, node_chain, source_at, source_by, source_of, wants_of, whole_chain}
use Rattle.tree_rules.specs.Fits.{AnswersBy, DrawsAndWorks, Fits, Serves, Starts, at_source, done, found_by, source_reply, start_reply}
use Rattle.tree_rules.specs.History.{Act, AtNode, AtSource, Entry, SlotAct, States, at_slot, own, source_in, sources_in}
use Rattle.tree_rules.specs.Links.{Gives, Link, Rests, Seeds, Task, chunks, first_link, is_alive, is_rs, is_xor, last_link, must_seed, wanted}
use Rattle.tree_rules.specs.declared.reply.ReplyRow.{ReplyRow}
use Rattle.tree_rules.specs.Replies.{chain_by, chain_of, chain_rows, first_reply, is_instantiate, is_running, is_start, mode_of, plain_rows, refusal}
use Rattle.tree_rules.specs.Slots.{source_row, source_slot}
use Rattle.tree_rules.specs.Sources.{Does, Draw, Refuses}
use Rattle.tree_rules.specs.Works.{Work, at_node, chunked, gave, given_work, last_drawn, material, mixed, task_work, worked}
use Rattle.tree_rules.specs.declared.call.Call.{Call}
use Rattle.tree_rules.specs.declared.call.Call.TheVariants.{Generate, Instantiate, Reseed, Start, Status, Uninstantiate}
use Rattle.tree_rules.specs.declared.reply.Reply.{Reply}
use Rattle.tree_rules.proofs.Leaves.{own-append}
use Rattle.entropy_source.specs.declared.answers.Cause.TheVariants as causes
use Rattle.entropy_source.specs.Draws as draws
use mathlib.Core.Logic.{dite}
use native.Mathlib.Decide.{ℕ_discrete}

sources-append : (xs ys : List SlotAct) → sources_in (xs ++ ys) ≡ sources_in xs ++ sources_in ys
sources-append [] ys = refl
sources-append (AtNode a ∷ xs) ys = sources-append xs ys
sources-append (AtSource a ∷ xs) ys = ap (λ z. a ∷ z) (sources-append xs ys)

pub at_slot-append : (k : ℕ) (xs ys : List Act) → at_slot k (xs ++ ys) ≡ at_slot k xs ++ at_slot k ys
at_slot-append k xs ys = ap sources_in (own-append k xs ys) ∙ sources-append (own k xs) (own k ys)

-- node acts are no source acts
skip : (b : Bool) (a : NodeAct) (x : List SlotAct) → sources_in (if b then AtNode a ∷ x else x) ≡ sources_in x
skip true a x = refl
skip false a x = refl

module _ (k : ℕ) (l : Link) where
  pub node_skip : (a : NodeAct) (rest : List Act) → at_slot k (at_node l a ∷ rest) ≡ at_slot k rest
  node_skip a rest = skip (l.slot == k) a (own k rest)

  none_chunked : (s : NodeState) (add : List ℕ) (drawn : List (List ℕ)) (lens : List ℕ) → at_slot k (chunked l s add drawn lens).acts ≡ []
  none_chunked s add [] lens = refl
  none_chunked s add (d ∷ drawn) [] = refl
  none_chunked s add (d ∷ drawn) (len ∷ lens) =
      let now = node_after l.row s (Seeded Renew d add) in
      let given = gave l now [] len in
      let rest = (chunked l (node_after l.row now given) [] drawn lens).acts in
      node_skip (Seeded Renew d add) (at_node l given ∷ rest) ∙ (node_skip given rest ∙ none_chunked (node_after l.row now given) [] drawn lens)

  none_given : (b : Bool) (stuff string : List ℕ) (len : ℕ) → at_slot k (given_work l b stuff string len).acts ≡ []
  none_given true stuff string len =
      let given = gave l (node_after l.row l.state (Seeded Renew stuff string)) [] len in
      node_skip (Seeded Renew stuff string) (at_node l given ∷ []) ∙ node_skip given []
  none_given false stuff string len = node_skip (gave l l.state string len) []

  none_mixed : (b : Bool) (w : Work) (x : List ℕ) → at_slot k w.acts ≡ [] → at_slot k (if b then record w { bytes = x } else w).acts ≡ []
  none_mixed true w x e = e
  none_mixed false w x e = e

  none_gives : (b : Bool) (w v : Work) → at_slot k w.acts ≡ [] → at_slot k v.acts ≡ [] → at_slot k (if b then w else v).acts ≡ []
  none_gives true w v e f = e
  none_gives false w v e f = f

  none_task : (pr : Bool) (drawn : List (List ℕ)) (string above : List ℕ) (task : Task) → at_slot k (task_work pr drawn string l above task).acts ≡ []
  none_task pr drawn string above (Seeds how) = node_skip (Seeded how (material l drawn above) string) []
  none_task pr drawn string above Rests = refl
  none_task pr drawn string above (Gives len) =
      let given = given_work l (must_seed pr l) (material l drawn above) string len in
      none_gives (is_rs l.row.kind) (chunked l l.state string drawn (chunks l.row len)) (mixed l drawn given)
      (none_chunked l.state string drawn (chunks l.row len))
      (none_mixed (is_xor l.row.kind) given (xor_bytes given.bytes (last_drawn drawn)) (none_given (must_seed pr l) (material l drawn above) string len))

pub none_worked : (k : ℕ) (pr : Bool) (drawn : List (List ℕ)) (string : List ℕ) (ls : List Link) → at_slot k (worked pr drawn string ls).acts ≡ []
none_worked k pr drawn string [] = refl
none_worked k pr drawn string (l ∷ up) =
    let above = worked pr drawn [] up in
    at_slot-append k above.acts (task_work pr drawn string l above.bytes l.task).acts
    ∙ rw (none_worked k pr drawn [] up, none_task k l pr drawn string above.bytes l.task) refl

-- source acts at their own slot, and at another
pub here_all : (t : SourceLink) (acts : List SourceAct) → at_slot t.slot (map (at_source t) acts) ≡ acts
here_all t [] = refl
here_all t (a ∷ acts) =
    ap sources_in (ap (λ (b : Bool). if b then AtSource a ∷ own t.slot (map (at_source t) acts) else own t.slot (map (at_source t) acts)) (eq-eqb t.slot t.slot refl))
    ∙ ap (λ z. a ∷ z) (here_all t acts)

pub else_all : (k : ℕ) (t : SourceLink) (acts : List SourceAct) → (t.slot == k) ≡ false → at_slot k (map (at_source t) acts) ≡ []
else_all k t [] h = refl
else_all k t (a ∷ acts) h =
    ap sources_in (ap (λ (b : Bool). if b then AtSource a ∷ own k (map (at_source t) acts) else own k (map (at_source t) acts)) h) ∙ else_all k t acts h

-- the tap of a chain is that of a source in its state
abbrev pub IsSourceOf : Tree → States → Option SourceLink → Type 0
IsSourceOf p s None = Unit {0}
IsSourceOf p s (Some t) = t ≡ source_at p s t.number

source_by_fits : (p : Tree) (s : States) (lens : List ℕ) (o : Origin) → IsSourceOf p s (source_by p s lens o)
source_by_fits p s [] o = tt
source_by_fits p s (n ∷ lens) (Source j) = refl
source_by_fits p s (n ∷ lens) (SeedFile name) = tt
source_by_fits p s (n ∷ lens) (Parent q) = tt

source_if_fits : (p : Tree) (s : States) (b : Bool) (t : Option SourceLink) → IsSourceOf p s t → IsSourceOf p s (if b then t else None)
source_if_fits p s true t h = h
source_if_fits p s false t h = tt

source_of_fits : (p : Tree) (s : States) (pr : Bool) (l : Link) → IsSourceOf p s (source_of p s pr l)
source_of_fits p s pr l = source_if_fits p s (is_alive l) (source_by p s (wanted pr l) l.origin) (source_by_fits p s (wanted pr l) l.origin)

cut_fits : (p : Tree) (s : States) (b : Bool) (ls : List Link) (ch : Chain) → IsSourceOf p s ch.source
    → IsSourceOf p s (if b then record { links = ls; source = None } else ch).source
cut_fits p s true ls ch h = tt
cut_fits p s false ls ch h = h

node_fits : (p : Tree) (s : States) (c : Call) → IsSourceOf p s (node_chain p s c).source
node_fits p s c = source_of_fits p s (asks_pr c) (last_link (node_chain p s c).links)

whole_fits : (p : Tree) (s : States) (c : Call) → IsSourceOf p s (whole_chain p s c).source
whole_fits p s (Start j) = refl
whole_fits p s (Instantiate n x) = node_fits p s (Instantiate n x)
whole_fits p s (Generate n x y z) = node_fits p s (Generate n x y z)
whole_fits p s (Reseed n z) = node_fits p s (Reseed n z)
whole_fits p s (Uninstantiate n) = node_fits p s (Uninstantiate n)
whole_fits p s (Status n) = node_fits p s (Status n)

pub chain_fits : (p : Tree) (s : States) (c : Call) (r : Option Reply) → IsSourceOf p s (chain_by p s c r).source
chain_fits p s c (Some r) = tt
chain_fits p s c None =
    let whole = whole_chain p s c in
    cut_fits p s (is_instantiate c && (first_link whole.links).state.live) (first_link whole.links ∷ []) whole (whole_fits p s c)

-- no row of a table stands: the first one doesn't, and none of the others
none_rows : (r : ReplyRow) (rows : List ReplyRow) → first_reply (r ∷ rows) ≡ None → (r.stands ≡ false) × (first_reply rows ≡ None)
none_rows r rows h = by r.stands r.reply (first_reply rows) h where
  by : (b : Bool) (x : Reply) (y : Option Reply) → (if b then Some x else y) ≡ None → (b ≡ false) × (y ≡ None)
  by true x y h = cc
  by false x y h = (refl, h)

abbrev pub NoneStands : List ReplyRow → Type 0
NoneStands [] = Unit {0}
NoneStands (r ∷ rows) = (r.stands ≡ false) × NoneStands rows

pub none_stands : (rows : List ReplyRow) → first_reply rows ≡ None → NoneStands rows
none_stands [] h = tt
none_stands (r ∷ rows) h = let d = none_rows r rows h in (d.0, none_stands rows d.1)

three : (a b c : Bool) → (a && not b && not c) ≡ false → a ≡ true → c ≡ false → b ≡ true
three true true c h i j = refl
three true false true h i j = cc
three true false false h i j = cc
three false b c h i j = cc

-- where no row stands, a source that is needed is running
pub runs : (p : Tree) (c : Call) (string : List ℕ) (ch : Chain) → refusal p c string ch ≡ None → is_start c ≡ false
    → nat_lt 0 (need c ch) ≡ true → is_running (mode_of ch.source) ≡ true
runs p c string ch h start more =
    let all : NoneStands (plain_rows p c string ++ chain_rows c ch) = none_stands (plain_rows p c string ++ chain_rows c ch) h in
    three (nat_lt 0 (need c ch)) (is_running (mode_of ch.source)) (is_start c) all.1.1.1.1.1.1.1.1.1.1.0 more start

-- a source's refusal is never Done
pub not_done : (j : ℕ) (why : SourceRefusal) → ((source_reply j why).code == 0) ≡ false
not_done j (SourceSpent a b) = refl
not_done j (InError causes.NotStarted) = refl
not_done j (InError (causes.Alarm a b)) = refl
not_done j (SourceFault a) = refl
not_done j (HealthFailed a b) = refl
not_done j (WantOfEntropy a) = refl

-- so an entry with that reply isn't Done
pub never_done : (e : Entry) (j : ℕ) (why : SourceRefusal) → e.reply ≡ source_reply j why → e.reply.code ≡ 0 → ⊥
never_done e j why is code =
    let off = not_done j why in
    let at : (source_reply j why).code ≡ 0 = sym (ap (λ (z : Reply). z.code) is) ∙ code in
    let on : ((source_reply j why).code == 0) ≡ true = ap (λ z. z == 0) at in cc

-- the samples that a call other than Start takes are those of its lengths
pub need_is : (c : Call) (t : SourceLink) (lens : List ℕ) → is_start c ≡ false → need_by c (Some t) lens ≡ need_of t.row lens
need_is (Start i) t lens h = cc
need_is (Instantiate n x) t lens h = refl
need_is (Generate n x y z) t lens h = refl
need_is (Reseed n z) t lens h = refl
need_is (Uninstantiate n) t lens h = refl
need_is (Status n) t lens h = refl

module _ (p : Tree) (s : States) (j : ℕ) (e : Entry) where
  abbrev Goal : Type 0
  Goal = Does (e.reply.code == 0) (source_row p j) (source_in (s (source_slot p j))) (at_slot (source_slot p j) e.acts)

  -- a tap at this slot is this source's
  abbrev At : SourceLink → Type 0
  At t = ((t.slot == source_slot p j) ≡ false) ⊎ (t ≡ source_at p s j)

  at_or_not : (t : SourceLink) → t ≡ source_at p s t.number → At t
  at_or_not t h = dite (ℕ_discrete t.number j)
      (λ y. inr (h ∙ ap (λ i. source_at p s i) y))
      (λ n. inl (let other : t.slot ≢ source_slot p j = λ i. n (let k : t.slot ≡ source_slot p t.number = ap (λ (z : SourceLink). z.slot) h in omega arith) in ne_eqb t.slot (source_slot p j) other))

  does_nothing : (acts : List Act) → e.acts ≡ acts → at_slot (source_slot p j) acts ≡ [] → Goal
  does_nothing acts is none = inl (ap (at_slot (source_slot p j)) is ∙ none)

  -- the acts of another source, and then those of nodes
  else_and : (t : SourceLink) (acts : List SourceAct) (w : List Act) → (t.slot == source_slot p j) ≡ false → at_slot (source_slot p j) w ≡ []
      → at_slot (source_slot p j) (map (at_source t) acts ++ w) ≡ []
  else_and t acts w off none = at_slot-append (source_slot p j) (map (at_source t) acts) w ∙ rw (else_all (source_slot p j) t acts off, none) refl

  here_and : (t : SourceLink) (acts : List SourceAct) (w : List Act) → t ≡ source_at p s j → at_slot (source_slot p j) w ≡ []
      → at_slot (source_slot p j) (map (at_source t) acts ++ w) ≡ acts
  here_and t acts w is none =
      at_slot-append (source_slot p j) (map (at_source t) acts) w
      ∙ rw none (rw append-nil (subst (λ k. at_slot k (map (at_source t) acts) ≡ acts) (ap (λ (z : SourceLink). z.slot) is) (here_all t acts)))

  got_draw : (t : SourceLink) (acts : List SourceAct) → t ≡ source_at p s j → at_slot (source_slot p j) e.acts ≡ acts → Draw (e.reply.code == 0) t.row t.state acts → Goal
  got_draw t acts is here d =
      inr (inl (subst (λ a. Draw (e.reply.code == 0) (source_row p j) (source_in (s (source_slot p j))) a) (sym here) (subst (λ (z : SourceLink). Draw (e.reply.code == 0) z.row z.state acts) is d)))

  got_start : (t : SourceLink) (acts : List SourceAct) (end : Result (List ℕ) SourceRefusal) → t ≡ source_at p s j → at_slot (source_slot p j) e.acts ≡ acts
      → draws.Start t.row t.state acts end → Refuses (e.reply.code == 0) end → Goal
  got_start t acts end is here d fails =
      inr (inr (
        end,
        subst (λ a. draws.Start (source_row p j) (source_in (s (source_slot p j))) a end) (sym here)
            (subst (λ (z : SourceLink). draws.Start z.row z.state acts end) is d),
        fails,
      ))

  works_does : (c : Call) (ls : List Link) (source : Option SourceLink) → IsSourceOf p s source → is_start c ≡ false
      → refusal p c e.string (record { links = ls; source = source }) ≡ None
      → DrawsAndWorks (found_by source) c ls (wants_of c ls source) source e → Goal
  works_does c ls None fit start free w =
      does_nothing (worked (asks_pr c) [] e.string ls).acts w.acts_are (none_worked (source_slot p j) (asks_pr c) [] e.string ls)
  works_does c ls (Some t) fit start free (acts, end, drawn, answer) =
      let run : nat_lt 0 (need_of t.row lens) ≡ true → is_running t.state.mode ≡ true =
      λ h. runs p c e.string (record { links = ls; source = Some t }) free start (ap (λ n. nat_lt 0 n) (need_is c t lens start) ∙ h) in
      by end (λ fails. (lens, end, drawn, fails, run)) answer where
        lens : List ℕ
        lens = wants_of c ls (Some t)

        by : (end : Result (List ℕ) SourceRefusal) → (Refuses (e.reply.code == 0) end → Draw (e.reply.code == 0) t.row t.state acts) → MatchResult end
            (λ bytes. let w = worked (asks_pr c) (portions t.row lens bytes) e.string ls in
            AnswersBy e (map (at_source t) acts ++ w.acts) (done w.bytes) w.bytes)
            (λ why. AnswersBy e (map (at_source t) acts) (source_reply t.number why) []) → Goal
        by (Ok bytes) d answer =
            let w = (worked (asks_pr c) (portions t.row lens bytes) e.string ls).acts in
            let none = none_worked (source_slot p j) (asks_pr c) (portions t.row lens bytes) e.string ls in
            elim (at_or_not t fit) [
              | inl off ↦ does_nothing (map (at_source t) acts ++ w) answer.acts_are (else_and t acts w off none)
              | inr is ↦ got_draw t acts is (ap (at_slot (source_slot p j)) answer.acts_are ∙ here_and t acts w is none) (d tt)
            ]
        by (Err why) d answer =
            elim (at_or_not t fit) [
              | inl off ↦ does_nothing (map (at_source t) acts) answer.acts_are (else_all (source_slot p j) t acts off)
              | inr is ↦ got_draw t acts is (ap (at_slot (source_slot p j)) answer.acts_are
                  ∙ subst (λ k. at_slot k (map (at_source t) acts) ≡ acts) (ap (λ (z : SourceLink). z.slot) is) (here_all t acts))
                  (d (ap (λ (r : Reply). r.code == 0) answer.reply_is ∙ not_done t.number why))
            ]

  start_refuses : (t : SourceLink) (end : Result (List ℕ) SourceRefusal) → e.reply ≡ start_reply t.number end → Refuses (e.reply.code == 0) end
  start_refuses t (Ok bytes) h = tt
  start_refuses t (Err why) h = ap (λ (r : Reply). r.code == 0) h ∙ not_done t.number why

  starts_does : (tap : Option SourceLink) → IsSourceOf p s tap → Starts tap e → Goal
  starts_does None fit w = absurd w
  starts_does (Some t) fit (acts, end, start, answer) =
      elim (at_or_not t fit) [
        | inl off ↦ does_nothing (map (at_source t) acts) answer.acts_are (else_all (source_slot p j) t acts off)
        | inr is ↦ got_start t acts end is (ap (at_slot (source_slot p j)) answer.acts_are
            ∙ subst (λ k. at_slot k (map (at_source t) acts) ≡ acts) (ap (λ (z : SourceLink). z.slot) is) (here_all t acts)) start
            (start_refuses t end answer.reply_is)
      ]

  does_by : (ch : Chain) (c : Call) → e.call ≡ c → IsSourceOf p s ch.source → (whole : Option Reply)
      → refusal p e.call e.string ch ≡ whole → MatchOption whole (Serves (found_by ch.source) ch e c) (λ reply. AnswersBy e [] reply []) → Goal
  does_by ch c is fit (Some reply) r a = does_nothing [] a.acts_are refl
  does_by ch (Start i) is fit None r a = starts_does ch.source fit a
  does_by ch (Uninstantiate n) is fit None r a =
      does_nothing (at_node (first_link ch.links) Cleared ∷ []) a.acts_are (node_skip (source_slot p j) (first_link ch.links) Cleared [])
  does_by ch (Status n) is fit None r a = does_nothing [] a.acts_are refl
  does_by ch (Instantiate n x) is fit None r a = works_does (Instantiate n x) ch.links ch.source fit refl (subst (λ z. refusal p z e.string ch ≡ None) is r) a
  does_by ch (Generate n x y z) is fit None r a = works_does (Generate n x y z) ch.links ch.source fit refl (subst (λ z. refusal p z e.string ch ≡ None) is r) a
  does_by ch (Reseed n z) is fit None r a = works_does (Reseed n z) ch.links ch.source fit refl (subst (λ z. refusal p z e.string ch ≡ None) is r) a

  -- what an entry that is right does to source j
  pub does : Fits p s e → Goal
  does f =
      let r = first_reply (plain_rows p e.call e.string) in
      does_by (chain_of p s e.call e.string) e.call refl (chain_fits p s e.call r) (refusal p e.call e.string (chain_of p s e.call e.string)) refl f.answer
