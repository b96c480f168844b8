-- An entry that is right has acts at the slots of its chain alone, so it leaves all others as they are.
use Rattle.std.proofs.Common.{◌≡◌, ◌∙◌, ◌++◌, ◌∷◌, ℕ, List, [], Bool, true, false, map, refl, ap, subst}
use Rattle.std.specs.Prelude.{◌==◌, ◌||◌, if◌then◌else◌, Option, Some, None, Result, Ok, Err, MatchOption, MatchResult}
use Rattle.entropy_source.specs.Draws.{portions}
use Rattle.entropy_source.specs.Source.{SourceAct}
use Rattle.entropy_source.specs.declared.answers.SourceRefusal.{SourceRefusal}
use Rattle.health_tests.specs.declared.windows.Alarm.{Alarm}
use Rattle.rbg_nodes.specs.Node.{NodeState, Renew, Seeded, node_after}
use Rattle.rbg_bytes.specs.Xor.{xor_bytes}
use Rattle.tree_config.specs.Tree.{Tree}
use Rattle.tree_rules.specs.Chain.{Chain, SourceLink, asks_pr, slots_of, slots_of_source, wants}
use Rattle.tree_rules.specs.Fits.{AnswersBy, DrawsAndWorks, Fits, Follows, Serves, Starts, at_source, done, found_by, source_reply}
use Rattle.tree_rules.specs.History.{Act, Entry, SlotState, States, after, has, own, slot_after_all}
use Rattle.tree_rules.specs.Links.{Gives, Link, Rests, Seeds, Task, chunks, is_rs, is_xor, must_seed}
use Rattle.tree_rules.specs.declared.reply.ReplyRow.{ReplyRow}
use Rattle.tree_rules.specs.Replies.{chain_by, chain_of, chain_rows, first_reply, plain_rows, refusal}
use Rattle.tree_rules.specs.Works.{Work, chunked, gave, given_work, last_drawn, material, mixed, task_work, worked}
use Rattle.tree_rules.specs.declared.call.Call.{Call}
use Rattle.tree_rules.specs.declared.call.Call.TheVariants.{Generate, Instantiate, Reseed, Start, Status, Uninstantiate}
use Rattle.tree_rules.specs.declared.reply.Reply.{Reply}

abbrev pub slots : List Link → List ℕ
slots ls = map (λ (l : Link). l.slot) ls

pub or_false : (a b : Bool) → (a || b) ≡ false → (a ≡ false) × (b ≡ false)
or_false true b h = (h, cc)
or_false false b h = (refl, h)

pub has_split : (xs ys : List ℕ) (k : ℕ) → has (xs ++ ys) k ≡ false → (has xs k ≡ false) × (has ys k ≡ false)
has_split [] ys k h = (refl, h)
has_split (x ∷ xs) ys k h =
    let d = or_false (x == k) (has (xs ++ ys) k) h in
    let r = has_split xs ys k d.1 in (rw (d.0, r.0) refl, r.1)

pub if_false : {A : Type 0} (b : Bool) (x y : A) → b ≡ false → (if b then x else y) ≡ y
if_false b x y e = ap (λ (c : Bool). if c then x else y) e

pub own-append : (k : ℕ) (xs ys : List Act) → own k (xs ++ ys) ≡ own k xs ++ own k ys
own-append k [] ys = refl
own-append k (a ∷ xs) ys = by (a.slot == k) (own-append k xs ys) where
  by : (b : Bool) → own k (xs ++ ys) ≡ own k xs ++ own k ys
      → (if b then a.act ∷ own k (xs ++ ys) else own k (xs ++ ys)) ≡ (if b then a.act ∷ own k xs else own k xs) ++ own k ys
  by true e = ap (λ z. a.act ∷ z) e
  by false e = e

pub own_both : (k : ℕ) (xs ys : List Act) → own k xs ≡ [] → own k ys ≡ [] → own k (xs ++ ys) ≡ []
own_both k xs ys e f = rw (own-append k xs ys, e, f) refl

pub own_sources : (k : ℕ) (t : SourceLink) (acts : List SourceAct) → has (slots_of_source (Some t)) k ≡ false → own k (map (at_source t) acts) ≡ []
own_sources k t [] h = refl
own_sources k t (a ∷ acts) h =
    if_false (t.slot == k) ((at_source t a).act ∷ own k (map (at_source t) acts)) (own k (map (at_source t) acts)) (or_false (t.slot == k) false h).0
    ∙ own_sources k t acts h

module _ (k : ℕ) (l : Link) (off : (l.slot == k) ≡ false) where
  own_chunked : (s : NodeState) (add : List ℕ) (drawn : List (List ℕ)) (lens : List ℕ) → own k (chunked l s add drawn lens).acts ≡ []
  own_chunked s add [] lens = refl
  own_chunked s add (d ∷ drawn) [] = refl
  own_chunked s add (d ∷ drawn) (len ∷ lens) =
      let now = node_after l.row s (Seeded Renew d add) in
      rw off (own_chunked (node_after l.row now (gave l now [] len)) [] drawn lens)

  own_given : (b : Bool) (stuff string : List ℕ) (len : ℕ) → own k (given_work l b stuff string len).acts ≡ []
  own_given true stuff string len = rw off refl
  own_given false stuff string len = rw off refl

  own_mixed : (b : Bool) (w : Work) (x : List ℕ) → own k w.acts ≡ [] → own k (if b then record w { bytes = x } else w).acts ≡ []
  own_mixed true w x e = e
  own_mixed false w x e = e

  own_gives : (b : Bool) (w v : Work) → own k w.acts ≡ [] → own k v.acts ≡ [] → own k (if b then w else v).acts ≡ []
  own_gives true w v e f = e
  own_gives false w v e f = f

  pub own_task : (pr : Bool) (drawn : List (List ℕ)) (string above : List ℕ) (task : Task) → own k (task_work pr drawn string l above task).acts ≡ []
  own_task pr drawn string above (Seeds how) = rw off refl
  own_task pr drawn string above Rests = refl
  own_task pr drawn string above (Gives len) =
      let given = given_work l (must_seed pr l) (material l drawn above) string len in
      own_gives (is_rs l.row.kind) (chunked l l.state string drawn (chunks l.row len)) (mixed l drawn given)
      (own_chunked l.state string drawn (chunks l.row len))
      (own_mixed (is_xor l.row.kind) given (xor_bytes given.bytes (last_drawn drawn)) (own_given (must_seed pr l) (material l drawn above) string len))

pub own_worked : (k : ℕ) (pr : Bool) (drawn : List (List ℕ)) (string : List ℕ) (ls : List Link) → has (slots ls) k ≡ false
    → own k (worked pr drawn string ls).acts ≡ []
own_worked k pr drawn string [] h = refl
own_worked k pr drawn string (l ∷ up) h =
    let d = or_false (l.slot == k) (has (slots up) k) h in
    own_both k (worked pr drawn [] up).acts (task_work pr drawn string l (worked pr drawn [] up).bytes l.task).acts
    (own_worked k pr drawn [] up d.1) (own_task k l d.0 pr drawn string (worked pr drawn [] up).bytes l.task)

own_works : (k : ℕ) (found : List ℕ → List ℕ → Option Alarm) (e : Entry) (c : Call) (ls : List Link) (lens : List ℕ) (source : Option SourceLink)
    → has (slots ls) k ≡ false → has (slots_of_source source) k ≡ false → DrawsAndWorks found c ls lens source e → own k e.acts ≡ []
own_works k found e c ls lens None h i w = ap (own k) w.acts_are ∙ own_worked k (asks_pr c) [] e.string ls h
own_works k found e c ls lens (Some t) h i (acts, end, drawn, answer) = by end answer where
  by : (end : Result (List ℕ) SourceRefusal) → MatchResult end
      (λ bytes. let w = worked (asks_pr c) (portions t.row lens bytes) e.string ls in
      AnswersBy e (map (at_source t) acts ++ w.acts) (done w.bytes) w.bytes)
      (λ why. AnswersBy e (map (at_source t) acts) (source_reply t.number why) []) → own k e.acts ≡ []
  by (Ok bytes) answer = ap (own k) answer.acts_are
      ∙ own_both k (map (at_source t) acts) (worked (asks_pr c) (portions t.row lens bytes) e.string ls).acts
      (own_sources k t acts i) (own_worked k (asks_pr c) (portions t.row lens bytes) e.string ls h)
  by (Err why) answer = ap (own k) answer.acts_are ∙ own_sources k t acts i

own_starts : (k : ℕ) (e : Entry) (tap : Option SourceLink) → has (slots_of_source tap) k ≡ false → Starts tap e → own k e.acts ≡ []
own_starts k e None h w = absurd w
own_starts k e (Some t) h (acts, end, start, answer) = ap (own k) answer.acts_are ∙ own_sources k t acts h

none_if : (b : Bool) (r : Reply) (x y : Option Reply) → (x ≡ None → y ≡ None) → (if b then Some r else x) ≡ None → (if b then Some r else y) ≡ None
none_if true r x y f h = cc
none_if false r x y f h = f h

-- a refusal that isn't there, of rows in front of others
pub none_before : (xs ys : List ReplyRow) → first_reply (xs ++ ys) ≡ None → first_reply xs ≡ None
none_before [] ys h = refl
none_before (x ∷ xs) ys h = none_if x.stands x.reply (first_reply (xs ++ ys)) (first_reply xs) (λ i. none_before xs ys i) h

module _ (p : Tree) (s : States) (k : ℕ) (found : List ℕ → List ℕ → Option Alarm) (e : Entry) where
  by_works : (c : Call) (ch : Chain) → has (slots_of ch) k ≡ false → DrawsAndWorks found c ch.links (wants c ch) ch.source e → own k e.acts ≡ []
  by_works c ch h w = let d = has_split (slots ch.links) (slots_of_source ch.source) k h in own_works k found e c ch.links (wants c ch) ch.source d.0 d.1 w

  leaves_by : (c : Call) (r whole : Option Reply) → (whole ≡ None → r ≡ None) → has (slots_of (chain_by p s c r)) k ≡ false
      → MatchOption whole (Serves found (chain_by p s c r) e c) (λ reply. AnswersBy e [] reply []) → own k e.acts ≡ []
  leaves_by c r (Some reply) q h a = ap (own k) a.acts_are
  leaves_by c (Some x) None q h a = let no : Some x ≡ None = q refl in cc
  leaves_by (Start j) None None q h a = own_starts k e (chain_by p s (Start j) None).source h a
  leaves_by (Uninstantiate n) None None q h a =
      let off : (n == k) ≡ false = (or_false (n == k) _ h).0 in ap (own k) a.acts_are ∙ rw off refl
  leaves_by (Status n) None None q h a = ap (own k) a.acts_are
  leaves_by (Instantiate n x) None None q h a = by_works (Instantiate n x) (chain_by p s (Instantiate n x) None) h a
  leaves_by (Generate n x y z) None None q h a = by_works (Generate n x y z) (chain_by p s (Generate n x y z) None) h a
  leaves_by (Reseed n x) None None q h a = by_works (Reseed n x) (chain_by p s (Reseed n x) None) h a

-- no act at a slot that isn't in the chain
pub no_acts : (p : Tree) (s : States) (k : ℕ) (e : Entry) (found : List ℕ → List ℕ → Option Alarm) → Follows p found (chain_of p s e.call e.string) e
    → has e.chain k ≡ false → own k e.acts ≡ []
no_acts p s k e found f h =
    let rows = plain_rows p e.call e.string in
    let ch = chain_of p s e.call e.string in
    leaves_by p s k found e e.call (first_reply rows) (refusal p e.call e.string ch) (none_before rows (chain_rows e.call ch))
    (subst (λ slots. has slots k ≡ false) f.chain_is h) f.answer

-- what an entry doesn't touch stays as it is
pub leaves : (p : Tree) (s : States) (k : ℕ) (e : Entry) → Fits p s e → has e.chain k ≡ false → (x : SlotState) → after p k x e ≡ x
leaves p s k e f h x = ap (slot_after_all p k x) (no_acts p s k e (found_by (chain_of p s e.call e.string).source) f h)
