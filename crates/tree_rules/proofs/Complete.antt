-- A call that no row of the table refuses is Done, where its source tells its samples and enough of them are left without an alarm.
use Rattle.std.proofs.Common.{◌≡◌, ◌∙◌, ◌++◌, ◌∷◌, ◌+◌, ◌-◌, ◌<◌, ◌≤◌, ℕ, List, [], Bool, true, false, length, map, take, refl, sym, ap, subst, arith, append-nil}
use Rattle.std.specs.Prelude.{◌||◌, sum, Option, Some, None, IsSome, Result, Ok, Err, MatchResult}
use Rattle.std.proofs.Math.Seq.{take-append-add}
use Rattle.rbg_bytes.specs.Streams.{Rose}
use Rattle.health_tests.proofs.Alarms.{alarm_tells}
use Rattle.health_tests.proofs.Counting.{tail_begins}
use Rattle.health_tests.specs.Cutoffs.{Limits}
use Rattle.health_tests.specs.Numbers.{alarm_by, alarm_from, no_tail, tail_step}
use Rattle.health_tests.specs.Windows.{alarm_in, further, or_later}
use Rattle.health_tests.specs.declared.numbers.Tail.{Tail}
use Rattle.health_tests.specs.declared.windows.Alarm.{Alarm}
use Rattle.health_tests.specs.declared.windows.Test.{Test}
use Rattle.entropy_source.specs.Counted.{samples_of, gave_none, has_failed}
use Rattle.entropy_source.specs.Draws as draws
use Rattle.entropy_source.specs.Draws.{Drawn, found_in, portions}
use Rattle.entropy_source.specs.Source.{Began, SourceAct, Started, blocks_for, need_of, source_after, source_after_all}
use Rattle.entropy_source.specs.declared.answers.SourceRefusal.{SourceRefusal}
use Rattle.tree_config.specs.Planned.{IsPlanned}
use Rattle.tree_config.specs.Tree.{Tree}
use Rattle.tree_rules.specs.Causes.{FaultsWhere, HasEnough, IsDone, alarm_of, blocks_told, IsDrawnDone, LacksCause, blocks_by, blocks_left, bytes_of, drawn_by}
use Rattle.tree_rules.specs.Chain.{Chain, SourceLink, asks_pr, need, need_by, wants}
use Rattle.tree_rules.specs.Fits.{AnswersBy, DrawsAndWorks, Fits, Serves, Starts, at_source, done, found_by, source_reply, start_reply}
use Rattle.tree_rules.specs.History.{Entry, States, at_slot}
use Rattle.tree_rules.specs.Links.{Link, first_link}
use Rattle.tree_rules.specs.Replies.{chain_of, is_running, is_start, refusal, seeds_or_gives}
use Rattle.tree_rules.specs.Works.{worked}
use Rattle.rbg_nodes.specs.Node.{Cleared}
use Rattle.tree_rules.specs.declared.call.Call.{Call}
use Rattle.tree_rules.specs.declared.call.Call.TheVariants.{Generate, Instantiate, Reseed, Start, Status, Uninstantiate}
use Rattle.tree_rules.specs.declared.reply.Reply.{Reply}
use Rattle.tree_rules.proofs.Answered.{acts_here, DrawsEnd, StartsEnd, caused, served, start_answered, works_answered}
use Rattle.tree_rules.proofs.Sources.{need_is, never_done, none_worked, node_skip}
use Rattle.tree_rules.proofs.Told.{Took, gave_append, took, took_all}
use Rattle.entropy_source.proofs.Joins.{samples_append}

-- no alarm among samples is none among the first of them
module _ (c : Limits) where
  none_further : (o : Option Alarm) → further 1 o ≡ None → o ≡ None
  none_further None h = refl
  none_further (Some a) h = cc

  both_none : (o : Option Test) (later : Option Alarm) → or_later o later ≡ None → (o ≡ None) × (later ≡ None)
  both_none (Some test) later h = cc
  both_none None later h = (refl, none_further later h)

  none_before : (t : Tail) (x y : List ℕ) → alarm_from c t (x ++ y) ≡ None → alarm_from c t x ≡ None
  none_before t [] y h = refl
  none_before t (s ∷ x) y h =
      let d = both_none (alarm_by c (tail_step c.window t s)) (alarm_from c (tail_step c.window t s) (x ++ y)) h in
      ap (λ o. or_later o (alarm_from c (tail_step c.window t s) x)) d.0 ∙ ap (λ o. further 1 o) (none_before (tail_step c.window t s) x y d.1)

  fresh : (x : List ℕ) → alarm_from c no_tail x ≡ alarm_in c [] x
  fresh x = ap (λ t. alarm_from c t x) (sym (tail_begins c.window)) ∙ alarm_tells c [] x

front_quiet : (c : Call) (t : SourceLink) (x y : List ℕ) → alarm_of c t (x ++ y) ≡ None → alarm_of c t x ≡ None
front_quiet c t x y h = by c h t.state.tail refl where
  drawn : (o : Option Tail) → found_in t.row.cutoffs o [] (x ++ y) ≡ None → found_in t.row.cutoffs o [] x ≡ None
  drawn None h = refl
  drawn (Some u) h = none_before t.row.cutoffs u x y h

  by : (c : Call) → alarm_of c t (x ++ y) ≡ None → (o : Option Tail) → t.state.tail ≡ o → alarm_of c t x ≡ None
  by (Start j) h o is = sym (fresh t.row.cutoffs x) ∙ none_before t.row.cutoffs no_tail x y (fresh t.row.cutoffs (x ++ y) ∙ h)
  by (Instantiate n a) h o is = drawn t.state.tail h
  by (Generate n a b d) h o is = drawn t.state.tail h
  by (Reseed n a) h o is = drawn t.state.tail h
  by (Uninstantiate n) h o is = drawn t.state.tail h
  by (Status n) h o is = drawn t.state.tail h

-- acts that read the next of the samples that are left, at most so many; fewer where a read gave none, since none is left
record Front (samples : ℕ) (left : List ℕ) (acts : List SourceAct) : Type 0 where
  pub rest : List ℕ
  pub parts : left ≡ samples_of acts ++ rest
  pub few : length (samples_of acts) ≤ samples
  pub short : gave_none acts ≡ true → (length (samples_of acts) < samples) × (rest ≡ [])

no_front : (samples : ℕ) (left : List ℕ) → Front samples left []
no_front samples left = record { rest = left; parts = refl; few = omega arith; short = λ h. cc }

-- of the first samples those that were read are the first
front_of : (samples : ℕ) (left : List ℕ) (acts : List SourceAct) → Front samples left acts
    → (more : List ℕ) × (take samples left ≡ samples_of acts ++ more)
front_of samples left acts f =
    let xs = samples_of acts in
    let few = f.few in
    let sum : samples ≡ length xs + (samples - length xs) = omega (arith, few) in (
      take (samples - length xs) f.rest,
      ap (λ z. take z left) sum ∙ (ap (λ z. take (length xs + (samples - length xs)) z) f.parts ∙ take-append-add xs f.rest (samples - length xs)),
    )

gave_some : (samples : ℕ) (left : List ℕ) (acts : List SourceAct) → Front samples left acts → samples ≤ length left → gave_none acts ≡ false
gave_some samples left acts f enough = by (gave_none acts) f.short where
  by : (b : Bool) → (b ≡ true → (length (samples_of acts) < samples) × (f.rest ≡ [])) → b ≡ false
  by false h = refl
  by true h =
      let d = h refl in let l = d.0 in
      let all : left ≡ samples_of acts = f.parts ∙ (ap (λ z. samples_of acts ++ z) d.1 ∙ append-nil (samples_of acts)) in
      let same : length left ≡ length (samples_of acts) = ap (λ z. length {A = ℕ} z) all in absurd (omega (arith, l, same, enough))

never_failed : (j before now : ℕ) (b : Bool) (r : Reply) → FaultsWhere j before now b r → ¬ Rose before now → b ≡ false
never_failed j before now true r h no_rise = absurd (no_rise h.1)
never_failed j before now false r h no_rise = refl

draw_front : (t : SourceLink) (found : List ℕ → List ℕ → Option Alarm) (lens left : List ℕ) (acts : List SourceAct) (end : Result (List ℕ) SourceRefusal)
    → t.state.told ≡ Some left → Drawn t.row found t.state lens acts end → Front (need_of t.row lens) left acts
draw_front t found lens left acts end told d =
    let a = took_all t.row found (sum (map (λ n. blocks_for t.row n) lens)) t.state [] left [] acts end told d in
    record { rest = a.rest; parts = a.parts; few = a.few; short = a.short }

start_front : (t : SourceLink) (left : List ℕ) (acts : List SourceAct) (end : Result (List ℕ) SourceRefusal)
    → t.state.told ≡ Some left → draws.Start t.row t.state acts end → Front t.row.startup left acts
start_front t left acts end told (reads, back, x, are, g, w) =
    subst (λ z. Front t.row.startup left z) (sym are)
    (by x (took t.row (alarm_in t.row.cutoffs) t.row.startup (source_after t.row t.state Began) [] [] left reads x told g) w) where
      ends : Took t.row.startup left (source_after_all t.row (source_after t.row t.state Began) reads) reads x → (tail : List SourceAct)
          → samples_of tail ≡ [] → gave_none tail ≡ false → Front t.row.startup left (Began ∷ (reads ++ tail))
      ends r tail none no_read =
          let same : samples_of (reads ++ tail) ≡ samples_of reads = samples_append reads tail ∙ (ap (λ z. samples_of reads ++ z) none ∙ append-nil (samples_of reads)) in
          record {
            rest = r.rest;
            parts = r.parts ∙ ap (λ z. z ++ r.rest) (sym same);
            few = subst (λ z. length z ≤ t.row.startup) (sym same) r.few;
            short = λ h.
                let there : gave_none reads ≡ true = or_nothing (gave_none reads) (gave_none tail) no_read (sym (gave_append reads tail) ∙ h) in
                let d = r.short there in (subst (λ z. length z < t.row.startup) (sym same) d.0, d.1);
          } where
            or_nothing : (a b : Bool) → b ≡ false → (a || b) ≡ true → a ≡ true
            or_nothing true b h i = refl
            or_nothing false b h i = cc

      by : (y : Result (List ℕ) SourceRefusal) → Took t.row.startup left (source_after_all t.row (source_after t.row t.state Began) reads) reads x
          → MatchResult y (λ _. (back ≡ Started ∷ []) × (end ≡ Ok [])) (λ why. (back ≡ []) × (end ≡ Err why))
          → Front t.row.startup left (Began ∷ (reads ++ back))
      by (Ok block) r (last, is) = subst (λ z. Front t.row.startup left (Began ∷ (reads ++ z))) (sym last) (ends r (Started ∷ []) refl refl)
      by (Err why) r (none, is) = subst (λ z. Front t.row.startup left (Began ∷ (reads ++ z))) (sym none) (ends r [] refl refl)

works_front : (ch : Chain) (e : Entry) (t : SourceLink) (left : List ℕ) (c : Call) → ch.source ≡ Some t → t.state.told ≡ Some left
    → is_start c ≡ false → DrawsAndWorks (found_by ch.source) c ch.links (wants c ch) ch.source e → Front (need c ch) left (at_slot t.slot e.acts)
works_front ch e t left c is told start w =
    let a = works_answered (found_by (Some t)) c ch.links (wants c ch) t e (subst (λ o. DrawsAndWorks (found_by o) c ch.links (wants c ch) o e) is w) in
    subst (λ n. Front n left (at_slot t.slot e.acts)) (sym (ap (λ o. need_by c o (wants c ch)) is ∙ need_is c t (wants c ch) start))
    (subst (Front (need_of t.row (wants c ch)) left) (sym a.here) (draw_front t (found_by (Some t)) (wants c ch) left a.acts a.end told a.used))

-- the acts of the call's source are such a front
serves_front : (ch : Chain) (e : Entry) (t : SourceLink) (left : List ℕ) (c : Call) → ch.source ≡ Some t → t.state.told ≡ Some left
    → Serves (found_by ch.source) ch e c → Front (need c ch) left (at_slot t.slot e.acts)
serves_front ch e t left (Start i) is told w =
    let a = start_answered t e (subst (λ o. Starts o e) is w) in
    subst (λ n. Front n left (at_slot t.slot e.acts)) (sym (ap (λ o. need_by (Start i) o (wants (Start i) ch)) is))
    (subst (Front t.row.startup left) (sym a.here) (start_front t left a.acts a.end told a.used))
serves_front ch e t left (Uninstantiate n) is told w =
    subst (Front (need (Uninstantiate n) ch) left) (sym (ap (at_slot t.slot) w.acts_are ∙ node_skip t.slot (first_link ch.links) Cleared []))
    (no_front (need (Uninstantiate n) ch) left)
serves_front ch e t left (Status n) is told w =
    subst (Front (need (Status n) ch) left) (sym (ap (at_slot t.slot) w.acts_are)) (no_front (need (Status n) ch) left)
serves_front ch e t left (Instantiate n x) is told w = works_front ch e t left (Instantiate n x) is told refl w
serves_front ch e t left (Generate n x y z) is told w = works_front ch e t left (Generate n x y z) is told refl w
serves_front ch e t left (Reseed n z) is told w = works_front ch e t left (Reseed n z) is told refl w

-- what a call that was Done gave
works_done : (c : Call) (ls : List Link) (lens : List ℕ) (t : SourceLink) (e : Entry)
    → DrawsAndWorks (found_by (Some t)) c ls lens (Some t) e → e.reply.code ≡ 0
    → (all : List ℕ) × Drawn t.row (found_by (Some t)) t.state lens (at_slot t.slot e.acts) (Ok all)
    × IsDone (worked (asks_pr c) (portions t.row lens all) e.string ls).bytes e
works_done c ls lens t e (acts, end, drawn, answer) code = by end drawn answer where
  by : (end : Result (List ℕ) SourceRefusal) → Drawn t.row (found_by (Some t)) t.state lens acts end → MatchResult end
      (λ bytes. let w = worked (asks_pr c) (portions t.row lens bytes) e.string ls in
      AnswersBy e (map (at_source t) acts ++ w.acts) (done w.bytes) w.bytes)
      (λ why. AnswersBy e (map (at_source t) acts) (source_reply t.number why) [])
      → (all : List ℕ) × Drawn t.row (found_by (Some t)) t.state lens (at_slot t.slot e.acts) (Ok all)
      × IsDone (worked (asks_pr c) (portions t.row lens all) e.string ls).bytes e
  by (Ok all) drawn answer =
      let w = worked (asks_pr c) (portions t.row lens all) e.string ls in
      let here : at_slot t.slot e.acts ≡ acts = ap (at_slot t.slot) answer.acts_are
      ∙ acts_here t acts w.acts (none_worked t.slot (asks_pr c) (portions t.row lens all) e.string ls) in
      (all, subst (λ z. Drawn t.row (found_by (Some t)) t.state lens z (Ok all)) (sym here) drawn, record { reply_is = answer.reply_is; bytes_are = answer.bytes_are })
  by (Err why) drawn answer = absurd (never_done e t.number why answer.reply_is code)

works_drawn : (ch : Chain) (e : Entry) (t : SourceLink) (c : Call) → e.call ≡ c → ch.source ≡ Some t
    → ((all : List ℕ) → (worked (asks_pr c) (drawn_by c ch ch.source all) e.string ch.links).bytes ≡ bytes_of c e.string ch all)
    → DrawsAndWorks (found_by ch.source) c ch.links (wants c ch) ch.source e → e.reply.code ≡ 0 → IsDrawnDone t ch e
works_drawn ch e t c same is words w code =
    let (all, draw, done_is) = works_done c ch.links (wants c ch) t e (subst (λ o. DrawsAndWorks (found_by o) c ch.links (wants c ch) o e) is w) code in
    record {
      all = all;
      draw = subst (λ z. Drawn t.row (found_by (Some t)) t.state (wants z ch) (at_slot t.slot e.acts) (Ok all)) (sym same) draw;
      is = subst (λ z. IsDone (bytes_of z e.string ch all) e) (sym same)
          (subst (λ z. IsDone z e) (words all) (subst (λ o. IsDone (worked (asks_pr c) (drawn_by c ch o all) e.string ch.links).bytes e) (sym is) done_is));
    }

serves_drawn : (ch : Chain) (e : Entry) (t : SourceLink) (c : Call) → e.call ≡ c → seeds_or_gives c ≡ true → ch.source ≡ Some t
    → Serves (found_by ch.source) ch e c → e.reply.code ≡ 0 → IsDrawnDone t ch e
serves_drawn ch e t (Start i) same what is w code = cc
serves_drawn ch e t (Uninstantiate n) same what is w code = cc
serves_drawn ch e t (Status n) same what is w code = cc
serves_drawn ch e t (Instantiate n x) same what is w code = works_drawn ch e t (Instantiate n x) same is (λ all. refl) w code
serves_drawn ch e t (Generate n x y v) same what is w code = works_drawn ch e t (Generate n x y v) same is (λ all. refl) w code
serves_drawn ch e t (Reseed n x) same what is w code = works_drawn ch e t (Reseed n x) same is (λ all. refl) w code

pub drawn_done : (p : Tree) (s : States) (e : Entry) (t : SourceLink) → Fits p s e
    → (let ch = chain_of p s e.call e.string in refusal p e.call e.string ch ≡ None → ch.source ≡ Some t
    → seeds_or_gives e.call ≡ true → e.reply.code ≡ 0 → IsDrawnDone t ch e)
drawn_done p s e t f free is what code = serves_drawn (chain_of p s e.call e.string) e t e.call refl what is (served p s e f free) code

-- over the samples that the source tells
told_done : (ch : Chain) (e : Entry) (t : SourceLink) (left : List ℕ) → ch.source ≡ Some t → t.state.told ≡ Some left → IsDrawnDone t ch e
    → IsDone (bytes_of e.call e.string ch (blocks_left e.call ch left)) e
told_done ch e t left is told d =
    let n = sum (map (λ n. blocks_for t.row n) (wants e.call ch)) in
    let all : d.all ≡ blocks_told t.row n left = (took_all t.row (found_by (Some t)) n t.state [] left [] (at_slot t.slot e.acts) (Ok d.all) told d.draw).bytes d.all refl in
    subst (λ z. IsDone (bytes_of e.call e.string ch z) e) (all ∙ sym (ap (λ o. blocks_by e.call ch o left) is)) d.is

works_told : (ch : Chain) (e : Entry) (t : SourceLink) (left : List ℕ) (c : Call) → e.call ≡ c → seeds_or_gives c ≡ true → ch.source ≡ Some t
    → t.state.told ≡ Some left → Serves (found_by ch.source) ch e c → e.reply.code ≡ 0 → IsDone (bytes_of c e.string ch (blocks_left c ch left)) e
works_told ch e t left c same what is told w code =
    subst (λ z. IsDone (bytes_of z e.string ch (blocks_left z ch left)) e) same (told_done ch e t left is told (serves_drawn ch e t c same what is w code))

serves_done : (ch : Chain) (e : Entry) (t : SourceLink) (left : List ℕ) (c : Call) → e.call ≡ c → ch.source ≡ Some t → t.state.told ≡ Some left
    → Serves (found_by ch.source) ch e c → e.reply.code ≡ 0 → IsDone (bytes_of c e.string ch (blocks_left c ch left)) e
serves_done ch e t left (Start i) same is told w code = start_done (subst (λ o. Starts o e) is w) where
  start_done : Starts (Some t) e → IsDone [] e
  start_done (acts, end, start, answer) = by end answer where
    by : (end : Result (List ℕ) SourceRefusal) → AnswersBy e (map (at_source t) acts) (start_reply t.number end) [] → IsDone [] e
    by (Ok bytes) answer = record { reply_is = answer.reply_is; bytes_are = answer.bytes_are }
    by (Err why) answer = absurd (never_done e t.number why answer.reply_is code)
serves_done ch e t left (Uninstantiate n) same is told w code = record { reply_is = w.reply_is; bytes_are = w.bytes_are }
serves_done ch e t left (Status n) same is told w code = record { reply_is = w.reply_is; bytes_are = w.bytes_are }
serves_done ch e t left (Instantiate n x) same is told w code = works_told ch e t left (Instantiate n x) same refl is told w code
serves_done ch e t left (Generate n x y v) same is told w code = works_told ch e t left (Generate n x y v) same refl is told w code
serves_done ch e t left (Reseed n x) same is told w code = works_told ch e t left (Reseed n x) same refl is told w code

works_alone : (ch : Chain) (e : Entry) (c : Call) → ch.source ≡ None → DrawsAndWorks (found_by ch.source) c ch.links (wants c ch) ch.source e
    → IsDone (worked (asks_pr c) (drawn_by c ch ch.source []) e.string ch.links).bytes e
works_alone ch e c is w =
    let a = subst (λ o. DrawsAndWorks (found_by o) c ch.links (wants c ch) o e) is w in
    subst (λ o. IsDone (worked (asks_pr c) (drawn_by c ch o []) e.string ch.links).bytes e) (sym is)
    (record { reply_is = a.reply_is; bytes_are = a.bytes_are })

-- a call that needs no source
serves_alone : (ch : Chain) (e : Entry) (c : Call) → ch.source ≡ None → Serves (found_by ch.source) ch e c → IsDone (bytes_of c e.string ch []) e
serves_alone ch e (Start i) is w = absurd (subst (λ o. Starts o e) is w)
serves_alone ch e (Uninstantiate n) is w = record { reply_is = w.reply_is; bytes_are = w.bytes_are }
serves_alone ch e (Status n) is w = record { reply_is = w.reply_is; bytes_are = w.bytes_are }
serves_alone ch e (Instantiate n x) is w = works_alone ch e (Instantiate n x) is w
serves_alone ch e (Generate n x y v) is w = works_alone ch e (Generate n x y v) is w
serves_alone ch e (Reseed n x) is w = works_alone ch e (Reseed n x) is w

pub done_alone : (p : Tree) (s : States) (e : Entry) → Fits p s e → (let ch = chain_of p s e.call e.string in refusal p e.call e.string ch ≡ None
    → ch.source ≡ None → IsDone (bytes_of e.call e.string ch []) e)
done_alone p s e f free is = serves_alone (chain_of p s e.call e.string) e e.call is (served p s e f free)

pub done_quiet : DrawsEnd → StartsEnd → (least : ℕ) (p : Tree) (s : States) (e : Entry) (t : SourceLink) → IsPlanned least p → Fits p s e
    → (let ch = chain_of p s e.call e.string in refusal p e.call e.string ch ≡ None → ch.source ≡ Some t
    → (is_running t.state.mode ≡ true → IsSome t.state.tail)
    → LacksCause e.call t (at_slot t.slot e.acts) (source_after_all t.row t.state (at_slot t.slot e.acts)) → e.reply.code ≡ 0)
done_quiet draws_end starts_end least p s e t planned f free is tested h =
    let acts = at_slot t.slot e.acts in
    let cause = caused draws_end starts_end least p s e t planned f free is tested in
    let failed = never_failed t.number t.state.faults (source_after_all t.row t.state acts).faults (has_failed acts) e.reply cause.fault h.kept in
    cause.done failed h.quiet h.some

pub done_told : DrawsEnd → StartsEnd → (least : ℕ) (p : Tree) (s : States) (e : Entry) (t : SourceLink) (left : List ℕ) → IsPlanned least p
    → Fits p s e → (let ch = chain_of p s e.call e.string in refusal p e.call e.string ch ≡ None → ch.source ≡ Some t
    → (is_running t.state.mode ≡ true → IsSome t.state.tail)
    → HasEnough e.call t (need e.call ch) left (source_after_all t.row t.state (at_slot t.slot e.acts))
    → IsDone (bytes_of e.call e.string ch (blocks_left e.call ch left)) e)
done_told draws_end starts_end least p s e t left planned f free is tested h =
    let ch = chain_of p s e.call e.string in
    let acts = at_slot t.slot e.acts in
    let w = served p s e f free in
    let front = serves_front ch e t left e.call is h.told w in
    let more = front_of (need e.call ch) left acts front in
    let quiet = front_quiet e.call t (samples_of acts) more.0 (ap (alarm_of e.call t) (sym more.1) ∙ h.quiet) in
    let some = gave_some (need e.call ch) left acts front h.enough in
    serves_done ch e t left e.call refl is h.told w
    (done_quiet draws_end starts_end least p s e t planned f free is tested (record { some = some; quiet = quiet; kept = h.kept }))
