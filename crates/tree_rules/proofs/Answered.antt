-- How the reply of a call that no row of the table refuses comes of its source.
use Rattle.std.proofs.Common.{◌≡◌, ◌∙◌, ◌++◌, ◌-◌, ◌*◌, ◌<◌, ℕ, zero, suc, arith, List, [], true, false, length, map, refl, sym, ap, subst, append-nil}
use Rattle.std.specs.Prelude.{sum, nat_lt, Option, Some, None, IsSome, Result, Ok, Err, MatchOption, MatchResult}
use Rattle.health_tests.specs.declared.numbers.Tail.{Tail}
use Rattle.health_tests.specs.declared.windows.Alarm.{Alarm}
use Rattle.health_tests.specs.Windows.{alarm_in}
use Rattle.entropy_source.specs.Counted.{samples_of, lacking_after}
use Rattle.entropy_source.specs.Draws.{Drawn, Draws, found_in, portions}
use Rattle.entropy_source.specs.Draws as draws
use Rattle.entropy_source.specs.Outcomes.{Outcome}
use Rattle.entropy_source.specs.Source.{SourceAct, blocks_for, SourceState, need_of_block, source_after_all}
use Rattle.entropy_source.specs.declared.answers.SourceRow.{SourceRow}
use Rattle.entropy_source.specs.declared.answers.SourceRefusal.{SourceRefusal}
use Rattle.health_tests.specs.Numbers.{alarm_from}
use Rattle.tree_config.specs.Tree.{Tree}
use Rattle.tree_rules.specs.Causes.{FailsAt, IsCaused, alarm_of, missing_after}
use Rattle.tree_rules.specs.Chain.{Chain, SourceLink, asks_pr, need, need_by, source_at, wants}
use Rattle.tree_rules.specs.Fits.{AnswersBy, DrawsAndWorks, Fits, Serves, Starts, at_source, done, found_by, source_reply, start_reply}
use Rattle.tree_rules.specs.History.{Act, Entry, States, at_slot}
use Rattle.tree_rules.specs.Links.{Link, first_link}
use Rattle.tree_rules.specs.Replies.{chain_of, first_reply, is_running, is_start, mode_of, plain_rows, refusal}
use Rattle.tree_rules.specs.Works.{worked}
use Rattle.rbg_nodes.specs.Node.{Cleared}
use Rattle.tree_rules.specs.declared.call.Call.{Call}
use Rattle.tree_rules.specs.declared.call.Call.TheVariants.{Generate, Instantiate, Reseed, Start, Status, Uninstantiate}
use Rattle.tree_rules.specs.declared.reply.Reply.{Reply}
use Rattle.tree_rules.proofs.Endings.{draws_left, start_left}
use Rattle.tree_rules.proofs.Plans.{TakeSamples, takes_samples}
use Rattle.tree_rules.proofs.Quieting.{some_samples}
use Rattle.tree_rules.proofs.Sources.{IsSourceOf, at_slot-append, chain_fits, here_all, need_is, none_worked, node_skip, runs}
use Rattle.tree_config.specs.Planned.{IsPlanned}
use Rattle.tree_rules.proofs.Wording.{ReplyBy, cause_by, code_is, read_left, read_started}

-- the acts of a call's source, of which this holds, and the reply by how they ended
pub record Answered (Used : List SourceAct → Result (List ℕ) SourceRefusal → Type 0) (t : SourceLink) (e : Entry) : Type 0 where
  pub acts : List SourceAct
  pub end : Result (List ℕ) SourceRefusal
  pub used : Used acts end
  pub here : at_slot t.slot e.acts ≡ acts
  pub reply : ReplyBy t.number e end

-- what a draw and a start owe their reads
abbrev pub DrawsEnd : Type 0
DrawsEnd = (row : SourceRow) (t : Tail) (s : SourceState) (wants : List ℕ) (acts : List SourceAct) (result : Result (List ℕ) SourceRefusal)
    → Drawn row (found_in row.cutoffs (Some t)) s wants acts result
    → Outcome s.taken (alarm_from row.cutoffs t (samples_of acts)) (lacking_after (need_of_block row) (need_of_block row) acts) acts result

abbrev pub StartsEnd : Type 0
StartsEnd = (row : SourceRow) (s : SourceState) (acts : List SourceAct) (result : Result (List ℕ) SourceRefusal) → draws.Start row s acts result
    → Outcome s.taken (alarm_in row.cutoffs [] (samples_of acts)) (row.startup - length (samples_of acts)) acts result

-- the source's acts among those of the entry
pub acts_here : (t : SourceLink) (acts : List SourceAct) (w : List Act) → at_slot t.slot w ≡ [] → at_slot t.slot (map (at_source t) acts ++ w) ≡ acts
acts_here t acts w none = at_slot-append t.slot (map (at_source t) acts) w ∙ rw (none, here_all t acts) (append-nil acts)

-- a call that draws, and a start
pub works_answered : (found : List ℕ → List ℕ → Option Alarm) (c : Call) (ls : List Link) (lens : List ℕ) (t : SourceLink) (e : Entry)
    → DrawsAndWorks found c ls lens (Some t) e → Answered (λ acts end. Drawn t.row found t.state lens acts end) t e
works_answered found c ls lens t e (acts, end, drawn, answer) = by end drawn answer where
  by : (end : Result (List ℕ) SourceRefusal) → Drawn t.row found t.state lens acts end → MatchResult end
      (λ bytes. let w = worked (asks_pr c) (portions t.row lens bytes) e.string ls in
      AnswersBy e (map (at_source t) acts ++ w.acts) (done w.bytes) w.bytes)
      (λ why. AnswersBy e (map (at_source t) acts) (source_reply t.number why) []) → Answered (λ acts end. Drawn t.row found t.state lens acts end) t e
  by (Ok bytes) drawn answer =
      let w = worked (asks_pr c) (portions t.row lens bytes) e.string ls in record {
        acts = acts;
        end = Ok bytes;
        used = drawn;
        here = ap (at_slot t.slot) answer.acts_are ∙ acts_here t acts w.acts (none_worked t.slot (asks_pr c) (portions t.row lens bytes) e.string ls);
        reply = answer.reply_is ∙ ap done (sym answer.bytes_are);
      }
  by (Err why) drawn answer = record {
    acts = acts;
    end = Err why;
    used = drawn;
    here = ap (at_slot t.slot) answer.acts_are ∙ here_all t acts;
    reply = (answer.reply_is, answer.bytes_are);
  }

pub start_answered : (t : SourceLink) (e : Entry) → Starts (Some t) e → Answered (λ acts end. draws.Start t.row t.state acts end) t e
start_answered t e (acts, end, start, answer) = by end start answer where
  by : (end : Result (List ℕ) SourceRefusal) → draws.Start t.row t.state acts end → AnswersBy e (map (at_source t) acts) (start_reply t.number end) []
      → Answered (λ acts end. draws.Start t.row t.state acts end) t e
  by (Ok bytes) start answer = record {
    acts = acts;
    end = Ok bytes;
    used = start;
    here = ap (at_slot t.slot) answer.acts_are ∙ here_all t acts;
    reply = answer.reply_is ∙ ap done (sym answer.bytes_are);
  }
  by (Err why) start answer = record {
    acts = acts;
    end = Err why;
    used = start;
    here = ap (at_slot t.slot) answer.acts_are ∙ here_all t acts;
    reply = (answer.reply_is, answer.bytes_are);
  }

-- what a draw owes its reads, where the tests keep something if it takes samples
module _ (draws_end : DrawsEnd) (starts_end : StartsEnd) where
  draw_outcome : (row : SourceRow) (s : SourceState) (lens : List ℕ) (acts : List SourceAct) (end : Result (List ℕ) SourceRefusal)
      → (0 < sum (map (λ n. blocks_for row n) lens) → IsSome s.tail) → Drawn row (found_in row.cutoffs s.tail) s lens acts end
      → Outcome s.taken (found_in row.cutoffs s.tail [] (samples_of acts)) (lacking_after (need_of_block row) (need_of_block row) acts) acts end
  draw_outcome row s lens acts end kept d = by s.tail (sum (map (λ n. blocks_for row n) lens)) kept d (λ t i. draws_end row t s lens acts end i) where
    by : (o : Option Tail) (n : ℕ) → (0 < n → IsSome o) → Draws row (found_in row.cutoffs o) n s [] [] acts end
        → ((t : Tail) → Draws row (found_in row.cutoffs (Some t)) n s [] [] acts end
        → Outcome s.taken (alarm_from row.cutoffs t (samples_of acts)) (lacking_after (need_of_block row) (need_of_block row) acts) acts end)
        → Outcome s.taken (found_in row.cutoffs o [] (samples_of acts)) (lacking_after (need_of_block row) (need_of_block row) acts) acts end
    by (Some t) n kept d law = law t d
    by None zero kept (none, is) law =
        subst (λ z. Outcome s.taken None (lacking_after (need_of_block row) (need_of_block row) z) z end) (sym none)
        (subst (Outcome s.taken None (need_of_block row) []) (sym is) (record { health = λ i t e. cc; want = λ n e. cc; fault = λ n e. cc }))
    by None (suc n) kept d law = let no : IsSome {T = Tail} None = kept (omega arith) in cc

  abbrev Caused : Call → SourceLink → Entry → Type 0
  Caused c t e = let acts = at_slot t.slot e.acts in IsCaused c t acts (source_after_all t.row t.state acts) e.reply

  moved : (c : Call) (t : SourceLink) (e : Entry) (acts : List SourceAct) → at_slot t.slot e.acts ≡ acts
      → IsCaused c t acts (source_after_all t.row t.state acts) e.reply → Caused c t e
  moved c t e acts here h = subst (λ z. IsCaused c t z (source_after_all t.row t.state z) e.reply) (sym here) h

  start_caused : (i : ℕ) (t : SourceLink) (e : Entry) → Starts (Some t) e → Caused (Start i) t e
  start_caused i t e w =
      let a = start_answered t e w in
      moved (Start i) t e a.acts a.here
      (cause_by t e (Start i) a.acts a.end (starts_end t.row t.state a.acts a.end a.used)
      (read_started t.row t.state (source_after_all t.row t.state a.acts) a.end (start_left t.row t.state a.acts a.end a.used)) a.reply)

  -- a call whose alarms are told by what the tests kept, and what its block lacks
  abbrev Draws_ : Call → SourceLink → Type 0
  Draws_ c t = (acts : List SourceAct) → (alarm_of c t (samples_of acts) ≡ found_in t.row.cutoffs t.state.tail [] (samples_of acts))
      × (missing_after c t acts ≡ lacking_after (need_of_block t.row) (need_of_block t.row) acts)

  works_caused : (c : Call) (ls : List Link) (lens : List ℕ) (t : SourceLink) (e : Entry) → Draws_ c t
      → (0 < sum (map (λ n. blocks_for t.row n) lens) → IsSome t.state.tail)
      → DrawsAndWorks (found_by (Some t)) c ls lens (Some t) e → Caused c t e
  works_caused c ls lens t e draws kept w =
      let a = works_answered (found_by (Some t)) c ls lens t e w in
      let d = draws a.acts in
      let o = draw_outcome t.row t.state lens a.acts a.end kept a.used in
      moved c t e a.acts a.here
      (cause_by t e c a.acts a.end
      (subst (λ z. Outcome t.state.taken z (missing_after c t a.acts) a.acts a.end) (sym d.0)
      (subst (λ z. Outcome t.state.taken (found_in t.row.cutoffs t.state.tail [] (samples_of a.acts)) z a.acts a.end) (sym d.1) o))
      (read_left t.state (source_after_all t.row t.state a.acts) a.end (draws_left t.row (found_by (Some t)) (sum (map (λ n. blocks_for t.row n) lens)) t.state [] [] a.acts a.end a.used)) a.reply)

  -- an entry in which the source has no act, and that is Done
  idle_caused : (c : Call) (t : SourceLink) (e : Entry) → Draws_ c t → at_slot t.slot e.acts ≡ [] → e.reply ≡ done e.bytes → Caused c t e
  idle_caused c t e draws none is = moved c t e [] none (record {
    fault = (code_is t e 12 (done e.bytes) is (λ (i : 0 ≡ 12). cc), refl);
    health = subst (λ o. FailsAt t.state.taken o e.reply) (sym (draws []).0 ∙ refl) (by t.state.tail);
    want = code_is t e 14 (done e.bytes) is (λ (i : 0 ≡ 14). cc);
    done = λ a b d. ap (λ (z : Reply). z.code) is;
  }) where
    by : (o : Option Tail) → FailsAt t.state.taken (found_in t.row.cutoffs o [] []) e.reply
    by None = code_is t e 13 (done e.bytes) is (λ (i : 0 ≡ 13). cc)
    by (Some u) = code_is t e 13 (done e.bytes) is (λ (i : 0 ≡ 13). cc)

  serves_caused : (ch : Chain) (e : Entry) (t : SourceLink) (c : Call) → ch.source ≡ Some t
      → (is_start c ≡ false → 0 < sum (map (λ n. blocks_for t.row n) (wants c ch)) → IsSome t.state.tail)
      → Serves (found_by ch.source) ch e c → Caused c t e
  serves_caused ch e t (Start i) is kept w = start_caused i t e (subst (λ o. Starts o e) is w)
  serves_caused ch e t (Uninstantiate n) is kept w =
      idle_caused (Uninstantiate n) t e (λ acts. (refl, refl)) (ap (at_slot t.slot) w.acts_are ∙ node_skip t.slot (first_link ch.links) Cleared [])
      (w.reply_is ∙ ap done (sym w.bytes_are))
  serves_caused ch e t (Status n) is kept w =
      idle_caused (Status n) t e (λ acts. (refl, refl)) (ap (at_slot t.slot) w.acts_are) (w.reply_is ∙ ap done (sym w.bytes_are))
  serves_caused ch e t (Instantiate n x) is kept w =
      works_caused (Instantiate n x) ch.links (wants (Instantiate n x) ch) t e (λ acts. (refl, refl)) (kept refl)
      (subst (λ o. DrawsAndWorks (found_by o) (Instantiate n x) ch.links (wants (Instantiate n x) ch) o e) is w)
  serves_caused ch e t (Generate n x y z) is kept w =
      works_caused (Generate n x y z) ch.links (wants (Generate n x y z) ch) t e (λ acts. (refl, refl)) (kept refl)
      (subst (λ o. DrawsAndWorks (found_by o) (Generate n x y z) ch.links (wants (Generate n x y z) ch) o e) is w)
  serves_caused ch e t (Reseed n z) is kept w =
      works_caused (Reseed n z) ch.links (wants (Reseed n z) ch) t e (λ acts. (refl, refl)) (kept refl)
      (subst (λ o. DrawsAndWorks (found_by o) (Reseed n z) ch.links (wants (Reseed n z) ch) o e) is w)

positive : (n m : ℕ) → 0 < n → 0 < m → nat_lt 0 (n * m) ≡ true
positive zero m h take = absurd (omega arith)
positive (suc n) m h take = some_samples n m take

-- where no row of the table stands, a source of which samples are needed runs
runs_where : (p : Tree) (s : States) (c : Call) (string : List ℕ) (t : SourceLink) → TakeSamples p
    → (let ch = chain_of p s c string in refusal p c string ch ≡ None) → (chain_of p s c string).source ≡ Some t → is_start c ≡ false
    → 0 < sum (map (λ n. blocks_for t.row n) (wants c (chain_of p s c string))) → is_running t.state.mode ≡ true
runs_where p s c string t take free is start more =
    let ch = chain_of p s c string in
    let own : t ≡ source_at p s t.number = subst (IsSourceOf p s) is (chain_fits p s c (first_reply (plain_rows p c string))) in
    let some : 0 < need_of_block t.row = subst (λ (z : SourceLink). 0 < need_of_block z.row) (sym own) (take t.number) in
    let needed : nat_lt 0 (need c ch) ≡ true =
    ap (λ o. nat_lt 0 (need_by c o (wants c ch))) is
    ∙ (ap (λ n. nat_lt 0 n) (need_is c t (wants c ch) start)
    ∙ positive (sum (map (λ n. blocks_for t.row n) (wants c ch))) (need_of_block t.row) more some) in
    subst (λ o. is_running (mode_of o) ≡ true) is (runs p c string ch free start needed)

-- the words of the table's other rows
no_source : (ch : Chain) (e : Entry) (c : Call) → ch.source ≡ None → Serves (found_by ch.source) ch e c → e.reply.code ≡ 0
no_source ch e (Start i) is w = absurd (subst (λ o. Starts o e) is w)
no_source ch e (Uninstantiate n) is w = ap (λ (z : Reply). z.code) w.reply_is
no_source ch e (Status n) is w = ap (λ (z : Reply). z.code) w.reply_is
no_source ch e (Instantiate n x) is w =
    let a = subst (λ o. DrawsAndWorks (found_by o) (Instantiate n x) ch.links (wants (Instantiate n x) ch) o e) is w in ap (λ (z : Reply). z.code) a.reply_is
no_source ch e (Generate n x y z) is w =
    let a = subst (λ o. DrawsAndWorks (found_by o) (Generate n x y z) ch.links (wants (Generate n x y z) ch) o e) is w in ap (λ (z : Reply). z.code) a.reply_is
no_source ch e (Reseed n z) is w =
    let a = subst (λ o. DrawsAndWorks (found_by o) (Reseed n z) ch.links (wants (Reseed n z) ch) o e) is w in ap (λ (z : Reply). z.code) a.reply_is

-- an entry that no row of the table refuses
pub served : (p : Tree) (s : States) (e : Entry) → Fits p s e → refusal p e.call e.string (chain_of p s e.call e.string) ≡ None
    → Serves (found_by (chain_of p s e.call e.string).source) (chain_of p s e.call e.string) e e.call
served p s e f free =
    let ch = chain_of p s e.call e.string in
    subst (λ o. MatchOption o (Serves (found_by ch.source) ch e e.call) (λ reply. AnswersBy e [] reply [])) free f.answer

pub alone : (p : Tree) (s : States) (e : Entry) → Fits p s e → refusal p e.call e.string (chain_of p s e.call e.string) ≡ None
    → (chain_of p s e.call e.string).source ≡ None → e.reply.code ≡ 0
alone p s e f free none = no_source (chain_of p s e.call e.string) e e.call none (served p s e f free)

pub caused : DrawsEnd → StartsEnd → (least : ℕ) (p : Tree) (s : States) (e : Entry) (t : SourceLink) → IsPlanned least p → Fits p s e
    → refusal p e.call e.string (chain_of p s e.call e.string) ≡ None → (chain_of p s e.call e.string).source ≡ Some t
    → (is_running t.state.mode ≡ true → IsSome t.state.tail)
    → let acts = at_slot t.slot e.acts in IsCaused e.call t acts (source_after_all t.row t.state acts) e.reply
caused draws_end starts_end least p s e t planned f free is tested =
    serves_caused draws_end starts_end (chain_of p s e.call e.string) e t e.call is
    (λ start more. tested (runs_where p s e.call e.string t (takes_samples least p planned) free is start more)) (served p s e f free)
