-- What a reply leaves alone, and how many bytes it has.
use Rattle.std.proofs.Common.{◌≡◌, ◌≢◌, ◌∙◌, ◌++◌, ℕ, List, [], false, length, map, refl, sym, ap}
use Rattle.std.specs.Prelude.{Option, Some, None, Result, Ok, Err, MatchOption, MatchResult}
use Rattle.entropy_source.specs.Draws.{portions}
use Rattle.entropy_source.specs.Source.{SourceAct}
use Rattle.entropy_source.specs.declared.answers.Cause.TheVariants as causes
use Rattle.entropy_source.specs.declared.answers.SourceRefusal.{SourceRefusal}
use Rattle.entropy_source.specs.declared.answers.SourceRefusal.TheVariants.{HealthFailed, InError, SourceFault, SourceSpent, WantOfEntropy}
use Rattle.health_tests.specs.declared.windows.Alarm.{Alarm}
use Rattle.tree_config.specs.Tree.{Tree}
use Rattle.tree_rules.specs.Chain.{Chain, SourceLink, asks_pr, slots_of_source, wants}
use Rattle.tree_rules.specs.Fits.{AnswersBy, DrawsAndWorks, Fits, Serves, Starts, at_source, done, found_by, source_reply, start_reply}
use Rattle.tree_rules.specs.History.{Entry, SlotState, States, after, has, own, slot_after_all}
use Rattle.tree_rules.specs.Links.{Link}
use Rattle.tree_rules.specs.Replies.{chain_of, refusal}
use Rattle.tree_rules.specs.Works.{worked}
use Rattle.tree_rules.specs.declared.call.Call.{Call}
use Rattle.tree_rules.specs.declared.call.Call.TheVariants.{Generate, Instantiate, Reseed, Start, Status, Uninstantiate}
use Rattle.tree_rules.specs.declared.reply.Reply.{Reply}
use Rattle.tree_rules.proofs.Leaves.{own_sources}
use Rattle.tree_rules.proofs.Refusals.{bare_refusal, coded_refusal, refused_by}

-- a refusal of the table leaves every slot
pub all_stay : (p : Tree) (s : States) (e : Entry) (r : Reply) → Fits p s e → refusal p e.call e.string (chain_of p s e.call e.string) ≡ Some r
    → (k : ℕ) (x : SlotState) → after p k x e ≡ x
all_stay p s e r f is k x = ap (λ acts. slot_after_all p k x (own k acts)) (refused_by p s e r f is).0

-- what an entry has by each kind of answer
module _ (e : Entry) where
  no_bytes : (j : ℕ) (why : SourceRefusal) → (source_reply j why).len ≡ 0
  no_bytes j (SourceSpent a b) = refl
  no_bytes j (InError causes.NotStarted) = refl
  no_bytes j (InError (causes.Alarm a b)) = refl
  no_bytes j (SourceFault a) = refl
  no_bytes j (HealthFailed a b) = refl
  no_bytes j (WantOfEntropy a) = refl

  -- of the acts and the bytes of a refusal that came while samples were read: those of the source alone, and none
  pub record Fails (t : SourceLink) : Type 0 where
    pub acts : List SourceAct
    pub acts_are : e.acts ≡ map (at_source t) acts
    pub bytes : e.bytes ≡ []

  by_works : (found : List ℕ → List ℕ → Option Alarm) (c : Call) (ls : List Link) (lens : List ℕ) (source : Option SourceLink) → DrawsAndWorks found c ls lens source e
      → e.reply.code ≢ 0 → MatchOption source ⊥ (λ t. Fails t)
  by_works found c ls lens None w code = code (ap (λ (z : Reply). z.code) w.reply_is)
  by_works found c ls lens (Some t) (acts, end, drawn, answer) code = by end answer where
    by : (end : Result (List ℕ) SourceRefusal) → MatchResult end
        (λ bytes. let w = worked (asks_pr c) (portions t.row lens bytes) e.string ls in
        AnswersBy e (map (at_source t) acts ++ w.acts) (done w.bytes) w.bytes)
        (λ why. AnswersBy e (map (at_source t) acts) (source_reply t.number why) []) → Fails t
    by (Ok bytes) answer = absurd (code (ap (λ (z : Reply). z.code) answer.reply_is))
    by (Err why) answer = record { acts = acts; acts_are = answer.acts_are; bytes = answer.bytes_are }

  by_start : (source : Option SourceLink) → Starts source e → e.reply.code ≢ 0 → MatchOption source ⊥ (λ t. Fails t)
  by_start None w code = w
  by_start (Some t) (acts, end, start, answer) code = record { acts = acts; acts_are = answer.acts_are; bytes = answer.bytes_are }

  by_call : (ch : Chain) (c : Call) → Serves (found_by ch.source) ch e c → e.reply.code ≢ 0 → MatchOption ch.source ⊥ (λ t. Fails t)
  by_call ch (Start i) w code = by_start ch.source w code
  by_call ch (Uninstantiate n) w code = absurd (code (ap (λ (z : Reply). z.code) w.reply_is))
  by_call ch (Status n) w code = absurd (code (ap (λ (z : Reply). z.code) w.reply_is))
  by_call ch (Instantiate n x) w code = by_works (found_by ch.source) (Instantiate n x) ch.links (wants (Instantiate n x) ch) ch.source w code
  by_call ch (Generate n x y z) w code = by_works (found_by ch.source) (Generate n x y z) ch.links (wants (Generate n x y z) ch) ch.source w code
  by_call ch (Reseed n z) w code = by_works (found_by ch.source) (Reseed n z) ch.links (wants (Reseed n z) ch) ch.source w code

  len_of : (bytes : List ℕ) → e.reply ≡ done bytes → e.bytes ≡ bytes → e.reply.len ≡ length e.bytes
  len_of bytes r b = ap (λ (z : Reply). z.len) r ∙ ap (λ z. length {A = ℕ} z) (sym b)

  len_none : (j : ℕ) (why : SourceRefusal) → e.reply ≡ source_reply j why → e.bytes ≡ [] → e.reply.len ≡ length e.bytes
  len_none j why r b = ap (λ (z : Reply). z.len) r ∙ (no_bytes j why ∙ ap (λ z. length {A = ℕ} z) (sym b))

  len_works : (found : List ℕ → List ℕ → Option Alarm) (c : Call) (ls : List Link) (lens : List ℕ) (source : Option SourceLink)
      → DrawsAndWorks found c ls lens source e → e.reply.len ≡ length e.bytes
  len_works found c ls lens None w = len_of _ w.reply_is w.bytes_are
  len_works found c ls lens (Some t) (acts, end, drawn, answer) = by end answer where
    by : (end : Result (List ℕ) SourceRefusal) → MatchResult end
        (λ bytes. let w = worked (asks_pr c) (portions t.row lens bytes) e.string ls in
        AnswersBy e (map (at_source t) acts ++ w.acts) (done w.bytes) w.bytes)
        (λ why. AnswersBy e (map (at_source t) acts) (source_reply t.number why) []) → e.reply.len ≡ length e.bytes
    by (Ok bytes) answer = len_of _ answer.reply_is answer.bytes_are
    by (Err why) answer = len_none t.number why answer.reply_is answer.bytes_are

  len_start : (source : Option SourceLink) → Starts source e → e.reply.len ≡ length e.bytes
  len_start None w = absurd w
  len_start (Some t) (acts, end, start, answer) = by end answer where
    by : (end : Result (List ℕ) SourceRefusal) → AnswersBy e (map (at_source t) acts) (start_reply t.number end) [] → e.reply.len ≡ length e.bytes
    by (Ok bytes) answer = len_of [] answer.reply_is answer.bytes_are
    by (Err why) answer = len_none t.number why answer.reply_is answer.bytes_are

  len_call : (ch : Chain) (c : Call) → Serves (found_by ch.source) ch e c → e.reply.len ≡ length e.bytes
  len_call ch (Start i) w = len_start ch.source w
  len_call ch (Uninstantiate n) w = len_of [] w.reply_is w.bytes_are
  len_call ch (Status n) w = len_of _ w.reply_is w.bytes_are
  len_call ch (Instantiate n x) w = len_works (found_by ch.source) (Instantiate n x) ch.links (wants (Instantiate n x) ch) ch.source w
  len_call ch (Generate n x y z) w = len_works (found_by ch.source) (Generate n x y z) ch.links (wants (Generate n x y z) ch) ch.source w
  len_call ch (Reseed n z) w = len_works (found_by ch.source) (Reseed n z) ch.links (wants (Reseed n z) ch) ch.source w

module _ (p : Tree) (s : States) (e : Entry) (f : Fits p s e) where
  abbrev ch : Chain
  ch = chain_of p s e.call e.string

  abbrev Answer : Option Reply → Type 0
  Answer o = MatchOption o (Serves (found_by ch.source) ch e e.call) (λ reply. AnswersBy e [] reply [])

  pub len_is : e.reply.len ≡ length e.bytes
  len_is = by (refusal p e.call e.string ch) refl f.answer where
    by : (o : Option Reply) → refusal p e.call e.string ch ≡ o → Answer o → e.reply.len ≡ length e.bytes
    by None is w = len_call e ch e.call w
    by (Some r) is w = ap (λ (z : Reply). z.len) w.reply_is ∙ (bare_refusal p e.call e.string ch r is ∙ sym (ap (λ z. length {A = ℕ} z) w.bytes_are))

  pub none_given : e.reply.code ≢ 0 → e.bytes ≡ []
  none_given code = by (refusal p e.call e.string ch) f.answer where
    of_source : (source : Option SourceLink) → MatchOption source ⊥ (λ t. Fails e t) → e.bytes ≡ []
    of_source None h = absurd h
    of_source (Some t) h = h.bytes

    by : (o : Option Reply) → Answer o → e.bytes ≡ []
    by None w = of_source ch.source (by_call e ch e.call w code)
    by (Some r) w = w.bytes_are

  pub others_stay : e.reply.code ≢ 0 → (k : ℕ) → has (slots_of_source ch.source) k ≡ false → (x : SlotState) → after p k x e ≡ x
  others_stay code k off x = ap (slot_after_all p k x) (by (refusal p e.call e.string ch) f.answer) where
    of_source : (source : Option SourceLink) → has (slots_of_source source) k ≡ false → MatchOption source ⊥ (λ t. Fails e t) → own k e.acts ≡ []
    of_source None off h = absurd h
    of_source (Some t) off h = ap (own k) h.acts_are ∙ own_sources k t h.acts off

    by : (o : Option Reply) → Answer o → own k e.acts ≡ []
    by None w = of_source ch.source off (by_call e ch e.call w code)
    by (Some r) w = ap (own k) w.acts_are

  -- a call that is Done is refused by no row
  pub free_done : e.reply.code ≡ 0 → refusal p e.call e.string ch ≡ None
  free_done code = by (refusal p e.call e.string ch) refl f.answer where
    by : (o : Option Reply) → refusal p e.call e.string ch ≡ o → Answer o → o ≡ None
    by None is w = refl
    by (Some r) is w = absurd (coded_refusal p e.call e.string ch r is (sym (ap (λ (z : Reply). z.code) w.reply_is) ∙ code))
