-- When an entry is right: its chain, its acts, its reply and its bytes, in the states in which the call finds its chain.
-- This project's own.
use Rattle.std.specs.Prelude.{◌≡◌, ℕ, List, [], ◌∷◌, ◌++◌, length, map, if◌then◌else◌, Option, Some, None, Result, Ok, Err, MatchOption, MatchResult}
use Rattle.std.specs.Int.{w64, to_be_bytes}
use Rattle.health_tests.specs.declared.windows.Alarm.{Alarm}
use Rattle.tree_config.specs.Tree.{Tree}
use Rattle.entropy_source.specs.declared.answers.Cause.{Cause}
use Rattle.entropy_source.specs.declared.answers.Cause.TheVariants as causes
use Rattle.entropy_source.specs.declared.answers.SourceRefusal.{SourceRefusal}
use Rattle.entropy_source.specs.declared.answers.SourceRefusal.TheVariants.{SourceSpent, InError, SourceFault, HealthFailed, WantOfEntropy}
use Rattle.entropy_source.specs.Source.{SourceAct}
use Rattle.entropy_source.specs.Draws as draws
use Rattle.entropy_source.specs.Draws.{Drawn, portions, found_in}
use Rattle.rbg_nodes.specs.Node.{NodeState, Cleared}
use Rattle.tree_rules.specs.declared.call.Call.{Call}
use Rattle.tree_rules.specs.declared.call.Call.TheVariants.{Uninstantiate, Start, Status}
use Rattle.tree_rules.specs.declared.reply.Reply.{Reply}
use Rattle.tree_rules.specs.History.{Act, AtSource, Entry, States, after}
use Rattle.tree_rules.specs.Links.{Link, first_link}
use Rattle.tree_rules.specs.Chain.{Chain, SourceLink, slots_of, wants, asks_pr}
use Rattle.tree_rules.specs.Replies.{chain_of, refusal, test_number}
use Rattle.tree_rules.specs.Works.{worked, at_node}

-- Done with these bytes, and a refusal
abbrev pub done : List ℕ → Reply
done bytes = record { code = 0; a = 0; b = 0; len = length bytes }

abbrev pub refused : ℕ → ℕ → ℕ → Reply
refused code a b = record { code = code; a = a; b = b; len = 0 }

-- the reply of what source j refused; the first two refusals come before any sample is read, and a draw or a start has none of them
abbrev pub cause_reply : Cause → Reply
cause_reply causes.NotStarted = refused 11 0 0
cause_reply (causes.Alarm index test) = refused 11 (test_number test) index

abbrev pub source_reply : ℕ → SourceRefusal → Reply
source_reply j (SourceSpent taken need) = refused 10 taken need
source_reply j (InError cause) = cause_reply cause
source_reply j (SourceFault count) = refused 12 count j
source_reply j (HealthFailed index test) = refused 13 index (test_number test)
source_reply j (WantOfEntropy missing) = refused 14 missing j

abbrev pub at_source : SourceLink → SourceAct → Act
at_source t a = record { slot = t.slot; act = AtSource a }

-- the 25 bytes of Status: whether the node is instantiated, its reseed counter, its seedings and its generates, big endian
abbrev pub status_bytes : NodeState → List ℕ
status_bytes s = (if s.live then 1 else 0) ∷ to_be_bytes w64 s.counter ++ to_be_bytes w64 s.seeds ++ to_be_bytes w64 s.gives

-- the entry has these acts, this reply and these bytes
pub record AnswersBy (e : Entry) (acts : List Act) (reply : Reply) (bytes : List ℕ) : Type 0 where
  pub acts_are : e.acts ≡ acts
  pub reply_is : e.reply ≡ reply
  pub bytes_are : e.bytes ≡ bytes

-- a Start that isn't refused before any sample is read: some acts are a start, and the reply is by its result
abbrev pub start_reply : ℕ → Result (List ℕ) SourceRefusal → Reply
start_reply j (Ok bytes) = done []
start_reply j (Err why) = source_reply j why

abbrev pub Starts : Option SourceLink → Entry → Type 0
Starts None e = ⊥
Starts (Some t) e =
    (acts : List SourceAct) × (end : Result (List ℕ) SourceRefusal) × draws.Start t.row t.state acts end
    × AnswersBy e (map (at_source t) acts) (start_reply t.number end) []

-- An Instantiate, Generate or Reseed that isn't refused before any sample is read: where it needs the source, some acts are a draw of
-- all that it wants; once that was answered, the nodes do their work over the drawn strings, and where it was refused no node has an act.
abbrev pub DrawsAndWorks : (List ℕ → List ℕ → Option Alarm) → Call → List Link → List ℕ → Option SourceLink → Entry → Type 0
DrawsAndWorks found c ls lens None e =
    let w = worked (asks_pr c) [] e.string ls in AnswersBy e w.acts (done w.bytes) w.bytes
DrawsAndWorks found c ls lens (Some t) e =
    (acts : List SourceAct) × (end : Result (List ℕ) SourceRefusal) × Drawn t.row found t.state lens acts end
    × MatchResult end
    (λ bytes. let w = worked (asks_pr c) (portions t.row lens bytes) e.string ls in
    AnswersBy e (map (at_source t) acts ++ w.acts) (done w.bytes) w.bytes)
    (λ why. AnswersBy e (map (at_source t) acts) (source_reply t.number why) [])

-- a call that isn't refused before any sample is read
abbrev pub Serves : (List ℕ → List ℕ → Option Alarm) → Chain → Entry → Call → Type 0
Serves found ch e (Start j) = Starts ch.source e
Serves found ch e (Uninstantiate n) = AnswersBy e (at_node (first_link ch.links) Cleared ∷ []) (done []) []
Serves found ch e (Status n) = let bytes = status_bytes (first_link ch.links).state in AnswersBy e [] (done bytes) bytes
Serves found ch e c = DrawsAndWorks found c ch.links (wants c ch) ch.source e

-- the entry is right by the chain that its call finds, where `found` tells alarms: a refusal of the table has no act and no bytes
pub record Follows (p : Tree) (found : List ℕ → List ℕ → Option Alarm) (ch : Chain) (e : Entry) : Type 0 where
  pub chain_is : e.chain ≡ slots_of ch
  pub answer : MatchOption (refusal p e.call e.string ch) (Serves found ch e e.call) (λ reply. AnswersBy e [] reply [])

-- the first alarm by what the chain's source keeps of its samples before the call
abbrev pub found_by : Option SourceLink → List ℕ → List ℕ → Option Alarm
found_by None read got = None
found_by (Some t) read got = found_in t.row.cutoffs t.state.tail read got

-- the entry is right in these states
abbrev pub Fits : Tree → States → Entry → Type 0
Fits p s e = let ch = chain_of p s e.call e.string in Follows p (found_by ch.source) ch e

-- each entry is right in the states that those before it leave
abbrev pub Legal : Tree → States → List Entry → Type 0
Legal p s [] = Unit {0}
Legal p s (e ∷ es) = Fits p s e × Legal p (λ k. after p k (s k) e) es
