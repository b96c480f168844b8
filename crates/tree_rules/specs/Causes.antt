-- Which reply comes of a call, and why: by the table of refusals, or by what the call's source read for it.
-- This project's own; SP 800-90B 4.3 for the alarm.
use Rattle.std.specs.Prelude.{◌≡◌, ◌≢◌, ◌<◌, ◌≤◌, ℕ, zero, suc, ◌+◌, ◌-◌, List, [], ◌++◌, length, take, drop, map, sum, Bool, true, false, Option, Some, None, Ok}
use Rattle.rbg_bytes.specs.Streams.{Rose}
use Rattle.health_tests.specs.declared.windows.Alarm.{Alarm}
use Rattle.health_tests.specs.Windows.{alarm_in}
use Rattle.conditioner.specs.Conditioned.{conditioned}
use Rattle.entropy_source.specs.declared.answers.SourceRow.{SourceRow}
use Rattle.entropy_source.specs.Source.{SourceAct, SourceState, blocks_for, need_of_block}
use Rattle.entropy_source.specs.Counted.{samples_of, lacking_after, gave_none, has_failed}
use Rattle.tree_config.specs.Tree.{Tree}
use Rattle.tree_rules.specs.declared.call.Call.{Call}
use Rattle.tree_rules.specs.declared.call.Call.TheVariants.{Start, Status, Uninstantiate}
use Rattle.tree_rules.specs.declared.reply.Reply.{Reply}
use Rattle.entropy_source.specs.Draws.{Drawn, portions}
use Rattle.tree_rules.specs.History.{Entry, States, at_slot}
use Rattle.tree_rules.specs.Links.{first_link}
use Rattle.tree_rules.specs.Chain.{Chain, SourceLink, asks_pr, wants}
use Rattle.tree_rules.specs.Works.{worked}
use Rattle.tree_rules.specs.Replies.{chain_of, refusal, test_number}
use Rattle.tree_rules.specs.Fits.{done, refused, found_by, status_bytes}

-- the chain of an entry's call in the states in which the call finds it, and the refusal of the table, if there is one
abbrev pub chain_in : Tree → States → Entry → Chain
chain_in p s e = chain_of p s e.call e.string

abbrev pub refusal_in : Tree → States → Entry → Option Reply
refusal_in p s e = refusal p e.call e.string (chain_in p s e)

-- a code of the table of refusals, which come before any sample is read
pub record IsOfTable (code : ℕ) : Type 0 where
  pub low : 0 < code
  pub high : code < 12

-- SourceFault exactly where a read failed, with the fault count now, which rose; otherwise that count is as it was
abbrev pub FaultsWhere : ℕ → ℕ → ℕ → Bool → Reply → Type 0
FaultsWhere j before now true r = (r ≡ refused 12 now j) × Rose before now
FaultsWhere j before now false r = (r.code ≢ 12) × (now ≡ before)

-- HealthFailed exactly where there is a first alarm among the samples that were read, with its place among all samples and its test
abbrev pub FailsAt : ℕ → Option Alarm → Reply → Type 0
FailsAt taken None r = r.code ≢ 13
FailsAt taken (Some a) r = r ≡ refused 13 (taken + a.at) (test_number a.test)

-- WantOfEntropy exactly where a read gave no sample, with what was missing then
abbrev pub WantsWhere : ℕ → Bool → ℕ → Reply → Type 0
WantsWhere j true missing r = r ≡ refused 14 missing j
WantsWhere j false missing r = r.code ≢ 14

-- the first alarm among samples of a call: behind none for a Start, else behind what the tests kept before the call
abbrev pub alarm_of : Call → SourceLink → List ℕ → Option Alarm
alarm_of (Start j) t samples = alarm_in t.row.cutoffs [] samples
alarm_of c t samples = found_by (Some t) [] samples

-- what the start-up lacked after acts, or the block that was begun last
abbrev pub missing_after : Call → SourceLink → List SourceAct → ℕ
missing_after (Start j) t acts = t.row.startup - length (samples_of acts)
missing_after c t acts = lacking_after (need_of_block t.row) (need_of_block t.row) acts

-- the reply by the acts of the call's source, which leave it in the state `now`: each refusal has its cause, and without one it is Done
pub record IsCaused (c : Call) (t : SourceLink) (acts : List SourceAct) (now : SourceState) (r : Reply) : Type 0 where
  pub fault : FaultsWhere t.number t.state.faults now.faults (has_failed acts) r
  pub health : FailsAt t.state.taken (alarm_of c t (samples_of acts)) r
  pub want : WantsWhere t.number (gave_none acts) (missing_after c t acts) r
  pub done : has_failed acts ≡ false → alarm_of c t (samples_of acts) ≡ None → gave_none acts ≡ false → r.code ≡ 0

-- so many conditioned blocks of samples, one behind the other
abbrev pub blocks_told : SourceRow → ℕ → List ℕ → List ℕ
blocks_told row zero left = []
blocks_told row (suc n) left = conditioned row.cond (take (need_of_block row) left) ++ blocks_told row n (drop (need_of_block row) left)

-- no read of the call gave none, no sample that it read is an alarm, and the fault count didn't rise
pub record LacksCause (c : Call) (t : SourceLink) (acts : List SourceAct) (now : SourceState) : Type 0 where
  pub some : gave_none acts ≡ false
  pub quiet : alarm_of c t (samples_of acts) ≡ None
  pub kept : ¬ Rose t.state.faults now.faults

-- Nothing keeps the source of a call from serving it: it tells its samples, as many are left as the call takes, there is no first alarm
-- among these, and its fault count doesn't rise.
pub record HasEnough (c : Call) (t : SourceLink) (samples : ℕ) (left : List ℕ) (now : SourceState) : Type 0 where
  pub told : t.state.told ≡ Some left
  pub enough : samples ≤ length left
  pub quiet : alarm_of c t (take samples left) ≡ None
  pub kept : ¬ Rose t.state.faults now.faults

-- the bytes of all blocks that a source which tells its samples makes for a call
abbrev pub blocks_by : Call → Chain → Option SourceLink → List ℕ → List ℕ
blocks_by c ch None left = []
blocks_by c ch (Some t) left = blocks_told t.row (sum (map (λ n. blocks_for t.row n) (wants c ch))) left

abbrev pub blocks_left : Call → Chain → List ℕ → List ℕ
blocks_left c ch left = blocks_by c ch ch.source left

-- the strings that a call draws of the bytes of all blocks, and the bytes of its reply when it is Done
abbrev pub drawn_by : Call → Chain → Option SourceLink → List ℕ → List (List ℕ)
drawn_by c ch None all = []
drawn_by c ch (Some t) all = portions t.row (wants c ch) all

abbrev pub bytes_of : Call → List ℕ → Chain → List ℕ → List ℕ
bytes_of (Uninstantiate n) string ch all = []
bytes_of (Start j) string ch all = []
bytes_of (Status n) string ch all = status_bytes (first_link ch.links).state
bytes_of c string ch all = (worked (asks_pr c) (drawn_by c ch ch.source all) string ch.links).bytes

-- Done, with exactly these bytes
pub record IsDone (bytes : List ℕ) (e : Entry) : Type 0 where
  pub reply_is : e.reply ≡ done bytes
  pub bytes_are : e.bytes ≡ bytes

-- Done, over the blocks that the source made for the call
pub record IsDrawnDone (t : SourceLink) (ch : Chain) (e : Entry) : Type 0 where
  pub all : List ℕ
  pub draw : Drawn t.row (found_by (Some t)) t.state (wants e.call ch) (at_slot t.slot e.acts) (Ok all)
  pub is : IsDone (bytes_of e.call e.string ch all) e
