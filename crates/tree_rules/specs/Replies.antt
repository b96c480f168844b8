-- The refusals of a call before any sample is read, as a table of which the first row that stands is the reply; and the chain, which is
-- cut short by the first three codes.
-- This project's own.
use Rattle.std.specs.Prelude.{ℕ, ◌+◌, ◌^◌, List, [], ◌∷◌, ◌++◌, length, nat_lt, nat_le, if◌then◌else◌, Bool, true, false, ◌&&◌, ◌||◌, Option, Some, None, is_none, not}
use Rattle.rbg_bytes.specs.Kinds.{strength}
use Rattle.health_tests.specs.declared.windows.Test.{Test}
use Rattle.health_tests.specs.declared.windows.Test.TheVariants.{Repetition, Proportion}
use Rattle.tree_config.specs.declared.plan.NodeKind.{NodeKind}
use Rattle.tree_config.specs.Tree.{Tree}
use Rattle.entropy_source.specs.declared.answers.SourceMode.{SourceMode}
use Rattle.entropy_source.specs.declared.answers.SourceMode.TheVariants as modes
use Rattle.rbg_nodes.specs.Node.{is_due}
use Rattle.tree_rules.specs.declared.call.Call.{Call}
use Rattle.tree_rules.specs.declared.call.Call.TheVariants.{Instantiate, Generate, Reseed, Uninstantiate, Start}
use Rattle.tree_rules.specs.declared.reply.Reply.{Reply}
use Rattle.tree_rules.specs.declared.reply.ReplyRow.{ReplyRow}
use Rattle.tree_rules.specs.Slots.{node_row}
use Rattle.tree_rules.specs.History.{States}
use Rattle.tree_rules.specs.Links.{Link, first_link, last_link, is_alive, is_rbg1, is_xor, is_rs}
use Rattle.tree_rules.specs.Chain.{Chain, SourceLink, asks_pr, named, need, whole_chain}

-- a row of the table, by its code, whether it stands, and two numbers
abbrev pub reply_row : ℕ → Bool → ℕ → ℕ → ReplyRow
reply_row code stands a b = record { stands = stands; reply = record { code = code; a = a; b = b; len = 0 } }

abbrev pub first_reply : List ReplyRow → Option Reply
first_reply [] = None
first_reply (r ∷ rows) = if r.stands then Some r.reply else first_reply rows

-- which call it is
abbrev pub is_instantiate : Call → Bool
is_instantiate (Instantiate n strength) = true
is_instantiate _ = false

abbrev pub is_reseed : Call → Bool
is_reseed (Reseed n pr) = true
is_reseed _ = false

abbrev pub is_start : Call → Bool
is_start (Start j) = true
is_start _ = false

-- Instantiate, Generate or Reseed
abbrev pub seeds_or_gives : Call → Bool
seeds_or_gives (Instantiate n strength) = true
seeds_or_gives (Generate n count strength pr) = true
seeds_or_gives (Reseed n pr) = true
seeds_or_gives _ = false

-- all calls but Start and Status
abbrev pub needs_life : Call → Bool
needs_life (Uninstantiate n) = true
needs_life c = seeds_or_gives c

-- the bytes that a call asks, and the strength
abbrev pub asked_count : Call → ℕ
asked_count (Generate n count strength pr) = count
asked_count _ = 0

abbrev pub asked_strength : Call → ℕ
asked_strength (Instantiate n strength) = strength
asked_strength (Generate n count strength pr) = strength
asked_strength _ = 0

-- how many there are of what a call names
abbrev pub there_are : Tree → Call → ℕ
there_are p (Start j) = length p.sources
there_are p _ = length p.nodes

-- the most bytes of a Generate by the kind of the named node, and of a string
abbrev pub count_limit : NodeKind → ℕ
count_limit kind = if is_xor kind || is_rs kind then 4096 else 65536

abbrev pub string_limit : ℕ
string_limit = 4096

-- the most samples of a source
abbrev pub sample_limit : ℕ
sample_limit = 2 ^ 60

-- the samples taken from the source of a chain, and its mode; where there is none, no refusal speaks of them
abbrev pub taken_of : Option SourceLink → ℕ
taken_of None = 0
taken_of (Some t) = t.state.taken

abbrev pub mode_of : Option SourceLink → SourceMode
mode_of None = modes.Running
mode_of (Some t) = t.state.mode

abbrev pub is_running : SourceMode → Bool
is_running modes.Running = true
is_running _ = false

-- the numbers of a source in error: 0 where it was not started, else the test that alarmed and its sample
abbrev pub test_number : Test → ℕ
test_number Repetition = 1
test_number Proportion = 2

abbrev pub error_test : SourceMode → ℕ
error_test (modes.Alarmed index test) = test_number test
error_test _ = 0

abbrev pub error_index : SourceMode → ℕ
error_index (modes.Alarmed index test) = index
error_index _ = 0

-- the rows that look at the plan, the call and its string alone: NoSuchNode, and TooLong for the count and for the string
abbrev pub plain_rows : Tree → Call → List ℕ → List ReplyRow
plain_rows p c string =
    let limit = count_limit (node_row p (named c)).kind in
    reply_row 1 (nat_le (there_are p c) (named c)) (named c) (there_are p c)
    ∷ reply_row 2 (nat_lt limit (asked_count c)) (asked_count c) limit
    ∷ reply_row 2 (nat_lt string_limit (length string)) (length string) string_limit
    ∷ []

-- The rows that look at the chain too, by its first and its last node, the samples taken from its source, that one's mode, and the
-- samples that the call needs: AlreadyInstantiated, NotInstantiated, StrengthTooHigh, ReseedRefused, PrUnsupported, Exhausted,
-- SourceSpent and SourceInError. An RBG1 has no parent, so where a chain holds one it is the last node.
abbrev pub rows_by : Call → Link → Link → ℕ → SourceMode → ℕ → List ReplyRow
rows_by c node end taken mode samples =
    reply_row 3 (is_instantiate c && node.state.live) node.slot 0
    ∷ reply_row 4 (needs_life c && not (is_alive end)) end.slot 0
    ∷ reply_row 5 (nat_lt (strength node.row.drbg) (asked_strength c)) (asked_strength c) (strength node.row.drbg)
    ∷ reply_row 6 (is_rbg1 node.row.kind && (is_reseed c || is_instantiate c && is_none node.state.kept)) node.slot 0
    ∷ reply_row 7 (asks_pr c && is_rbg1 end.row.kind) end.slot 0
    ∷ reply_row 8 (seeds_or_gives c && is_rbg1 end.row.kind && is_due end.row end.state) end.slot end.state.counter
    ∷ reply_row 10 (nat_lt sample_limit (taken + samples)) taken samples
    ∷ reply_row 11 (nat_lt 0 samples && not (is_running mode) && not (is_start c)) (error_test mode) (error_index mode)
    ∷ []

abbrev pub chain_rows : Call → Chain → List ReplyRow
chain_rows c ch = rows_by c (first_link ch.links) (last_link ch.links) (taken_of ch.source) (mode_of ch.source) (need c ch)

-- the chain: nothing where code 1 or 2 stands, and the named node alone where an instantiated node is to be instantiated
abbrev pub chain_by : Tree → States → Call → Option Reply → Chain
chain_by p s c (Some r) = record { links = []; source = None }
chain_by p s c None =
    let whole = whole_chain p s c in
    if is_instantiate c && (first_link whole.links).state.live
    then record { links = first_link whole.links ∷ []; source = None } else whole

abbrev pub chain_of : Tree → States → Call → List ℕ → Chain
chain_of p s c string = chain_by p s c (first_reply (plain_rows p c string))

-- the refusal of a call by the chain that it finds, if there is one
abbrev pub refusal : Tree → Call → List ℕ → Chain → Option Reply
refusal p c string ch = first_reply (plain_rows p c string ++ chain_rows c ch)
