-- When no row of the table of refusals stands, in the words of a caller.
-- This project's own.
use Rattle.std.specs.Prelude.{◌≡◌, ◌<◌, ◌≤◌, ℕ, ◌+◌, List, [], ◌∷◌, length, true, false, IsSome}
use Rattle.rbg_bytes.specs.Kinds.{strength}
use Rattle.tree_config.specs.Tree.{Tree}
use Rattle.tree_rules.specs.declared.call.Call.{Call}
use Rattle.tree_rules.specs.Slots.{node_row}
use Rattle.tree_rules.specs.Links.{Link, first_link, last_link, is_alive, is_rbg1}
use Rattle.tree_rules.specs.Chain.{Chain, asks_pr, named, need}
use Rattle.tree_rules.specs.Replies.{is_instantiate, is_reseed, is_start, seeds_or_gives, needs_life, asked_count, asked_strength, there_are, count_limit, string_limit, sample_limit, taken_of, mode_of, is_running}

-- The call may be made: its chain, which nothing cuts short, is `ch`. An RBG1 has no parent, so where a chain holds one it is the last node.
pub record IsFree (p : Tree) (c : Call) (string : List ℕ) (ch : Chain) : Type 0 where
  -- there is a node, or a source, of this number
  pub there : named c < there_are p c
  -- no more bytes are asked than a node of this kind gives at once, and the string isn't too long
  pub count : asked_count c ≤ count_limit (node_row p (named c)).kind
  pub brief : length string ≤ string_limit
  -- a node that is to be instantiated isn't yet
  pub new : is_instantiate c ≡ true → (first_link ch.links).state.live ≡ false
  -- the chain ends at a node that is instantiated, or that is to be
  pub alive : needs_life c ≡ true → is_alive (last_link ch.links) ≡ true
  -- the node is as strong as is asked
  pub strong : asked_strength c ≤ strength (first_link ch.links).row.drbg
  -- an RBG1 isn't asked to reseed, and where it is to be instantiated its seed wasn't used
  pub reseed : is_reseed c ≡ true → is_rbg1 (first_link ch.links).row.kind ≡ false
  pub seed : is_instantiate c ≡ true → is_rbg1 (first_link ch.links).row.kind ≡ true → IsSome (first_link ch.links).state.kept
  -- prediction resistance isn't asked of an RBG1
  pub resistance : asks_pr c ≡ true → is_rbg1 (last_link ch.links).row.kind ≡ false
  -- an RBG1 isn't due
  pub interval : seeds_or_gives c ≡ true → is_rbg1 (last_link ch.links).row.kind ≡ true → (last_link ch.links).state.counter ≤ (last_link ch.links).row.interval
  -- the source may give so many samples more, and where any are needed it runs, or is started
  pub room : taken_of ch.source + need c ch ≤ sample_limit
  pub runs : 0 < need c ch → is_start c ≡ false → is_running (mode_of ch.source) ≡ true

-- of these nodes an RBG1 is the last one at most
abbrev pub EndAtRbg1 : List Link → Type 0
EndAtRbg1 [] = Unit {0}
EndAtRbg1 (l ∷ []) = Unit {0}
EndAtRbg1 (l ∷ m ∷ ls) = (is_rbg1 l.row.kind ≡ false) × EndAtRbg1 (m ∷ ls)
