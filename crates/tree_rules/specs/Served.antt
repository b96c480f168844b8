-- What a call that was made leaves: some acts with which its entry is right, and the states after them.
-- This project's own.
use Rattle.std.specs.Prelude.{◌≡◌, ℕ, List}
use Rattle.tree_config.specs.Tree.{Tree}
use Rattle.tree_rules.specs.declared.call.Call.{Call}
use Rattle.tree_rules.specs.declared.reply.Reply.{Reply}
use Rattle.tree_rules.specs.History.{Act, Entry, States, slot_after_all, own}
use Rattle.tree_rules.specs.Chain.{slots_of}
use Rattle.tree_rules.specs.Replies.{chain_of}
use Rattle.tree_rules.specs.Fits.{Fits}

-- the entry of a call by a caller, in these states, with these acts
abbrev pub entry_of : Tree → States → Call → List ℕ → Reply → List ℕ → List Act → ℕ → Entry
entry_of p s c string reply bytes acts caller = record {
  caller = caller;
  call = c;
  string = string;
  chain = slots_of (chain_of p s c string);
  acts = acts;
  reply = reply;
  bytes = bytes;
}

-- the call was answered with this reply and these bytes, whoever made it, and the states went from the old to the new ones
pub record Served (p : Tree) (old new : States) (c : Call) (string : List ℕ) (reply : Reply) (bytes : List ℕ) : Type 0 where
  pub acts : List Act
  pub fits : (caller : ℕ) → Fits p old (entry_of p old c string reply bytes acts caller)
  pub leaves : (k : ℕ) → new k ≡ slot_after_all p k (old k) (own k acts)
