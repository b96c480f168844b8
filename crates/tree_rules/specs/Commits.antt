-- The test that a commit takes: which list of numbers may be the new entry, and what the values that were held stand for after it.
-- This project's own.
use Rattle.std.specs.Prelude.{◌≡◌, ℕ, List, true}
use Rattle.tree_rules.specs.declared.call.Call.{Call}
use Rattle.tree_rules.specs.declared.reply.Reply.{Reply}
use Rattle.tree_rules.specs.History.{Entry, Opening, States, has}
use Rattle.tree_rules.specs.Chain.{slots_of}
use Rattle.tree_rules.specs.Replies.{chain_of}
use Rattle.tree_rules.specs.Codes.{entry_list}
use Rattle.tree_rules.specs.Table.{Tells}
use Rattle.tree_rules.specs.Served.{Served, entry_of}

-- The list e is the entry of this call, reply and bytes by a caller, over slots with the lists s;
-- and `new` is what the held values stand for after it.
pub record Bears (f : Opening) (o : List Entry) (caller : ℕ) (s : ℕ → List ℕ) (new : States)
    (c : Call) (string : List ℕ) (reply : Reply) (bytes : List ℕ) (e : List ℕ) : Type 0 where
  pub old : States
  pub told : (k : ℕ) → has (slots_of (chain_of f.plan old c string)) k ≡ true → Tells f o k (s k) (old k)
  pub served : Served f.plan old new c string reply bytes
  pub entry_is : e ≡ entry_list (entry_of f.plan old c string reply bytes served.acts caller)
