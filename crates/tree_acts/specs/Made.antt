-- What a call leaves of what it holds: its entry, and the reads that were made for it.
-- This project's own.
use Rattle.std.specs.Prelude.{ℕ, List, Option}
use Rattle.tree_config.specs.Tree.{Tree}
use Rattle.entropy_source.specs.Views.{SourceView}
use Rattle.tree_rules.specs.declared.call.Call.{Call}
use Rattle.tree_rules.specs.declared.reply.Reply.{Reply}
use Rattle.tree_rules.specs.Served.{Served}
use Rattle.tree_acts.specs.Hold.{Hold, states_held}
use Rattle.tree_acts.specs.Did.{AreMade}

-- the call was answered with this reply and these bytes, by acts among which stand exactly the reads that were made
pub record ServedBy {S : Type 0} (told : S → Option (List ℕ)) (faults : S → ℕ) (reads : S → ℕ → Option (List ℕ) → S → Type 0) (p : Tree) (h t : Hold (SourceView S))
    (c : Call) (string : List ℕ) (reply : Reply) (bytes : List ℕ) : Type 0 where
  pub served : Served p (states_held told faults h) (states_held told faults t) c string reply bytes
  pub made : AreMade reads faults h t served.acts
