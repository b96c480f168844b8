-- When an entry is right after a history, in the words of whole lists: alarms are told by all samples since the tests were fresh.
-- This project's own; SP 800-90B 4.4 for the alarms.
use Rattle.std.specs.Prelude.{ℕ, List, [], ◌∷◌, ◌++◌, Option, Some, None}
use Rattle.health_tests.specs.declared.windows.Alarm.{Alarm}
use Rattle.health_tests.specs.Windows.{alarm_in}
use Rattle.entropy_source.specs.Counted.{tested_after}
use Rattle.tree_rules.specs.History.{Entry, Opening, at_slot, acts_of, state_of}
use Rattle.tree_rules.specs.Chain.{SourceLink}
use Rattle.tree_rules.specs.Replies.{chain_of}
use Rattle.tree_rules.specs.Fits.{Follows}

-- the samples that were read at a slot since the last start of its source was begun
abbrev pub tested : ℕ → List Entry → List ℕ
tested k h = tested_after [] (at_slot k (acts_of h))

-- the first alarm among samples, behind those of the history and those that the call has read before
abbrev pub found_after : List Entry → Option SourceLink → List ℕ → List ℕ → Option Alarm
found_after h None read got = None
found_after h (Some t) read got = alarm_in t.row.cutoffs (tested t.slot h ++ read) got

-- the entry is right after the history
abbrev pub Right : Opening → List Entry → Entry → Type 0
Right f h e = let ch = chain_of f.plan (state_of f h) e.call e.string in Follows f.plan (found_after h ch.source) ch e

-- each entry is right after the history and those before it
abbrev pub AreRight : Opening → List Entry → List Entry → Type 0
AreRight f h [] = Unit {0}
AreRight f h (e ∷ es) = Right f h e × AreRight f (h ++ e ∷ []) es
