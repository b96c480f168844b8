-- Runs of calls that alone decide the counts after them, and what they ask; the counts in states.
-- This project's own.
use Rattle.std.specs.Prelude.{◌≡◌, ℕ, List, [], ◌∷◌, map, ◌==◌, if◌then◌else◌, false}
use Rattle.entropy_source.specs.Views.{SourceView}
use Rattle.rbg_nodes.specs.declared.node.NodeCounts.{NodeCounts}
use Rattle.rbg_nodes.specs.Views.{counts_of}
use Rattle.tree_config.specs.Tree.{Tree}
use Rattle.tree_rules.specs.declared.call.Call.{Call}
use Rattle.tree_rules.specs.declared.call.Call.TheVariants.{Generate, Status}
use Rattle.tree_rules.specs.History.{Entry, States, node_in, source_in}
use Rattle.tree_rules.specs.Slots.{source_slot}
use Rattle.tree_core.specs.declared.solo.SourceCounts.{SourceCounts}

-- a Generate without prediction resistance, or a Status
abbrev pub IsPlain : Call → Type 0
IsPlain (Generate n count strength pr) = pr ≡ false
IsPlain (Status n) = Unit {0}
IsPlain _ = ⊥

-- each entry is of such a call, by whatever caller, and is Done
abbrev pub AreDone : List Entry → Type 0
AreDone [] = Unit {0}
AreDone (e ∷ es) = IsPlain e.call × (e.reply.code ≡ 0) × AreDone es

-- the lengths that a call asks of node n, in front of others
abbrev pub with_call : Call → ℕ → List ℕ → List ℕ
with_call (Generate m count strength pr) n lens = if m == n then count ∷ lens else lens
with_call _ n lens = lens

-- the lengths that calls ask of node n, and those that the calls of entries ask of it
abbrev pub asked_of : List Call → ℕ → List ℕ
asked_of [] n = []
asked_of (c ∷ cs) n = with_call c n (asked_of cs n)

abbrev pub asked_by : List Entry → ℕ → List ℕ
asked_by es n = asked_of (map (λ (e : Entry). e.call) es) n

-- the counts of node n and of source j in these states
abbrev pub counts_at : States → ℕ → NodeCounts
counts_at s n = counts_of (node_in (s n))

abbrev pub source_counts_at : Tree → States → ℕ → SourceCounts
source_counts_at p s j = let x = source_in (s (source_slot p j)) in record { taken = x.taken; blocks = x.blocks }

-- and those read off a source
abbrev pub view_counts : {S : Type 0} → SourceView S → SourceCounts
view_counts v = record { taken = v.taken; blocks = v.blocks }
