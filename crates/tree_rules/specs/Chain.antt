-- The chain of a call: the nodes and the source that it needs, in the states in which it finds them. It is all that a call reads of
-- the tree. What the call draws on the source, and how many samples that takes.
-- This project's own rules, for the constructions that SP 800-90C names.
use Rattle.std.specs.Prelude.{ℕ, List, [], ◌∷◌, ◌++◌, map, if◌then◌else◌, Bool, false, Option, Some, None}
use Rattle.tree_config.specs.declared.plan.Origin.{Origin}
use Rattle.tree_config.specs.declared.plan.Origin.TheVariants.{Source}
use Rattle.tree_config.specs.Tree.{Tree}
use Rattle.entropy_source.specs.declared.answers.SourceRow.{SourceRow}
use Rattle.entropy_source.specs.Source.{SourceState, need_of}
use Rattle.rbg_nodes.specs.Node.{New, Renew}
use Rattle.tree_rules.specs.declared.call.Call.{Call}
use Rattle.tree_rules.specs.declared.call.Call.TheVariants.{Instantiate, Generate, Reseed, Uninstantiate, Start, Status}
use Rattle.tree_rules.specs.Slots.{source_row, source_slot, lineage}
use Rattle.tree_rules.specs.History.{States, source_in}
use Rattle.tree_rules.specs.Links.{Task, Seeds, Gives, Rests, Link, links, last_link, is_alive, wanted}

-- the source of a chain: its slot and number, what is set of it, and the state in which the call finds it
pub record SourceLink : Type 0 where
  pub slot : ℕ
  pub number : ℕ
  pub row : SourceRow
  pub state : SourceState

abbrev pub source_at : Tree → States → ℕ → SourceLink
source_at p s j = record { slot = source_slot p j; number = j; row = source_row p j; state = source_in (s (source_slot p j)) }

-- all that a call reads of the tree
pub record Chain : Type 0 where
  pub links : List Link
  pub source : Option SourceLink

-- the source from which the lengths are drawn, if there are any
abbrev pub source_by : Tree → States → List ℕ → Origin → Option SourceLink
source_by p s [] _ = None
source_by p s (n ∷ lens) (Source j) = Some (source_at p s j)
source_by p s (n ∷ lens) _ = None

-- the source on which a node draws for its task, where it is instantiated or about to be
abbrev pub source_of : Tree → States → Bool → Link → Option SourceLink
source_of p s pr l = if is_alive l then source_by p s (wanted pr l) l.origin else None

-- the parts of a call: the number that it names, whether it asks prediction resistance, and the task of the node that it names
abbrev pub named : Call → ℕ
named (Instantiate n strength) = n
named (Generate n count strength pr) = n
named (Reseed n pr) = n
named (Uninstantiate n) = n
named (Start j) = j
named (Status n) = n

abbrev pub asks_pr : Call → Bool
asks_pr (Generate n count strength pr) = pr
asks_pr (Reseed n pr) = pr
asks_pr _ = false

abbrev pub task_of : Call → Task
task_of (Instantiate n strength) = Seeds New
task_of (Generate n count strength pr) = Gives count
task_of (Reseed n pr) = Seeds Renew
task_of _ = Rests

-- the slot that a call names
abbrev pub target : Tree → Call → ℕ
target p (Start j) = source_slot p j
target p c = named c

-- the chain of a call that nothing stops: the source of a Start, else nodes from the named one on and the source of the last one
abbrev pub node_chain : Tree → States → Call → Chain
node_chain p s c =
    let ls = links p s (asks_pr c) (task_of c) (lineage p (named c)) in
    record { links = ls; source = source_of p s (asks_pr c) (last_link ls) }

abbrev pub whole_chain : Tree → States → Call → Chain
whole_chain p s (Start j) = record { links = []; source = Some (source_at p s j) }
whole_chain p s c = node_chain p s c

-- the slots of a chain, from the named node on
abbrev pub slots_of_source : Option SourceLink → List ℕ
slots_of_source None = []
slots_of_source (Some t) = t.slot ∷ []

abbrev pub slots_of : Chain → List ℕ
slots_of ch = map (λ l. l.slot) ch.links ++ slots_of_source ch.source

-- the lengths that a call draws on its source, in order
abbrev pub wants_of : Call → List Link → Option SourceLink → List ℕ
wants_of c ls None = []
wants_of c ls (Some t) = wanted (asks_pr c) (last_link ls)

abbrev pub wants : Call → Chain → List ℕ
wants c ch = wants_of c ch.links ch.source

-- the samples that they take together; a Start takes those of the start-up tests
abbrev pub need_by : Call → Option SourceLink → List ℕ → ℕ
need_by _ None lens = 0
need_by (Start j) (Some t) lens = t.row.startup
need_by _ (Some t) lens = need_of t.row lens

abbrev pub need : Call → Chain → ℕ
need c ch = need_by c ch.source (wants c ch)
