-- A node of a chain in plain numbers: what a refusal reads of it, and what is asked of it.
-- This project's own.
use Rattle.std.specs.Prelude.{ℕ, List, [], ◌∷◌, ◌&&◌, if◌then◌else◌, Bool, true, false, Option, Some, None}
use Rattle.tree_config.specs.declared.plan.Origin.{Origin}
use Rattle.tree_config.specs.declared.plan.Origin.TheVariants.{Source}
use Rattle.rbg_nodes.specs.Node.{NodeState, New, Renew, fresh_node}
use Rattle.tree_acts.specs.declared.plain.PlainNode.{PlainNode}
use Rattle.tree_acts.specs.declared.step.Step.{Step}
use Rattle.tree_acts.specs.declared.step.Asked.{Asked}
use Rattle.tree_acts.specs.declared.step.Asked.TheVariants as asked
use Rattle.tree_rules.specs.Links.{Task, Seeds, Gives, Rests, Link, is_alive, wanted}

-- the state that plain numbers stand for; what a refusal doesn't read of a state is as when it was opened
abbrev pub kept_if : Bool → Option (List ℕ)
kept_if true = Some []
kept_if false = None

abbrev pub node_of : PlainNode → NodeState
node_of x = record (fresh_node (kept_if x.has_seed)) { live = x.live; counter = x.counter }

-- what a call asks of a node, and a node of a chain with its origin
abbrev pub task_in : Asked → Task
task_in asked.Instantiate = Seeds New
task_in asked.Reseed = Seeds Renew
task_in (asked.Give len) = Gives len
task_in asked.Rest = Rests

abbrev pub link_of : Step → Origin → Link
link_of l o = record { slot = l.slot; row = l.row; origin = o; state = node_of l.node; task = task_in l.asked }

-- whether there are lengths to draw, and the number of the source on which a node draws
abbrev pub are_some : List ℕ → Bool
are_some [] = false
are_some (n ∷ lens) = true

abbrev pub number_in : Origin → Option ℕ
number_in (Source j) = Some j
number_in _ = None

abbrev pub draws_on : Bool → Link → Option ℕ
draws_on pr l = if is_alive l && are_some (wanted pr l) then number_in l.origin else None
