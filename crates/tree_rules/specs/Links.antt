-- The nodes that a call needs, in the states in which it finds them: what is asked of each, whether it must be seeded, and the
-- lengths that it draws on its source.
-- This project's own rules, for the constructions that SP 800-90C names RBG1, RBG2, RBG3(XOR) and RBG3(RS).
use Rattle.std.specs.Prelude.{ℕ, zero, suc, ◌+◌, ◌-◌, List, [], ◌∷◌, ◌++◌, map, min, max, nat_lt, if◌then◌else◌, Bool, true, false, ◌&&◌, ◌||◌, is_some, None}
use Rattle.std.specs.Int.{div_ceil}
use Rattle.rbg_bytes.specs.declared.kind.Kind.TheVariants as kinds
use Rattle.tree_config.specs.declared.plan.NodeKind.{NodeKind}
use Rattle.tree_config.specs.declared.plan.NodeKind.TheVariants.{Rbg1, Rbg2, Rbg3Xor, Rbg3Rs}
use Rattle.tree_config.specs.declared.plan.Origin.{Origin}
use Rattle.tree_config.specs.declared.plan.Origin.TheVariants.{SeedFile}
use Rattle.tree_config.specs.Tree.{Tree, parent_in}
use Rattle.rbg_nodes.specs.declared.node.NodeRow.{NodeRow}
use Rattle.rbg_nodes.specs.Node.{How, New, Renew, NodeState, fresh_node, is_due, seed_len, entropy_len}
use Rattle.tree_rules.specs.Slots.{node_plan, node_row}
use Rattle.tree_rules.specs.History.{States, SlotState, node_in}

-- what a call asks of a node: to be seeded, to give bytes, or nothing
pub data Task : Type 0 where
  Seeds : How → Task
  Gives : (len : ℕ) → Task
  Rests : Task

-- a node of a chain: its slot, what is set of it, its origin, the state in which the call finds it, and its task
pub record Link : Type 0 where
  pub slot : ℕ
  pub row : NodeRow
  pub origin : Origin
  pub state : NodeState
  pub task : Task

abbrev pub link : Tree → ℕ → Task → SlotState → Link
link p n task s = record { slot = n; row = node_row p n; origin = (node_plan p n).origin; state = node_in s; task = task }

-- the constructions
abbrev pub is_rbg1 : NodeKind → Bool
is_rbg1 Rbg1 = true
is_rbg1 _ = false

abbrev pub is_xor : NodeKind → Bool
is_xor Rbg3Xor = true
is_xor _ = false

abbrev pub is_rs : NodeKind → Bool
is_rs Rbg3Rs = true
is_rs _ = false

-- the task instantiates
abbrev pub starts : Task → Bool
starts (Seeds New) = true
starts _ = false

-- the node is instantiated, or about to be
abbrev pub is_alive : Link → Bool
is_alive l = l.state.live || starts l.task

-- The node must be seeded: where that is its task, and before it gives, where it is due, where prediction resistance is asked,
-- or where it is an RBG3(RS).
abbrev pub must_by : Bool → Link → Task → Bool
must_by pr l (Seeds how) = true
must_by pr l (Gives len) = is_due l.row l.state || pr || is_rs l.row.kind
must_by pr l Rests = false

abbrev pub must_seed : Bool → Link → Bool
must_seed pr l = must_by pr l l.task

-- the bytes that its seeding takes
abbrev pub seeding_by : NodeRow → Task → ℕ
seeding_by row (Seeds how) = seed_len row how
seeding_by row _ = seed_len row Renew

abbrev pub seeding_len : Link → ℕ
seeding_len l = seeding_by l.row l.task

-- a child that must be seeded asks its parent for a generate of so many bytes; a chain ends at a node that isn't instantiated
abbrev pub asks_parent : Bool → Link → Bool
asks_parent pr l = is_alive l && must_seed pr l && is_some (parent_in l.origin)

-- the nodes that a task needs, along a node and its ancestors
abbrev pub links : Tree → States → Bool → Task → List ℕ → List Link
links p s pr task [] = []
links p s pr task (n ∷ up) =
    let l = link p n task (s n) in l ∷ (if asks_parent pr l then links p s pr (Gives (seeding_len l)) up else [])

-- the first and the last node; of no nodes, one of which no refusal speaks
abbrev pub no_link : Link
no_link = record {
  slot = 0;
  row = record { kind = Rbg2; drbg = kinds.HmacSha256; interval = 1 };
  origin = SeedFile [];
  state = record (fresh_node None) { live = true };
  task = Rests;
}

abbrev pub first_link : List Link → Link
first_link [] = no_link
first_link (l ∷ ls) = l

abbrev pub last_link : List Link → Link
last_link [] = no_link
last_link (l ∷ []) = l
last_link (l ∷ m ∷ ls) = last_link (m ∷ ls)

-- the lengths of the chunks in which RBG3(RS) answers: as many bytes as its entropy has, the last one shorter or empty
abbrev pub chunk_lens : ℕ → ℕ → ℕ → List ℕ
chunk_lens zero size count = []
chunk_lens (suc n) size count = min size count ∷ chunk_lens n size (count - size)

abbrev pub chunks : NodeRow → ℕ → List ℕ
chunks row count = chunk_lens (max 1 (div_ceil count (entropy_len row))) (entropy_len row) count

-- The lengths that a node draws on its source for a task, in order: for a seeding its bytes; for RBG3(RS) the entropy and 8
-- bytes more for each chunk; else, to give, the entropy where the node must be seeded, and for RBG3(XOR) as many bytes as it gives.
abbrev pub wanted_by : Bool → Link → Task → List ℕ
wanted_by pr l Rests = []
wanted_by pr l (Seeds how) = seed_len l.row how ∷ []
wanted_by pr l (Gives len) =
    if is_rs l.row.kind then map (λ _. entropy_len l.row + 8) (chunks l.row len)
    else (if must_seed pr l then entropy_len l.row ∷ [] else []) ++ (if is_xor l.row.kind && nat_lt 0 len then len ∷ [] else [])

abbrev pub wanted : Bool → Link → List ℕ
wanted pr l = wanted_by pr l l.task
