-- What is done to the nodes of a chain once its source has answered: how a node is seeded, how it gives, and in which order.
-- This project's own rules, for the constructions that SP 800-90C names RBG1, RBG2, RBG3(XOR) and RBG3(RS).
use Rattle.std.specs.Prelude.{ℕ, List, [], ◌∷◌, ◌++◌, take, if◌then◌else◌, Bool, true, false, unwrap_or}
use Rattle.tree_config.specs.declared.plan.Origin.{Origin}
use Rattle.tree_config.specs.declared.plan.Origin.TheVariants.{SeedFile, Source, Parent}
use Rattle.rbg_nodes.specs.Node.{How, Renew, NodeAct, Seeded, Gave, NodeState, node_after, given_bytes}
use Rattle.rbg_bytes.specs.Xor.{xor_bytes}
use Rattle.tree_rules.specs.History.{Act, AtNode}
use Rattle.tree_rules.specs.Links.{Task, Seeds, Gives, Rests, Link, is_rs, is_xor, must_seed, seeding_len, chunks}

-- acts of nodes, and the bytes that come of them
pub record Work : Type 0 where
  pub acts : List Act
  pub bytes : List ℕ

abbrev pub no_work : Work
no_work = record { acts = []; bytes = [] }

-- the first and the last of the drawn strings
abbrev pub first_drawn : List (List ℕ) → List ℕ
first_drawn [] = []
first_drawn (d ∷ drawn) = d

abbrev pub last_drawn : List (List ℕ) → List ℕ
last_drawn [] = []
last_drawn (d ∷ []) = d
last_drawn (d ∷ e ∷ drawn) = last_drawn (e ∷ drawn)

abbrev pub at_node : Link → NodeAct → Act
at_node l a = record { slot = l.slot; act = AtNode a }

-- one generate of a node in some state
abbrev pub gave : Link → NodeState → List ℕ → ℕ → NodeAct
gave l s add len = Gave add len (given_bytes l.row s add len)

-- RBG3(RS): before each chunk a reseed with a drawn string of its own, the first one with the additional input, and then a generate
abbrev pub chunked : Link → NodeState → List ℕ → List (List ℕ) → List ℕ → Work
chunked l s add (d ∷ drawn) (len ∷ lens) =
    let seeded = Seeded Renew d add in
    let now = node_after l.row s seeded in
    let given = gave l now [] len in
    let rest = chunked l (node_after l.row now given) [] drawn lens in
    record { acts = at_node l seeded ∷ at_node l given ∷ rest.acts; bytes = given_bytes l.row now [] len ++ rest.bytes }
chunked l s add _ _ = no_work

-- the material of a seeding: the front of the seed that an RBG1 keeps, the bytes that the parent gave, or the first drawn string
abbrev pub material_of : Link → List (List ℕ) → List ℕ → Origin → List ℕ
material_of l drawn above (SeedFile name) = take (seeding_len l) (unwrap_or l.state.kept [])
material_of l drawn above (Parent q) = above
material_of l drawn above (Source j) = first_drawn drawn

abbrev pub material : Link → List (List ℕ) → List ℕ → List ℕ
material l drawn above = material_of l drawn above l.origin

-- one seeding
abbrev pub seeded_work : Link → How → List ℕ → List ℕ → Work
seeded_work l how stuff string = record { acts = at_node l (Seeded how stuff string) ∷ []; bytes = [] }

-- one generate, after a reseed where the node must be seeded; the string goes into the first of the two alone
abbrev pub given_work : Link → Bool → List ℕ → List ℕ → ℕ → Work
given_work l true stuff string len =
    let seeded = Seeded Renew stuff string in
    let now = node_after l.row l.state seeded in
    record { acts = at_node l seeded ∷ at_node l (gave l now [] len) ∷ []; bytes = given_bytes l.row now [] len }
given_work l false stuff string len =
    record { acts = at_node l (gave l l.state string len) ∷ []; bytes = given_bytes l.row l.state string len }

-- RBG3(XOR) answers its DRBG's bytes xor those of the last drawn string
abbrev pub mixed : Link → List (List ℕ) → Work → Work
mixed l drawn w = if is_xor l.row.kind then record w { bytes = xor_bytes w.bytes (last_drawn drawn) } else w

-- a node's own part, by its task, once its parent gave the bytes `above`
abbrev pub task_work : Bool → List (List ℕ) → List ℕ → Link → List ℕ → Task → Work
task_work pr drawn string l above Rests = no_work
task_work pr drawn string l above (Seeds how) = seeded_work l how (material l drawn above) string
task_work pr drawn string l above (Gives len) =
    if is_rs l.row.kind then chunked l l.state string drawn (chunks l.row len)
    else mixed l drawn (given_work l (must_seed pr l) (material l drawn above) string len)

-- The work of a chain: the parent's before the node's own. The string is the named node's alone, and the drawn strings are the
-- last node's.
abbrev pub worked : Bool → List (List ℕ) → List ℕ → List Link → Work
worked pr drawn string [] = no_work
worked pr drawn string (l ∷ up) =
    let above = worked pr drawn [] up in
    let mine = task_work pr drawn string l above.bytes l.task in
    record { acts = above.acts ++ mine.acts; bytes = mine.bytes }
