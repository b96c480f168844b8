-- The history of a tree: entries over an opening, and the state of each slot as a fold over the slot's own acts.
-- This project's own.
use Rattle.std.specs.Prelude.{◌≡◌, ℕ, List, [], ◌∷◌, length, flat_map, slice_get, unwrap_or, ◌==◌, nat_lt, ◌||◌, false, if◌then◌else◌, Bool, Option, None}
use Rattle.tree_config.specs.Tree.{Tree}
use Rattle.entropy_source.specs.Source.{SourceAct, SourceState, source_after, opened_source}
use Rattle.rbg_nodes.specs.Node.{NodeAct, NodeState, node_after, fresh_node, kept_seed}
use Rattle.tree_rules.specs.declared.call.Call.{Call}
use Rattle.tree_rules.specs.declared.reply.Reply.{Reply}
use Rattle.tree_rules.specs.Slots.{node_row, source_row, source_number}

-- one event of a tree: that of a node or of a source, at its slot
pub data SlotAct : Type 0 where
  AtNode : NodeAct → SlotAct
  AtSource : SourceAct → SlotAct

pub record Act : Type 0 where
  pub slot : ℕ
  pub act : SlotAct

-- one call with its answer: who made it, its string, the slots that it touches, what it did, the reply and the reply's bytes
pub record Entry : Type 0 where
  pub caller : ℕ
  pub call : Call
  pub string : List ℕ
  pub chain : List ℕ
  pub acts : List Act
  pub reply : Reply
  pub bytes : List ℕ

-- what a tree is opened over: its plan, the bytes of each node's seed file, which count for an RBG1 alone, the samples of each
-- source where they are told, and the fault count of each source
pub record Opening : Type 0 where
  pub plan : Tree
  pub seeds : List (List ℕ)
  pub told : List (Option (List ℕ))
  pub faults : List ℕ

-- the state of a slot
pub data SlotState : Type 0 where
  NodeIs : NodeState → SlotState
  SourceIs : SourceState → SlotState

abbrev pub node_in : SlotState → NodeState
node_in (NodeIs s) = s
node_in (SourceIs s) = fresh_node None

abbrev pub source_in : SlotState → SourceState
source_in (SourceIs s) = s
source_in (NodeIs s) = opened_source None 0

-- the states of all slots
abbrev pub States : Type 0
States = ℕ → SlotState

-- a slot's own acts, in order, and those of a source
abbrev pub own : ℕ → List Act → List SlotAct
own k [] = []
own k (a ∷ acts) = if a.slot == k then a.act ∷ own k acts else own k acts

abbrev pub sources_in : List SlotAct → List SourceAct
sources_in [] = []
sources_in (AtNode a ∷ acts) = sources_in acts
sources_in (AtSource a ∷ acts) = a ∷ sources_in acts

abbrev pub at_slot : ℕ → List Act → List SourceAct
at_slot k acts = sources_in (own k acts)

-- the state of a slot after one of its acts, after acts in a row, and after an entry
abbrev pub slot_after : Tree → ℕ → SlotState → SlotAct → SlotState
slot_after p k (NodeIs s) (AtNode a) = NodeIs (node_after (node_row p k) s a)
slot_after p k (SourceIs s) (AtSource a) = SourceIs (source_after (source_row p (source_number p k)) s a)
slot_after p k s _ = s

abbrev pub slot_after_all : Tree → ℕ → SlotState → List SlotAct → SlotState
slot_after_all p k s [] = s
slot_after_all p k s (a ∷ acts) = slot_after_all p k (slot_after p k s a) acts

abbrev pub after : Tree → ℕ → SlotState → Entry → SlotState
after p k s e = slot_after_all p k s (own k e.acts)

-- a list of slots has this one
abbrev pub has : List ℕ → ℕ → Bool
has [] k = false
has (x ∷ xs) k = (x == k) || has xs k

-- no two slots of a list are the same
abbrev pub Distinct : List ℕ → Type 0
Distinct [] = Unit {0}
Distinct (x ∷ xs) = (has xs x ≡ false) × Distinct xs

-- the states before the opening calls: no node is instantiated and no source is started
abbrev pub opened : Opening → States
opened f k =
    if nat_lt k (length f.plan.nodes)
    then NodeIs (fresh_node (kept_seed (node_row f.plan k) (unwrap_or (slice_get f.seeds k) [])))
    else SourceIs (opened_source (unwrap_or (slice_get f.told (source_number f.plan k)) None) (unwrap_or (slice_get f.faults (source_number f.plan k)) 0))

-- the states after entries in a row, one by one
abbrev pub states_after : Tree → States → List Entry → States
states_after p s [] = s
states_after p s (e ∷ es) = states_after p (λ k. after p k (s k) e) es

-- all acts of a history in order, and the state of a slot by those of them that are its own
abbrev pub acts_of : List Entry → List Act
acts_of h = flat_map (λ e. e.acts) h

abbrev pub state_of : Opening → List Entry → States
state_of f h k = slot_after_all f.plan k (opened f k) (own k (acts_of h))
