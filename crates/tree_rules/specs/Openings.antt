-- What a tree is opened over, the opening calls, which stand at the front of every history, and the histories behind them.
-- This project's own.
use Rattle.std.specs.Prelude.{◌≡◌, ◌<◌, ℕ, ◌+◌, List, [], ◌++◌, map, filter, flat_map, length, slice_get, unwrap_or, ◌==◌, if◌then◌else◌, None}
use Rattle.std.specs.List.{range_with_len}
use Rattle.tree_config.specs.Tree.{Tree, IsTree}
use Rattle.tree_config.specs.Planned.{IsPlanned}
use Rattle.tree_rules.specs.declared.call.Call.{Call}
use Rattle.tree_rules.specs.declared.call.Call.TheVariants.{Instantiate, Start}
use Rattle.rbg_nodes.specs.Views.{too_short}
use Rattle.tree_rules.specs.Slots.{node_row, lineage}
use Rattle.tree_rules.specs.History.{Entry, Opening, States, opened, states_after}
use Rattle.tree_rules.specs.Fits.{Legal}

-- how deep a node stands: 1 without a parent, else one deeper than its parent
abbrev pub depth : Tree → ℕ → ℕ
depth p n = length (lineage p n)

-- the nodes in the order of their depth, and of one depth in that of their numbers; none stands deeper than there are nodes
abbrev pub by_depth : Tree → List ℕ
by_depth p =
    let all = range_with_len 0 (length p.nodes) in
    flat_map (λ d. filter (λ n. depth p n == d + 1) all) all

-- where the plan opens all nodes: a Start of each source, then an Instantiate of each node with strength 0
abbrev pub opening_calls : Tree → List Call
opening_calls p =
    if p.opens_all then map (λ j. Start j) (range_with_len 0 (length p.sources)) ++ map (λ n. Instantiate n 0) (by_depth p) else []

-- the bytes of node n's seed file, of which those of an RBG1 alone count
abbrev pub seed_at : Opening → ℕ → List ℕ
seed_at f n = unwrap_or (slice_get f.seeds n) []

-- What a tree is opened over, and the entries of its opening calls. The plan is in range, and its nodes make a tree at most 8 deep; there
-- is one seed for each node, none too short for its node, and a list of samples, or that they are not told, and a fault count for each
-- source. Caller 0 makes the calls, without strings.
pub record IsOpening (f : Opening) (o : List Entry) : Type 0 where
  pub planned : IsPlanned 0 f.plan
  pub tree : IsTree 8 f.plan.nodes
  pub seeds : length f.seeds ≡ length f.plan.nodes
  pub long : (n : ℕ) → n < length f.plan.nodes → too_short (node_row f.plan n) (seed_at f n) ≡ None
  pub told : length f.told ≡ length f.plan.sources
  pub faults : length f.faults ≡ length f.plan.sources
  pub calls : map (λ (e : Entry). e.call) o ≡ opening_calls f.plan
  pub callers : map (λ (e : Entry). e.caller) o ≡ map (λ (e : Entry). 0) o
  pub strings : map (λ (e : Entry). e.string) o ≡ map (λ (e : Entry). []) o
  pub legal : Legal f.plan (opened f) o

-- the states after the opening calls and the entries behind them
abbrev pub states_behind : Opening → List Entry → List Entry → States
states_behind f o h = states_after f.plan (states_after f.plan (opened f) o) h

-- the entries h behind the opening calls o make a legal history over what the tree is opened over
pub record IsHistory (f : Opening) (o h : List Entry) : Type 0 where
  pub opening : IsOpening f o
  pub legal : Legal f.plan (states_after f.plan (opened f) o) h
