-- What happens to a node of a tree: its acts, its state, and the state after acts.
-- SP 800-90A Rev. 1, 9 for instantiation, reseeding and generates of its DRBG; the constructions are named as in SP 800-90C.
use Rattle.std.specs.Prelude.{ℕ, ◌+◌, ◌/◌, List, [], ◌∷◌, take, drop, nat_lt, Bool, true, false, Option, Some, None}
use Rattle.rbg_bytes.specs.Kinds.{strength}
use Rattle.drbg_any.specs.Drbg.{Working, instantiated, reseeded, generated, after_generate}
use Rattle.tree_config.specs.declared.plan.NodeKind.{NodeKind}
use Rattle.tree_config.specs.declared.plan.NodeKind.TheVariants.{Rbg1}
use Rattle.rbg_nodes.specs.declared.node.NodeRow.{NodeRow}

-- whether a seeding instantiates or reseeds
pub data How : Type 0 where
  New : How
  Renew : How

-- one event of a node
pub data NodeAct : Type 0 where
  -- it was instantiated or reseeded, with this material and this personalization string or additional input
  Seeded : (how : How) (material string : List ℕ) → NodeAct
  -- one generate of its DRBG, with the bytes that it gave
  Gave : (add : List ℕ) (len : ℕ) (bytes : List ℕ) → NodeAct
  -- it was uninstantiated
  Cleared : NodeAct

-- the state of a node: whether it is instantiated, Key and V and the reseed counter of its DRBG, its seedings and its generates in
-- number, and, of an RBG1, its seed while that was not used
pub record NodeState : Type 0 where
  pub live : Bool
  pub working : Working
  pub counter : ℕ
  pub seeds : ℕ
  pub gives : ℕ
  pub kept : Option (List ℕ)

-- of a node that is not instantiated
abbrev pub no_working : Working
no_working = record { key = []; value = [] }

-- the bytes of entropy of a seeding: as many bits as the strength
abbrev pub entropy_len : NodeRow → ℕ
entropy_len row = strength row.drbg / 8

-- the bytes of a seeding; an instantiation takes a nonce of half as many bytes too
abbrev pub seed_len : NodeRow → How → ℕ
seed_len row New = strength row.drbg / 8 + strength row.drbg / 16
seed_len row Renew = strength row.drbg / 8

-- Key and V after a seeding
abbrev pub seeded_working : NodeRow → How → List ℕ → List ℕ → Working → Working
seeded_working row New material string w = instantiated row.drbg (take (entropy_len row) material) (drop (entropy_len row) material) string
seeded_working row Renew material string w = reseeded row.drbg material string w

-- the state after one act
abbrev pub node_after : NodeRow → NodeState → NodeAct → NodeState
node_after row s (Seeded how material string) =
    record { live = true; working = seeded_working row how material string s.working; counter = 1; seeds = s.seeds + 1; gives = s.gives; kept = None }
node_after row s (Gave add len bytes) =
    record s { working = after_generate row.drbg add len s.working; counter = s.counter + 1; gives = s.gives + 1 }
node_after row s Cleared = record s { live = false; working = no_working; counter = 0 }

-- the state after acts in a row
abbrev pub node_after_all : NodeRow → NodeState → List NodeAct → NodeState
node_after_all row s [] = s
node_after_all row s (a ∷ acts) = node_after_all row (node_after row s a) acts

-- a node that was never instantiated, with the seed that it keeps
abbrev pub fresh_node : Option (List ℕ) → NodeState
fresh_node kept = record { live = false; working = no_working; counter = 0; seeds = 0; gives = 0; kept = kept }

-- its reseed counter is above its interval
abbrev pub is_due : NodeRow → NodeState → Bool
is_due row s = nat_lt row.interval s.counter

-- the bytes of a generate
abbrev pub given_bytes : NodeRow → NodeState → List ℕ → ℕ → List ℕ
given_bytes row s add len = generated row.drbg add len s.working

-- the seed that a node keeps out of the bytes of its seed file, which an RBG1 alone does
abbrev pub kept_by : NodeKind → ℕ → List ℕ → Option (List ℕ)
kept_by Rbg1 len seed = Some (take len seed)
kept_by _ len seed = None

abbrev pub kept_seed : NodeRow → List ℕ → Option (List ℕ)
kept_seed row seed = kept_by row.kind (seed_len row New) seed
