-- Examples that compute: chains, lengths drawn, samples, codes and acts of calls on two plans.
-- The first plan has an RBG2 and a child of it on one source; the second has the two RBG3s on one source, an RBG1 and a child of it.
use Rattle.std.proofs.Common.{◌≡◌, ◌∷◌, ℕ, [], zero, suc, Bool, true, false, map, refl}
use Rattle.std.specs.Prelude.{Option, Some, None, replicate}
use Rattle.entropy_source.specs.Source.{opened_source}
use Rattle.entropy_source.specs.declared.answers.SourceMode.{SourceMode}
use Rattle.health_tests.specs.declared.windows.Test.TheVariants.{Repetition}
use Rattle.rbg_nodes.specs.Node.{fresh_node}
use Rattle.tree_config.specs.Tree.{Tree}
use Rattle.tree_config.specs.declared.plan.NodeKind.TheVariants.{Child, Rbg1, Rbg2, Rbg3Rs, Rbg3Xor}
use Rattle.tree_config.specs.declared.plan.Origin.TheVariants.{Parent, SeedFile, Source}
use Rattle.tree_config.specs.declared.plan.SourcePlan.{SourcePlan}
use Rattle.tree_rules.specs.Chain.{Chain, need, slots_of, wants}
use Rattle.tree_rules.specs.History.{Act, NodeIs, SlotState, SourceIs, States}
use Rattle.tree_rules.specs.Openings.{opening_calls}
use Rattle.tree_rules.specs.Replies.{chain_of, refusal}
use Rattle.tree_rules.specs.Slots.{path}
use Rattle.tree_rules.specs.Works.{worked}
use Rattle.tree_rules.specs.declared.call.Call.{Call}
use Rattle.tree_rules.specs.declared.call.Call.TheVariants.{Generate, Instantiate, Reseed, Start, Status}
use Rattle.tree_rules.specs.declared.reply.Reply.{Reply}
use Rattle.entropy_source.specs.declared.answers.SourceMode.TheVariants as modes
use Rattle.rbg_bytes.specs.declared.kind.Kind.TheVariants as kinds
use Rattle.rbg_bytes.specs.declared.cond.Cond.TheVariants as conds

abbrev ramp : SourcePlan
ramp = record { samples = 114 ∷ 97 ∷ 109 ∷ 112 ∷ []; num = 8; den = 1; cutoffs = record { rct = 4; window = 512; apt = 257 }; startup = 1024; cond = conds.HmacSha256 }

abbrev pair : Tree
pair = record {
  opens_all = false;
  sources = ramp ∷ [];
  nodes = record { kind = Rbg2; drbg = kinds.HmacSha256; interval = 2; origin = Source 0 }
      ∷ record { kind = Child; drbg = kinds.CtrAes256; interval = 1; origin = Parent 0 } ∷ [];
}

abbrev node_with : ℕ → SlotState
node_with counter = NodeIs (record (fresh_node None) { live = true; counter = counter; seeds = 1 })

abbrev source_with : ℕ → SourceMode → SlotState
source_with taken mode = SourceIs (record (opened_source None 0) { taken = taken; mode = mode })

abbrev dead : SlotState
dead = NodeIs (fresh_node None)

-- node 0 and node 1 of the pair with these counters, and the source
abbrev at_counters : ℕ → ℕ → ℕ → SourceMode → States
at_counters a b taken mode zero = node_with a
at_counters a b taken mode (suc zero) = node_with b
at_counters a b taken mode _ = source_with taken mode

abbrev not_yet : States
not_yet zero = dead
not_yet (suc zero) = dead
not_yet _ = source_with 0 modes.Idle

abbrev says : ℕ → ℕ → ℕ → Option Reply
says code a b = Some (record { code = code; a = a; b = b; len = 0 })

abbrev ask : Bool → Call
ask pr = Generate 1 32 0 pr

-- a child and its parent are both due, so the source is needed, and both are reseeded before they give
abbrev both_due : Chain
both_due = chain_of pair (at_counters 3 2 1104 modes.Running) (ask false) []

due_chain : slots_of both_due ≡ 1 ∷ 0 ∷ 2 ∷ []
due_chain = refl

due_wants : wants (ask false) both_due ≡ 32 ∷ []
due_wants = refl

due_need : need (ask false) both_due ≡ 40
due_need = refl

due_code : refusal pair (ask false) [] both_due ≡ None
due_code = refl

due_acts : map (λ (a : Act). a.slot) (worked false (replicate 1 []) [] both_due.links).acts ≡ 0 ∷ 0 ∷ 1 ∷ 1 ∷ []
due_acts = refl

-- the child alone is due: its parent gives without the source
child_due : slots_of (chain_of pair (at_counters 2 2 1104 modes.Running) (ask false) []) ≡ 1 ∷ 0 ∷ []
child_due = refl

-- prediction resistance while the source is in error, and an Instantiate before any Start
in_error : refusal pair (ask true) [] (chain_of pair (at_counters 2 2 1184 (modes.Alarmed 1153 Repetition)) (ask true) []) ≡ says 11 1 1153
in_error = refl

not_started : refusal pair (Instantiate 0 0) [] (chain_of pair not_yet (Instantiate 0 0) []) ≡ says 11 0 0
not_started = refl

-- no such node: the chain is empty; Instantiate of a child that is instantiated: the child alone
none_there : slots_of (chain_of pair (at_counters 2 2 1184 modes.Running) (Reseed 7 true) []) ≡ []
none_there = refl

instantiated_chain : slots_of (chain_of pair (at_counters 2 2 1184 modes.Running) (Instantiate 1 0) []) ≡ 1 ∷ []
instantiated_chain = refl

-- the path of the child
child_path : path pair 1 ≡ 1 ∷ 0 ∷ 2 ∷ []
child_path = refl

abbrev four : Tree
four = record {
  opens_all = true;
  sources = ramp ∷ [];
  nodes = record { kind = Rbg3Xor; drbg = kinds.HmacSha256; interval = 1000; origin = Source 0 }
      ∷ record { kind = Rbg3Rs; drbg = kinds.HmacSha256; interval = 1000; origin = Source 0 }
      ∷ record { kind = Rbg1; drbg = kinds.HmacSha256; interval = 2; origin = SeedFile (115 ∷ 52 ∷ 56 ∷ []) }
      ∷ record { kind = Child; drbg = kinds.CtrAes128; interval = 10; origin = Parent 2 } ∷ [];
}

-- node 2, which is the RBG1, in some state, and the others as after the opening
abbrev with_rbg1 : SlotState → States
with_rbg1 seed zero = node_with 1
with_rbg1 seed (suc zero) = node_with 1
with_rbg1 seed (suc (suc zero)) = seed
with_rbg1 seed (suc (suc (suc zero))) = node_with 1
with_rbg1 seed _ = source_with 1184 modes.Running

abbrev chain : SlotState → Call → Chain
chain seed c = chain_of four (with_rbg1 seed) c []

abbrev code : SlotState → Call → Option Reply
code seed c = refusal four c [] (chain seed c)

-- RBG3(XOR) draws as many bytes as it gives: two blocks for 40
xor_wants : wants (Generate 0 40 0 false) (chain (node_with 2) (Generate 0 40 0 false)) ≡ 40 ∷ []
xor_wants = refl

xor_need : need (Generate 0 40 0 false) (chain (node_with 2) (Generate 0 40 0 false)) ≡ 80
xor_need = refl

xor_acts : map (λ (a : Act). a.slot) (worked false (replicate 1 []) [] (chain (node_with 2) (Generate 0 40 0 false)).links).acts ≡ 0 ∷ []
xor_acts = refl

xor_of_nothing : slots_of (chain (node_with 2) (Generate 0 0 0 false)) ≡ 0 ∷ []
xor_of_nothing = refl

-- RBG3(RS) draws 40 bytes for each of two chunks: two blocks each
rs_wants : wants (Generate 1 40 0 false) (chain (node_with 2) (Generate 1 40 0 false)) ≡ 40 ∷ 40 ∷ []
rs_wants = refl

rs_need : need (Generate 1 40 0 false) (chain (node_with 2) (Generate 1 40 0 false)) ≡ 160
rs_need = refl

rs_acts : map (λ (a : Act). a.slot) (worked false (replicate 2 []) [] (chain (node_with 2) (Generate 1 40 0 false)).links).acts ≡ 1 ∷ 1 ∷ 1 ∷ 1 ∷ []
rs_acts = refl

too_long : code (node_with 2) (Generate 0 4097 0 false) ≡ says 2 4097 4096
too_long = refl

-- the RBG1 is due
rbg1_due : code (node_with 3) (Generate 2 32 0 false) ≡ says 8 2 3
rbg1_due = refl

rbg1_reseed : code (node_with 3) (Reseed 2 false) ≡ says 6 2 0
rbg1_reseed = refl

child_strength : code (node_with 3) (Generate 3 32 192 true) ≡ says 5 192 128
child_strength = refl

child_pr : code (node_with 3) (Generate 3 32 0 true) ≡ says 7 2 0
child_pr = refl

child_reseed : code (node_with 3) (Reseed 3 false) ≡ says 8 2 3
child_reseed = refl

child_again : code (node_with 3) (Instantiate 3 0) ≡ says 3 3 0
child_again = refl

no_such_node : code (node_with 3) (Status 9) ≡ says 1 9 4
no_such_node = refl

due_status : code (node_with 3) (Status 2) ≡ None
due_status = refl

-- the RBG1 was uninstantiated, and its seed was used
seed_used : code dead (Instantiate 2 0) ≡ says 6 2 0
seed_used = refl

child_goes_on : code dead (Generate 3 16 0 false) ≡ None
child_goes_on = refl

child_needs_parent : code dead (Reseed 3 false) ≡ says 4 2 0
child_needs_parent = refl

-- the opening calls, and the path of the child of the RBG1
four_open : opening_calls four ≡ Start 0 ∷ Instantiate 0 0 ∷ Instantiate 1 0 ∷ Instantiate 2 0 ∷ Instantiate 3 0 ∷ []
four_open = refl

pair_stays_closed : opening_calls pair ≡ []
pair_stays_closed = refl

rbg1_path : path four 3 ≡ 3 ∷ 2 ∷ []
rbg1_path = refl
