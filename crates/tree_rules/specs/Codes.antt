-- Openings and entries as lists of numbers, as a table of turns sees them. Each is written in front of a list, and different ones begin
-- differently. A list of values is written with 1 before each and 0 at its end, and a variant with its number first.
-- This project's own.
use Rattle.std.specs.Prelude.{ℕ, List, [], ◌∷◌, Bool, true, false, Option, Some, None}
use Rattle.rbg_bytes.specs.declared.kind.Kind.{Kind}
use Rattle.rbg_bytes.specs.declared.kind.Kind.TheVariants as kinds
use Rattle.rbg_bytes.specs.declared.cond.Cond.{Cond}
use Rattle.rbg_bytes.specs.declared.cond.Cond.TheVariants as conds
use Rattle.health_tests.specs.declared.windows.Test.{Test}
use Rattle.health_tests.specs.declared.windows.Test.TheVariants.{Repetition, Proportion}
use Rattle.tree_config.specs.declared.plan.NodeKind.{NodeKind}
use Rattle.tree_config.specs.declared.plan.NodeKind.TheVariants.{Rbg1, Rbg2, Rbg3Xor, Rbg3Rs, Child}
use Rattle.tree_config.specs.declared.plan.Origin.{Origin}
use Rattle.tree_config.specs.declared.plan.Origin.TheVariants.{SeedFile, Source, Parent}
use Rattle.tree_config.specs.declared.plan.NodePlan.{NodePlan}
use Rattle.tree_config.specs.declared.plan.SourcePlan.{SourcePlan}
use Rattle.tree_config.specs.Tree.{Tree}
use Rattle.entropy_source.specs.Source.{SourceAct, Began, Read, Alarmed, Started, Block}
use Rattle.rbg_nodes.specs.Node.{How, New, Renew, NodeAct, Seeded, Gave, Cleared}
use Rattle.tree_rules.specs.declared.call.Call.{Call}
use Rattle.tree_rules.specs.declared.call.Call.TheVariants.{Instantiate, Generate, Reseed, Uninstantiate, Start, Status}
use Rattle.tree_rules.specs.declared.reply.Reply.{Reply}
use Rattle.tree_rules.specs.History.{SlotAct, AtNode, AtSource, Act, Entry, Opening}

-- a way to write a value in front of a list
abbrev pub Writer : Type 0 → Type 0
Writer A = A → List ℕ → List ℕ

abbrev pub number : Writer ℕ
number n r = n ∷ r

abbrev pub list_of : {A : Type 0} → Writer A → Writer (List A)
list_of w [] r = 0 ∷ r
list_of w (x ∷ xs) r = 1 ∷ w x (list_of w xs r)

abbrev pub option_of : {A : Type 0} → Writer A → Writer (Option A)
option_of w None r = 0 ∷ r
option_of w (Some x) r = 1 ∷ w x r

abbrev pub numbers : Writer (List ℕ)
numbers xs r = list_of number xs r

abbrev pub flag : Writer Bool
flag false r = 0 ∷ r
flag true r = 1 ∷ r

abbrev pub test : Writer Test
test Repetition r = 0 ∷ r
test Proportion r = 1 ∷ r

abbrev pub source_act : Writer SourceAct
source_act Began r = 0 ∷ r
source_act (Read asked got count) r = 1 ∷ asked ∷ count ∷ option_of numbers got r
source_act (Alarmed index t) r = 2 ∷ index ∷ test t r
source_act Started r = 3 ∷ r
source_act (Block from to bytes) r = 4 ∷ from ∷ to ∷ numbers bytes r

abbrev pub how : Writer How
how New r = 0 ∷ r
how Renew r = 1 ∷ r

abbrev pub node_act : Writer NodeAct
node_act (Seeded h material string) r = 0 ∷ how h (numbers material (numbers string r))
node_act (Gave add len bytes) r = 1 ∷ len ∷ numbers add (numbers bytes r)
node_act Cleared r = 2 ∷ r

abbrev pub slot_act : Writer SlotAct
slot_act (AtNode a) r = 0 ∷ node_act a r
slot_act (AtSource a) r = 1 ∷ source_act a r

abbrev pub act : Writer Act
act a r = a.slot ∷ slot_act a.act r

abbrev pub call : Writer Call
call (Instantiate n strength) r = 0 ∷ n ∷ strength ∷ r
call (Generate n count strength pr) r = 1 ∷ n ∷ count ∷ strength ∷ flag pr r
call (Reseed n pr) r = 2 ∷ n ∷ flag pr r
call (Uninstantiate n) r = 3 ∷ n ∷ r
call (Start j) r = 4 ∷ j ∷ r
call (Status n) r = 5 ∷ n ∷ r

abbrev pub reply : Writer Reply
reply x r = x.code ∷ x.a ∷ x.b ∷ x.len ∷ r

-- the caller first, and then the chain
abbrev pub entry : Writer Entry
entry e r = e.caller ∷ numbers e.chain (call e.call (numbers e.string (list_of act e.acts (reply e.reply (numbers e.bytes r)))))

abbrev pub node_kind : Writer NodeKind
node_kind Rbg1 r = 0 ∷ r
node_kind Rbg2 r = 1 ∷ r
node_kind Rbg3Xor r = 2 ∷ r
node_kind Rbg3Rs r = 3 ∷ r
node_kind Child r = 4 ∷ r

abbrev pub kind : Writer Kind
kind kinds.HmacSha256 r = 0 ∷ r
kind kinds.HmacSha384 r = 1 ∷ r
kind kinds.HmacSha512 r = 2 ∷ r
kind kinds.CtrAes128 r = 3 ∷ r
kind kinds.CtrAes192 r = 4 ∷ r
kind kinds.CtrAes256 r = 5 ∷ r

abbrev pub cond : Writer Cond
cond conds.HmacSha256 r = 0 ∷ r
cond conds.DfAes256 r = 1 ∷ r

abbrev pub origin : Writer Origin
origin (SeedFile name) r = 0 ∷ numbers name r
origin (Source j) r = 1 ∷ j ∷ r
origin (Parent n) r = 2 ∷ n ∷ r

abbrev pub node_plan : Writer NodePlan
node_plan x r = x.interval ∷ node_kind x.kind (kind x.drbg (origin x.origin r))

abbrev pub source_plan : Writer SourcePlan
source_plan x r = x.num ∷ x.den ∷ x.cutoffs.rct ∷ x.cutoffs.window ∷ x.cutoffs.apt ∷ x.startup ∷ cond x.cond (numbers x.samples r)

abbrev pub plan : Writer Tree
plan x r = list_of node_plan x.nodes (list_of source_plan x.sources (flag x.opens_all r))

-- what a tree is opened over
abbrev pub opening : Writer Opening
opening x r = plan x.plan (list_of numbers x.seeds (list_of (option_of numbers) x.told (numbers x.faults r)))

-- an entry as a list of its own
abbrev pub entry_list : Entry → List ℕ
entry_list e = entry e []
