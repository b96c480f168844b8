-- What is written can be read back in one way only.
use Rattle.std.proofs.Common.{◌≡◌, ℕ, List, [], ◌∷◌, refl, ap, Bool, true, false}
use Rattle.std.specs.Prelude.{Option, Some, None}
use Rattle.rbg_bytes.specs.declared.kind.Kind.{Kind}
use Rattle.rbg_bytes.specs.declared.kind.Kind.TheVariants as kinds
use Rattle.rbg_bytes.specs.declared.cond.Cond.{Cond}
use Rattle.rbg_bytes.specs.declared.cond.Cond.TheVariants as conds
use Rattle.health_tests.specs.declared.windows.Test.TheVariants.{Repetition, Proportion}
use Rattle.tree_config.specs.declared.plan.NodeKind.{NodeKind}
use Rattle.tree_config.specs.declared.plan.NodeKind.TheVariants.{Rbg1, Rbg2, Rbg3Xor, Rbg3Rs, Child}
use Rattle.tree_config.specs.declared.plan.Origin.{Origin}
use Rattle.tree_config.specs.declared.plan.Origin.TheVariants.{SeedFile, Source, Parent}
use Rattle.tree_config.specs.declared.plan.NodePlan.{NodePlan}
use Rattle.tree_config.specs.declared.plan.SourcePlan.{SourcePlan}
use Rattle.tree_config.specs.Tree.{Tree}
use Rattle.entropy_source.specs.Source.{Began, Read, Alarmed, Started, Block}
use Rattle.rbg_nodes.specs.Node.{New, Renew, Seeded, Gave, Cleared}
use Rattle.tree_rules.specs.declared.call.Call.{Call}
use Rattle.tree_rules.specs.declared.call.Call.TheVariants.{Instantiate, Generate, Reseed, Uninstantiate, Start, Status}
use Rattle.tree_rules.specs.declared.reply.Reply.{Reply}
use Rattle.tree_rules.specs.History.{SlotAct, AtNode, AtSource, Act, Entry, Opening}
use Rattle.tree_rules.specs.Codes as codes
use Rattle.tree_rules.specs.Codes.{Writer, number, list_of, option_of, numbers}

-- a writer of which both the value and what stands behind it can be told
abbrev pub ReadsBack : {A : Type 0} → Writer A → Type 0
ReadsBack {A} w = (x y : A) (r s : List ℕ) → w x r ≡ w y s → (x ≡ y) × (r ≡ s)

number_back : ReadsBack number
number_back x y r s h = (cc, cc)

pub list_back : {A : Type 0} (w : Writer A) → ReadsBack w → ReadsBack (list_of w)
list_back w back [] [] r s h = (refl, cc)
list_back w back [] (y ∷ ys) r s h = cc
list_back w back (x ∷ xs) [] r s h = cc
list_back w back (x ∷ xs) (y ∷ ys) r s h =
    let rest : w x (list_of w xs r) ≡ w y (list_of w ys s) = cc in
    let one = back x y (list_of w xs r) (list_of w ys s) rest in
    let more = list_back w back xs ys r s one.1 in (cc (one.0, more.0), more.1)

option_back : {A : Type 0} (w : Writer A) → ReadsBack w → ReadsBack (option_of w)
option_back w back None None r s h = (refl, cc)
option_back w back None (Some y) r s h = cc
option_back w back (Some x) None r s h = cc
option_back w back (Some x) (Some y) r s h =
    let rest : w x r ≡ w y s = cc in let one = back x y r s rest in (ap Some one.0, one.1)

pub numbers_back : ReadsBack numbers
numbers_back xs ys r s h = list_back number number_back xs ys r s h

flag_back : ReadsBack codes.flag
flag_back true true r s h = (refl, cc)
flag_back false false r s h = (refl, cc)
flag_back x y r s h = cc

call_back : ReadsBack codes.call
call_back (Instantiate n x) (Instantiate m y) r s h = (cc, cc)
call_back (Generate n a b p) (Generate m c d q) r s h =
    let rest : codes.flag p r ≡ codes.flag q s = cc in let one = flag_back p q r s rest in (cc (one.0), one.1)
call_back (Reseed n p) (Reseed m q) r s h =
    let rest : codes.flag p r ≡ codes.flag q s = cc in let one = flag_back p q r s rest in (cc (one.0), one.1)
call_back (Uninstantiate n) (Uninstantiate m) r s h = (cc, cc)
call_back (Start n) (Start m) r s h = (cc, cc)
call_back (Status n) (Status m) r s h = (cc, cc)
call_back x y r s h = cc

test_back : ReadsBack codes.test
test_back Repetition Repetition r s h = (refl, cc)
test_back Proportion Proportion r s h = (refl, cc)
test_back x y r s h = cc

how_back : ReadsBack codes.how
how_back New New r s h = (refl, cc)
how_back Renew Renew r s h = (refl, cc)
how_back x y r s h = cc

source_act_back : ReadsBack codes.source_act
source_act_back Began Began r s h = (refl, cc)
source_act_back (Read a g c) (Read b k d) r s h =
    let rest : option_of numbers g r ≡ option_of numbers k s = cc in
    let one = option_back numbers numbers_back g k r s rest in (cc (one.0), one.1)
source_act_back (Alarmed i t) (Alarmed j u) r s h =
    let rest : codes.test t r ≡ codes.test u s = cc in let one = test_back t u r s rest in (cc (one.0), one.1)
source_act_back Started Started r s h = (refl, cc)
source_act_back (Block a b c) (Block d e f) r s h =
    let rest : numbers c r ≡ numbers f s = cc in let one = numbers_back c f r s rest in (cc (one.0), one.1)
source_act_back x y r s h = cc

node_act_back : ReadsBack codes.node_act
node_act_back (Seeded h m t) (Seeded i n u) r s e =
    let rest : codes.how h (numbers m (numbers t r)) ≡ codes.how i (numbers n (numbers u s)) = cc in
    let one = how_back h i _ _ rest in
    let two = numbers_back m n _ _ one.1 in
    let three = numbers_back t u r s two.1 in (cc (one.0, two.0, three.0), three.1)
node_act_back (Gave a l b) (Gave c m d) r s e =
    let rest : numbers a (numbers b r) ≡ numbers c (numbers d s) = cc in
    let two = numbers_back a c _ _ rest in
    let three = numbers_back b d r s two.1 in (cc (two.0, three.0), three.1)
node_act_back Cleared Cleared r s e = (refl, cc)
node_act_back x y r s h = cc

slot_act_back : ReadsBack codes.slot_act
slot_act_back (AtNode a) (AtNode b) r s h =
    let rest : codes.node_act a r ≡ codes.node_act b s = cc in let one = node_act_back a b r s rest in (ap AtNode one.0, one.1)
slot_act_back (AtSource a) (AtSource b) r s h =
    let rest : codes.source_act a r ≡ codes.source_act b s = cc in let one = source_act_back a b r s rest in (ap AtSource one.0, one.1)
slot_act_back x y r s h = cc

act_back : ReadsBack codes.act
act_back x y r s h =
    let at : x.slot ≡ y.slot = cc in
    let rest : codes.slot_act x.act r ≡ codes.slot_act y.act s = cc in
    let one = slot_act_back x.act y.act r s rest in
    let whole : ℕ → SlotAct → Act = λ k a. record { slot = k; act = a } in
    let same : whole x.slot x.act ≡ whole y.slot y.act = rw (at, one.0) refl in (same, one.1)

reply_back : ReadsBack codes.reply
reply_back x y r s h =
    let c : x.code ≡ y.code = cc in let a : x.a ≡ y.a = cc in let b : x.b ≡ y.b = cc in let l : x.len ≡ y.len = cc in
    let whole : ℕ → ℕ → ℕ → ℕ → Reply = λ c a b l. record { code = c; a = a; b = b; len = l } in
    let same : whole x.code x.a x.b x.len ≡ whole y.code y.a y.b y.len = rw (c, a, b, l) refl in (same, cc)

pub entry_back : ReadsBack codes.entry
entry_back x y r s h =
    let c : x.caller ≡ y.caller = cc in
    let h1 : numbers x.chain _ ≡ numbers y.chain _ = cc in
    let chain = numbers_back x.chain y.chain _ _ h1 in
    let call = call_back x.call y.call _ _ chain.1 in
    let string = numbers_back x.string y.string _ _ call.1 in
    let acts = list_back codes.act act_back x.acts y.acts _ _ string.1 in
    let reply = reply_back x.reply y.reply _ _ acts.1 in
    let bytes = numbers_back x.bytes y.bytes r s reply.1 in
    let whole : ℕ → Call → List ℕ → List ℕ → List Act → Reply → List ℕ → Entry =
    λ a b c d e f g. record { caller = a; call = b; string = c; chain = d; acts = e; reply = f; bytes = g } in
    let same : whole x.caller x.call x.string x.chain x.acts x.reply x.bytes ≡ whole y.caller y.call y.string y.chain y.acts y.reply y.bytes =
    rw (c, call.0, string.0, chain.0, acts.0, reply.0, bytes.0) refl in (same, bytes.1)

node_kind_back : ReadsBack codes.node_kind
node_kind_back Rbg1 Rbg1 r s h = (refl, cc)
node_kind_back Rbg2 Rbg2 r s h = (refl, cc)
node_kind_back Rbg3Xor Rbg3Xor r s h = (refl, cc)
node_kind_back Rbg3Rs Rbg3Rs r s h = (refl, cc)
node_kind_back Child Child r s h = (refl, cc)
node_kind_back x y r s h = cc

kind_back : ReadsBack codes.kind
kind_back kinds.HmacSha256 kinds.HmacSha256 r s h = (refl, cc)
kind_back kinds.HmacSha384 kinds.HmacSha384 r s h = (refl, cc)
kind_back kinds.HmacSha512 kinds.HmacSha512 r s h = (refl, cc)
kind_back kinds.CtrAes128 kinds.CtrAes128 r s h = (refl, cc)
kind_back kinds.CtrAes192 kinds.CtrAes192 r s h = (refl, cc)
kind_back kinds.CtrAes256 kinds.CtrAes256 r s h = (refl, cc)
kind_back x y r s h = cc

cond_back : ReadsBack codes.cond
cond_back conds.HmacSha256 conds.HmacSha256 r s h = (refl, cc)
cond_back conds.DfAes256 conds.DfAes256 r s h = (refl, cc)
cond_back x y r s h = cc

origin_back : ReadsBack codes.origin
origin_back (SeedFile a) (SeedFile b) r s h =
    let rest : numbers a r ≡ numbers b s = cc in let one = numbers_back a b r s rest in (ap SeedFile one.0, one.1)
origin_back (Source j) (Source k) r s h = (cc, cc)
origin_back (Parent n) (Parent m) r s h = (cc, cc)
origin_back x y r s h = cc

node_plan_back : ReadsBack codes.node_plan
node_plan_back x y r s h =
    let i : x.interval ≡ y.interval = cc in
    let h1 : codes.node_kind x.kind _ ≡ codes.node_kind y.kind _ = cc in
    let one = node_kind_back x.kind y.kind _ _ h1 in
    let two = kind_back x.drbg y.drbg _ _ one.1 in
    let three = origin_back x.origin y.origin r s two.1 in
    let whole : NodeKind → Kind → ℕ → Origin → NodePlan = λ k d i o. record { kind = k; drbg = d; interval = i; origin = o } in
    let same : whole x.kind x.drbg x.interval x.origin ≡ whole y.kind y.drbg y.interval y.origin = rw (one.0, two.0, i, three.0) refl in (same, three.1)

source_plan_back : ReadsBack codes.source_plan
source_plan_back x y r s h =
    let a : x.num ≡ y.num = cc in let b : x.den ≡ y.den = cc in let c : x.cutoffs.rct ≡ y.cutoffs.rct = cc in
    let d : x.cutoffs.window ≡ y.cutoffs.window = cc in let e : x.cutoffs.apt ≡ y.cutoffs.apt = cc in let f : x.startup ≡ y.startup = cc in
    let h1 : codes.cond x.cond (numbers x.samples r) ≡ codes.cond y.cond (numbers y.samples s) = cc in
    let one = cond_back x.cond y.cond (numbers x.samples r) (numbers y.samples s) h1 in
    let two = numbers_back x.samples y.samples r s one.1 in
    let whole : List ℕ → ℕ → ℕ → ℕ → ℕ → ℕ → ℕ → Cond → SourcePlan =
    λ n a b c d e f g. record { samples = n; num = a; den = b; cutoffs = record { rct = c; window = d; apt = e }; startup = f; cond = g } in
    let same : whole x.samples x.num x.den x.cutoffs.rct x.cutoffs.window x.cutoffs.apt x.startup x.cond ≡ whole y.samples y.num y.den y.cutoffs.rct y.cutoffs.window y.cutoffs.apt y.startup y.cond =
    rw (two.0, a, b, c, d, e, f, one.0) refl in (same, two.1)

plan_back : ReadsBack codes.plan
plan_back x y r s h =
    let one = list_back codes.node_plan node_plan_back x.nodes y.nodes _ _ h in
    let two = list_back codes.source_plan source_plan_back x.sources y.sources _ _ one.1 in
    let three = flag_back x.opens_all y.opens_all r s two.1 in
    let whole : List NodePlan → List SourcePlan → Bool → Tree = λ a b c. record { nodes = a; sources = b; opens_all = c } in
    let same : whole x.nodes x.sources x.opens_all ≡ whole y.nodes y.sources y.opens_all = rw (one.0, two.0, three.0) refl in (same, three.1)

pub opening_back : ReadsBack codes.opening
opening_back x y r s h =
    let one = plan_back x.plan y.plan _ _ h in
    let two = list_back numbers numbers_back x.seeds y.seeds _ _ one.1 in
    let three = list_back (option_of numbers) (option_back numbers numbers_back) x.told y.told _ _ two.1 in
    let four = numbers_back x.faults y.faults r s three.1 in
    let whole : Tree → List (List ℕ) → List (Option (List ℕ)) → List ℕ → Opening = λ a b c d. record { plan = a; seeds = b; told = c; faults = d } in
    let same : whole x.plan x.seeds x.told x.faults ≡ whole y.plan y.seeds y.told y.faults = rw (one.0, two.0, three.0, four.0) refl in (same, four.1)
