-- That the program ends with its work done where nothing stands in its way.
use Rattle.std.proofs.Common.{◌≡◌, ◌≤◌, ◌<◌, ◌⊎◌, ℕ, zero, suc, ◌∷◌, List, [], ◌++◌, length, length-append, map, take, drop, refl, sym, ap, ◌∙◌, inl, inr, subst, arith, append-nil}
use Rattle.std.specs.Prelude.{Bool, true, false, if◌then◌else◌, nat_lt, slice_get, unwrap_or, Option, Some, None, Ok, Err, codes, decimal}
use Rattle.std.proofs.lemmas.Bool.Decides.{nat_tests}
use Rattle.std.specs.Io.KnownBytes.{Consumes, IsAtEnd}
use Rattle.std.proofs.lemmas.List.{take-append-drop, length-map}
use Rattle.frame_codec.specs.Frames.{Asked, IsScript}
use Rattle.frame_codec.proofs.RequestLaws.{one-script, script-longer, script-not-bad, bad-more, begins-more}
use Rattle.rbg_nodes.specs.declared.node.NodeRow.{NodeRow}
use Rattle.rbg_nodes.specs.declared.node.SeedShort.{SeedShort as Short}
use Rattle.rbg_nodes.specs.Node.{New, seed_len}
use Rattle.rbg_nodes.specs.Views.{row_of, short_by, too_short}
use Rattle.tree_config.specs.declared.plan.NodeKind.{NodeKind}
use Rattle.tree_config.specs.declared.plan.NodeKind.TheVariants.{Rbg1, Rbg2, Rbg3Xor, Rbg3Rs, Child}
use Rattle.tree_config.specs.declared.plan.NodePlan.{NodePlan}
use Rattle.tree_config.specs.declared.plan.Origin.{Origin}
use Rattle.tree_config.specs.declared.plan.Origin.TheVariants.{SeedFile, Source, Parent}
use Rattle.tree_config.specs.Planned.{IsFile, IsPlanned, Fits}
use Rattle.tree_rules.specs.History.{Entry, Opening}
use Rattle.tree_rules.specs.Slots.{no_node, node_row}
use Rattle.tree_core.specs.Solo.{seed_in}
use Rattle.tree_config.specs.Tree.{Tree, Plan, stock_tree}
use Rattle.tree_config.proofs.Once.{plan_once, plan_in_range}
use Rattle.session_core.specs.declared.end.End.{End}
use Rattle.session_core.specs.declared.end.End.TheVariants as ends
use Rattle.rbgtree.specs.declared.load.Load.{Load}
use Rattle.rbgtree.specs.declared.status.Status.{Status}
use Rattle.rbgtree.specs.declared.status.Status.TheVariants.{Done, Usage, Config, Malformed, Cut, Text, ReadFault, WriteFault, OpenFault, Memory, Differs, Quota, SeedShort, SourceRefused}
use Rattle.session_core.specs.Answers.{Answered, AreRight}
use Rattle.session_core.specs.Session.{IsHeld}
use Rattle.session_core.proofs.Weaker.{held-weaker}
use Rattle.rbgtree.specs.Files.{Entries}
use Rattle.rbgtree.specs.Check.{HasNoPlan, HasChecked}
use Rattle.vector_text.specs.declared.case.Family.{Family}
use Rattle.rbgtree.specs.Commands.{IsSeedCommand, IsAnswerCommand, IsCheckCommand, IsLoadCommand, IsReplayCommand, family_word}
use Rattle.rbgtree.specs.Statuses.{status_of}
use Rattle.rbgtree.specs.Trees.{EndedFrom, EndedOver, HasNoSeeds, IsShort}
use Rattle.rbgtree.specs.Load.{HasLoaded, LoadedPlan}
use Rattle.rbgtree.specs.Run.{AreServed, HasServed, IsUntouched, Outside, Served, RanPlan, RanSeed, RanAnswer, RanCheck, RanLoad, Ran, HasStatusCause}
use Rattle.rbgtree.specs.Seeds.{AreSeeds, IsFront, IsSeedOf, file_in, planned_file}
use Rattle.rbgtree.specs.Complete.{NoneRose, IsToldFile, HasLongFile, HaveLongFiles, CanBeServed, SeedCanBeServed, AnswerCanBeServed, CanBePassed, LoadCanBeMade, IsComplete}
use Rattle.rbgtree.proofs.Replayed.{one_file, replay_done, replay_same}

-- bytes that were taken stand in front of the others
taken_front : (before now : Option (List ℕ)) (taken script : List ℕ) → before ≡ Some script → Consumes before now taken
    → (rest : List ℕ) × (now ≡ Some rest) × (script ≡ taken ++ rest)
taken_front None now taken script is took = absurd cc
taken_front (Some xs) None taken script is took = absurd took
taken_front (Some xs) (Some ys) taken script is took = (ys, refl, cc)

-- the end of a session over whole frames, fewer than there may be, in which no count rose
pub read_whole : (f : Opening) (o : List Entry) (max : ℕ) (end : End) (before now : Outside) (script : List ℕ) (asked : List Asked)
    → before.left ≡ Some script → IsScript script asked [] → length asked < max → NoneRose before now → HasStatusCause before now (status_of end)
    → IsHeld (AreRight 1 f o []) max end before.left now.left before.out now.out → status_of end ≡ Done
read_whole f o max (ends.Read frames) before now script asked is whole few calm cause session = refl
read_whole f o max (ends.ReadFault count) before now script asked is whole few calm cause session = absurd (calm.input cause.0)
read_whole f o max (ends.WriteFault count) before now script asked is whole few calm cause session = absurd (calm.output cause.0)
read_whole f o max (ends.Bad offset why) before now script asked is whole few calm cause (taken, text, took, wrote, (rs, es, bad, _, _, _, _)) =
    let (rest, left, all) = taken_front before.left now.left taken script is took in
    absurd (script-not-bad (taken ++ rest) asked rs [] offset why (subst (λ (b : List ℕ). IsScript b asked []) all whole) (bad-more taken rest rs offset why bad))
read_whole f o max (ends.Cut offset) before now script asked is whole few calm cause (taken, text, took, wrote, (rs, es, part, cut, some, end, _, _, _, _, _)) =
    let (rest, left, all) = taken_front before.left now.left taken script is took in
    let none : rest ≡ [] = subst (λ (l : Option (List ℕ)). IsAtEnd l) left end in
    let same : script ≡ taken = all ∙ (ap (λ (r : List ℕ). taken ++ r) none ∙ append-nil taken) in
    let empty = (one-script taken asked rs [] part (subst (λ (b : List ℕ). IsScript b asked []) same whole) cut).1 in
    absurd (omega (arith, some, ap (λ (x : List ℕ). length x) empty))
read_whole f o max (ends.Quota frames) before now script asked is whole few calm cause (taken, text, took, wrote, (rs, es, begins, (later, calls), _, full, _, _)) =
    let (rest, left, all) = taken_front before.left now.left taken script is took in
    let (n, front) = begins-more taken rest rs begins in
    let parts : take n (taken ++ rest) ++ drop n (taken ++ rest) ≡ script = take-append-drop n (taken ++ rest) ∙ sym all in
    let (others, longer) = script-longer (take n (taken ++ rest)) (drop n (taken ++ rest)) rs asked [] [] front (subst (λ (b : List ℕ). IsScript b asked []) (sym parts) whole) in
    absurd (omega (
      arith,
      few,
      full,
      ap (λ (x : List Asked). length x) calls,
      length-append (map (λ (e : Answered). e.asked) es) later,
      length-map es (λ (e : Answered). e.asked),
      ap (λ (x : List Asked). length x) longer,
      length-append rs others,
    ))

-- how a session that was held ended
served_done : {S : Type 0} (told : S → Option (List ℕ)) (faults : S → ℕ) (reads : S → ℕ → Option (List ℕ) → S → Type 0) (file : NodePlan → Option (List ℕ)) (p : Tree) (seeds : List (List ℕ)) (before now : Outside) (status : Status) → (end : End) × (status ≡ status_of end) × Served told faults reads p seeds before now end
    → HasStatusCause before now status → NoneRose before now → CanBeServed file p before → (status ≡ Done) ⊎ (status ≡ Memory)
served_done told faults reads file p seeds before now status (end, is, served) cause calm can =
    let f = served.tree.f in
    let o = served.tree.o in
    let held = held-weaker (AreServed faults reads f o served.between) (AreRight 1 f o []) 1048576 end before.left now.left before.out now.out (λ (es : List Answered) (r : AreServed faults reads f o served.between es). r.right) served.session in
    inl (is ∙ read_whole f o 1048576 end before now can.script can.asked can.input can.frames can.few calm (subst (λ (s : Status). HasStatusCause before now s) is cause) held)

-- a seed out of a file that is long enough isn't too short
front_long : (files : Option Entries) (name bytes seed : List ℕ) (need : ℕ) → IsToldFile files name bytes → need ≤ length bytes → IsFront files name need seed → length seed < need → ⊥
front_long files name bytes seed need told long (inl (len, begins)) short = omega (arith, len, short)
front_long files name bytes seed need told long (inr (less, whole)) short =
    let same = one_file files name bytes seed told whole in omega (arith, less, long, ap (λ (x : List ℕ). length x) same)

short_seed : (kind : NodeKind) (need have : ℕ) (s : Short) → short_by kind need have ≡ Some s → (have < need) × (kind ≡ Rbg1)
short_seed Rbg1 need have s h = (by (nat_lt have need) refl h, refl) where
  by : (b : Bool) → nat_lt have need ≡ b → (if b then Some (record { have = have; need = need }) else None) ≡ Some s → have < need
  by true e h = grind (arith, nat_tests)
  by false e h = absurd cc
short_seed Rbg2 need have s h = absurd cc
short_seed Rbg3Xor need have s h = absurd cc
short_seed Rbg3Rs need have s h = absurd cc
short_seed Child need have s h = absurd cc

no_plan : (nodes : List NodePlan) (n : ℕ) → n < length nodes → slice_get nodes n ≡ None → ⊥
no_plan [] n less none = omega (arith, less)
no_plan (x ∷ nodes) zero less none = absurd cc
no_plan (x ∷ nodes) (suc n) less none = no_plan nodes n (omega (arith, less)) none

-- each RBG1 of a plan has its seed from a file
abbrev HaveFiles : (NodePlan → Option (List ℕ)) → Tree → Type 0
HaveFiles file p = (n : ℕ) (plan : NodePlan) → slice_get p.nodes n ≡ Some plan → plan.kind ≡ Rbg1 → file plan ≡ None → ⊥

root_file : (o : Origin) → IsFile 1 o → file_in o ≡ None → ⊥
root_file (SeedFile name) is none = absurd cc
root_file (Source n) is none = absurd is
root_file (Parent n) is none = absurd is

have_files : (p : Tree) → IsPlanned 1 p → HaveFiles planned_file p
have_files p planned n plan at kind none =
    root_file plan.origin (subst (λ (k : NodeKind). Fits 1 (length p.sources) (length p.nodes) k plan.origin) kind (planned.node n plan at).origin) none

-- where each seed file is told and long enough, no seed is too short
module _ (file : NodePlan → Option (List ℕ)) (p : Tree) (seeds : List (List ℕ)) (before : Outside) (have_files : HaveFiles file p) (are : AreSeeds before.files file p.nodes seeds) (long : HaveLongFiles file p before.files) where
  by_file : (n : ℕ) (plan : NodePlan) (s : Short) → slice_get p.nodes n ≡ Some plan → short_by plan.kind (seed_len (row_of plan) New) (length (seed_in seeds n)) ≡ Some s
      → (f : Option (List ℕ)) → file plan ≡ f → HasLongFile before.files f plan → IsSeedOf before.files f plan (seed_in seeds n) → ⊥
  by_file n plan s at short None e has is = have_files n plan at (short_seed plan.kind (seed_len (row_of plan) New) (length (seed_in seeds n)) s short).1 e
  by_file n plan s at short (Some name) e (bytes, told, most) is =
      front_long before.files name bytes (seed_in seeds n) (seed_len (row_of plan) New) told most is (short_seed plan.kind (seed_len (row_of plan) New) (length (seed_in seeds n)) s short).0

  none_short : (node have need : ℕ) → IsShort p seeds (SeedShort node have need) → ⊥
  none_short node have need (less, short, before_it) = by (slice_get p.nodes node) refl where
    by : (o : Option NodePlan) → slice_get p.nodes node ≡ o → ⊥
    by None e = no_plan p.nodes node less e
    by (Some plan) e =
        let row : node_row p node ≡ row_of plan = ap (λ (o : Option NodePlan). row_of (unwrap_or o no_node)) e in
        by_file node plan (record { have = have; need = need }) e (subst (λ (r : NodeRow). too_short r (seed_in seeds node) ≡ Some (record { have = have; need = need })) row short)
        (file plan) refl (long node plan e) (are.each node plan e)

-- the work of a command that ends with its work done where no count of faults rose
abbrev IsDoneWhere : (Status → Type 0) → Outside → Outside → Type 0
IsDoneWhere Did before now = (status : Status) → Did status → HasStatusCause before now status → (status ≡ Done) ⊎ (status ≡ Memory)

without_seeds : (before now : Outside) (calm : NoneRose before now) (status : Status) → HasNoSeeds status → HasStatusCause before now status → (status ≡ Done) ⊎ (status ≡ Memory)
without_seeds before now calm Memory none cause = inr refl
without_seeds before now calm (OpenFault count) none cause = absurd (calm.world cause.0)
without_seeds before now calm (SeedShort node have need) none cause = absurd none
without_seeds before now calm Done none cause = absurd none
without_seeds before now calm Usage none cause = absurd none
without_seeds before now calm (Config fault) none cause = absurd none
without_seeds before now calm (Malformed offset why) none cause = absurd none
without_seeds before now calm (Cut offset) none cause = absurd none
without_seeds before now calm (ReadFault count) none cause = absurd none
without_seeds before now calm (WriteFault count) none cause = absurd none
without_seeds before now calm (Text line why) none cause = absurd none
without_seeds before now calm (Differs differed) none cause = absurd none
without_seeds before now calm (Quota frames) none cause = absurd none
without_seeds before now calm (SourceRefused source) none cause = absurd none

module _ {S : Type 0} (told : S → Option (List ℕ)) (faults : S → ℕ) (file : NodePlan → Option (List ℕ)) (p : Tree) (before now : Outside) (have_files : HaveFiles file p) (calm : NoneRose before now)
    (long : HaveLongFiles file p before.files) (idle : Type 0) where
  over_done : (Did : Status → Type 0) → IsDoneWhere Did before now → (seeds : List (List ℕ)) (status : Status) → AreSeeds before.files file p.nodes seeds
      → EndedOver told faults p seeds before.recordings now.recordings idle Did status → HasStatusCause before now status → (status ≡ Done) ⊎ (status ≡ Memory)
  over_done Did did seeds Memory are ran cause = inr refl
  over_done Did did seeds (OpenFault count) are ran cause = absurd (calm.world cause.0)
  over_done Did did seeds (SeedShort node have need) are (still, same, short) cause = absurd (none_short file p seeds before have_files are long node have need short)
  over_done Did did seeds Done are ran cause = did Done ran cause
  over_done Did did seeds Usage are ran cause = did Usage ran cause
  over_done Did did seeds (Config fault) are ran cause = did (Config fault) ran cause
  over_done Did did seeds (Malformed offset why) are ran cause = did (Malformed offset why) ran cause
  over_done Did did seeds (Cut offset) are ran cause = did (Cut offset) ran cause
  over_done Did did seeds (ReadFault count) are ran cause = did (ReadFault count) ran cause
  over_done Did did seeds (WriteFault count) are ran cause = did (WriteFault count) ran cause
  over_done Did did seeds (Text line why) are ran cause = did (Text line why) ran cause
  over_done Did did seeds (Differs differed) are ran cause = did (Differs differed) ran cause
  over_done Did did seeds (Quota frames) are ran cause = did (Quota frames) ran cause
  over_done Did did seeds (SourceRefused source) are ran cause = did (SourceRefused source) ran cause

  from_done : (Did : List (List ℕ) → Status → Type 0) → ((seeds : List (List ℕ)) → IsDoneWhere (Did seeds) before now) → (status : Status)
      → EndedFrom told faults before.files file p before.recordings now.recordings idle Did status → HasStatusCause before now status → (status ≡ Done) ⊎ (status ≡ Memory)
  from_done Did did status (inl (none, same, still)) cause = without_seeds before now calm status none cause
  from_done Did did status (inr (seeds, are, ran)) cause = over_done (Did seeds) (did seeds) seeds status are ran cause

module _ {S : Type 0} (told : S → Option (List ℕ)) (faults : S → ℕ) (reads : S → ℕ → Option (List ℕ) → S → Type 0) (p : Tree) (before now : Outside) (calm : NoneRose before now) where
  plan_done : (file : NodePlan → Option (List ℕ)) → HaveFiles file p → CanBeServed file p before → (status : Status) → RanPlan told faults reads file p before now status → HasStatusCause before now status
      → (status ≡ Done) ⊎ (status ≡ Memory)
  plan_done file have_files can status ran cause =
      from_done told faults file p before now have_files calm can.seeds (IsUntouched before now) (HasServed told faults reads p before now)
      (λ seeds status served cause. served_done told faults reads file p seeds before now status served cause calm can) status ran cause

  -- a load that was made
  loaded_done : (load : Load) (seeds : List (List ℕ)) → IsDoneWhere (HasLoaded told faults reads p load before.recordings now.recordings before.out now.out seeds) before now
  loaded_done load seeds Done did cause = inl refl
  loaded_done load seeds (WriteFault count) did cause = absurd (calm.output cause.0)
  loaded_done load seeds Memory did cause = absurd did
  loaded_done load seeds (OpenFault count) did cause = absurd did
  loaded_done load seeds (SeedShort node have need) did cause = absurd did
  loaded_done load seeds Usage did cause = absurd did
  loaded_done load seeds (Config fault) did cause = absurd did
  loaded_done load seeds (Malformed offset why) did cause = absurd did
  loaded_done load seeds (Cut offset) did cause = absurd did
  loaded_done load seeds (ReadFault count) did cause = absurd did
  loaded_done load seeds (Text line why) did cause = absurd did
  loaded_done load seeds (Differs differed) did cause = absurd did
  loaded_done load seeds (Quota frames) did cause = absurd did
  loaded_done load seeds (SourceRefused source) did cause = absurd did

-- a configuration that has no fault is none with one
no_fault : (files : Option Entries) (name text : List ℕ) (tree : Tree) (before now : Outside) (status : Status) → IsToldFile files name text → Plan text (Ok tree)
    → HasNoPlan files name status → HasStatusCause before now status → NoneRose before now → (status ≡ Done) ⊎ (status ≡ Memory)
no_fault files name text tree before now (Config fault) told plan (other, whole, faulty) cause calm =
    let same = one_file files name text other told whole in
    let one = plan_once text (Ok tree) (Err fault) plan (subst (λ (t : List ℕ). Plan t (Err fault)) (sym same) faulty) in
    absurd (let e : Ok tree ≡ Err fault = one in cc)
no_fault files name text tree before now Memory told plan none cause calm = inr refl
no_fault files name text tree before now (OpenFault count) told plan none cause calm = absurd (calm.world cause.0)
no_fault files name text tree before now Done told plan none cause calm = absurd none
no_fault files name text tree before now Usage told plan none cause calm = absurd none
no_fault files name text tree before now (Malformed offset why) told plan none cause calm = absurd none
no_fault files name text tree before now (Cut offset) told plan none cause calm = absurd none
no_fault files name text tree before now (Text line why) told plan none cause calm = absurd none
no_fault files name text tree before now (Differs differed) told plan none cause calm = absurd none
no_fault files name text tree before now (ReadFault count) told plan none cause calm = absurd none
no_fault files name text tree before now (WriteFault count) told plan none cause calm = absurd none
no_fault files name text tree before now (Quota frames) told plan none cause calm = absurd none
no_fault files name text tree before now (SeedShort node have need) told plan none cause calm = absurd none
no_fault files name text tree before now (SourceRefused source) told plan none cause calm = absurd none

-- each start is passed
none_refused : {S : Type 0} (told : S → Option (List ℕ)) (faults : S → ℕ) (reads : S → ℕ → Option (List ℕ) → S → Type 0) (words : List (List ℕ)) (before now : Outside) (status : Status)
    → (can : CanBePassed told faults reads words before now) → HasChecked told faults reads can.tree before.recordings now.recordings before.out now.out status
    → HasStatusCause before now status → NoneRose before now → (status ≡ Done) ⊎ (status ≡ Memory)
none_refused told faults reads words before now Done can did cause calm = inl refl
none_refused told faults reads words before now Memory can did cause calm = inr refl
none_refused told faults reads words before now (OpenFault count) can did cause calm = absurd (calm.world cause.0)
none_refused told faults reads words before now (WriteFault count) can did cause calm = absurd (calm.output cause.0)
none_refused told faults reads words before now (SourceRefused source) can (lines, tried, first, wrote) cause calm =
    let passed = can.passes lines tried in
    absurd (let e : Some source ≡ None = sym first ∙ passed in cc)
none_refused told faults reads words before now Usage can did cause calm = absurd did
none_refused told faults reads words before now (Config fault) can did cause calm = absurd did
none_refused told faults reads words before now (Malformed offset why) can did cause calm = absurd did
none_refused told faults reads words before now (Cut offset) can did cause calm = absurd did
none_refused told faults reads words before now (Text line why) can did cause calm = absurd did
none_refused told faults reads words before now (Differs differed) can did cause calm = absurd did
none_refused told faults reads words before now (ReadFault count) can did cause calm = absurd did
none_refused told faults reads words before now (Quota frames) can did cause calm = absurd did
none_refused told faults reads words before now (SeedShort node have need) can did cause calm = absurd did

check_done : {S : Type 0} (told : S → Option (List ℕ)) (faults : S → ℕ) (reads : S → ℕ → Option (List ℕ) → S → Type 0) (words : List (List ℕ)) (before now : Outside) (status : Status)
    → (can : CanBePassed told faults reads words before now) → RanCheck told faults reads can.name before now status
    → HasStatusCause before now status → NoneRose before now → (status ≡ Done) ⊎ (status ≡ Memory)
check_done told faults reads words before now status can (left, inl (none, recordings, out)) cause calm =
    no_fault before.files can.name can.text can.tree before now status can.file can.plan none cause calm
check_done told faults reads words before now status can (left, inr (tree, (text, whole, plan), did)) cause calm =
    let same = one_file before.files can.name can.text text can.file whole in
    let one = plan_once can.text (Ok can.tree) (Ok tree) can.plan (subst (λ (t : List ℕ). Plan t (Ok tree)) (sym same) plan) in
    let planned : tree ≡ can.tree = cc in
    none_refused told faults reads words before now status can
    (subst (λ (t : Tree). HasChecked told faults reads t before.recordings now.recordings before.out now.out status) planned did) cause calm

module _ {S : Type 0} (told : S → Option (List ℕ)) (faults : S → ℕ) (reads : S → ℕ → Option (List ℕ) → S → Type 0) (words : List (List ℕ)) (before now : Outside) (status : Status) (cause : HasStatusCause before now status) (calm : NoneRose before now) where
  seed_done : (name : List ℕ) → IsSeedCommand words name → RanSeed told faults reads name before now status → SeedCanBeServed words before → (status ≡ Done) ⊎ (status ≡ Memory)
  seed_done name command ran can =
      let called : name ≡ can.name = let e : codes "seed" ∷ name ∷ [] ≡ codes "seed" ∷ can.name ∷ [] = sym command ∙ can.command in cc in
      plan_done told faults reads stock_tree before now calm (λ (plan : NodePlan). Some can.name) (λ n plan at kind none. absurd cc) can.served status
      (subst (λ (n : List ℕ). RanSeed told faults reads n before now status) called ran) cause

  answer_done : (name : List ℕ) → IsAnswerCommand words name → RanAnswer told faults reads name before now status → AnswerCanBeServed words before → (status ≡ Done) ⊎ (status ≡ Memory)
  answer_done name command ran can =
      let called : name ≡ can.name = let e : codes "answer" ∷ name ∷ [] ≡ codes "answer" ∷ can.name ∷ [] = sym command ∙ can.command in cc in
      by (subst (λ (n : List ℕ). RanAnswer told faults reads n before now status) called ran) where
        by : RanAnswer told faults reads can.name before now status → (status ≡ Done) ⊎ (status ≡ Memory)
        by (inl (none, same, still)) = no_fault before.files can.name can.text can.tree before now status can.file can.plan none cause calm
        by (inr (tree, (text, whole, plan), ran)) =
            let same = one_file before.files can.name can.text text can.file whole in
            let one = plan_once can.text (Ok can.tree) (Ok tree) can.plan (subst (λ (t : List ℕ). Plan t (Ok tree)) (sym same) plan) in
            let planned : tree ≡ can.tree = cc in
            plan_done told faults reads can.tree before now calm planned_file (have_files can.tree (plan_in_range can.text can.tree can.plan)) can.served status
            (subst (λ (t : Tree). RanPlan told faults reads planned_file t before now status) planned ran) cause

  load_done : (name : List ℕ) (load : Load) → IsLoadCommand words name load → RanLoad told faults reads name load before now status → LoadCanBeMade words before → (status ≡ Done) ⊎ (status ≡ Memory)
  load_done name load command ran can =
      let called : name ≡ can.name = (let a = command.words_are in let b = can.command.words_are in cc) in
      by (subst (λ (n : List ℕ). RanLoad told faults reads n load before now status) called ran) where
        by : RanLoad told faults reads can.name load before now status → (status ≡ Done) ⊎ (status ≡ Memory)
        by (left, inl (none, same, still)) = no_fault before.files can.name can.text can.tree before now status can.file can.plan none cause calm
        by (left, inr (tree, (text, whole, plan), did)) =
            let same = one_file before.files can.name can.text text can.file whole in
            let one = plan_once can.text (Ok can.tree) (Ok tree) can.plan (subst (λ (t : List ℕ). Plan t (Ok tree)) (sym same) plan) in
            let planned : tree ≡ can.tree = cc in
            from_done told faults planned_file can.tree before now (have_files can.tree (plan_in_range can.text can.tree can.plan)) calm can.seeds (now.out ≡ before.out)
            (HasLoaded told faults reads can.tree load before.recordings now.recordings before.out now.out) (loaded_done told faults reads can.tree before now calm load) status
            (subst (λ (t : Tree). LoadedPlan told faults reads before.files t load before.recordings now.recordings before.out now.out status) planned did) cause

-- the words are one command
seed_answer : (words : List (List ℕ)) (a b : List ℕ) → IsSeedCommand words a → IsAnswerCommand words b → ⊥
seed_answer words a b one other = let e : codes "seed" ∷ a ∷ [] ≡ codes "answer" ∷ b ∷ [] = sym one ∙ other in absurd cc

seed_check : (words : List (List ℕ)) (a b : List ℕ) → IsSeedCommand words a → IsCheckCommand words b → ⊥
seed_check words a b one other = let e : codes "seed" ∷ a ∷ [] ≡ codes "check" ∷ b ∷ [] = sym one ∙ other in absurd cc

answer_check : (words : List (List ℕ)) (a b : List ℕ) → IsAnswerCommand words a → IsCheckCommand words b → ⊥
answer_check words a b one other = let e : codes "answer" ∷ a ∷ [] ≡ codes "check" ∷ b ∷ [] = sym one ∙ other in absurd cc

-- `load` has four words, and each other command two
one_of_two : (words : List (List ℕ)) (a b name : List ℕ) (load : Load) → words ≡ a ∷ b ∷ [] → IsLoadCommand words name load → ⊥
one_of_two words a b name load two command = let four = command.words_are in let e : a ∷ b ∷ [] ≡ codes "load" ∷ name ∷ decimal load.count ∷ decimal load.seed ∷ [] = sym two ∙ four in absurd cc

-- two words are not three
not_replay : (words : List (List ℕ)) (command a : List ℕ) (family : Family) (b : List ℕ) → words ≡ command ∷ a ∷ [] → IsReplayCommand words family b → ⊥
not_replay words command a family b one other = let e : command ∷ a ∷ [] ≡ codes "replay" ∷ family_word family ∷ b ∷ [] = sym one ∙ other in absurd cc

load_replay : (words : List (List ℕ)) (a : List ℕ) (load : Load) (family : Family) (b : List ℕ) → IsLoadCommand words a load → IsReplayCommand words family b → ⊥
load_replay words a load family b one other =
    let four = one.words_are in
    let e : codes "load" ∷ a ∷ decimal load.count ∷ decimal load.seed ∷ [] ≡ codes "replay" ∷ family_word family ∷ b ∷ [] = sym four ∙ other in absurd cc

called_same : (words : List (List ℕ)) (a b : List ℕ) → IsCheckCommand words a → IsCheckCommand words b → a ≡ b
called_same words a b one other = let e : codes "check" ∷ a ∷ [] ≡ codes "check" ∷ b ∷ [] = sym one ∙ other in cc

pub complete : {S : Type 0} (told : S → Option (List ℕ)) (faults : S → ℕ) (reads : S → ℕ → Option (List ℕ) → S → Type 0) (words : List (List ℕ)) (before now : Outside) (status : Status)
    → Ran told faults reads words before now status → HasStatusCause before now status → IsComplete told faults reads words before now status
complete told faults reads words before now status (inl (name, seed, ran)) cause calm (inl can) = seed_done told faults reads words before now status cause calm name seed ran can
complete told faults reads words before now status (inl (name, seed, ran)) cause calm (inr (inl can)) = absurd (seed_answer words name can.name seed can.command)
complete told faults reads words before now status (inl (name, seed, ran)) cause calm (inr (inr (inl can))) = absurd (seed_check words name can.name seed can.command)
complete told faults reads words before now status (inl (name, seed, ran)) cause calm (inr (inr (inr (inl can)))) = absurd (one_of_two words (codes "seed") name can.name can.load seed can.command)
complete told faults reads words before now status (inl (name, seed, ran)) cause calm (inr (inr (inr (inr can)))) = absurd (not_replay words (codes "seed") name can.family can.name seed can.command)
complete told faults reads words before now status (inr (inl (name, answer, ran))) cause calm (inl can) = absurd (seed_answer words can.name name can.command answer)
complete told faults reads words before now status (inr (inl (name, answer, ran))) cause calm (inr (inl can)) = answer_done told faults reads words before now status cause calm name answer ran can
complete told faults reads words before now status (inr (inl (name, answer, ran))) cause calm (inr (inr (inl can))) = absurd (answer_check words name can.name answer can.command)
complete told faults reads words before now status (inr (inl (name, answer, ran))) cause calm (inr (inr (inr (inl can)))) = absurd (one_of_two words (codes "answer") name can.name can.load answer can.command)
complete told faults reads words before now status (inr (inl (name, answer, ran))) cause calm (inr (inr (inr (inr can)))) = absurd (not_replay words (codes "answer") name can.family can.name answer can.command)
complete told faults reads words before now status (inr (inr (inl (name, check, ran)))) cause calm (inl can) = absurd (seed_check words can.name name can.command check)
complete told faults reads words before now status (inr (inr (inl (name, check, ran)))) cause calm (inr (inl can)) = absurd (answer_check words can.name name can.command check)
complete told faults reads words before now status (inr (inr (inl (name, check, ran)))) cause calm (inr (inr (inl can))) =
    check_done told faults reads words before now status can (subst (λ (n : List ℕ). RanCheck told faults reads n before now status) (called_same words name can.name check can.command) ran) cause calm
complete told faults reads words before now status (inr (inr (inl (name, check, ran)))) cause calm (inr (inr (inr (inl can)))) = absurd (one_of_two words (codes "check") name can.name can.load check can.command)
complete told faults reads words before now status (inr (inr (inl (name, check, ran)))) cause calm (inr (inr (inr (inr can)))) = absurd (not_replay words (codes "check") name can.family can.name check can.command)
complete told faults reads words before now status (inr (inr (inr (inl (name, load, command, ran))))) cause calm (inl can) = absurd (one_of_two words (codes "seed") can.name name load can.command command)
complete told faults reads words before now status (inr (inr (inr (inl (name, load, command, ran))))) cause calm (inr (inl can)) = absurd (one_of_two words (codes "answer") can.name name load can.command command)
complete told faults reads words before now status (inr (inr (inr (inl (name, load, command, ran))))) cause calm (inr (inr (inl can))) = absurd (one_of_two words (codes "check") can.name name load can.command command)
complete told faults reads words before now status (inr (inr (inr (inl (name, load, command, ran))))) cause calm (inr (inr (inr (inl can)))) = load_done told faults reads words before now status cause calm name load command ran can
complete told faults reads words before now status (inr (inr (inr (inl (name, load, command, ran))))) cause calm (inr (inr (inr (inr can)))) = absurd (load_replay words name load can.family can.name command can.command)
complete told faults reads words before now status (inr (inr (inr (inr (inl (family, name, replay, ran)))))) cause calm (inl can) = absurd (not_replay words (codes "seed") can.name family name can.command replay)
complete told faults reads words before now status (inr (inr (inr (inr (inl (family, name, replay, ran)))))) cause calm (inr (inl can)) = absurd (not_replay words (codes "answer") can.name family name can.command replay)
complete told faults reads words before now status (inr (inr (inr (inr (inl (family, name, replay, ran)))))) cause calm (inr (inr (inl can))) = absurd (not_replay words (codes "check") can.name family name can.command replay)
complete told faults reads words before now status (inr (inr (inr (inr (inl (family, name, replay, ran)))))) cause calm (inr (inr (inr (inl can)))) = absurd (load_replay words can.name can.load family name can.command replay)
complete told faults reads words before now status (inr (inr (inr (inr (inl (family, name, replay, ran)))))) cause calm (inr (inr (inr (inr can)))) =
    replay_done words before now status can (replay_same words family name can.family can.name before now status replay can.command ran) cause calm
complete told faults reads words before now status (inr (inr (inr (inr (inr (none, usage, same, still)))))) cause calm (inl can) = absurd (none.seed can.name can.command)
complete told faults reads words before now status (inr (inr (inr (inr (inr (none, usage, same, still)))))) cause calm (inr (inl can)) = absurd (none.answer can.name can.command)
complete told faults reads words before now status (inr (inr (inr (inr (inr (none, usage, same, still)))))) cause calm (inr (inr (inl can))) = absurd (none.check can.name can.command)
complete told faults reads words before now status (inr (inr (inr (inr (inr (none, usage, same, still)))))) cause calm (inr (inr (inr (inl can)))) = absurd (none.load can.name can.load can.command)
complete told faults reads words before now status (inr (inr (inr (inr (inr (none, usage, same, still)))))) cause calm (inr (inr (inr (inr can)))) = absurd (none.replay can.family can.name can.command)
