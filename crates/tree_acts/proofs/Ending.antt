-- The work of a node that asks no parent.
use Rattle.std.proofs.Common.{◌≡◌, ◌∙◌, ◌∷◌, ◌++◌, ◌+◌, ◌-◌, ◌<◌, ◌≤◌, ℕ, List, [], zero, suc, length, map, Bool, true, false, refl, sym, ap, subst, arith, append-nil}
use Rattle.std.specs.Prelude.{◌&&◌, ◌||◌, if◌then◌else◌, Option, Some, None, IsSome, IfSome, MatchOption, MatchResult, Result, Ok, Err, take, unwrap_or, is_some, option_map, nat_lt, slice_get, min, max}
use Rattle.std.specs.Int.{div_ceil}
use Rattle.std.proofs.lemmas.Bool.Decides.{nat_tests}
use Rattle.tree_config.specs.Tree.{Tree, parent_in}
use Rattle.tree_config.specs.Planned as planned
use Rattle.tree_config.specs.Planned.{IsPlanned}
use Rattle.tree_config.specs.declared.plan.NodePlan.{NodePlan}
use Rattle.tree_config.specs.declared.plan.NodeKind.{NodeKind}
use Rattle.tree_config.specs.declared.plan.NodeKind.TheVariants.{Rbg1, Rbg2, Rbg3Xor, Rbg3Rs, Child}
use Rattle.tree_config.specs.declared.plan.Origin.{Origin}
use Rattle.tree_config.specs.declared.plan.Origin.TheVariants.{SeedFile, Source, Parent}
use Rattle.entropy_source.specs.Views.{SourceView}
use Rattle.entropy_source.specs.Draws.{portions}
use Rattle.entropy_source.specs.declared.answers.SourceRefusal.{SourceRefusal}
use Rattle.rbg_nodes.specs.Node.{New, Seeded, Gave, node_after, seed_len, entropy_len, is_due, given_bytes}
use Rattle.rbg_nodes.specs.Views.{NodeView, IsNode, IsSeed, xor_bytes}
use Rattle.tree_rules.specs.Slots.{no_node, node_plan, node_row}
use Rattle.tree_rules.specs.History.{AtNode, States, SlotState, node_in}
use Rattle.tree_rules.specs.Links.{Task, Seeds, Gives, Rests, Link, link, is_alive, must_seed, must_by, asks_parent, is_rbg1, is_rs, is_xor, wanted, wanted_by, chunk_lens, chunks}
use Rattle.tree_rules.specs.Chain.{SourceLink, source_of, source_by, source_at}
use Rattle.tree_rules.specs.Works.{Work, worked, task_work, given_work, material}
use Rattle.tree_rules.specs.Fits.{at_source, source_reply}
use Rattle.tree_acts.specs.Plain.{draws_on, number_in, are_some}
use Rattle.tree_acts.proofs.Counted.{names_source}
use Rattle.tree_acts.specs.Hold.{Hold, PutsNode, IsOfPlan, node_held, states_held}
use Rattle.tree_acts.specs.Did.{Did}
use Rattle.tree_acts.specs.Ends.{SourceWorked}
use Rattle.tree_acts.specs.Plainly.{plain}
use Rattle.tree_acts.specs.Work.{Worked}
use Rattle.tree_acts.proofs.Doing.{did_node, did_join}

pub no_items : (xs : List ℕ) → length xs ≡ 0 → xs ≡ []
no_items [] h = refl
no_items (x ∷ xs) h = absurd (omega arith)

take_all : (xs : List ℕ) → take (length xs) xs ≡ xs
take_all [] = refl
take_all (x ∷ xs) = ap (λ z. x ∷ z) (take_all xs)

-- a link in plain numbers draws as the link does
pub must_plain : (pr : Bool) (l : Link) (task : Task) → must_by pr (plain l) task ≡ must_by pr l task
must_plain pr l (Seeds how) = refl
must_plain pr l (Gives len) = refl
must_plain pr l Rests = refl

pub wanted_plain : (pr : Bool) (l : Link) → wanted pr (plain l) ≡ wanted pr l
wanted_plain pr l = by l.task refl where
  by : (t : Task) → l.task ≡ t → wanted pr (plain l) ≡ wanted pr l
  by (Seeds how) e = rw e refl
  by Rests e = rw e refl
  by (Gives len) e = rw e refl

draws_plain : (pr : Bool) (l : Link) → draws_on pr (plain l) ≡ draws_on pr l
draws_plain pr l = ap (λ (z : List ℕ). if is_alive l && are_some z then number_in l.origin else None) (wanted_plain pr l)

module _ {S : Type 0} (told : S → Option (List ℕ)) (faults : S → ℕ) (p : Tree) where
  pub did_seed_own : (reads : S → ℕ → Option (List ℕ) → S → Type 0) (h t : Hold (SourceView S)) (n : ℕ) (v x w : NodeView) (string : List ℕ) → IsOfPlan p h → h.nodes n ≡ Some v → h.nodes n ≡ Some x → IsNode x → PutsNode h t n w
      → IfSome v.state.kept (λ seed. w ≡ record v { state = node_after v.row v.state (Seeded New seed string) }) → IsSome (node_held told faults h n).kept
      → Did told faults reads p h t (record { slot = n; act = AtNode (Seeded New (take (seed_len (node_row p n) New) (unwrap_or (node_held told faults h n).kept [])) string) } ∷ [])
  did_seed_own reads h t n v x w string plan at also ok puts is kept = by v.state.kept refl is kept' where
    state : node_held told faults h n ≡ v.state
    state = rw at refl

    row : v.row ≡ node_row p n
    row = (plan.node n v at).row

    kept' : IsSome v.state.kept
    kept' = subst (λ s. IsSome s.kept) state kept

    good : IsNode v
    good = let same : x ≡ v = cc in subst (λ (y : NodeView). IsNode y) same ok

    by : (o : Option (List ℕ)) → v.state.kept ≡ o → IfSome o (λ seed. w ≡ record v { state = node_after v.row v.state (Seeded New seed string) }) → IsSome o
        → Did told faults reads p h t (record { slot = n; act = AtNode (Seeded New (take (seed_len (node_row p n) New) (unwrap_or (node_held told faults h n).kept [])) string) } ∷ [])
    by None e f g = absurd (let z : false ≡ true = g in cc)
    by (Some seed) e f g =
        let len : length seed ≡ seed_len v.row New = subst (λ (o : Option (List ℕ)). IsSeed v.row o) e good.kept in
        let whole : take (seed_len (node_row p n) New) (unwrap_or (node_held told faults h n).kept []) ≡ seed =
        ap (λ s. take (seed_len (node_row p n) New) (unwrap_or s.kept [])) state
        ∙ (ap (λ (o : Option (List ℕ)). take (seed_len (node_row p n) New) (unwrap_or o [])) e
        ∙ (ap (λ r. take (seed_len r New) seed) (sym row) ∙ (ap (λ k. take k seed) (sym len) ∙ take_all seed))) in
        subst (λ z. Did told faults reads p h t (record { slot = n; act = AtNode (Seeded New z string) } ∷ [])) (sym whole)
        (did_node told faults p reads h t n v w (Seeded New seed string) plan at puts f)

  pub step_draws : (pr : Bool) (task : Task) (x : SlotState) (n k : ℕ) (y : Link) → k ≡ n → y ≡ plain (record (link p n task x) { origin = (node_plan p k).origin })
      → draws_on pr y ≡ draws_on pr (link p n task x)
  step_draws pr task x n k y same is =
      ap (λ (l : Link). draws_on pr l) is
      ∙ (ap (λ (i : ℕ). draws_on pr (plain (record (link p n task x) { origin = (node_plan p i).origin }))) same ∙ draws_plain pr (link p n task x))

  pub source_none : (s : States) (pr : Bool) (l : Link) (o : Option ℕ) → o ≡ draws_on pr l → o ≡ None → source_of p s pr l ≡ None
  source_none s pr l o e none = names_source p s pr l ∙ ap (λ (o : Option ℕ). option_map (λ j. source_at p s j) o) (sym e ∙ none)

  pub source_some : (s : States) (pr : Bool) (l : Link) (o : Option ℕ) (j : ℕ) → o ≡ draws_on pr l → o ≡ Some j → source_of p s pr l ≡ Some (source_at p s j)
  source_some s pr l o j e some = names_source p s pr l ∙ ap (λ (o : Option ℕ). option_map (λ j. source_at p s j) o) (sym e ∙ some)

  -- the work of the last node, as that of the only link
  pub worked_own : (reads : S → ℕ → Option (List ℕ) → S → Type 0) (h t : Hold (SourceView S)) (pr : Bool) (string bytes : List ℕ) (l : Link) → source_of p (states_held told faults h) pr l ≡ None
      → Did told faults reads p h t (task_work pr [] string l [] l.task).acts → bytes ≡ (task_work pr [] string l [] l.task).bytes
      → Worked told faults reads p h t pr string (l ∷ []) (source_of p (states_held told faults h) pr l) None bytes
  worked_own reads h t pr string bytes l none did is =
      subst (λ (o : Option SourceLink). Worked told faults reads p h t pr string (l ∷ []) o None bytes) (sym none)
      (record { acts = (task_work pr [] string l [] l.task).acts; did = did; works = (refl, refl, is) })

  pub worked_source : (reads : S → ℕ → Option (List ℕ) → S → Type 0) (h u : Hold (SourceView S)) (pr : Bool) (string bytes : List ℕ) (l : Link) (j : ℕ) (r : Option SourceRefusal)
      → source_of p (states_held told faults h) pr l ≡ Some (source_at p (states_held told faults h) j)
      → SourceWorked told faults reads p h u pr string l j r bytes
      → Worked told faults reads p h u pr string (l ∷ []) (source_of p (states_held told faults h) pr l) (option_map (λ why. source_reply j why) r) bytes
  worked_source reads h u pr string bytes l j r on w =
      subst (λ (o : Option SourceLink). Worked told faults reads p h u pr string (l ∷ []) o (option_map (λ why. source_reply j why) r) bytes) (sym on)
      (record {
        acts = map (at_source (source_at p (states_held told faults h) j)) w.drew.acts ++ w.acts;
        did = did_join told faults p reads h w.mid u (map (at_source (source_at p (states_held told faults h) j)) w.drew.acts) w.acts w.drew.did w.did;
        works = (w.drew.acts, w.drew.end, w.drew.draw, by w.drew.end w.drew.answer r w.works refl);
      }) where
        t : SourceLink
        t = source_at p (states_held told faults h) j

        by : (end : Result (List ℕ) SourceRefusal)
            → MatchResult end (λ all. (r ≡ None) × (w.strings ≡ portions t.row (wanted pr l) all)) (λ why. r ≡ Some why)
            → (q : Option SourceRefusal) → MatchOption q (let x = task_work pr w.strings string l [] l.task in (w.acts ≡ x.acts) × (bytes ≡ x.bytes)) (λ why. w.acts ≡ [])
            → q ≡ r
            → MatchResult end
            (λ all. let x = worked pr (portions t.row (wanted pr l) all) string (l ∷ []) in (option_map (λ why. source_reply j why) r ≡ None) × (map (at_source t) w.drew.acts ++ w.acts ≡ map (at_source t) w.drew.acts ++ x.acts) × (bytes ≡ x.bytes))
            (λ why. (option_map (λ why. source_reply j why) r ≡ Some (source_reply j why)) × (map (at_source t) w.drew.acts ++ w.acts ≡ map (at_source t) w.drew.acts))
        by (Ok all) (none, same) (Some x) m e = cc
        by (Ok all) (none, same) None (a, b) e =
            let z : task_work pr w.strings string l [] l.task ≡ task_work pr (portions t.row (wanted pr l) all) string l [] l.task = ap (λ ss. task_work pr ss string l [] l.task) same in
            (ap (λ (r : Option SourceRefusal). option_map (λ why. source_reply j why) r) none, ap (λ ys. map (at_source t) w.drew.acts ++ ys) (a ∙ ap (λ (x : Work). x.acts) z), b ∙ ap (λ (x : Work). x.bytes) z)
        by (Err why) some None m e = cc
        by (Err why) some (Some x) m e =
            (ap (λ (r : Option SourceRefusal). option_map (λ why. source_reply j why) r) some, ap (λ ys. map (at_source t) w.drew.acts ++ ys) m ∙ append-nil (map (at_source t) w.drew.acts))

chunk_some : (n size len : ℕ) → 1 ≤ n → (x : ℕ) × (xs : List ℕ) × (chunk_lens n size len ≡ x ∷ xs)
chunk_some zero size len l = absurd (omega arith)
chunk_some (suc n) size len l = (min size len, chunk_lens n size (len - size), refl)

pub wants_some : (pr : Bool) (l : Link) (task : Task) → l.task ≡ task → must_by pr l task ≡ true → (x : ℕ) × (xs : List ℕ) × (wanted_by pr l task ≡ x ∷ xs)
wants_some pr l (Seeds how) e m = (seed_len l.row how, [], refl)
wants_some pr l Rests e m = cc
wants_some pr l (Gives len) e m = by (is_rs l.row.kind) (must_seed pr l) (subst (λ t. must_by pr l t ≡ true) (sym e) m) where
  more : List ℕ
  more = if is_xor l.row.kind && nat_lt 0 len then len ∷ [] else []

  by : (rs must : Bool) → must ≡ true
      → (x : ℕ) × (xs : List ℕ) × ((if rs then map (λ (_ : ℕ). entropy_len l.row + 8) (chunks l.row len) else (if must then entropy_len l.row ∷ [] else []) ++ more) ≡ x ∷ xs)
  by true must m =
      let (x, xs, f) = chunk_some (max 1 (div_ceil len (entropy_len l.row))) (entropy_len l.row) len (omega arith) in
      (entropy_len l.row + 8, map (λ (_ : ℕ). entropy_len l.row + 8) xs, ap (λ z. map (λ (_ : ℕ). entropy_len l.row + 8) z) f)
  by false true m = (entropy_len l.row, more, refl)
  by false false m = cc

module _ (p : Tree) (s : States) (pr : Bool) (n : ℕ) (task : Task) (x : SlotState) where
  -- a node that must be seeded and has neither a parent nor a source is an RBG1, which has a seed file
  pub own_file : IsPlanned 0 p → n < length p.nodes → is_alive (link p n task x) ≡ true → must_seed pr (link p n task x) ≡ true → asks_parent pr (link p n task x) ≡ false
      → source_of p s pr (link p n task x) ≡ None → (is_rbg1 (node_row p n).kind ≡ true) × ((name : List ℕ) × ((node_plan p n).origin ≡ SeedFile name))
  own_file range low alive must up none = by (slice_get p.nodes n) refl (node_plan p n).origin refl where
    l : Link
    l = link p n task x

    no_parent : (o : Origin) → (node_plan p n).origin ≡ o → is_some (parent_in o) ≡ true → ⊥
    no_parent o e some =
        let a : asks_parent pr l ≡ true = rw (alive, must) (ap (λ (o : Origin). is_some (parent_in o)) e ∙ some) in
        let z : true ≡ false = sym a ∙ up in cc

    no_source : (j : ℕ) → (node_plan p n).origin ≡ Source j → ⊥
    no_source j e =
        let (y, ys, w) = wants_some pr l task refl must in
        let a : source_of p s pr l ≡ source_by p s (y ∷ ys) (Source j) =
        ap (λ (b : Bool). if b then source_by p s (wanted pr l) l.origin else None) alive ∙ (ap (λ z. source_by p s z l.origin) w ∙ ap (λ (o : Origin). source_by p s (y ∷ ys) o) e) in
        let z : Some (source_at p s j) ≡ None = sym a ∙ none in cc

    kinds : (k : NodeKind) (o : Origin) → (node_plan p n).origin ≡ o → planned.Fits 0 (length p.sources) (length p.nodes) k o → (is_rbg1 k ≡ true) × ((name : List ℕ) × (o ≡ SeedFile name))
    kinds k (Source j) e f = absurd (no_source j e)
    kinds k (Parent q) e f = absurd (no_parent (Parent q) e refl)
    kinds Rbg1 (SeedFile name) e f = (refl, (name, refl))
    kinds Rbg2 (SeedFile name) e f = absurd f
    kinds Rbg3Xor (SeedFile name) e f = absurd f
    kinds Rbg3Rs (SeedFile name) e f = absurd f
    kinds Child (SeedFile name) e f = absurd f

    by : (o : Option NodePlan) → slice_get p.nodes n ≡ o → (q : Origin) → (node_plan p n).origin ≡ q → (is_rbg1 (node_row p n).kind ≡ true) × ((name : List ℕ) × ((node_plan p n).origin ≡ SeedFile name))
    by None e q f = (ap (λ (o : Option NodePlan). is_rbg1 (unwrap_or o no_node).kind) e, ([], ap (λ (o : Option NodePlan). (unwrap_or o no_node).origin) e))
    by (Some y) e q f =
        let is : node_plan p n ≡ y = ap (λ (o : Option NodePlan). unwrap_or o no_node) e in
        let fits = (range.node n y e).origin in
        subst (λ (z : NodePlan). (is_rbg1 z.kind ≡ true) × ((name : List ℕ) × (z.origin ≡ SeedFile name))) (sym is)
        (kinds y.kind y.origin (ap (λ (z : NodePlan). z.origin) is) fits)

  pub own_new : (string name : List ℕ) → task ≡ Seeds New → (node_plan p n).origin ≡ SeedFile name
      → task_work pr [] string (link p n task x) [] task
      ≡ record { acts = record { slot = n; act = AtNode (Seeded New (take (seed_len (node_row p n) New) (unwrap_or (node_in x).kept [])) string) } ∷ []; bytes = [] }
  own_new string name e f = rw (e, f) refl

  parts_false : (a b c : Bool) → (a || b || c) ≡ false → (a ≡ false) × (c ≡ false)
  parts_false true b c h = cc
  parts_false false true c h = cc
  parts_false false false c h = (refl, h)

  pub not_must : (len : ℕ) → task ≡ Gives len → must_seed pr (link p n task x) ≡ false → (is_due (node_row p n) (node_in x) ≡ false) × (is_rs (node_row p n).kind ≡ false)
  not_must len e m =
      let f : must_by pr (link p n task x) (Gives len) ≡ false = subst (λ t. must_by pr (link p n task x) t ≡ false) e m in
      parts_false (is_due (node_row p n) (node_in x)) pr (is_rs (node_row p n).kind) f

  -- an RBG3(XOR) that draws nothing gives nothing
  xor_none : IsPlanned 0 p → n < length p.nodes → (len : ℕ) → task ≡ Gives len → is_alive (link p n task x) ≡ true → must_seed pr (link p n task x) ≡ false
      → source_of p s pr (link p n task x) ≡ None → is_xor (node_row p n).kind ≡ true → len ≡ 0
  xor_none range low zero e alive m none xor = refl
  xor_none range low (suc k) e alive m none xor = absurd (by (slice_get p.nodes n) refl) where
    l : Link
    l = link p n task x

    rs : is_rs (node_row p n).kind ≡ false
    rs = (not_must (suc k) e m).1

    above_zero : nat_lt 0 (suc k) ≡ true
    above_zero = grind (arith, nat_tests)

    wants : wanted pr l ≡ suc k ∷ []
    wants = ap (λ t. wanted_by pr l t) e ∙ rw (rs, xor, m, above_zero) refl

    from : (q : Origin) → (node_plan p n).origin ≡ q → (o : NodeKind) → is_xor o ≡ true → planned.Fits 0 (length p.sources) (length p.nodes) o q → ⊥
    from (Source j) f o xor g =
        let a : source_of p s pr l ≡ source_by p s (suc k ∷ []) (Source j) =
        ap (λ (b : Bool). if b then source_by p s (wanted pr l) l.origin else None) alive ∙ (ap (λ z. source_by p s z l.origin) wants ∙ ap (λ (o : Origin). source_by p s (suc k ∷ []) o) f) in
        let z : Some (source_at p s j) ≡ None = sym a ∙ none in cc
    from (SeedFile name) f Rbg3Xor xor g = absurd g
    from (SeedFile name) f Rbg1 xor g = cc
    from (SeedFile name) f Rbg2 xor g = cc
    from (SeedFile name) f Rbg3Rs xor g = cc
    from (SeedFile name) f Child xor g = cc
    from (Parent q) f Rbg3Xor xor g = absurd g
    from (Parent q) f Rbg1 xor g = cc
    from (Parent q) f Rbg2 xor g = cc
    from (Parent q) f Rbg3Rs xor g = cc
    from (Parent q) f Child xor g = cc

    by : (o : Option NodePlan) → slice_get p.nodes n ≡ o → ⊥
    by None e = let z : is_xor no_node.kind ≡ true = ap (λ (o : Option NodePlan). is_xor (unwrap_or o no_node).kind) (sym e) ∙ xor in cc
    by (Some y) e =
        let is : node_plan p n ≡ y = ap (λ (o : Option NodePlan). unwrap_or o no_node) e in
        from y.origin (ap (λ (z : NodePlan). z.origin) is) y.kind (ap (λ (z : NodePlan). is_xor z.kind) (sym is) ∙ xor) (range.node n y e).origin

  pub own_gives : IsPlanned 0 p → n < length p.nodes → (len : ℕ) (string out : List ℕ) → task ≡ Gives len → is_alive (link p n task x) ≡ true → must_seed pr (link p n task x) ≡ false
      → source_of p s pr (link p n task x) ≡ None → length out ≡ len → out ≡ given_bytes (node_row p n) (node_in x) string len
      → ((task_work pr [] string (link p n task x) [] task).acts ≡ record { slot = n; act = AtNode (Gave string len out) } ∷ []) × (out ≡ (task_work pr [] string (link p n task x) [] task).bytes)
  own_gives range low len string out e alive m none size is = by (is_xor (node_row p n).kind) refl where
    l : Link
    l = link p n task x

    rs : is_rs (node_row p n).kind ≡ false
    rs = (not_must len e m).1

    given : Work
    given = given_work l false (material l [] []) string len

    whole : (b : Bool) → is_xor (node_row p n).kind ≡ b → task_work pr [] string l [] task ≡ (if b then record given { bytes = xor_bytes given.bytes [] } else given)
    whole b f = ap (λ t. task_work pr [] string l [] t) e ∙ rw (rs, m, f) refl

    acts_of_given : given.acts ≡ record { slot = n; act = AtNode (Gave string len out) } ∷ []
    acts_of_given = ap (λ z. record { slot = n; act = AtNode (Gave string len z) } ∷ []) (sym is)

    by : (b : Bool) → is_xor (node_row p n).kind ≡ b
        → ((task_work pr [] string l [] task).acts ≡ record { slot = n; act = AtNode (Gave string len out) } ∷ []) × (out ≡ (task_work pr [] string l [] task).bytes)
    by false f = (ap (λ (w : Work). w.acts) (whole false f) ∙ acts_of_given, is ∙ ap (λ (w : Work). w.bytes) (sym (whole false f)))
    by true f =
        let zero : len ≡ 0 = xor_none range low len e alive m none f in
        let empty : out ≡ [] = no_items out (omega (arith, size, zero)) in
        let same : given.bytes ≡ [] = sym is ∙ empty in
        (ap (λ (w : Work). w.acts) (whole true f) ∙ acts_of_given, empty ∙ (ap (λ z. xor_bytes z []) (sym same) ∙ ap (λ (w : Work). w.bytes) (sym (whole true f))))
