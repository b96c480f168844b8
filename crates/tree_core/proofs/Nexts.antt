-- The next step of a call: from what is held to all states that agree with it.
use Rattle.std.proofs.Common.{◌≡◌, ◌∙◌, ◌∷◌, ◌++◌, ℕ, List, [], length, Bool, true, false, refl, sym, ap, subst, arith, inl, inr}
use Rattle.std.proofs.lemmas.Bool.Decides.{nat_tests}
use Rattle.std.specs.Prelude.{◌&&◌, ◌||◌, ◌==◌, if◌then◌else◌, Option, Some, None, IsSome, slice_get, unwrap_or}
use Rattle.tree_config.specs.declared.plan.Origin.{Origin}
use Rattle.tree_config.specs.declared.plan.SourcePlan.{SourcePlan}
use Rattle.tree_config.specs.Tree.{Tree}
use Rattle.entropy_source.specs.declared.answers.SourceMode.{SourceMode}
use Rattle.entropy_source.specs.declared.answers.SourceMode.TheVariants.{Running}
use Rattle.entropy_source.specs.Source.{SourceState, need_of}
use Rattle.entropy_source.specs.Views.{SourceView, source_state}
use Rattle.rbg_nodes.specs.Views.{NodeView}
use Rattle.tree_rules.specs.declared.call.Call.{Call}
use Rattle.tree_rules.specs.declared.call.Call.TheVariants.{Generate, Instantiate, Reseed, Start, Status, Uninstantiate}
use Rattle.tree_rules.specs.declared.reply.Reply.{Reply}
use Rattle.tree_rules.specs.declared.reply.ReplyRow.{ReplyRow}
use Rattle.tree_rules.specs.Slots.{no_source, node_plan, source_row, source_row_of, source_slot}
use Rattle.tree_rules.specs.History.{States, SlotState, has, source_in}
use Rattle.tree_rules.specs.Links.{Link, last_link, link, no_link, wanted}
use Rattle.tree_rules.specs.Chain.{Chain, SourceLink, asks_pr, named, need_by, node_chain, slots_of, slots_of_source, source_at, source_of, task_of, wants_of}
use Rattle.tree_rules.specs.Replies.{chain_by, chain_rows, first_reply, is_instantiate, is_start, mode_of, plain_rows, refusal, rows_by, taken_of}
use Rattle.tree_rules.proofs.Leaves.{slots}
use Rattle.tree_rules.proofs.Sources.{need_is}
use Rattle.tree_acts.specs.Hold.{Hold, IsHeld, AreHeld, IsOfPlan}
use Rattle.tree_acts.specs.declared.step.Step.{Step}
use Rattle.tree_acts.specs.Plain.{draws_on, link_of, task_in}
use Rattle.tree_acts.specs.Plainly.{plain}
use Rattle.tree_acts.proofs.Drawing.{held_source}
use Rattle.tree_acts.proofs.Ending.{step_draws, source_none, source_some, wanted_plain}
use Rattle.tree_core.specs.Names.{AreStates, IsFirstMissing, IsStep, Names, NamesBy, NextBy, Walks, end_rows}
use Rattle.tree_core.specs.declared.step.Next.{Next}
use Rattle.tree_core.specs.declared.step.Next.TheVariants.{Take, Refuse, Ready}
use Rattle.tree_core.specs.declared.step.Reached.TheVariants.{Missing, End}
use Rattle.tree_core.proofs.Rows.{behind_none, in_front, need_none, rows_plain}
use Rattle.tree_core.proofs.Walking.{held_cons}
use Rattle.tree_acts.specs.Chained.{links_from}

module _ {V : Type 0} (h : Hold V) where
  pub missing_front : (k : ℕ) (xs ys : List ℕ) → IsFirstMissing h k xs → IsFirstMissing h k (xs ++ ys)
  missing_front k [] ys m = absurd m
  missing_front k (x ∷ xs) ys m = elim m [
    | inl a ↦ inl a
    | inr (a, b) ↦ inr (a, missing_front k xs ys b)
  ]

  or_left : (a b : Bool) → a ≡ true → (a || b) ≡ true
  or_left true b e = refl
  or_left false b e = cc

  or_right : (a b : Bool) → b ≡ true → (a || b) ≡ true
  or_right true b e = refl
  or_right false b e = e

  pub held_first : (x : ℕ) (xs : List ℕ) → AreHeld h (x ∷ xs) → IsHeld h x
  held_first x xs a = a x (or_left (x == x) (has xs x) (grind (arith, nat_tests)))

  pub held_rest : (x : ℕ) (xs : List ℕ) → AreHeld h (x ∷ xs) → AreHeld h xs
  held_rest x xs a k i = a k (or_right (x == k) (has xs k) i)

  pub missing_behind : (k : ℕ) (xs ys : List ℕ) → AreHeld h xs → IsFirstMissing h k ys → IsFirstMissing h k (xs ++ ys)
  missing_behind k [] ys a m = m
  missing_behind k (x ∷ xs) ys a m = inr (held_first x xs a, missing_behind k xs ys (held_rest x xs a) m)

  pub held_both : (xs ys : List ℕ) → AreHeld h xs → AreHeld h ys → AreHeld h (xs ++ ys)
  held_both [] ys a b = b
  held_both (x ∷ xs) ys a b = held_cons h x (xs ++ ys) (held_first x xs a) (held_both xs ys (held_rest x xs a) b)

  pub held_none : AreHeld h []
  held_none k i = cc

  -- all being held, the table says the next step
  pub named_by : (ch : Chain) (o : Option Reply) (next : Next) → AreHeld h (slots_of ch) → NextBy o next → NamesBy h ch o next
  named_by ch None next held is = subst (λ (n : Next). NamesBy h ch None n) (sym is) (held, refl)
  named_by ch (Some r) next held is = subst (λ (n : Next). NamesBy h ch (Some r) n) (sym is) (held, refl)

module _ {S : Type 0} (told : S → Option (List ℕ)) (faults : S → ℕ) (p : Tree) (h : Hold (SourceView S)) (plan : IsOfPlan p h) where
  -- what is held at a source's slot is a source
  pub source_held_there : (k j : ℕ) → k ≡ source_slot p j → IsHeld h k → IsSome (h.sources k)
  source_held_there k j e held = elim held [
    | inl is ↦ by (h.nodes k) refl is
    | inr is ↦ is
  ] where
    by : (o : Option NodeView) → h.nodes k ≡ o → IsSome o → IsSome (h.sources k)
    by (Some v) f is = absurd (let a = (plan.node k v f).low in omega (arith, a, e))
    by None f is = absurd (let g : false ≡ true = is in cc)

  module _ (s : States) (agree : AreStates told faults h s) where
    state_at : (j k : ℕ) (x : SourceView S) → k ≡ source_slot p j → h.sources k ≡ Some x → source_in (s (source_slot p j)) ≡ source_state told faults x
    state_at j k x e at =
        let at' : h.sources (source_slot p j) ≡ Some x = subst (λ k. h.sources k ≡ Some x) e at in
        let there : IsSome (h.sources (source_slot p j)) = rw at' refl in
        ap (λ (v : SlotState). source_in v) (agree.at (source_slot p j) (inr there)) ∙ held_source told faults p h j x plan at'

    row_at : (j : ℕ) (x : SourcePlan) → slice_get p.sources j ≡ Some x → source_row_of x ≡ source_row p j
    row_at j x e = sym (ap (λ (o : Option SourcePlan). source_row_of (unwrap_or o no_source)) e)

    -- a Start
    pub start_misses : (j k : ℕ) → k ≡ source_slot p j → (IsHeld h k → ⊥)
        → NamesBy h (chain_by p s (Start j) None) (first_reply (chain_rows (Start j) (chain_by p s (Start j) None))) (Take k)
    start_misses j k e none = inl (sym e, subst (λ k. IsHeld h k → ⊥) e none)

    pub start_named : (j k : ℕ) (x : SourceView S) (y : SourcePlan) (rows : List ReplyRow) (next : Next) → k ≡ source_slot p j → IsHeld h k → h.sources k ≡ Some x
        → slice_get p.sources j ≡ Some y → rows ≡ rows_by (Start j) no_link no_link x.taken x.mode y.startup → NextBy (first_reply rows) next
        → NamesBy h (chain_by p s (Start j) None) (first_reply (chain_rows (Start j) (chain_by p s (Start j) None))) next
    start_named j k x y rows next e held at planned is says =
        let ch : Chain = chain_by p s (Start j) None in
        let same : rows ≡ chain_rows (Start j) ch = is
        ∙ (ap (λ n. rows_by (Start j) no_link no_link x.taken x.mode n) (ap (λ r. r.startup) (row_at j y planned))
        ∙ ap (λ (z : SourceState). rows_by (Start j) no_link no_link z.taken z.mode (source_row p j).startup) (sym (state_at j k x e at))) in
        named_by h ch (first_reply (chain_rows (Start j) ch)) next
        (held_cons h (source_slot p j) [] (subst (λ k. IsHeld h k) e held) (held_none h))
        (subst (λ rs. NextBy (first_reply rs) next) same says)

    -- a step in the states
    pub plain_at : (x : Step) → IsStep told faults p h x → link_of x (node_plan p x.slot).origin ≡ plain (link p x.slot (task_in x.asked) (s x.slot))
    plain_at x is = is.at (node_plan p x.slot).origin ∙ ap (λ (v : SlotState). plain (link p x.slot (task_in x.asked) v)) (sym (agree.at x.slot (inl is.there)))

    module _ (c : Call) (x y : Step) (first : IsStep told faults p h x) (last : IsStep told faults p h y) where
      abbrev l : Link
      l = link p x.slot (task_in x.asked) (s x.slot)

      abbrev e : Link
      e = link p y.slot (task_in y.asked) (s y.slot)

      rows_at : (taken : ℕ) (mode : SourceMode) (n : ℕ) (rows : List ReplyRow) → ((o q : Origin) → rows ≡ rows_by c (link_of x o) (link_of y q) taken mode n)
          → rows ≡ rows_by c l e taken mode n
      rows_at taken mode n rows are =
          are (node_plan p x.slot).origin (node_plan p y.slot).origin
          ∙ (ap (λ (m : Link). rows_by c m (link_of y (node_plan p y.slot).origin) taken mode n) (plain_at x first)
          ∙ (ap (λ (m : Link). rows_by c (plain l) m taken mode n) (plain_at y last) ∙ rows_plain c l e taken mode n))

      -- the last node draws on no source
      pub end_none : (o : Option ℕ) (rows : List ReplyRow) (next : Next) → o ≡ draws_on (asks_pr c) (link_of y (node_plan p y.slot).origin) → o ≡ None
          → ((o q : Origin) → rows ≡ rows_by c (link_of x o) (link_of y q) 0 Running 0) → NextBy (first_reply rows) next
          → NamesBy h (record { links = []; source = source_of p s (asks_pr c) e }) (first_reply (end_rows c l e (source_of p s (asks_pr c) e))) next
      end_none o rows next draws none are says =
          let is : source_of p s (asks_pr c) e ≡ None =
          source_none told faults p s (asks_pr c) e o (draws ∙ step_draws told faults p (asks_pr c) (task_in y.asked) (s y.slot) y.slot y.slot (link_of y (node_plan p y.slot).origin) refl (plain_at y last)) none in
          let same : rows ≡ end_rows c l e None = rows_at 0 Running 0 rows are ∙ ap (λ n. rows_by c l e 0 Running n) (sym (need_none c [])) in
          subst (λ (t : Option SourceLink). NamesBy h (record { links = []; source = t }) (first_reply (end_rows c l e t)) next) (sym is)
          (named_by h (record { links = []; source = None }) (first_reply (end_rows c l e None)) next (held_none h) (subst (λ rs. NextBy (first_reply rs) next) same says))

      -- it draws on source j, which isn't held, and which is held
      module _ (j : ℕ) (o : Option ℕ) (draws : o ≡ draws_on (asks_pr c) (link_of y (node_plan p y.slot).origin)) (some : o ≡ Some j) (k : ℕ) (at : k ≡ source_slot p j) where
        source_is : source_of p s (asks_pr c) e ≡ Some (source_at p s j)
        source_is = source_some told faults p s (asks_pr c) e o j
            (draws ∙ step_draws told faults p (asks_pr c) (task_in y.asked) (s y.slot) y.slot y.slot (link_of y (node_plan p y.slot).origin) refl (plain_at y last)) some

        pub end_misses : (IsHeld h k → ⊥)
            → NamesBy h (record { links = []; source = source_of p s (asks_pr c) e }) (first_reply (end_rows c l e (source_of p s (asks_pr c) e))) (Take k)
        end_misses none =
            subst (λ (t : Option SourceLink). NamesBy h (record { links = []; source = t }) (first_reply (end_rows c l e t)) (Take k)) (sym source_is)
            (inl (sym at, subst (λ k. IsHeld h k → ⊥) at none))

        pub end_named : (z : SourceView S) (planned : SourcePlan) (rows : List ReplyRow) (samples : ℕ) (next : Next) → is_start c ≡ false → IsHeld h k → h.sources k ≡ Some z
            → slice_get p.sources j ≡ Some planned → samples ≡ need_of (source_row_of planned) (wanted (asks_pr c) (link_of y (node_plan p y.slot).origin))
            → ((o q : Origin) → rows ≡ rows_by c (link_of x o) (link_of y q) z.taken z.mode samples) → NextBy (first_reply rows) next
            → NamesBy h (record { links = []; source = source_of p s (asks_pr c) e }) (first_reply (end_rows c l e (source_of p s (asks_pr c) e))) next
        end_named z planned rows samples next node held there row count are says =
            let t : SourceLink = source_at p s j in
            let n : samples ≡ need_by c (Some t) (wanted (asks_pr c) e) =
            count ∙ (ap (λ r. need_of r (wanted (asks_pr c) (link_of y (node_plan p y.slot).origin))) (row_at j planned row)
            ∙ (ap (λ (m : Link). need_of (source_row p j) (wanted (asks_pr c) m)) (plain_at y last)
            ∙ (ap (λ lens. need_of (source_row p j) lens) (wanted_plain (asks_pr c) e) ∙ sym (need_is c t (wanted (asks_pr c) e) node)))) in
            let same : rows ≡ end_rows c l e (Some t) =
            rows_at z.taken z.mode samples rows are
            ∙ (ap (λ n. rows_by c l e z.taken z.mode n) n
            ∙ ap (λ (v : SourceState). rows_by c l e v.taken v.mode (need_by c (Some t) (wanted (asks_pr c) e))) (sym (state_at j k z at there))) in
            subst (λ (t : Option SourceLink). NamesBy h (record { links = []; source = t }) (first_reply (end_rows c l e t)) next) (sym source_is)
            (named_by h (record { links = []; source = Some t }) (first_reply (end_rows c l e (Some t))) next
            (held_cons h (source_slot p j) [] (subst (λ k. IsHeld h k) at held) (held_none h))
            (subst (λ rs. NextBy (first_reply rs) next) same says))

    -- the whole chain of a call that names a node
    module _ (c : Call) (node : is_start c ≡ false) where
      abbrev here : Link
      here = link p (named c) (task_of c) (s (named c))

      chain_is : chain_by p s c None ≡ (if is_instantiate c && here.state.live then record { links = here ∷ []; source = None } else node_chain p s c)
      chain_is = by c node where
        by : (c : Call) → is_start c ≡ false → chain_by p s c None
            ≡ (if is_instantiate c && (link p (named c) (task_of c) (s (named c))).state.live
            then record { links = link p (named c) (task_of c) (s (named c)) ∷ []; source = None } else node_chain p s c)
        by (Start j) h = cc
        by (Instantiate n x) h = refl
        by (Generate n x y z) h = refl
        by (Reseed n z) h = refl
        by (Uninstantiate n) h = refl
        by (Status n) h = refl

      abbrev SaysOf : Chain → Next → Type 0
      SaysOf ch next = NamesBy h ch (first_reply (chain_rows c ch)) next

      pub node_misses : (IsHeld h (named c) → ⊥) → SaysOf (chain_by p s c None) (Take (named c))
      node_misses none = subst (λ ch. SaysOf ch (Take (named c))) (sym chain_is) (by (is_instantiate c && here.state.live)) where
        by : (b : Bool) → SaysOf (if b then record { links = here ∷ []; source = None } else node_chain p s c) (Take (named c))
        by true = inl (refl, none)
        by false = inl (refl, none)

      -- an Instantiate of a node that is live
      pub node_cut : (x : Step) (rows : List ReplyRow) (next : Next) → IsStep told faults p h x → x.slot ≡ named c → task_in x.asked ≡ task_of c → is_instantiate c ≡ true → x.node.live ≡ true
          → ((o q : Origin) → rows ≡ rows_by c (link_of x o) (link_of x q) 0 Running 0) → NextBy (first_reply rows) next → SaysOf (chain_by p s c None) next
      node_cut x rows next is slot task inst live are says =
          let there : link p x.slot (task_in x.asked) (s x.slot) ≡ here =
          ap (λ n. link p n (task_in x.asked) (s n)) slot ∙ ap (λ t. link p (named c) t (s (named c))) task in
          let lives : here.state.live ≡ true = ap (λ (m : Link). m.state.live) (sym there) ∙ (ap (λ (m : Link). m.state.live) (sym (plain_at x is)) ∙ live) in
          let cut : chain_by p s c None ≡ record { links = here ∷ []; source = None } =
          chain_is ∙ rw (inst, lives) refl in
          let same : rows ≡ rows_by c here here 0 Running (need_by c None (wants_of c (here ∷ []) None)) =
          rows_at c x x is is 0 Running 0 rows are ∙ (ap (λ (m : Link). rows_by c m m 0 Running 0) there ∙ ap (λ n. rows_by c here here 0 Running n) (sym (need_none c []))) in
          subst (λ ch. SaysOf ch next) (sym cut)
          (named_by h (record { links = here ∷ []; source = None }) _ next
          (held_cons h (named c) [] (inl (subst (λ n. IsSome (h.nodes n)) slot is.there)) (held_none h)) (subst (λ rs. NextBy (first_reply rs) next) same says))

      not_cut : (a b : Bool) → (a && b) ≡ false → (is_instantiate c && here.state.live) ≡ (a && b) → chain_by p s c None ≡ node_chain p s c
      not_cut a b off is = chain_is ∙ ap (λ (b : Bool). if b then record { links = here ∷ []; source = None } else node_chain p s c) (is ∙ off)

      -- the walk along the chain ended before a node that isn't held, or at the last node
      module _ (x : Step) (is : IsStep told faults p h x) (slot : x.slot ≡ named c) (task : task_in x.asked ≡ task_of c) (off : (is_instantiate c && x.node.live) ≡ false) where
        there : link p x.slot (task_in x.asked) (s x.slot) ≡ here
        there = ap (λ n. link p n (task_in x.asked) (s n)) slot ∙ ap (λ t. link p (named c) t (s (named c))) task

        whole : chain_by p s c None ≡ node_chain p s c
        whole =
            let lives : here.state.live ≡ x.node.live = ap (λ (m : Link). m.state.live) (sym there) ∙ ap (λ (m : Link). m.state.live) (sym (plain_at x is)) in
            not_cut (is_instantiate c) x.node.live off (ap (λ b. is_instantiate c && b) lives)

        walked : (pr : Bool) (far : ℕ) → pr ≡ asks_pr c → far ≡ length p.nodes → links_from p s pr (task_in x.asked) far x.slot ≡ (node_chain p s c).links
        walked pr far e f = ap (λ pr. links_from p s pr (task_in x.asked) far x.slot) e ∙ (ap (λ far. links_from p s (asks_pr c) (task_in x.asked) far x.slot) f
            ∙ (ap (λ n. links_from p s (asks_pr c) (task_in x.asked) (length p.nodes) n) slot ∙ ap (λ t. links_from p s (asks_pr c) t (length p.nodes) (named c)) task))

        pub chain_misses : (pr : Bool) (far k : ℕ) → pr ≡ asks_pr c → far ≡ length p.nodes
            → Walks told faults p h s (links_from p s pr (task_in x.asked) far x.slot) (Missing k) → SaysOf (chain_by p s c None) (Take k)
        chain_misses pr far k e f m =
            subst (λ ch. SaysOf ch (Take k)) (sym whole)
            (missing_front h k (slots (node_chain p s c).links) (slots_of_source (node_chain p s c).source)
            (subst (λ ls. Walks told faults p h s ls (Missing k)) (walked pr far e f) m))

        pub chain_ends : (pr : Bool) (far : ℕ) (y : Step) (next : Next) → pr ≡ asks_pr c → far ≡ length p.nodes
            → Walks told faults p h s (links_from p s pr (task_in x.asked) far x.slot) (End y)
            → (let l = link p x.slot (task_in x.asked) (s x.slot) in let e = link p y.slot (task_in y.asked) (s y.slot) in let t = source_of p s (asks_pr c) e in
            NamesBy h (record { links = []; source = t }) (first_reply (end_rows c l e t)) next)
            → SaysOf (chain_by p s c None) next
        chain_ends pr far y next e f m named =
            let (held, last) = subst (λ ls. Walks told faults p h s ls (End y)) (walked pr far e f) m in
            let named' = subst (λ (m : Link). let t = source_of p s (asks_pr c) m in NamesBy h (record { links = []; source = t }) (first_reply (end_rows c here m t)) next) (sym last)
            (subst (λ (l : Link). let e = link p y.slot (task_in y.asked) (s y.slot) in let t = source_of p s (asks_pr c) e in
            NamesBy h (record { links = []; source = t }) (first_reply (end_rows c l e t)) next) there named) in
            subst (λ ch. SaysOf ch next) (sym whole) (joined next (node_chain p s c).source held named') where
              ls : List Link
              ls = (node_chain p s c).links

              need_same : (t : Option SourceLink) → need_by c t (wants_of c (last_link ls ∷ []) t) ≡ need_by c t (wants_of c ls t)
              need_same None = refl
              need_same (Some t) = refl

              joined : (next : Next) (t : Option SourceLink) → AreHeld h (slots ls) → NamesBy h (record { links = []; source = t }) (first_reply (end_rows c here (last_link ls) t)) next
                  → SaysOf (record { links = ls; source = t }) next
              joined (Take k) t held m = missing_behind h k (slots ls) (slots_of_source t) held m
              joined (Refuse r) t held (a, b) = (
                held_both h (slots ls) (slots_of_source t) held a,
                sym (ap (λ n. first_reply (rows_by c here (last_link ls) (taken_of t) (mode_of t) n)) (need_same t)) ∙ b,
              )
              joined Ready t held (a, b) = (
                held_both h (slots ls) (slots_of_source t) held a,
                sym (ap (λ n. first_reply (rows_by c here (last_link ls) (taken_of t) (mode_of t) n)) (need_same t)) ∙ b,
              )

module _ {V : Type 0} (p : Tree) (h : Hold V) (s : States) (c : Call) (string : List ℕ) where
  -- a row that looks at no chain, and none of them
  pub names_plain : (r : Reply) → first_reply (plain_rows p c string) ≡ Some r → Names p h s c string (Refuse r)
  names_plain r e = subst (λ (o : Option Reply). NamesBy h (chain_by p s c o) (refusal p c string (chain_by p s c o)) (Refuse r)) (sym e)
      (held_none h, in_front (plain_rows p c string) (chain_rows c (record { links = []; source = None })) r e)

  pub names_chain : (next : Next) → first_reply (plain_rows p c string) ≡ None → NamesBy h (chain_by p s c None) (first_reply (chain_rows c (chain_by p s c None))) next
      → Names p h s c string next
  names_chain next e m = subst (λ (o : Option Reply). NamesBy h (chain_by p s c o) (refusal p c string (chain_by p s c o)) next) (sym e)
      (subst (λ (o : Option Reply). NamesBy h (chain_by p s c None) o next) (sym (behind_none (plain_rows p c string) (chain_rows c (chain_by p s c None)) e)) m)
