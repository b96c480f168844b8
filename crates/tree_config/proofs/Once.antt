-- A text has at most one plan or fault, and a node one depth.
use Rattle.std.proofs.Common.{◌≡◌, ℕ, List, Option, Result, Ok, Err, refl, sym, ap, ◌∙◌, arith, subst, inl, inr}
use Rattle.std.proofs.lemmas.Bool.{cases_lt}
use Rattle.std.proofs.lemmas.Option.{same_Some}
use Rattle.tree_config.specs.declared.fault.ConfigFault.{ConfigFault}
use Rattle.tree_config.specs.declared.fault.ConfigFault.TheVariants.{NoSuchParent, Cycle, TooDeep, StrengthRises}
use Rattle.tree_config.specs.declared.plan.NodePlan.{NodePlan}
use Rattle.tree_config.specs.Graph.{parent_at, HasDepth, IsLeast}
use Rattle.tree_config.specs.Rows.{Rows, rows_of, depth_limit}
use Rattle.tree_config.specs.Tree.{Tree, Plan, GraphFault, IsTree, parents, strength_at, tree_of}
use Rattle.tree_config.specs.Planned.{IsPlanned}
use Rattle.tree_config.proofs.Paths.{one_depth}
use Rattle.tree_config.proofs.Planning.{planned}
use Rattle.tree_config.proofs.Ranges.{same_Ok}

pub depth_once : (ps : List (Option ℕ)) (n d e : ℕ) → HasDepth ps n d → HasDepth ps n e → d ≡ e
depth_once ps n d e a b = let low = one_depth ps n d e a b in let high = one_depth ps n e d b a in omega arith

least_once : (P : ℕ → Type 0) (n m : ℕ) → IsLeast P n → IsLeast P m → n ≡ m
least_once P n m a b =
    elim (cases_lt n m) [
      | inl less ↦ absurd (b.least n less a.holds)
      | inr most ↦ elim (cases_lt m n) [ inl less ↦ absurd (a.least m less b.holds) | inr same ↦ omega arith ]
    ]

module _ (limit : ℕ) (nodes : List NodePlan) where
  -- nodes that make a tree have no fault
  no_fault : (f : ConfigFault) → IsTree limit nodes → GraphFault limit nodes f → ⊥
  no_fault (NoSuchParent n p) tree h = tree.parent n h.0.holds
  no_fault (Cycle n) tree h = tree.cycle n h.1.holds
  no_fault (TooDeep n) tree h = tree.depth n h.2.holds
  no_fault (StrengthRises n own parent) tree h = tree.strengths n h.3.holds
  no_fault f tree h = h

  missing_once : (n p : ℕ) (g : ConfigFault) → GraphFault limit nodes (NoSuchParent n p) → GraphFault limit nodes g → NoSuchParent n p ≡ g
  missing_once n p (NoSuchParent m q) a b =
      let same = least_once _ n m a.0 b.0 in
      let link : p ≡ q = same_Some p q (sym a.1 ∙ ap (parent_at (parents nodes)) same ∙ b.1) in
      rw (same, link) refl
  missing_once n p (Cycle m) a b = absurd (b.0 n a.0.holds)
  missing_once n p (TooDeep m) a b = absurd (b.0 n a.0.holds)
  missing_once n p (StrengthRises m own parent) a b = absurd (b.0 n a.0.holds)
  missing_once n p g a b = absurd b

  cycle_once : (n : ℕ) (g : ConfigFault) → GraphFault limit nodes (Cycle n) → GraphFault limit nodes g → Cycle n ≡ g
  cycle_once n (NoSuchParent m q) a b = absurd (a.0 m b.0.holds)
  cycle_once n (Cycle m) a b = ap Cycle (least_once _ n m a.1 b.1)
  cycle_once n (TooDeep m) a b = absurd (b.1 n a.1.holds)
  cycle_once n (StrengthRises m own parent) a b = absurd (b.1 n a.1.holds)
  cycle_once n g a b = absurd b

  deep_once : (n : ℕ) (g : ConfigFault) → GraphFault limit nodes (TooDeep n) → GraphFault limit nodes g → TooDeep n ≡ g
  deep_once n (NoSuchParent m q) a b = absurd (a.0 m b.0.holds)
  deep_once n (Cycle m) a b = absurd (a.1 m b.1.holds)
  deep_once n (TooDeep m) a b = ap TooDeep (least_once _ n m a.2 b.2)
  deep_once n (StrengthRises m own parent) a b = absurd (b.2 n a.2.holds)
  deep_once n g a b = absurd b

  rise_once : (n own above : ℕ) (g : ConfigFault) → GraphFault limit nodes (StrengthRises n own above) → GraphFault limit nodes g → StrengthRises n own above ≡ g
  rise_once n own above (NoSuchParent m q) a b = absurd (a.0 m b.0.holds)
  rise_once n own above (Cycle m) a b = absurd (a.1 m b.1.holds)
  rise_once n own above (TooDeep m) a b = absurd (a.2 m b.2.holds)
  rise_once n own above (StrengthRises m its parent) a b =
      let same = least_once _ n m a.3 b.3 in
      let bits : own ≡ its = a.4 ∙ ap (strength_at nodes) same ∙ sym b.4 in
      let (p, up, its_bits) = a.5 in
      let (q, up', bits') = b.5 in
      let link : p ≡ q = same_Some p q (sym up ∙ ap (parent_at (parents nodes)) same ∙ up') in
      let over : above ≡ parent = its_bits ∙ ap (strength_at nodes) link ∙ sym bits' in
      rw (same, bits, over) refl
  rise_once n own above g a b = absurd b

  fault_once : (f g : ConfigFault) → GraphFault limit nodes f → GraphFault limit nodes g → f ≡ g
  fault_once (NoSuchParent n p) g a b = missing_once n p g a b
  fault_once (Cycle n) g a b = cycle_once n g a b
  fault_once (TooDeep n) g a b = deep_once n g a b
  fault_once (StrengthRises n own above) g a b = rise_once n own above g a b
  fault_once f g a b = absurd a

same_Err : {A E : Type 0} (r : Result A E) (f g : E) → r ≡ Err f → r ≡ Err g → f ≡ g
same_Err r f g h i = cc

ok_or_err : {A E : Type 0} (r : Result A E) (x : A) (f : E) → r ≡ Ok x → r ≡ Err f → ⊥
ok_or_err r x f h i = cc

plan_or_fault : (text : List ℕ) (tree : Tree) (f : ConfigFault) → Plan text (Ok tree) → Plan text (Err f) → ⊥
plan_or_fault text tree f (rows, read, is_tree, is) fault =
    elim fault [
      | inl h ↦ ok_or_err (rows_of text) rows f read h
      | inr h ↦
          let same : h.0 ≡ rows = same_Ok (rows_of text) h.0 rows h.1 read in
          let nodes : tree.nodes ≡ (tree_of rows).nodes = ap (λ t. t.nodes) is in
          no_fault (depth_limit rows.version) (tree_of rows).nodes f (rw (← nodes) is_tree) (subst (λ (r : Rows). GraphFault (depth_limit r.version) (tree_of r).nodes f) same h.2)
    ]

pub plan_once : (text : List ℕ) (r s : Result Tree ConfigFault) → Plan text r → Plan text s → r ≡ s
plan_once text (Ok a) (Ok b) (rows, read, tree, is) (rows', read', tree', is') =
    ap Ok (is ∙ ap tree_of (same_Ok (rows_of text) rows rows' read read') ∙ sym is')
plan_once text (Ok a) (Err f) x y = absurd (plan_or_fault text a f x y)
plan_once text (Err f) (Ok a) x y = absurd (plan_or_fault text a f y x)
plan_once text (Err f) (Err g) x y =
    elim x [
      | inl h ↦ elim y [ inl i ↦ ap Err (same_Err (rows_of text) f g h i) | inr i ↦ absurd (ok_or_err (rows_of text) i.0 f i.1 h) ]
      | inr h ↦ elim y [
        | inl i ↦ absurd (ok_or_err (rows_of text) h.0 g h.1 i)
        | inr i ↦
            let same : i.0 ≡ h.0 = same_Ok (rows_of text) i.0 h.0 i.1 h.1 in
            ap Err (fault_once (depth_limit h.0.version) (tree_of h.0).nodes f g h.2 (subst (λ (r : Rows). GraphFault (depth_limit r.version) (tree_of r).nodes g) same i.2))
      ]
    ]

pub plan_in_range : (text : List ℕ) (tree : Tree) → Plan text (Ok tree) → IsPlanned 1 tree
plan_in_range text tree (rows, read, is_tree, is) =
    let nodes : tree.nodes ≡ (tree_of rows).nodes = ap (λ t. t.nodes) is in
    let made : IsTree (depth_limit rows.version) (tree_of rows).nodes = rw (← nodes) is_tree in
    rw is (planned text rows read made.parent)
