-- No node stands among its own ancestors, so what they do leaves it alone.
use Rattle.std.proofs.Common.{◌≡◌, ◌∙◌, ◌∷◌, ◌+◌, ◌<◌, ℕ, List, [], zero, suc, length, Bool, true, false, refl, ap, subst, arith, inl, inr}
use Rattle.std.specs.Prelude.{◌==◌, ◌||◌, ◌⊎◌, if◌then◌else◌, Option, Some, None, slice_get, unwrap_or}
use Rattle.std.proofs.lemmas.Bool.Decides.{nat_tests}
use Rattle.tree_config.specs.Graph.{after, parent_at}
use Rattle.tree_config.specs.Tree.{Tree, IsTree, parents, parent_in}
use Rattle.tree_config.specs.declared.plan.NodePlan.{NodePlan}
use Rattle.tree_config.specs.declared.plan.Origin.{Origin}
use Rattle.tree_config.specs.declared.plan.Origin.TheVariants.{SeedFile, Source, Parent}
use Rattle.tree_config.proofs.Paths.{after-more}
use Rattle.tree_rules.specs.Slots.{ancestors, no_node, node_plan}
use Rattle.tree_rules.specs.History.{States, has}
use Rattle.tree_rules.specs.Links.{Task, Gives, Link, link, links, asks_parent, seeding_len, is_alive, wanted}
use Rattle.tree_rules.specs.Chain.{source_of, source_by, slots_of_source}
use Rattle.tree_rules.proofs.Leaves.{slots}
use Rattle.tree_rules.proofs.Near.{or_more}
use Rattle.tree_acts.specs.Chained.{links_from}

pub same_parent : (nodes : List NodePlan) (n : ℕ) → parent_at (parents nodes) n ≡ parent_in (unwrap_or (slice_get nodes n) no_node).origin
same_parent [] n = refl
same_parent (x ∷ xs) zero = refl
same_parent (x ∷ xs) (suc n) = same_parent xs n

-- the slots of links lie along the path
along : (p : Tree) (s : States) (pr : Bool) (task : Task) (up : List ℕ) (k : ℕ) → has (slots (links p s pr task up)) k ≡ true → has up k ≡ true
along p s pr task [] k h = h
along p s pr task (n ∷ up) k h = by (asks_parent pr l) (λ i. along p s pr (Gives (seeding_len l)) up k i) h where
  l : Link
  l = link p n task (s n)

  by : (b : Bool) → (has (slots (links p s pr (Gives (seeding_len l)) up)) k ≡ true → has up k ≡ true)
      → has (n ∷ slots (if b then links p s pr (Gives (seeding_len l)) up else [])) k ≡ true → has (n ∷ up) k ≡ true
  by true ih h = or_more (n == k) (has (slots (links p s pr (Gives (seeding_len l)) up)) k) (has up k) ih h
  by false ih h = or_more (n == k) false (has up k) (λ i. cc) h

or_cases : (a b : Bool) → (a || b) ≡ true → (a ≡ true) ⊎ (b ≡ true)
or_cases true b h = inl refl
or_cases false b h = inr h

is_same : (a b : ℕ) → (a == b) ≡ true → a ≡ b
is_same a b h = grind (arith, nat_tests)

module _ (p : Tree) where
  abbrev ps : List (Option ℕ)
  ps = parents p.nodes

  -- a node along the way from q is reached from q
  reached : (far q k : ℕ) → has (q ∷ ancestors far p (parent_in (node_plan p q).origin)) k ≡ true → (e : ℕ) × (after ps e q ≡ Some k)
  reached zero q k h = elim (or_cases (q == k) false h) [
    | inl e ↦ (0, ap Some (is_same q k e))
    | inr e ↦ absurd (cc)
  ]
  reached (suc far) q k h = elim (or_cases (q == k) (has (ancestors (suc far) p (parent_in (node_plan p q).origin)) k) h) [
    | inl e ↦ (0, ap Some (is_same q k e))
    | inr e ↦ by (parent_in (node_plan p q).origin) refl (λ m i. reached far m k i) e
  ] where
    by : (o : Option ℕ) → parent_in (node_plan p q).origin ≡ o
        → ((m : ℕ) → has (m ∷ ancestors far p (parent_in (node_plan p m).origin)) k ≡ true → (e : ℕ) × (after ps e m ≡ Some k))
        → has (ancestors (suc far) p o) k ≡ true → (e : ℕ) × (after ps e q ≡ Some k)
    by None is ih h = cc
    by (Some m) is ih h =
        let (e, r) = ih m h in
        (e + 1, after-more ps 1 e q m (same_parent p.nodes q ∙ is) ∙ r)

  -- so a node is none of those from its parent on
  pub alone : (limit : ℕ) (s : States) (pr : Bool) (task : Task) (far n q : ℕ) → IsTree limit p.nodes → parent_in (node_plan p n).origin ≡ Some q
      → has (slots (links_from p s pr task far q)) n ≡ false
  alone limit s pr task far n q tree is = by (has (slots (links_from p s pr task far q)) n) refl where
    by : (b : Bool) → has (slots (links_from p s pr task far q)) n ≡ b → b ≡ false
    by false e = refl
    by true e =
        let (d, r) = reached far q n (along p s pr task (q ∷ ancestors far p (parent_in (node_plan p q).origin)) n e) in
        let back : after ps (d + 1) n ≡ Some n = after-more ps 1 d n q (same_parent p.nodes n ∙ is) ∙ r in
        let one : d + 1 ≡ suc d = omega arith in
        absurd (tree.cycle n (d, subst (λ k. after ps k n ≡ Some n) one back))

-- a source's slot is no node's
pub apart : (p : Tree) (s : States) (pr : Bool) (l : Link) (n : ℕ) → n < length p.nodes → has (slots_of_source (source_of p s pr l)) n ≡ false
apart p s pr l n low = by (is_alive l) (wanted pr l) l.origin where
  by : (b : Bool) (lens : List ℕ) (o : Origin) → has (slots_of_source (if b then source_by p s lens o else None)) n ≡ false
  by false lens o = refl
  by true [] o = refl
  by true (x ∷ lens) (SeedFile name) = refl
  by true (x ∷ lens) (Parent q) = refl
  by true (x ∷ lens) (Source j) = let e : ((length p.nodes + j) == n) ≡ false = differs in rw e refl where
    differs : ((length p.nodes + j) == n) ≡ false
    differs = grind (arith, nat_tests)
