-- An RBG1 of a chain is its last node, since a child alone has a parent; and an RBG3 draws on a source.
use Rattle.std.proofs.Common.{◌≡◌, ◌∷◌, ℕ, List, [], Bool, true, false, length, refl}
use Rattle.std.specs.Prelude.{◌&&◌, ◌||◌, if◌then◌else◌, is_some, Option, Some, None, slice_get, unwrap_or}
use Rattle.tree_config.specs.Planned as planned
use Rattle.tree_config.specs.Planned.{IsPlanned}
use Rattle.tree_config.specs.Tree.{Tree, parent_in}
use Rattle.tree_config.specs.declared.plan.NodeKind.{NodeKind}
use Rattle.tree_config.specs.declared.plan.NodeKind.TheVariants.{Child, Rbg1, Rbg2, Rbg3Rs, Rbg3Xor}
use Rattle.tree_config.specs.declared.plan.NodePlan.{NodePlan}
use Rattle.tree_config.specs.declared.plan.Origin.{Origin}
use Rattle.tree_config.specs.declared.plan.Origin.TheVariants.{Parent, SeedFile, Source}
use Rattle.tree_rules.specs.Chain.{asks_pr, task_of, whole_chain}
use Rattle.tree_rules.specs.Free.{EndAtRbg1}
use Rattle.tree_rules.specs.History.{States}
use Rattle.tree_rules.specs.Links.{Gives, Link, Task, asks_parent, is_alive, is_rbg1, is_rs, is_xor, link, links, must_seed, seeding_len}
use Rattle.tree_rules.specs.Slots.{lineage, no_node, node_plan, node_row}
use Rattle.tree_rules.specs.declared.call.Call.{Call}
use Rattle.tree_rules.specs.declared.call.Call.TheVariants.{Generate, Instantiate, Reseed, Start, Status, Uninstantiate}

-- a child alone has a parent
of_child : (least sources nodes : ℕ) (kind : NodeKind) (o : Origin) → planned.Fits least sources nodes kind o
    → is_some (parent_in o) ≡ true → (is_rbg1 kind ≡ false) × (is_rs kind ≡ false)
of_child least sources nodes Child o h is = (refl, refl)
of_child least sources nodes Rbg2 o h is = (refl, refl)
of_child least sources nodes Rbg3Xor o h is = (refl, refl)
of_child least sources nodes Rbg1 (Parent q) h is = absurd h
of_child least sources nodes Rbg1 (Source j) h is = absurd h
of_child least sources nodes Rbg1 (SeedFile name) h is = cc
of_child least sources nodes Rbg3Rs (Parent q) h is = absurd h
of_child least sources nodes Rbg3Rs (Source j) h is = cc
of_child least sources nodes Rbg3Rs (SeedFile name) h is = cc

pub parent_is_childs : (least : ℕ) (p : Tree) (n : ℕ) → IsPlanned least p → is_some (parent_in (node_plan p n).origin) ≡ true
    → (is_rbg1 (node_row p n).kind ≡ false) × (is_rs (node_row p n).kind ≡ false)
parent_is_childs least p n plan is = by (slice_get p.nodes n) (plan.node n) is where
  by : (o : Option NodePlan) → ((x : NodePlan) → o ≡ Some x → planned.IsNode least (length p.sources) (length p.nodes) x)
      → is_some (parent_in (unwrap_or o no_node).origin) ≡ true → (is_rbg1 (unwrap_or o no_node).kind ≡ false) × (is_rs (unwrap_or o no_node).kind ≡ false)
  by None f is = cc
  by (Some x) f is = of_child least (length p.sources) (length p.nodes) x.kind x.origin (f x refl).origin is

-- an RBG3 draws on a source
of_rbg3 : (least sources nodes : ℕ) (kind : NodeKind) (o : Origin) → (is_rs kind || is_xor kind) ≡ true → planned.Fits least sources nodes kind o
    → (j : ℕ) × (o ≡ Source j)
of_rbg3 least sources nodes Rbg3Rs (Source j) is h = (j, refl)
of_rbg3 least sources nodes Rbg3Rs (SeedFile name) is h = absurd h
of_rbg3 least sources nodes Rbg3Rs (Parent q) is h = absurd h
of_rbg3 least sources nodes Rbg3Xor (Source j) is h = (j, refl)
of_rbg3 least sources nodes Rbg3Xor (SeedFile name) is h = absurd h
of_rbg3 least sources nodes Rbg3Xor (Parent q) is h = absurd h
of_rbg3 least sources nodes Rbg1 o is h = cc
of_rbg3 least sources nodes Rbg2 o is h = cc
of_rbg3 least sources nodes Child o is h = cc

pub rbg3_draws : (least : ℕ) (p : Tree) (n : ℕ) → IsPlanned least p → (is_rs (node_row p n).kind || is_xor (node_row p n).kind) ≡ true
    → (j : ℕ) × ((node_plan p n).origin ≡ Source j)
rbg3_draws least p n plan is = by (slice_get p.nodes n) (plan.node n) is where
  by : (o : Option NodePlan) → ((x : NodePlan) → o ≡ Some x → planned.IsNode least (length p.sources) (length p.nodes) x)
      → (is_rs (unwrap_or o no_node).kind || is_xor (unwrap_or o no_node).kind) ≡ true → (j : ℕ) × ((unwrap_or o no_node).origin ≡ Source j)
  by None f is = cc
  by (Some x) f is = of_rbg3 least (length p.sources) (length p.nodes) x.kind x.origin is (f x refl).origin

third : (a b c : Bool) → (a && b && c) ≡ true → c ≡ true
third true true c h = h
third true false c h = cc
third false b c h = cc

one_more : (l : Link) (ls : List Link) → is_rbg1 l.row.kind ≡ false → EndAtRbg1 ls → EndAtRbg1 (l ∷ ls)
one_more l [] f h = tt
one_more l (m ∷ ls) f h = (f, h)

module _ (least : ℕ) (p : Tree) (plan : IsPlanned least p) (s : States) (pr : Bool) where
  links_end : (task : Task) (ns : List ℕ) → EndAtRbg1 (links p s pr task ns)
  links_end task [] = tt
  links_end task (n ∷ up) = by (asks_parent pr l) refl (links_end (Gives (seeding_len l)) up) where
    l : Link
    l = link p n task (s n)

    by : (b : Bool) → asks_parent pr l ≡ b → EndAtRbg1 (links p s pr (Gives (seeding_len l)) up)
        → EndAtRbg1 (l ∷ (if b then links p s pr (Gives (seeding_len l)) up else []))
    by false is h = tt
    by true is h =
        one_more l (links p s pr (Gives (seeding_len l)) up)
        (parent_is_childs least p n plan (third (is_alive l) (must_seed pr l) (is_some (parent_in l.origin)) is)).0 h

pub rbg1_last : (least : ℕ) (p : Tree) (s : States) (c : Call) → IsPlanned least p → EndAtRbg1 (whole_chain p s c).links
rbg1_last least p s (Start j) plan = tt
rbg1_last least p s (Instantiate n x) plan = links_end least p plan s (asks_pr (Instantiate n x)) (task_of (Instantiate n x)) (lineage p n)
rbg1_last least p s (Generate n x y z) plan = links_end least p plan s (asks_pr (Generate n x y z)) (task_of (Generate n x y z)) (lineage p n)
rbg1_last least p s (Reseed n z) plan = links_end least p plan s (asks_pr (Reseed n z)) (task_of (Reseed n z)) (lineage p n)
rbg1_last least p s (Uninstantiate n) plan = links_end least p plan s (asks_pr (Uninstantiate n)) (task_of (Uninstantiate n)) (lineage p n)
rbg1_last least p s (Status n) plan = links_end least p plan s (asks_pr (Status n)) (task_of (Status n)) (lineage p n)
