-- Every chain lies on the path of the slot that its call names.
use Rattle.std.proofs.Common.{◌≡◌, ◌++◌, ◌∷◌, ℕ, List, [], zero, suc, Bool, true, false, length, map, refl, sym, subst, arith}
use Rattle.std.specs.Prelude.{◌==◌, ◌&&◌, if◌then◌else◌, Option, Some, None, nat_lt, nat_le, is_some}
use Rattle.tree_config.specs.Tree.{Tree, parent_in}
use Rattle.tree_config.specs.declared.plan.Origin.{Origin}
use Rattle.tree_config.specs.declared.plan.Origin.TheVariants.{Parent, SeedFile, Source}
use Rattle.tree_rules.specs.Chain.{asks_pr, named, node_chain, slots_of, slots_of_source, source_by, source_of, target, task_of}
use Rattle.tree_rules.specs.History.{States, has, node_in}
use Rattle.tree_rules.specs.Links.{Gives, Link, Task, asks_parent, first_link, is_alive, last_link, link, links, must_seed, seeding_len, wanted}
use Rattle.tree_rules.specs.Replies.{chain_by, chain_of, first_reply, plain_rows, there_are}
use Rattle.tree_rules.specs.Slots.{ancestors, lineage, node_plan, path, slots_of_origin, source_slot, with_source}
use Rattle.tree_rules.specs.declared.call.Call.{Call}
use Rattle.tree_rules.specs.declared.call.Call.TheVariants.{Generate, Instantiate, Reseed, Start, Status, Uninstantiate}
use Rattle.tree_rules.specs.declared.reply.Reply.{Reply}
use Rattle.tree_rules.proofs.Near.{or_more}
use Rattle.tree_rules.proofs.Sources.{none_stands}
use Rattle.tree_rules.proofs.Parting.{high}
use Rattle.std.proofs.lemmas.Bool.Decides.{nat_tests}

abbrev slots : List Link → List ℕ
slots ls = map (λ (l : Link). l.slot) ls

pub no_more : (a b : Bool) → (a && b && false) ≡ false
no_more true true = refl
no_more true false = refl
no_more false b = refl

-- a parent is no source
no_source_too : (p : Tree) (o : Origin) (m : ℕ) → parent_in o ≡ Some m → slots_of_origin p o ≡ []
no_source_too p (SeedFile name) m h = refl
no_source_too p (Source j) m h = cc
no_source_too p (Parent q) m h = refl

-- a path begins with its node
begins : (p : Tree) (n : ℕ) (up : List ℕ) (k : ℕ) → has (n ∷ []) k ≡ true → has (with_source p (n ∷ up)) k ≡ true
begins p n [] k h = or_more (n == k) false (has (slots_of_origin p (node_plan p n).origin) k) (λ i. cc) h
begins p n (m ∷ up) k h = or_more (n == k) false (has (with_source p (m ∷ up)) k) (λ i. cc) h

module _ (p : Tree) (s : States) (pr : Bool) (k : ℕ) where
  -- the source on which a node draws is that of its origin
  source_on : (alive : Bool) (lens : List ℕ) (o : Origin)
      → has (slots_of_source (if alive then source_by p s lens o else None)) k ≡ true → has (slots_of_origin p o) k ≡ true
  source_on false lens o h = cc
  source_on true [] o h = cc
  source_on true (n ∷ lens) (Source j) h = h
  source_on true (n ∷ lens) (SeedFile name) h = cc
  source_on true (n ∷ lens) (Parent q) h = cc

  abbrev all : List Link → List ℕ
  all ls = slots ls ++ slots_of_source (source_of p s pr (last_link ls))

  -- a node that is the last one
  alone : (l : Link) → has (all (l ∷ [])) k ≡ true → has (l.slot ∷ slots_of_origin p l.origin) k ≡ true
  alone l h = or_more (l.slot == k) (has (slots_of_source (source_of p s pr l)) k) (has (slots_of_origin p l.origin) k)
      (source_on (is_alive l) (wanted pr l) l.origin) h

  -- nodes along a path, and the source of the last one
  along : (far n : ℕ) (task : Task)
      → has (all (links p s pr task (n ∷ ancestors far p (parent_in (node_plan p n).origin)))) k ≡ true
      → has (with_source p (n ∷ ancestors far p (parent_in (node_plan p n).origin))) k ≡ true
  along zero n task h = by (asks_parent pr l) h where
    l : Link
    l = link p n task (s n)

    by : (b : Bool) → has (all (l ∷ (if b then [] else []))) k ≡ true → has (n ∷ slots_of_origin p l.origin) k ≡ true
    by true h = alone l h
    by false h = alone l h
  along (suc far) n task h = by (parent_in l.origin) refl (λ m i. along far m (Gives (seeding_len l)) i) h where
    l : Link
    l = link p n task (s n)

    by : (q : Option ℕ) → parent_in l.origin ≡ q
        → ((m : ℕ) → has (all (links p s pr (Gives (seeding_len l)) (m ∷ ancestors far p (parent_in (node_plan p m).origin)))) k ≡ true
        → has (with_source p (m ∷ ancestors far p (parent_in (node_plan p m).origin))) k ≡ true)
        → has (all (l ∷ (if is_alive l && must_seed pr l && is_some q then links p s pr (Gives (seeding_len l)) (ancestors (suc far) p q) else []))) k ≡ true
        → has (with_source p (n ∷ ancestors (suc far) p q)) k ≡ true
    by None is ih h = alone l (subst (λ b. has (all (l ∷ (if b then [] else []))) k ≡ true) (no_more (is_alive l) (must_seed pr l)) h)
    by (Some m) is ih h = cut (is_alive l && must_seed pr l && true) h where
      up : List ℕ
      up = ancestors far p (parent_in (node_plan p m).origin)

      cut : (b : Bool) → has (all (l ∷ (if b then links p s pr (Gives (seeding_len l)) (m ∷ up) else []))) k ≡ true
          → has (n ∷ with_source p (m ∷ up)) k ≡ true
      cut true h = or_more (n == k) (has (all (links p s pr (Gives (seeding_len l)) (m ∷ up))) k) (has (with_source p (m ∷ up)) k) (ih m) h
      cut false h = or_more (n == k) false (has (with_source p (m ∷ up)) k) (λ i. cc)
          (subst (λ z. has (n ∷ z) k ≡ true) (no_source_too p l.origin m is) (alone l h))

pub below : (a b : ℕ) → nat_le a b ≡ false → nat_lt b a ≡ true
below a b h = grind (arith, nat_tests)

module _ (p : Tree) (s : States) (k : ℕ) where
  -- the path of a node that there is
  of_node : (n : ℕ) (at : List ℕ) → nat_lt n (length p.nodes) ≡ true → has (with_source p (lineage p n)) k ≡ true → has (path p n) k ≡ true
  of_node n at low h = subst (λ b. has (if b then with_source p (lineage p n) else n ∷ []) k ≡ true) (sym low) h

  node_on : (c : Call) → nat_lt (named c) (length p.nodes) ≡ true → has (slots_of (node_chain p s c)) k ≡ true → has (path p (named c)) k ≡ true
  node_on c low h = of_node (named c) [] low (along p s (asks_pr c) k (length p.nodes) (named c) (task_of c) h)

  -- of a chain that no plain row stops
  free : (c : Call) → nat_le (there_are p c) (named c) ≡ false → has (slots_of (chain_by p s c None)) k ≡ true → has (path p (target p c)) k ≡ true
  free (Start j) low h = subst (λ b. has (if b then with_source p (lineage p (source_slot p j)) else source_slot p j ∷ []) k ≡ true)
      (sym (high (length p.nodes) j)) h
  free (Instantiate n x) low h = cut (node_in (s n)).live h where
    cut : (b : Bool) → has (slots_of (if b then record { links = first_link (node_chain p s (Instantiate n x)).links ∷ []; source = None } else node_chain p s (Instantiate n x))) k ≡ true
        → has (path p n) k ≡ true
    cut true h = of_node n [] (below (length p.nodes) n low) (begins p n (ancestors (length p.nodes) p (parent_in (node_plan p n).origin)) k h)
    cut false h = node_on (Instantiate n x) (below (length p.nodes) n low) h
  free (Generate n x y z) low h = node_on (Generate n x y z) (below (length p.nodes) n low) h
  free (Reseed n z) low h = node_on (Reseed n z) (below (length p.nodes) n low) h
  free (Uninstantiate n) low h = node_on (Uninstantiate n) (below (length p.nodes) n low) h
  free (Status n) low h = node_on (Status n) (below (length p.nodes) n low) h

  pub on_path : (c : Call) (string : List ℕ) → has (slots_of (chain_of p s c string)) k ≡ true → has (path p (target p c)) k ≡ true
  on_path c string h = by (first_reply (plain_rows p c string)) refl h where
    by : (r : Option Reply) → first_reply (plain_rows p c string) ≡ r → has (slots_of (chain_by p s c r)) k ≡ true → has (path p (target p c)) k ≡ true
    by (Some r) is h = cc
    by None is h = free c (none_stands (plain_rows p c string) is).0 h
