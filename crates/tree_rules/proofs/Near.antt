-- An entry that is right in some states is right in all that agree with them on its chain.
use Rattle.std.proofs.Common.{◌≡◌, ◌∙◌, ◌++◌, ◌∷◌, ℕ, List, [], Bool, true, false, map, refl, ap, subst, eq-eqb}
use Rattle.std.specs.Prelude.{◌==◌, ◌||◌, if◌then◌else◌, Option, Some, None}
use Rattle.rbg_nodes.specs.Node.{New}
use Rattle.tree_config.specs.Tree.{Tree}
use Rattle.tree_config.specs.declared.plan.Origin.{Origin}
use Rattle.tree_config.specs.declared.plan.Origin.TheVariants.{Parent, SeedFile, Source}
use Rattle.tree_rules.specs.Chain.{Chain, SourceLink, asks_pr, named, node_chain, slots_of, slots_of_source, source_by, source_of, task_of, whole_chain}
use Rattle.tree_rules.specs.Fits.{Fits, Follows, found_by}
use Rattle.tree_rules.specs.History.{Entry, SlotState, States, has, node_in}
use Rattle.tree_rules.specs.Links.{Gives, Link, Seeds, Task, asks_parent, is_alive, last_link, link, links, seeding_len, wanted}
use Rattle.tree_rules.specs.Replies.{chain_by, first_reply, plain_rows}
use Rattle.tree_rules.specs.Slots.{lineage, source_slot}
use Rattle.tree_rules.specs.declared.call.Call.{Call}
use Rattle.tree_rules.specs.declared.call.Call.TheVariants.{Generate, Instantiate, Reseed, Start, Status, Uninstantiate}
use Rattle.tree_rules.specs.declared.reply.Reply.{Reply}

-- the states agree on the slots of a list
abbrev pub Agree : States → States → List ℕ → Type 0
Agree s t slots = (k : ℕ) → has slots k ≡ true → s k ≡ t k

pub has_first : (n : ℕ) (xs : List ℕ) → has (n ∷ xs) n ≡ true
has_first n xs = rw (eq-eqb n n refl) refl

pub or_true : (a b : Bool) → b ≡ true → (a || b) ≡ true
or_true true b h = refl
or_true false b h = h

pub has_rest : (n : ℕ) (xs : List ℕ) (k : ℕ) → has xs k ≡ true → has (n ∷ xs) k ≡ true
has_rest n xs k h = or_true (n == k) (has xs k) h

pub or_more : (a b c : Bool) → (b ≡ true → c ≡ true) → (a || b) ≡ true → (a || c) ≡ true
or_more true b c f h = refl
or_more false b c f h = f h

pub has_left : (xs ys : List ℕ) (k : ℕ) → has xs k ≡ true → has (xs ++ ys) k ≡ true
has_left [] ys k h = cc
has_left (x ∷ xs) ys k h = or_more (x == k) (has xs k) (has (xs ++ ys) k) (λ i. has_left xs ys k i) h

pub has_right : (xs ys : List ℕ) (k : ℕ) → has ys k ≡ true → has (xs ++ ys) k ≡ true
has_right [] ys k h = h
has_right (x ∷ xs) ys k h = or_true (x == k) (has (xs ++ ys) k) (has_right xs ys k h)

module _ (p : Tree) (s t : States) where
  tail_near : (b : Bool) (xs ys : List Link) → (Agree s t (map (λ l. l.slot) xs) → xs ≡ ys)
      → Agree s t (map (λ (l : Link). l.slot) (if b then xs else [])) → (if b then xs else []) ≡ (if b then ys else [])
  tail_near true xs ys same h = same h
  tail_near false xs ys same h = refl

  pub links_near : (pr : Bool) (task : Task) (up : List ℕ) → Agree s t (map (λ l. l.slot) (links p s pr task up))
      → links p s pr task up ≡ links p t pr task up
  links_near pr task [] h = refl
  links_near pr task (n ∷ up) h =
      let l = link p n task (s n) in
      let rest = links p s pr (Gives (seeding_len l)) up in
      let e : s n ≡ t n = h n (has_first n (map (λ (l : Link). l.slot) (if asks_parent pr l then rest else []))) in
      ap (λ z. l ∷ z) (tail_near (asks_parent pr l) rest (links p t pr (Gives (seeding_len l)) up)
      (links_near pr (Gives (seeding_len l)) up) (λ k i. h k (has_rest n (map (λ (l : Link). l.slot) (if asks_parent pr l then rest else [])) k i)))
      ∙ ap (λ x. link p n task x ∷ (if asks_parent pr (link p n task x) then links p t pr (Gives (seeding_len (link p n task x))) up else [])) e

  source_by_near : (lens : List ℕ) (o : Origin) → Agree s t (slots_of_source (source_by p s lens o)) → source_by p s lens o ≡ source_by p t lens o
  source_by_near [] o h = refl
  source_by_near (n ∷ lens) (Source j) h =
      let e : s (source_slot p j) ≡ t (source_slot p j) = h (source_slot p j) (has_first (source_slot p j) []) in rw e refl
  source_by_near (n ∷ lens) (SeedFile name) h = refl
  source_by_near (n ∷ lens) (Parent q) h = refl

  source_if_near : (b : Bool) (lens : List ℕ) (o : Origin) → Agree s t (slots_of_source (if b then source_by p s lens o else None))
      → (if b then source_by p s lens o else None) ≡ (if b then source_by p t lens o else None)
  source_if_near true lens o h = source_by_near lens o h
  source_if_near false lens o h = refl

  node_near : (c : Call) → Agree s t (slots_of (node_chain p s c)) → node_chain p s c ≡ node_chain p t c
  node_near c h =
      let ls = links p s (asks_pr c) (task_of c) (lineage p (named c)) in
      let e : ls ≡ links p t (asks_pr c) (task_of c) (lineage p (named c)) =
      links_near (asks_pr c) (task_of c) (lineage p (named c)) (λ k i. h k (has_left (map (λ (l : Link). l.slot) ls) (slots_of_source (source_of p s (asks_pr c) (last_link ls))) k i)) in
      let f : source_of p s (asks_pr c) (last_link ls) ≡ source_of p t (asks_pr c) (last_link ls) =
      source_if_near (is_alive (last_link ls)) (wanted (asks_pr c) (last_link ls)) (last_link ls).origin
      (λ k i. h k (has_right (map (λ (l : Link). l.slot) ls) (slots_of_source (source_of p s (asks_pr c) (last_link ls))) k i)) in
      let whole : List Link → Option SourceLink → Chain = λ ls tap. record { links = ls; source = tap } in
      ap (λ z. whole ls z) f ∙ ap (λ z. whole z (source_of p t (asks_pr c) (last_link z))) e

  whole_near : (c : Call) → Agree s t (slots_of (whole_chain p s c)) → whole_chain p s c ≡ whole_chain p t c
  whole_near (Start j) h = let e : s (source_slot p j) ≡ t (source_slot p j) = h (source_slot p j) (has_first (source_slot p j) []) in rw e refl
  whole_near (Instantiate n x) h = node_near (Instantiate n x) h
  whole_near (Generate n x y z) h = node_near (Generate n x y z) h
  whole_near (Reseed n x) h = node_near (Reseed n x) h
  whole_near (Uninstantiate n) h = node_near (Uninstantiate n) h
  whole_near (Status n) h = node_near (Status n) h

  abbrev one : ℕ → SlotState → Chain
  one n x = record { links = link p n (Seeds New) x ∷ []; source = None }

  first_near : (n x : ℕ) (b : Bool) → Agree s t (slots_of (if b then one n (s n) else node_chain p s (Instantiate n x))) → s n ≡ t n
  first_near n x true h = h n (has_first n [])
  first_near n x false h = h n (has_first n _)

  cut_near : (n x : ℕ) (b : Bool) → Agree s t (slots_of (if b then one n (s n) else node_chain p s (Instantiate n x)))
      → (if b then one n (s n) else node_chain p s (Instantiate n x)) ≡ (if b then one n (s n) else node_chain p t (Instantiate n x))
  cut_near n x true h = refl
  cut_near n x false h = node_near (Instantiate n x) h

  chain_by_near : (c : Call) (r : Option Reply) → Agree s t (slots_of (chain_by p s c r)) → chain_by p s c r ≡ chain_by p t c r
  chain_by_near c (Some r) h = refl
  chain_by_near (Start j) None h = whole_near (Start j) h
  chain_by_near (Instantiate n x) None h =
      cut_near n x (node_in (s n)).live h
      ∙ ap (λ v. if (node_in v).live then one n v else node_chain p t (Instantiate n x)) (first_near n x (node_in (s n)).live h)
  chain_by_near (Generate n x y z) None h = node_near (Generate n x y z) h
  chain_by_near (Reseed n x) None h = node_near (Reseed n x) h
  chain_by_near (Uninstantiate n) None h = node_near (Uninstantiate n) h
  chain_by_near (Status n) None h = node_near (Status n) h

  pub near : (e : Entry) → Agree s t e.chain → Fits p s e → Fits p t e
  near e h f =
      let reply = first_reply (plain_rows p e.call e.string) in
      let agree : Agree s t (slots_of (chain_by p s e.call reply)) = subst (λ slots. Agree s t slots) f.chain_is h in
      subst (λ (ch : Chain). Follows p (found_by ch.source) ch e) (chain_by_near e.call reply agree) f
