-- What the acts of a chain that gives leave of its nodes: their seedings, generates and reseed counters.
use Rattle.std.proofs.Common.{◌≡◌, ◌∙◌, ◌++◌, ◌∷◌, ◌+◌, ◌<◌, ℕ, List, [], Bool, true, false, length, refl, sym, ap, subst, arith, append-nil, eq-eqb, eqb-true}
use Rattle.std.specs.Prelude.{◌==◌, ◌||◌, if◌then◌else◌}
use Rattle.std.proofs.Math.Bool.{or-true}
use Rattle.rbg_bytes.specs.Xor.{xor_bytes}
use Rattle.rbg_nodes.specs.Node.{NodeAct, NodeState, Renew, Seeded, entropy_len, is_due, node_after}
use Rattle.tree_config.specs.Tree.{Tree}
use Rattle.tree_rules.specs.Slots.{node_row}
use Rattle.tree_rules.specs.History.{Act, AtNode, Distinct, NodeIs, SlotState, has, own, slot_after_all}
use Rattle.tree_rules.specs.Links.{Gives, Link, chunks, is_rs, is_xor, must_by, must_seed}
use Rattle.tree_rules.specs.Works.{Work, at_node, chunked, gave, given_work, last_drawn, material, mixed, task_work, worked}
use Rattle.tree_rules.proofs.Counting.{count_lens}
use Rattle.tree_rules.proofs.Leaves.{or_false, own-append, own_task, own_worked, slots}
use Rattle.tree_load.specs.Tally.{chunks_for}
use Rattle.tree_acts.specs.Chained.{len_of}
use Rattle.tree_load.proofs.Climbing.{counter_behind, moved, with_counter}

-- a node that gave `gives` times more and was seeded `seeds` times more, its reseed counter, and that it is instantiated as before
pub record IsMoved (seeds gives counter : ℕ) (x : NodeState) (y : SlotState) : Type 0 where
  pub now : NodeState
  pub is : y ≡ NodeIs now
  pub seeds_are : now.seeds ≡ x.seeds + seeds
  pub gives_are : now.gives ≡ x.gives + gives
  pub counter_is : now.counter ≡ counter
  pub live_is : now.live ≡ x.live

-- the seedings and the generates of a link that gives
abbrev pub seeds_of : Link → ℕ → ℕ
seeds_of l len = if is_rs l.row.kind then chunks_for l.row len else (if must_seed false l then 1 else 0)

abbrev pub gives_of : Link → ℕ → ℕ
gives_of l len = if is_rs l.row.kind then chunks_for l.row len else 1

module _ (p : Tree) (l : Link) where
  pub here : (a : NodeAct) (acts : List Act) → own l.slot (at_node l a ∷ acts) ≡ AtNode a ∷ own l.slot acts
  here a acts = ap (λ b. if b then AtNode a ∷ own l.slot acts else own l.slot acts) (eq-eqb l.slot l.slot refl)

  abbrev pub left : NodeState → List Act → SlotState
  left x acts = slot_after_all p l.slot (NodeIs x) (own l.slot acts)

  pub both : (x : NodeState) (a b : NodeAct) (acts : List Act) → left x (at_node l a ∷ at_node l b ∷ acts) ≡ left (node_after (node_row p l.slot) (node_after (node_row p l.slot) x a) b) acts
  both x a b acts = ap (slot_after_all p l.slot (NodeIs x)) (here a (at_node l b ∷ acts) ∙ ap (λ z. AtNode a ∷ z) (here b acts))

  -- chunks, where there is a string for each
  chunked_moves : (x s : NodeState) (add : List ℕ) (drawn : List (List ℕ)) (lens : List ℕ) → x.live ≡ true → length drawn ≡ length lens → 0 < length lens
      → IsMoved (length lens) (length lens) 2 x (left x (chunked l s add drawn lens).acts)
  chunked_moves x s add [] lens alive h some = absurd (omega (arith, h, some))
  chunked_moves x s add (d ∷ drawn) [] alive h some = absurd (omega (arith, h))
  chunked_moves x s add (d ∷ []) (len ∷ []) alive h some =
      let now = node_after l.row s (Seeded Renew d add) in
      let e = both x (Seeded Renew d add) (gave l now [] len) [] in record { now = _; is = e; seeds_are = refl; gives_are = refl; counter_is = refl; live_is = sym alive }
  chunked_moves x s add (d ∷ f ∷ drawn) (len ∷ []) alive h some = absurd (omega (arith, h))
  chunked_moves x s add (d ∷ drawn) (len ∷ more ∷ lens) alive h some =
      let now = node_after l.row s (Seeded Renew d add) in
      let given = gave l now [] len in
      let next = node_after l.row now given in
      let y = node_after (node_row p l.slot) (node_after (node_row p l.slot) x (Seeded Renew d add)) given in
      let e = both x (Seeded Renew d add) given (chunked l next [] drawn (more ∷ lens)).acts in
      let m = chunked_moves y next [] drawn (more ∷ lens) refl (omega (arith, h)) (omega arith) in
      let a = m.seeds_are in let b = m.gives_are in record {
        now = m.now;
        is = e ∙ m.is;
        seeds_are = omega (arith, a);
        gives_are = omega (arith, b);
        counter_is = m.counter_is;
        live_is = m.live_is ∙ sym alive;
      }

  given_moves : (x : NodeState) → x.live ≡ true → (b : Bool) (stuff string : List ℕ) (len : ℕ)
      → IsMoved (if b then 1 else 0) 1 (if b then 2 else x.counter + 1) x (left x (given_work l b stuff string len).acts)
  given_moves x alive true stuff string len =
      let now = node_after l.row l.state (Seeded Renew stuff string) in
      let e = both x (Seeded Renew stuff string) (gave l now [] len) [] in record { now = _; is = e; seeds_are = refl; gives_are = refl; counter_is = refl; live_is = sym alive }
  given_moves x alive false stuff string len =
      let e = ap (slot_after_all p l.slot (NodeIs x)) (here (gave l l.state string len) []) in record { now = _; is = e; seeds_are = omega arith; gives_are = refl; counter_is = refl; live_is = refl }

  pub mixed_acts : (drawn : List (List ℕ)) (w : Work) → (mixed l drawn w).acts ≡ w.acts
  mixed_acts drawn w = by (is_xor l.row.kind) where
    by : (b : Bool) → (if b then record w { bytes = xor_bytes w.bytes (last_drawn drawn) } else w).acts ≡ w.acts
    by true = refl
    by false = refl

  -- a node's own part
  pub task_moves : (drawn : List (List ℕ)) (string above : List ℕ) (len : ℕ) → l.task ≡ Gives len → l.state.live ≡ true → (is_rs l.row.kind ≡ true → length drawn ≡ length (chunks l.row len))
      → IsMoved (seeds_of l len) (gives_of l len) (counter_behind l) l.state (left l.state (task_work false drawn string l above (Gives len)).acts)
  task_moves drawn string above len task alive strings = by (is_rs l.row.kind) refl strings where
    given : Work
    given = given_work l (must_seed false l) (material l drawn above) string len

    -- what is counted, by whether it is an RBG3(RS)
    seeds : Bool → ℕ
    seeds b = if b then chunks_for l.row len else (if must_seed false l then 1 else 0)

    gives : Bool → ℕ
    gives b = if b then chunks_for l.row len else 1

    by : (b : Bool) → is_rs l.row.kind ≡ b → (b ≡ true → length drawn ≡ length (chunks l.row len))
        → IsMoved (seeds b) (gives b) (counter_behind l) l.state (left l.state (if b then chunked l l.state string drawn (chunks l.row len) else mixed l drawn given).acts)
    by true rs strings =
        let count : length (chunks l.row len) ≡ chunks_for l.row len = count_lens (chunks_for l.row len) (entropy_len l.row) len in
        let m = chunked_moves l.state l.state string drawn (chunks l.row len) alive (strings refl) (omega (arith, count)) in
        let a = m.seeds_are in let b = m.gives_are in
        let seeded : must_by false l (Gives len) ≡ true = ap (λ z. is_due l.row l.state || false || z) rs ∙ or-true (is_due l.row l.state || false) in record {
          now = m.now;
          is = m.is;
          seeds_are = omega (arith, a, count);
          gives_are = omega (arith, b, count);
          counter_is = m.counter_is ∙ sym (ap (λ z. if z then 2 else l.state.counter + 1) (ap (must_by false l) task ∙ seeded));
          live_is = m.live_is;
        }
    by false rs strings = subst (λ z. IsMoved (seeds false) 1 (counter_behind l) l.state (left l.state z)) (sym (mixed_acts drawn given)) (given_moves l.state alive (must_seed false l) (material l drawn above) string len)

-- what links that give raise the counts of node k by
abbrev pub seeds_at : ℕ → List Link → ℕ
seeds_at k [] = 0
seeds_at k (l ∷ ls) = (if l.slot == k then seeds_of l (len_of l.task) else 0) + seeds_at k ls

abbrev pub gives_at : ℕ → List Link → ℕ
gives_at k [] = 0
gives_at k (l ∷ ls) = (if l.slot == k then gives_of l (len_of l.task) else 0) + gives_at k ls

pub none_seeded : (k : ℕ) (ls : List Link) → has (slots ls) k ≡ false → seeds_at k ls ≡ 0
none_seeded k [] h = refl
none_seeded k (l ∷ ls) h =
    let d = or_false (l.slot == k) (has (slots ls) k) h in
    let e = ap (λ b. if b then seeds_of l (len_of l.task) else 0) d.0 in let r = none_seeded k ls d.1 in omega (arith, e, r)

pub none_given : (k : ℕ) (ls : List Link) → has (slots ls) k ≡ false → gives_at k ls ≡ 0
none_given k [] h = refl
none_given k (l ∷ ls) h =
    let d = or_false (l.slot == k) (has (slots ls) k) h in
    let e = ap (λ b. if b then gives_of l (len_of l.task) else 0) d.0 in let r = none_given k ls d.1 in omega (arith, e, r)

pub none_moved : (c : ℕ → ℕ) (k : ℕ) (ls : List Link) → has (slots ls) k ≡ false → moved c ls k ≡ c k
none_moved c k [] h = refl
none_moved c k (l ∷ ls) h =
    let d = or_false (l.slot == k) (has (slots ls) k) h in
    none_moved (with_counter c l.slot (counter_behind l)) k ls d.1 ∙ ap (λ b. if b then counter_behind l else c k) d.0

-- all links are instantiated and give, and RBG3(RS) has a string for each chunk
abbrev pub Give : List (List ℕ) → List Link → Type 0
Give drawn [] = Unit {0}
Give drawn (l ∷ ls) = (l.task ≡ Gives (len_of l.task)) × (l.state.live ≡ true) × (is_rs l.row.kind ≡ true → length drawn ≡ length (chunks l.row (len_of l.task))) × Give drawn ls

-- the links at k were found in this state
abbrev pub Found : ℕ → NodeState → List Link → Type 0
Found k x [] = Unit {0}
Found k x (l ∷ ls) = (l.slot ≡ k → l.state ≡ x) × Found k x ls

-- a node after the work of a chain
pub worked_moves : (p : Tree) (k : ℕ) (x : NodeState) (c : ℕ → ℕ) (drawn : List (List ℕ)) (string : List ℕ) (ls : List Link) → c k ≡ x.counter → Distinct (slots ls) → Give drawn ls → Found k x ls
    → IsMoved (seeds_at k ls) (gives_at k ls) (moved c ls k) x (slot_after_all p k (NodeIs x) (own k (worked false drawn string ls).acts))
worked_moves p k x c drawn string [] is d give found = record { now = x; is = refl; seeds_are = omega arith; gives_are = omega arith; counter_is = sym is; live_is = refl }
worked_moves p k x c drawn string (l ∷ up) is (off, d) (task, alive, strings, give) (same, found) =
    by (l.slot == k) refl (λ h i. worked_moves p k x (with_counter c l.slot (counter_behind l)) drawn [] up h d give found) where
      above : Work
      above = worked false drawn [] up

      mine : List Act
      mine = (task_work false drawn string l above.bytes l.task).acts

      parts : own k (above.acts ++ mine) ≡ own k above.acts ++ own k mine
      parts = own-append k above.acts mine

      by : (b : Bool) → (l.slot == k) ≡ b → (with_counter c l.slot (counter_behind l) k ≡ x.counter → Unit {0}
          → IsMoved (seeds_at k up) (gives_at k up) (moved (with_counter c l.slot (counter_behind l)) up k) x (slot_after_all p k (NodeIs x) (own k above.acts)))
          → IsMoved ((if b then seeds_of l (len_of l.task) else 0) + seeds_at k up) ((if b then gives_of l (len_of l.task) else 0) + gives_at k up)
          (moved (with_counter c l.slot (counter_behind l)) up k) x (slot_after_all p k (NodeIs x) (own k (above.acts ++ mine)))
      by false other ih =
          let m = ih (ap (λ b. if b then counter_behind l else c k) other ∙ is) tt in
          let none : own k mine ≡ [] = own_task k l other false drawn string above.bytes l.task in
          let e : own k (above.acts ++ mine) ≡ own k above.acts = parts ∙ (ap (λ z. own k above.acts ++ z) none ∙ append-nil (own k above.acts)) in
          let a = m.seeds_are in let b = m.gives_are in record {
            now = m.now;
            is = ap (slot_after_all p k (NodeIs x)) e ∙ m.is;
            seeds_are = omega (arith, a);
            gives_are = omega (arith, b);
            counter_is = m.counter_is;
            live_is = m.live_is;
          }
      by true at ih =
          let slot_is : l.slot ≡ k = eqb-true l.slot k at in
          let off_k : has (slots up) k ≡ false = subst (λ z. has (slots up) z ≡ false) slot_is off in
          let none : own k above.acts ≡ [] = own_worked k false drawn [] up off_k in
          let e : own k (above.acts ++ mine) ≡ own k mine = parts ∙ ap (λ z. z ++ own k mine) none in
          let task_is : mine ≡ (task_work false drawn string l above.bytes (Gives (len_of l.task))).acts = ap (λ z. (task_work false drawn string l above.bytes z).acts) task in
          let t = task_moves p l drawn string above.bytes (len_of l.task) task alive strings in
          let m : IsMoved (seeds_of l (len_of l.task)) (gives_of l (len_of l.task)) (counter_behind l) x (slot_after_all p k (NodeIs x) (own k mine)) =
          subst (λ z. IsMoved (seeds_of l (len_of l.task)) (gives_of l (len_of l.task)) (counter_behind l) x (slot_after_all p k (NodeIs x) (own k z))) (sym task_is)
          (subst (λ z. IsMoved (seeds_of l (len_of l.task)) (gives_of l (len_of l.task)) (counter_behind l) z (slot_after_all p k (NodeIs z) (own k (task_work false drawn string l above.bytes (Gives (len_of l.task))).acts))) (same slot_is)
          (subst (λ z. IsMoved (seeds_of l (len_of l.task)) (gives_of l (len_of l.task)) (counter_behind l) l.state (slot_after_all p z (NodeIs l.state) (own z (task_work false drawn string l above.bytes (Gives (len_of l.task))).acts))) slot_is t)) in
          let no_seeds = none_seeded k up off_k in let no_gives = none_given k up off_k in
          let a = m.seeds_are in let b = m.gives_are in record {
            now = m.now;
            is = ap (slot_after_all p k (NodeIs x)) e ∙ m.is;
            seeds_are = omega (arith, a, no_seeds);
            gives_are = omega (arith, b, no_gives);
            counter_is = m.counter_is ∙ (sym (ap (λ b. if b then counter_behind l else c k) at) ∙ sym (none_moved (with_counter c l.slot (counter_behind l)) k up off_k));
            live_is = m.live_is;
          }
