-- What one Generate more changes in what the calls decide of each node and of each source.
use Rattle.std.proofs.Common.{◌≡◌, ◌∙◌, ◌++◌, ◌∷◌, ◌+◌, ◌*◌, ◌<◌, ℕ, List, [], zero, suc, Bool, true, false, length, map, refl, sym, ap, subst, arith, add-mul, add-zero, eq-eqb, eqb-true}
use Rattle.std.specs.Prelude.{◌==◌, ◌&&◌, ◌||◌, if◌then◌else◌, is_some, nat_lt, sum, slice_get, unwrap_or}
use Rattle.std.specs.Int.{div_ceil}
use Rattle.rbg_bytes.specs.declared.cond.Cond.{Cond}
use Rattle.rbg_bytes.specs.declared.cond.Cond.TheVariants as conds
use Rattle.conditioner.specs.Conditioned.{block_len}
use Rattle.entropy_source.specs.Source.{blocks_for}
use Rattle.entropy_source.specs.declared.answers.SourceRow.{SourceRow}
use Rattle.rbg_nodes.specs.Node.{entropy_len}
use Rattle.rbg_nodes.specs.declared.node.NodeRow.{NodeRow}
use Rattle.tree_config.specs.Planned.{IsPlanned}
use Rattle.tree_config.specs.Tree.{IsTree, Tree, parent_in}
use Rattle.tree_config.specs.declared.plan.NodeKind.{NodeKind}
use Rattle.tree_config.specs.declared.plan.NodeKind.TheVariants.{Child, Rbg1, Rbg2, Rbg3Rs, Rbg3Xor}
use Rattle.tree_config.specs.declared.plan.NodePlan.{NodePlan}
use Rattle.tree_config.specs.declared.plan.Origin.{Origin}
use Rattle.tree_config.specs.declared.plan.Origin.TheVariants.{Parent, SeedFile, Source}
use Rattle.tree_rules.specs.History.{Distinct, Entry, States, has, node_in}
use Rattle.tree_rules.specs.Links.{Gives, Link, chunks, is_rs, is_xor, last_link, link, must_seed, wanted, wanted_by}
use Rattle.tree_rules.specs.Slots.{no_node, node_plan, node_row, source_row}
use Rattle.tree_rules.proofs.Leaves.{slots}
use Rattle.tree_rules.proofs.Near.{has_first, has_rest}
use Rattle.tree_acts.specs.Chained.{len_of, rest_from}
use Rattle.tree_acts.proofs.Counted.{of_chunks}
use Rattle.tree_load.specs.Tally.{all_asks, all_blocks, blocks_by, chunks_for, drawn_len, is_from, reseeds_for, sum_of}
use Rattle.tree_load.proofs.Asking.{nothing, same_sums, within}
use Rattle.tree_load.proofs.Below.{all_low}
use Rattle.tree_load.proofs.Climbing.{asked_at, climbs, moved, not_less, with_one}
use Rattle.tree_load.proofs.Generating.{Generated, chain, children, distinct, draws_on, end_gives, end_line, gives, lines}
use Rattle.tree_load.proofs.Lining.{AreCapped, AreChildren, are_giving, are_of}
use Rattle.tree_load.proofs.Moving.{none_moved, none_seeded, seeds_at, seeds_of}
use Rattle.tree_load.proofs.Stepping.{Asked, Steps, none_asked, off_chain, on_chain}

-- a source draws no block for no bytes
no_bytes : (row : SourceRow) → blocks_for row 0 ≡ 0
no_bytes row = by row.cond where
  by : (c : Cond) → div_ceil 0 (block_len c) ≡ 0
  by conds.HmacSha256 = refl
  by conds.DfAes256 = refl

-- the blocks of a node that is seeded so often, and is asked so many by its lengths
abbrev blocks_of : NodeRow → (ℕ → ℕ) → ℕ → ℕ → ℕ
blocks_of row f seeds asked = seeds * f (drawn_len row) + (if is_xor row.kind then asked else 0)

-- what a link that gives draws
rs_no_xor : (kind : NodeKind) → is_rs kind ≡ true → is_xor kind ≡ false
rs_no_xor Rbg3Rs h = refl
rs_no_xor Rbg3Xor h = cc
rs_no_xor Rbg1 h = cc
rs_no_xor Rbg2 h = cc
rs_no_xor Child h = cc

wanted_is : (f : ℕ → ℕ) → f 0 ≡ 0 → (l : Link) (len : ℕ) → l.task ≡ Gives len → sum (map f (wanted false l)) ≡ blocks_of l.row f (seeds_of l len) (f len)
wanted_is f none l len task = by (is_rs l.row.kind) refl where
  by : (b : Bool) → is_rs l.row.kind ≡ b → sum (map f (wanted false l)) ≡ blocks_of l.row f (seeds_of l len) (f len)
  by true rs =
      let xor = rs_no_xor l.row.kind rs in
      let w : sum (map f (wanted false l)) ≡ chunks_for l.row len * f (entropy_len l.row + 8) = of_chunks f false l l.task len task rs in
      let e : blocks_of l.row f (seeds_of l len) (f len) ≡ chunks_for l.row len * f (entropy_len l.row + 8) + 0 = rw (rs, xor) refl in omega (arith, w, e)
  by false no_rs =
      let w : sum (map f (wanted false l)) ≡ sum (map f ((if must_seed false l then entropy_len l.row ∷ [] else []) ++ (if is_xor l.row.kind && nat_lt 0 len then len ∷ [] else []))) =
      ap (λ z. sum (map f (wanted_by false l z))) task ∙ ap (λ b. sum (map f (if b then map (λ (_ : ℕ). entropy_len l.row + 8) (chunks l.row len)
      else (if must_seed false l then entropy_len l.row ∷ [] else []) ++ (if is_xor l.row.kind && nat_lt 0 len then len ∷ [] else [])))) no_rs in
      let e : blocks_of l.row f (seeds_of l len) (f len) ≡ (if must_seed false l then 1 else 0) * f (entropy_len l.row) + (if is_xor l.row.kind then f len else 0) = rw no_rs refl in
      w ∙ (parts (must_seed false l) (is_xor l.row.kind) (nat_lt 0 len) (λ h. (let z = not_less 0 len h in omega (arith, z))) ∙ sym e) where
        parts : (m x y : Bool) → (y ≡ false → len ≡ 0) → sum (map f ((if m then entropy_len l.row ∷ [] else []) ++ (if x && y then len ∷ [] else []))) ≡ (if m then 1 else 0) * f (entropy_len l.row) + (if x then f len else 0)
        parts true false y h = omega arith
        parts false false y h = omega arith
        parts true true true h = omega arith
        parts false true true h = let a : sum (map f (len ∷ [])) ≡ f len = omega arith in let b : 0 * f (entropy_len l.row) + f len ≡ f len = omega arith in a ∙ sym b
        parts true true false h =
            let a : f len ≡ 0 = ap f (h refl) ∙ none in
            let b : sum (map f (entropy_len l.row ∷ [])) ≡ f (entropy_len l.row) = omega arith in
            let c : 1 * f (entropy_len l.row) + f len ≡ f (entropy_len l.row) = omega (arith, a) in b ∙ sym c
        parts false true false h =
            let a : f len ≡ 0 = ap f (h refl) ∙ none in
            let c : 0 * f (entropy_len l.row) + f len ≡ 0 = omega (arith, a) in sym c

-- the last of links that stand apart
at_end : (w : ℕ → ℕ) (l : Link) (ls : List Link) → Distinct (slots (l ∷ ls)) → let end = last_link (l ∷ ls) in
    (has (slots (l ∷ ls)) end.slot ≡ true) × (seeds_at end.slot (l ∷ ls) ≡ seeds_of end (len_of end.task)) × (asked_at w end.slot (l ∷ ls) ≡ w (len_of end.task))
at_end w l [] d =
    let on : (l.slot == l.slot) ≡ true = eq-eqb l.slot l.slot refl in
    let a = ap (λ b. (if b then seeds_of l (len_of l.task) else 0) + 0) on in
    let c = ap (λ b. (if b then w (len_of l.task) else 0) + 0) on in
    (has_first l.slot [], omega (arith, a), omega (arith, c))
at_end w l (m ∷ ls) (off, d) =
    let (there, seeds, asked) = at_end w m ls d in
    let other : (l.slot == (last_link (m ∷ ls)).slot) ≡ false = by (l.slot == (last_link (m ∷ ls)).slot) refl there in
    let a = ap (λ b. if b then seeds_of l (len_of l.task) else 0) other in
    let c = ap (λ b. if b then w (len_of l.task) else 0) other in
    (has_rest l.slot (slots (m ∷ ls)) (last_link (m ∷ ls)).slot there, omega (arith, a, seeds), omega (arith, c, asked)) where
      by : (b : Bool) → (l.slot == (last_link (m ∷ ls)).slot) ≡ b → has (slots (m ∷ ls)) (last_link (m ∷ ls)).slot ≡ true → b ≡ false
      by false at there = refl
      by true at there =
          let on : has (slots (m ∷ ls)) l.slot ≡ true = subst (λ z. has (slots (m ∷ ls)) z ≡ true) (sym (eqb-true l.slot (last_link (m ∷ ls)).slot at)) there in
          absurd (let z : true ≡ false = sym on ∙ off in cc)

-- a link that draws on a source is the last one
no_parent_too : (j : ℕ) (o : Origin) → is_some (parent_in o) ≡ true → is_from j o ≡ true → ⊥
no_parent_too j (Parent q) h i = cc
no_parent_too j (SeedFile name) h i = cc
no_parent_too j (Source k) h i = cc

draws_last : (p : Tree) (j k : ℕ) (l : Link) (ls : List Link) → AreChildren p (l ∷ ls) → has (slots (l ∷ ls)) k ≡ true → is_from j (node_plan p k).origin ≡ true → (last_link (l ∷ ls)).slot ≡ k
draws_last p j k l [] children h from = by (l.slot == k) refl h where
  by : (b : Bool) → (l.slot == k) ≡ b → (b || false) ≡ true → l.slot ≡ k
  by true at h = eqb-true l.slot k at
  by false at h = cc
draws_last p j k l (m ∷ ls) (parent, alive, children) h from = by (l.slot == k) refl h (λ i. draws_last p j k m ls children i from) where
  by : (b : Bool) → (l.slot == k) ≡ b → (b || has (slots (m ∷ ls)) k) ≡ true → (has (slots (m ∷ ls)) k ≡ true → (last_link (m ∷ ls)).slot ≡ k) → (last_link (m ∷ ls)).slot ≡ k
  by true at h ih = absurd (no_parent_too j (node_plan p k).origin (subst (λ z. is_some (parent_in (node_plan p z).origin) ≡ true) (eqb-true l.slot k at) parent) from)
  by false at h ih = ih h

-- a node that draws on a source is there
from_low : (nodes : List NodePlan) (j n : ℕ) → is_from j (unwrap_or (slice_get nodes n) no_node).origin ≡ true → n < length nodes
from_low [] j n h = cc
from_low (x ∷ xs) j zero h = omega arith
from_low (x ∷ xs) j (suc n) h = let l = from_low xs j n h in omega (arith, l)

module _ (p : Tree) (plan : IsPlanned 0 p) (tree : IsTree 8 p.nodes) (s : States) (capped : AreCapped p s) (e : Entry) (n len : ℕ) (g : Generated p s e n len)
    (c : ℕ → ℕ) (same : (m : ℕ) → c m ≡ (node_in (s m)).counter) (own : ℕ → List ℕ) where
  abbrev ls : List Link
  ls = chain p s n len

  abbrev end : Link
  end = last_link ls

  abbrev xs : ℕ → List ℕ
  xs m = all_asks p c (with_one own n len) m

  abbrev ys : ℕ → List ℕ
  ys m = all_asks p (moved c ls) own m

  asked : (m : ℕ) → Asked m ls (xs m) (ys m)
  asked m w = climbs 0 p plan s (length p.nodes) m (all_low 8 p tree m) w own (length p.nodes) n len c
      (are_of 0 p plan s capped c ls (lines p plan tree s e n len g) (distinct p plan tree s e n len g) (λ k h. same k)) g.alive g.whole

  -- node m
  pub steps : (m : ℕ) → Steps (node_row p m) m (c m) (moved c ls m) ls (xs m) (ys m)
  steps m = by (has (slots ls) m) refl where
    by : (b : Bool) → has (slots ls) m ≡ b → Steps (node_row p m) m (c m) (moved c ls m) ls (xs m) (ys m)
    by true on = on_chain (node_row p m) m c ls (xs m) (ys m) (are_giving 0 p plan s capped m (c m) (same m) ls (lines p plan tree s e n len g) (gives p plan tree s e n len g)) (distinct p plan tree s e n len g) on (asked m)
    by false off = off_chain (node_row p m) m (c m) (moved c ls m) ls (xs m) (ys m) off (none_moved c m ls off) (asked m)

  -- its blocks on a source
  blocks_step : (row : SourceRow) (m : ℕ) → blocks_by (node_row p m) row (c m) (xs m)
      ≡ blocks_of (node_row p m) (blocks_for row) (seeds_at m ls) (asked_at (λ k. blocks_for row k) m ls) + blocks_by (node_row p m) row (moved c ls m) (ys m)
  blocks_step row m =
      let f : ℕ = blocks_for row (drawn_len (node_row p m)) in
      let r = (steps m).reseeds in
      let a : reseeds_for (node_row p m) (c m) (xs m) * f ≡ seeds_at m ls * f + reseeds_for (node_row p m) (moved c ls m) (ys m) * f =
      ap (λ z. z * f) r ∙ add-mul (seeds_at m ls) (reseeds_for (node_row p m) (moved c ls m) (ys m)) f in
      let b = by (is_xor (node_row p m).kind) in omega (arith, a, b) where
        by : (b : Bool) → (if b then sum_of (λ k. blocks_for row k) (xs m) else 0) ≡ (if b then asked_at (λ k. blocks_for row k) m ls else 0) + (if b then sum_of (λ k. blocks_for row k) (ys m) else 0)
        by true = asked m (λ k. blocks_for row k)
        by false = refl

  -- the blocks of source j: those that the chain draws, and those of the rest
  pub blocks_all : (j : ℕ) → all_blocks p c (with_one own n len) j ≡ draws_on p j end + all_blocks p (moved c ls) own j
  blocks_all j = by (is_from j (node_plan p end.slot).origin) refl where
    row : SourceRow
    row = source_row p j

    f : ℕ → ℕ
    f m = if is_from j (node_plan p m).origin then blocks_by (node_row p m) row (c m) (xs m) else 0

    g' : ℕ → ℕ
    g' m = if is_from j (node_plan p m).origin then blocks_by (node_row p m) row (moved c ls m) (ys m) else 0

    line_is : draws_on p j end ≡ (if is_from j (node_plan p end.slot).origin then sum (map (λ k. blocks_for row k) (wanted false end)) else 0)
    line_is = ap (λ o. if is_from j o then sum (map (λ k. blocks_for row k) (wanted false end)) else 0) (end_line p plan tree s e n len g).origin

    at_last : (has (slots ls) end.slot ≡ true) × (seeds_at end.slot ls ≡ seeds_of end (len_of end.task)) × (asked_at (λ k. blocks_for row k) end.slot ls ≡ blocks_for row (len_of end.task))
    at_last = at_end (λ k. blocks_for row k) (link p n (Gives len) (s n)) (rest_from p s false (Gives len) (length p.nodes) n) (distinct p plan tree s e n len g)

    -- what node m draws for the chain
    drawn : ℕ → ℕ
    drawn m = blocks_of (node_row p m) (blocks_for row) (seeds_at m ls) (asked_at (λ k. blocks_for row k) m ls)

    drawn_last : is_from j (node_plan p end.slot).origin ≡ true → draws_on p j end ≡ drawn end.slot
    drawn_last from =
        let line = end_line p plan tree s e n len g in
        line_is ∙ (ap (λ b. if b then sum (map (λ k. blocks_for row k) (wanted false end)) else 0) from
        ∙ (wanted_is (blocks_for row) (no_bytes row) end (len_of end.task) (end_gives p plan tree s e n len g)
        ∙ (ap (λ (r : NodeRow). blocks_of r (blocks_for row) (seeds_of end (len_of end.task)) (blocks_for row (len_of end.task))) line.row
        ∙ sym (ap (λ z. blocks_of (node_row p end.slot) (blocks_for row) z (asked_at (λ k. blocks_for row k) end.slot ls)) at_last.1
        ∙ ap (λ z. blocks_of (node_row p end.slot) (blocks_for row) (seeds_of end (len_of end.task)) z) at_last.2))))

    none_drawn : (m : ℕ) → has (slots ls) m ≡ false → drawn m ≡ 0
    none_drawn m off =
        ap (λ z. blocks_of (node_row p m) (blocks_for row) z (asked_at (λ k. blocks_for row k) m ls)) (none_seeded m ls off)
        ∙ (ap (λ z. blocks_of (node_row p m) (blocks_for row) 0 z) (none_asked (λ k. blocks_for row k) m ls off) ∙ by (is_xor (node_row p m).kind)) where
          by : (b : Bool) → 0 * blocks_for row (drawn_len (node_row p m)) + (if b then 0 else 0) ≡ 0
          by true = omega arith
          by false = omega arith

    at : (m : ℕ) → f m ≡ (if end.slot == m then draws_on p j end else 0) + g' m
    at m = by (is_from j (node_plan p m).origin) refl where
      at_node : is_from j (node_plan p m).origin ≡ true → (h : Bool) → has (slots ls) m ≡ h → drawn m ≡ (if end.slot == m then draws_on p j end else 0)
      at_node from true on =
          let last : end.slot ≡ m = draws_last p j m (link p n (Gives len) (s n)) (rest_from p s false (Gives len) (length p.nodes) n) (children p plan tree s e n len g) on from in
          let from_end : is_from j (node_plan p end.slot).origin ≡ true = subst (λ z. is_from j (node_plan p z).origin ≡ true) (sym last) from in
          ap (λ z. drawn z) (sym last) ∙ (sym (drawn_last from_end) ∙ sym (ap (λ b. if b then draws_on p j end else 0) (eq-eqb end.slot m last)))
      at_node from false off = none_drawn m off ∙ sym (ap (λ b. if b then draws_on p j end else 0) (other (end.slot == m) refl)) where
        other : (b : Bool) → (end.slot == m) ≡ b → b ≡ false
        other false is = refl
        other true is = let on : has (slots ls) m ≡ true = subst (λ z. has (slots ls) z ≡ true) (eqb-true end.slot m is) at_last.0 in absurd (let z : true ≡ false = sym on ∙ off in cc)

      elsewhere : is_from j (node_plan p m).origin ≡ false → (b : Bool) → (end.slot == m) ≡ b → 0 ≡ (if b then draws_on p j end else 0)
      elsewhere off false is = refl
      elsewhere off true is =
          let off_end : is_from j (node_plan p end.slot).origin ≡ false = subst (λ z. is_from j (node_plan p z).origin ≡ false) (sym (eqb-true end.slot m is)) off in
          sym (line_is ∙ ap (λ b. if b then sum (map (λ k. blocks_for row k) (wanted false end)) else 0) off_end)

      by : (b : Bool) → is_from j (node_plan p m).origin ≡ b → (if b then blocks_by (node_row p m) row (c m) (xs m) else 0)
          ≡ (if end.slot == m then draws_on p j end else 0) + (if b then blocks_by (node_row p m) row (moved c ls m) (ys m) else 0)
      by true from = blocks_step row m ∙ ap (λ z. z + blocks_by (node_row p m) row (moved c ls m) (ys m)) (at_node from (has (slots ls) m) refl)
      by false off = elsewhere off (end.slot == m) refl ∙ sym (add-zero (if end.slot == m then draws_on p j end else 0))

    by : (b : Bool) → is_from j (node_plan p end.slot).origin ≡ b → all_blocks p c (with_one own n len) j ≡ draws_on p j end + all_blocks p (moved c ls) own j
    by true from = within f g' end.slot (draws_on p j end) at 0 (length p.nodes) (omega arith) (let l = from_low p.nodes j end.slot from in omega (arith, l))
    by false off =
        let none : draws_on p j end ≡ 0 = line_is ∙ ap (λ b. if b then sum (map (λ k. blocks_for row k) (wanted false end)) else 0) off in
        let r = same_sums f g' (λ m. nothing (end.slot == m) (draws_on p j end) (f m) (g' m) none (at m)) 0 (length p.nodes) in omega (arith, none, r)
