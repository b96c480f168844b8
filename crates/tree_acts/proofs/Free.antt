-- A call that no row of the table refuses: its chain, and what its chain serves.
use Rattle.std.proofs.Common.{◌≡◌, ◌∙◌, ◌∷◌, ◌++◌, ◌+◌, ◌-◌, ◌*◌, ◌<◌, ◌≤◌, ◌^◌, ℕ, List, [], zero, suc, length, map, Bool, true, false, refl, sym, ap, subst, arith, inl, inr}
use Rattle.std.specs.Prelude.{◌&&◌, ◌||◌, ◌⊎◌, if◌then◌else◌, Option, Some, None, IsSome, IfSome, not, is_some, is_none, nat_lt, nat_le, sum}
use Rattle.std.proofs.lemmas.Bool.Decides.{nat_tests}
use Rattle.std.proofs.lemmas.List.{length-map}
use Rattle.tree_config.specs.Graph.{after}
use Rattle.tree_config.specs.Tree.{Tree, IsTree, parents, parent_in}
use Rattle.tree_config.specs.Planned.{IsPlanned}
use Rattle.tree_config.specs.declared.plan.NodePlan.{NodePlan}
use Rattle.tree_config.specs.declared.plan.NodeKind.{NodeKind}
use Rattle.tree_config.specs.declared.plan.NodeKind.TheVariants.{Rbg1, Rbg2, Rbg3Xor, Rbg3Rs, Child}
use Rattle.tree_config.proofs.Paths.{after-more, from_never, way_ends}
use Rattle.entropy_source.specs.Source.{need_of, need_of_block, blocks_for}
use Rattle.entropy_source.specs.declared.answers.SourceMode.{SourceMode}
use Rattle.entropy_source.specs.declared.answers.SourceMode.TheVariants as modes
use Rattle.rbg_nodes.specs.Node.{New, Renew, is_due}
use native.Mathlib.Nat.{le-mul_of_pos_right}
use Rattle.std.specs.Prelude.{min, max}
use Rattle.std.proofs.lemmas.List.Sums.{sum-map, sum_by-cons}
use Rattle.rbg_nodes.specs.Node.{entropy_len, seed_len}
use Rattle.tree_rules.specs.Links.{is_xor, chunks, chunk_lens}
use Rattle.std.specs.Int.{div_ceil}
use Rattle.std.proofs.lemmas.Grind.{div_ceil_times}
use Rattle.rbg_bytes.specs.declared.cond.Cond.{Cond}
use Rattle.rbg_bytes.specs.declared.cond.Cond.TheVariants.{HmacSha256, DfAes256}
use Rattle.conditioner.specs.Conditioned.{block_len}
use Rattle.entropy_source.specs.declared.answers.SourceRow.{SourceRow}
use Rattle.tree_config.specs.declared.plan.Origin.{Origin}
use Rattle.tree_config.specs.declared.plan.Origin.TheVariants.{SeedFile, Source, Parent}
use Rattle.tree_rules.specs.Slots.{source_row}
use Rattle.tree_rules.specs.Links.{wanted_by}
use Rattle.tree_rules.specs.Chain.{source_by, source_at}
use Rattle.tree_rules.proofs.Plans.{takes_samples}
use Rattle.tree_acts.proofs.Bytes.{some_bytes}
use Rattle.tree_rules.specs.declared.call.Call.{Call}
use Rattle.tree_rules.specs.declared.call.Call.TheVariants.{Instantiate, Generate, Reseed, Uninstantiate, Start, Status}
use Rattle.tree_rules.specs.declared.reply.Reply.{Reply}
use Rattle.tree_rules.specs.Slots.{ancestors, node_plan, node_row}
use Rattle.tree_rules.specs.History.{States, node_in}
use Rattle.tree_rules.specs.Links.{Task, Seeds, Gives, Rests, Link, link, links, first_link, last_link, is_alive, is_rbg1, is_rs, must_seed, must_by, asks_parent, seeding_len, starts, wanted}
use Rattle.tree_rules.specs.Chain.{Chain, SourceLink, source_of, named, asks_pr, task_of, node_chain, need, need_by, wants_of}
use Rattle.tree_rules.specs.Replies.{chain_by, chain_of, chain_rows, plain_rows, refusal, is_instantiate, is_reseed, is_running, is_start, seeds_or_gives, needs_life, asked_count, count_limit, sample_limit, mode_of, taken_of, there_are}
use Rattle.tree_rules.proofs.Leaves.{none_before}
use Rattle.tree_rules.proofs.Sources.{none_stands, NoneStands, runs, need_is}
use Rattle.tree_acts.specs.Chained.{links_from, len_of, Able}
use Rattle.tree_acts.proofs.Alone.{same_parent}
use Rattle.tree_acts.proofs.Over.{links_step, links_end}

-- a walk that asks on goes on as far as it may
module _ (p : Tree) (s : States) (pr : Bool) where
  abbrev ps : List (Option ℕ)
  ps = parents p.nodes

  asking : (far n : ℕ) (task : Task) → asks_parent pr (last_link (links_from p s pr task far n)) ≡ true → (m : ℕ) × (after ps far n ≡ Some m)
  asking zero n task h = (n, refl)
  asking (suc far) n task h =
      by (asks_parent pr (link p n task (s n))) refl (parent_in (node_plan p n).origin) refl (λ q i. asking far q (Gives (seeding_len (link p n task (s n)))) i) where
        l : Link
        l = link p n task (s n)

        no_parent : (a b : Bool) → (a && b && false) ≡ true → ⊥
        no_parent true true e = cc
        no_parent true false e = cc
        no_parent false b e = cc

        by : (b : Bool) → asks_parent pr l ≡ b → (o : Option ℕ) → parent_in (node_plan p n).origin ≡ o
            → ((q : ℕ) → asks_parent pr (last_link (links_from p s pr (Gives (seeding_len l)) far q)) ≡ true → (m : ℕ) × (after ps far q ≡ Some m))
            → (m : ℕ) × (after ps (suc far) n ≡ Some m)
        by false e o f ih = let g : asks_parent pr l ≡ true = subst (λ ls. asks_parent pr (last_link ls) ≡ true) (links_end p s pr task (suc far) n e) h in cc
        by true e None f ih = absurd (no_parent (is_alive l) (must_seed pr l) (subst (λ (o : Option ℕ). (is_alive l && must_seed pr l && is_some o) ≡ true) f e))
        by true e (Some q) f ih =
            let one : suc far - 1 ≡ far = omega arith in
            let step : links_from p s pr task (suc far) n ≡ l ∷ links_from p s pr (Gives (seeding_len l)) far q =
            links_step p s pr task (suc far) n q (λ z. cc) e f ∙ ap (λ k. l ∷ links_from p s pr (Gives (seeding_len l)) k q) one in
            let (m, r) = ih q (subst (λ ls. asks_parent pr (last_link ls) ≡ true) step h) in
            let two : far + 1 ≡ suc far = omega arith in
            (m, subst (λ k. after ps k n ≡ Some m) two (after-more ps 1 far n q (same_parent p.nodes n ∙ f) ∙ r))

  pub whole_chain_asks : (limit n : ℕ) (task : Task) → IsTree limit p.nodes → n < length p.nodes → asks_parent pr (last_link (links_from p s pr task (length p.nodes) n)) ≡ false
  whole_chain_asks limit n task tree low = by (asks_parent pr (last_link (links_from p s pr task (length p.nodes) n))) refl where
    by : (b : Bool) → asks_parent pr (last_link (links_from p s pr task (length p.nodes) n)) ≡ b → b ≡ false
    by false e = refl
    by true e =
        let few : length ps ≡ length p.nodes = length-map p.nodes (λ (x : NodePlan). parent_in x.origin) in
        let (m, r) = asking (length p.nodes) n task e in
        absurd (way_ends ps n m (from_never ps tree.parent) (omega (arith, few, low)) tree.cycle (subst (λ k. after ps k n ≡ Some m) (sym few) r))

  -- the last link is the first one, or gives
  pub last_gives : (far n : ℕ) (task : Task) → (last_link (links_from p s pr task far n) ≡ link p n task (s n)) ⊎ ((k : ℕ) × ((last_link (links_from p s pr task far n)).task ≡ Gives k))
  last_gives far n task = by far (asks_parent pr (link p n task (s n))) refl (parent_in (node_plan p n).origin) refl where
    l : Link
    l = link p n task (s n)

    deeper : (task : Task) (k : ℕ) (up : List ℕ) (m : ℕ) → (j : ℕ) × ((last_link (links p s pr (Gives k) (m ∷ up))).task ≡ Gives j)
    deeper task k [] m = cut (asks_parent pr (link p m (Gives k) (s m))) where
      cut : (b : Bool) → (j : ℕ) × ((last_link (link p m (Gives k) (s m) ∷ (if b then [] else []))).task ≡ Gives j)
      cut true = (k, refl)
      cut false = (k, refl)
    deeper task k (x ∷ up) m = cut (asks_parent pr (link p m (Gives k) (s m))) (deeper task (seeding_len (link p m (Gives k) (s m))) up x) where
      cut : (b : Bool) → (j : ℕ) × ((last_link (links p s pr (Gives (seeding_len (link p m (Gives k) (s m)))) (x ∷ up))).task ≡ Gives j)
          → (j : ℕ) × ((last_link (link p m (Gives k) (s m) ∷ (if b then links p s pr (Gives (seeding_len (link p m (Gives k) (s m)))) (x ∷ up) else []))).task ≡ Gives j)
      cut true ih = ih
      cut false ih = (k, refl)

    by : (far : ℕ) (b : Bool) → asks_parent pr l ≡ b → (o : Option ℕ) → parent_in (node_plan p n).origin ≡ o
        → (last_link (links_from p s pr task far n) ≡ l) ⊎ ((k : ℕ) × ((last_link (links_from p s pr task far n)).task ≡ Gives k))
    by far false e o f = inl (ap (λ (ls : List Link). last_link ls) (links_end p s pr task far n e))
    by zero true e o f = inl (rw e refl)
    by (suc far) true e None f = inl (rw (e, f) refl)
    by (suc far) true e (Some q) f = inr (rw (e, f) (deeper task (seeding_len l) (ancestors far p (parent_in (node_plan p q).origin)) q))

not_false : (b : Bool) → not b ≡ false → b ≡ true
not_false true h = refl
not_false false h = cc

and_false : (a b : Bool) → (a && b) ≡ false → a ≡ true → b ≡ false
and_false true b h e = h
and_false false b h e = cc

and_three : (a b c : Bool) → (a && b && c) ≡ false → a ≡ true → b ≡ true → c ≡ false
and_three true true c h e f = h
and_three true false c h e f = cc
and_three false b c h e f = cc

needs_too : (c : Call) → seeds_or_gives c ≡ true → needs_life c ≡ true
needs_too (Instantiate n x) h = refl
needs_too (Generate n x y z) h = refl
needs_too (Reseed n z) h = refl
needs_too (Uninstantiate n) h = refl
needs_too (Start j) h = h
needs_too (Status n) h = h

no_start : (c : Call) → seeds_or_gives c ≡ true → is_start c ≡ false
no_start (Instantiate n x) h = refl
no_start (Generate n x y z) h = refl
no_start (Reseed n z) h = refl
no_start (Uninstantiate n) h = refl
no_start (Start j) h = cc
no_start (Status n) h = refl

names_node : (p : Tree) (c : Call) → seeds_or_gives c ≡ true → there_are p c ≡ length p.nodes
names_node p (Instantiate n x) h = refl
names_node p (Generate n x y z) h = refl
names_node p (Reseed n z) h = refl
names_node p (Uninstantiate n) h = refl
names_node p (Start j) h = cc
names_node p (Status n) h = refl

pub asks_len : (c : Call) → len_of (task_of c) ≡ asked_count c
asks_len (Instantiate n x) = refl
asks_len (Generate n x y z) = refl
asks_len (Reseed n z) = refl
asks_len (Uninstantiate n) = refl
asks_len (Start j) = refl
asks_len (Status n) = refl

starts_new : (c : Call) → starts (task_of c) ≡ is_instantiate c
starts_new (Instantiate n x) = refl
starts_new (Generate n x y z) = refl
starts_new (Reseed n z) = refl
starts_new (Uninstantiate n) = refl
starts_new (Start j) = refl
starts_new (Status n) = refl

is_run : (m : SourceMode) → is_running m ≡ true → m ≡ modes.Running
is_run modes.Running h = refl
is_run modes.Idle h = cc
is_run (modes.Alarmed i t) h = cc

not_rs : (k : NodeKind) → is_rbg1 k ≡ true → is_rs k ≡ false
not_rs Rbg1 h = refl
not_rs Rbg2 h = refl
not_rs Rbg3Xor h = refl
not_rs Rbg3Rs h = cc
not_rs Child h = refl

or_none : (a b c : Bool) → a ≡ false → b ≡ false → c ≡ false → (a || b || c) ≡ false
or_none true b c e f g = cc
or_none false true c e f g = cc
or_none false false c e f g = g

is_there : {A : Type 0} (o : Option A) → is_none o ≡ false → IsSome o
is_there None h = cc
is_there (Some x) h = refl

below : (a b : ℕ) → nat_lt a b ≡ false → b ≤ a
below a b h = grind (arith, nat_tests)

left_false : (a b : Bool) → (a && b) ≡ false → b ≡ true → a ≡ false
left_false true true h e = cc
left_false true false h e = cc
left_false false b h e = refl

right_false : (a b : Bool) → (a || b) ≡ false → b ≡ false
right_false true b h = cc
right_false false b h = h

renews : (c : Call) → task_of c ≡ Seeds Renew → is_reseed c ≡ true
renews (Instantiate n x) h = cc
renews (Generate n x y z) h = cc
renews (Reseed n z) h = refl
renews (Uninstantiate n) h = cc
renews (Start j) h = cc
renews (Status n) h = cc

no_rest : (c : Call) → seeds_or_gives c ≡ true → task_of c ≡ Rests → ⊥
no_rest (Instantiate n x) w h = cc
no_rest (Generate n x y z) w h = cc
no_rest (Reseed n z) w h = cc
no_rest (Uninstantiate n) w h = cc
no_rest (Start j) w h = cc
no_rest (Status n) w h = cc

-- a source that is drawn on gives samples
chunk_some : (n size len : ℕ) → 1 ≤ n → (x : ℕ) × (xs : List ℕ) × (chunk_lens n size len ≡ x ∷ xs)
chunk_some zero size len l = absurd (omega arith)
chunk_some (suc n) size len l = (min size len, chunk_lens n size (len - size), refl)

above_ceil : (x y : ℕ) → 0 < x → 0 < y → 0 < div_ceil x y
above_ceil x y h i = by (div_ceil x y) (div_ceil_times x y i).0 where
  by : (q : ℕ) → x ≤ q * y → 0 < q
  by zero l = absurd (omega arith)
  by (suc q) l = omega arith

above_product : (x y : ℕ) → 0 < x → 0 < y → 0 < x * y
above_product x y h i = let l : x ≤ x * y = le-mul_of_pos_right x (omega arith) in omega (arith, l)

block_some : (row : SourceRow) → 0 < block_len row.cond
block_some row = by row.cond where
  by : (c : Cond) → 0 < block_len c
  by HmacSha256 = omega arith
  by DfAes256 = omega arith

needs_some : (row : SourceRow) (x : ℕ) (xs : List ℕ) → 0 < x → 0 < need_of_block row → 0 < need_of row (x ∷ xs)
needs_some row x xs l m =
    let b = above_ceil x (block_len row.cond) l (block_some row) in
    let e = sum-map (λ n. blocks_for row n) (x ∷ xs) ∙ sum_by-cons (λ n. blocks_for row n) x xs in
    above_product (sum (map (λ n. blocks_for row n) (x ∷ xs))) (need_of_block row) (omega (arith, b, e)) m

wants_first : (pr : Bool) (l : Link) (task : Task) → task ≡ l.task → (x : ℕ) (xs : List ℕ) → wanted_by pr l task ≡ x ∷ xs → 0 < x
wants_first pr l (Seeds how) e x xs w = let is : seed_len l.row how ≡ x = cc in subst (λ k. 0 < k) is (some_bytes l.row l.row.drbg refl (Seeds how))
wants_first pr l (Gives len) e x xs w = by (is_rs l.row.kind) (must_seed pr l) (is_xor l.row.kind) (nat_lt 0 len) refl w where
  some : 0 < entropy_len l.row
  some = some_bytes l.row l.row.drbg refl (Gives len)

  by : (rs must xor lt : Bool) → nat_lt 0 len ≡ lt
      → (if rs then map (λ (_ : ℕ). entropy_len l.row + 8) (chunks l.row len) else (if must then entropy_len l.row ∷ [] else []) ++ (if xor && lt then len ∷ [] else [])) ≡ x ∷ xs → 0 < x
  by true must xor lt f w =
      let (c, cs, d) = chunk_some (max 1 (div_ceil len (entropy_len l.row))) (entropy_len l.row) len (omega arith) in
      let is : entropy_len l.row + 8 ≡ x = (let z = ap (λ zs. map (λ (_ : ℕ). entropy_len l.row + 8) zs) d in cc) in omega (arith, is)
  by false true xor lt f w = let is : entropy_len l.row ≡ x = cc in subst (λ k. 0 < k) is some
  by false false true true f w = let is : len ≡ x = cc in let g : 0 < len = grind (arith, nat_tests) in subst (λ k. 0 < k) is g
  by false false true false f w = cc
  by false false false lt f w = cc
wants_first pr l Rests e x xs w = cc

takes_more : (p : Tree) (s : States) (pr : Bool) (l : Link) → IsPlanned 0 p → (t : SourceLink) → source_of p s pr l ≡ Some t → 0 < need_of t.row (wanted pr l)
takes_more p s pr l range t e = by (is_alive l) (wanted pr l) refl l.origin e where
  by : (b : Bool) (lens : List ℕ) → wanted pr l ≡ lens → (o : Origin) → (if b then source_by p s lens o else None) ≡ Some t → 0 < need_of t.row lens
  by false lens w o e = cc
  by true [] w o e = cc
  by true (x ∷ xs) w (SeedFile name) e = cc
  by true (x ∷ xs) w (Parent q) e = cc
  by true (x ∷ xs) w (Source j) e =
      let is : source_at p s j ≡ t = cc in
      subst (λ (t : SourceLink). 0 < need_of t.row (x ∷ xs)) is (needs_some (source_row p j) x xs (wants_first pr l l.task refl x xs w) (takes_samples 0 p range j))

module _ (p : Tree) (s : States) (c : Call) (string : List ℕ) (what : seeds_or_gives c ≡ true) where
  plainly : refusal p c string (chain_of p s c string) ≡ None → chain_of p s c string ≡ chain_by p s c None
  plainly free = ap (λ (r : Option Reply). chain_by p s c r) (none_before (plain_rows p c string) (chain_rows c (chain_of p s c string)) free)

  -- the chain is the whole one
  pub whole : refusal p c string (chain_of p s c string) ≡ None → chain_of p s c string ≡ node_chain p s c
  whole free = plainly free ∙ by c what (subst (λ (ch : Chain). refusal p c string ch ≡ None) (plainly free) free) where
    cut : (n x : ℕ) (b : Bool) → (node_in (s n)).live ≡ b
        → refusal p (Instantiate n x) string (if b then record { links = link p n (Seeds New) (s n) ∷ []; source = None } else node_chain p s (Instantiate n x)) ≡ None
        → (if b then record { links = link p n (Seeds New) (s n) ∷ []; source = None } else node_chain p s (Instantiate n x)) ≡ node_chain p s (Instantiate n x)
    cut n x false e h = refl
    cut n x true e h =
        let all = none_stands (plain_rows p (Instantiate n x) string ++ chain_rows (Instantiate n x) (record { links = link p n (Seeds New) (s n) ∷ []; source = None })) h in
        let dead : (node_in (s n)).live ≡ false = all.1.1.1.0 in cc

    by : (c : Call) → seeds_or_gives c ≡ true → refusal p c string (chain_by p s c None) ≡ None → chain_by p s c None ≡ node_chain p s c
    by (Instantiate n x) w h = cut n x (node_in (s n)).live refl h
    by (Generate n x y z) w h = refl
    by (Reseed n z) w h = refl
    by (Uninstantiate n) w h = refl
    by (Start j) w h = cc
    by (Status n) w h = cc

  module _ (range : IsPlanned 0 p) (free : refusal p c string (node_chain p s c) ≡ None) where
    abbrev ls : List Link
    ls = links_from p s (asks_pr c) (task_of c) (length p.nodes) (named c)

    abbrev end : Link
    end = last_link ls

    all : NoneStands (plain_rows p c string ++ chain_rows c (node_chain p s c))
    all = none_stands (plain_rows p c string ++ chain_rows c (node_chain p s c)) free

    pub names : named c < length p.nodes
    names =
        let row : nat_le (there_are p c) (named c) ≡ false = all.0 in
        let row' : nat_le (length p.nodes) (named c) ≡ false = ap (λ k. nat_le k (named c)) (sym (names_node p c what)) ∙ row in
        grind (arith, nat_tests)

    pub brief : length string ≤ 4096
    brief = let row : nat_lt 4096 (length string) ≡ false = all.1.1.0 in grind (arith, nat_tests)

    few : len_of (first_link ls).task ≤ count_limit (first_link ls).row.kind
    few =
        let row : nat_lt (count_limit (node_row p (named c)).kind) (asked_count c) ≡ false = all.1.0 in
        let same = asks_len c in
        grind (arith, nat_tests)

    own : is_rbg1 end.row.kind ≡ true → must_seed (asks_pr c) end ≡ true → (starts end.task ≡ true) × IsSome end.state.kept
    own rbg must = elim (last_gives p s (asks_pr c) (length p.nodes) (named c) (task_of c)) [
      | inl e ↦ first e (task_of c) refl
      | inr (k, e) ↦ absurd (gives k e)
    ] where
      no_pr : asks_pr c ≡ false
      no_pr = left_false (asks_pr c) (is_rbg1 end.row.kind) all.1.1.1.1.1.1.1.0 rbg

      no_due : is_due end.row end.state ≡ false
      no_due = and_three (seeds_or_gives c) (is_rbg1 end.row.kind) (is_due end.row end.state) all.1.1.1.1.1.1.1.1.0 what rbg

      gives : (k : ℕ) → end.task ≡ Gives k → ⊥
      gives k e =
          let m : must_by (asks_pr c) end (Gives k) ≡ true = subst (λ t. must_by (asks_pr c) end t ≡ true) e must in
          let f : must_by (asks_pr c) end (Gives k) ≡ false = or_none (is_due end.row end.state) (asks_pr c) (is_rs end.row.kind) no_due no_pr (not_rs end.row.kind rbg) in
          let g : true ≡ false = sym m ∙ f in cc

      first : end ≡ link p (named c) (task_of c) (s (named c)) → (t : Task) → task_of c ≡ t → (starts end.task ≡ true) × IsSome end.state.kept
      first e (Gives k) f = absurd (gives k (ap (λ (l : Link). l.task) e ∙ f))
      first e Rests f = absurd (no_rest c what f)
      first e (Seeds Renew) f =
          let r : (is_rbg1 (node_row p (named c)).kind && (is_reseed c || is_instantiate c && is_none (node_in (s (named c))).kept)) ≡ false = all.1.1.1.1.1.1.0 in
          let q = and_false (is_rbg1 (node_row p (named c)).kind) (is_reseed c || is_instantiate c && is_none (node_in (s (named c))).kept) r (sym (ap (λ (l : Link). is_rbg1 l.row.kind) e) ∙ rbg) in
          let a : is_reseed c ≡ true = renews c f in absurd (let z : true ≡ false = sym (ap (λ b. b || is_instantiate c && is_none (node_in (s (named c))).kept) a) ∙ q in cc)
      first e (Seeds New) f =
          let r : (is_rbg1 (node_row p (named c)).kind && (is_reseed c || is_instantiate c && is_none (node_in (s (named c))).kept)) ≡ false = all.1.1.1.1.1.1.0 in
          let q = and_false (is_rbg1 (node_row p (named c)).kind) (is_reseed c || is_instantiate c && is_none (node_in (s (named c))).kept) r (sym (ap (λ (l : Link). is_rbg1 l.row.kind) e) ∙ rbg) in
          let i : is_instantiate c ≡ true = sym (starts_new c) ∙ ap (λ (t : Task). starts t) f in
          let none = and_false (is_instantiate c) (is_none (node_in (s (named c))).kept) (right_false (is_reseed c) (is_instantiate c && is_none (node_in (s (named c))).kept) q) i in
          (ap (λ (l : Link). starts l.task) e ∙ ap (λ (t : Task). starts t) f, subst (λ (l : Link). IsSome l.state.kept) (sym e) (is_there (node_in (s (named c))).kept none))

    positive : (t : SourceLink) → source_of p s (asks_pr c) end ≡ Some t → 0 < need_of t.row (wanted (asks_pr c) end)
    positive t e = takes_more p s (asks_pr c) end range t e

    runs_too : (o : Option SourceLink) → source_of p s (asks_pr c) end ≡ o
        → IfSome o (λ t. (t.state.mode ≡ modes.Running) × (t.state.taken + need_of t.row (wanted (asks_pr c) end) ≤ 2 ^ 60))
    runs_too None e = tt
    runs_too (Some t) e =
        let need_eq : need c (node_chain p s c) ≡ need_of t.row (wanted (asks_pr c) end) =
        ap (λ (o : Option SourceLink). need_by c o (wants_of c ls o)) e ∙ need_is c t (wanted (asks_pr c) end) (no_start c what) in
        let more : nat_lt 0 (need c (node_chain p s c)) ≡ true = ap (λ k. nat_lt 0 k) need_eq ∙ (let z = positive t e in grind (arith, nat_tests)) in
        let running : is_running (mode_of (Some t)) ≡ true = ap (λ (o : Option SourceLink). is_running (mode_of o)) (sym e) ∙ runs p c string (node_chain p s c) free (no_start c what) more in
        let row : nat_lt sample_limit (taken_of (source_of p s (asks_pr c) end) + need c (node_chain p s c)) ≡ false = all.1.1.1.1.1.1.1.1.1.0 in
        let row' : nat_lt sample_limit (t.state.taken + need_of t.row (wanted (asks_pr c) end)) ≡ false =
        sym (ap (λ (o : Option SourceLink). nat_lt sample_limit (taken_of o + need c (node_chain p s c))) e ∙ ap (λ k. nat_lt sample_limit (t.state.taken + k)) need_eq) ∙ row in
        (is_run t.state.mode running, below sample_limit (t.state.taken + need_of t.row (wanted (asks_pr c) end)) row')

    pub able : (limit : ℕ) → IsTree limit p.nodes → Able (asks_pr c) ls (source_of p s (asks_pr c) end)
    able limit tree = record {
      alive = not_false (is_alive end) (and_false (needs_life c) (not (is_alive end)) all.1.1.1.1.0 (needs_too c what));
      whole = whole_chain_asks p s (asks_pr c) limit (named c) (task_of c) tree names;
      dead = λ e. and_false (is_instantiate c) (first_link ls).state.live all.1.1.1.0 (sym (starts_new c) ∙ e);
      own = own;
      runs = runs_too (source_of p s (asks_pr c) end) refl;
      few = few;
    }
