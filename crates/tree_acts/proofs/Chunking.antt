-- Strings drawn one after the other, and chunks given one after the other.
use Rattle.std.proofs.Common.{◌≡◌, ◌≢◌, ◌∙◌, ◌∷◌, ◌++◌, ◌+◌, ◌-◌, ◌*◌, ◌<◌, ◌≤◌, ℕ, List, [], zero, suc, length, map, Bool, true, false, refl, sym, ap, subst, arith}
use Rattle.std.specs.Prelude.{Option, Some, None, IsSome, Result, Ok, Err, MatchResult, take, drop, sum, is_some}
use native.Mathlib.Nat.{zero-mul, one-mul, add-mul}
use Rattle.std.specs.Option.{option_map}
use Rattle.tree_rules.specs.History.{Act}
use Rattle.health_tests.specs.declared.windows.Alarm.{Alarm}
use Rattle.health_tests.specs.declared.numbers.Tail.{Tail}
use Rattle.conditioner.specs.Conditioned.{conditioned}
use Rattle.tree_config.specs.Tree.{Tree}
use Rattle.entropy_source.specs.declared.answers.SourceRow.{SourceRow}
use Rattle.entropy_source.specs.declared.answers.SourceMode.TheVariants.{Running}
use Rattle.entropy_source.specs.declared.answers.SourceRefusal.{SourceRefusal}
use Rattle.entropy_source.specs.Source.{SourceAct, SourceState, Block, need_of, need_of_block, blocks_for, source_after, source_after_all}
use Rattle.entropy_source.specs.Draws.{Draws, Drawn, portions}
use Rattle.entropy_source.specs.Views.{SourceView, IsSource}
use Rattle.tree_rules.specs.Slots.{source_row, source_slot}
use Rattle.tree_rules.specs.Chain.{source_at}
use Rattle.tree_rules.specs.Fits.{found_by}
use Rattle.tree_acts.specs.Hold.{Hold, IsOfPlan, states_held, source_held, node_held}
use Rattle.tree_acts.specs.Did.{Did}
use Rattle.tree_acts.specs.Drew.{Drew, Runs}
use Rattle.std.specs.Prelude.{◌==◌, ◌/◌, min, max}
use Rattle.std.specs.Int.{div_ceil}
use Rattle.std.proofs.lemmas.Grind.{div_ceil_times}
use Rattle.rbg_bytes.specs.Kinds.{strength}
use Rattle.rbg_bytes.specs.declared.kind.Kind.{Kind}
use Rattle.rbg_bytes.specs.declared.kind.Kind.TheVariants.{HmacSha256, HmacSha384, HmacSha512, CtrAes128, CtrAes192, CtrAes256}
use Rattle.rbg_nodes.specs.declared.node.NodeRow.{NodeRow}
use Rattle.rbg_nodes.specs.Node.{entropy_len}
use Rattle.std.proofs.lemmas.Bool.Decides.{nat_tests}
use Rattle.rbg_nodes.specs.Node.{NodeAct, NodeState, Seeded, Gave, Renew, node_after, given_bytes}
use Rattle.rbg_nodes.specs.Views.{NodeView}
use Rattle.tree_rules.specs.History.{AtNode, SlotState, node_in}
use Rattle.tree_rules.specs.Links.{Task, Gives, Rests, Link, link, chunk_lens, is_rs, wanted}
use Rattle.tree_rules.specs.Slots.{node_row}
use Rattle.tree_rules.specs.Works.{Work, chunked, task_work}
use Rattle.tree_config.specs.declared.plan.NodeKind.{NodeKind}
use Rattle.tree_config.specs.declared.plan.NodeKind.TheVariants.{Rbg1, Rbg2, Rbg3Xor, Rbg3Rs, Child}
use Rattle.tree_rules.specs.Replies.{count_limit}
use Rattle.tree_acts.specs.Chained.{room_for}
use Rattle.tree_acts.specs.Pieces.{same_lens, pieces}
use Rattle.tree_acts.proofs.Doing.{did_none, did_join}
use Rattle.tree_acts.proofs.Rising.{node_still}
use Rattle.tree_acts.proofs.Drawing.{need_on, blocks_on, held_source, tail_of_running, drew_join}

empty : (xs : List ℕ) → length xs ≤ 0 → xs ≡ []
empty [] l = refl
empty (x ∷ xs) l = absurd (omega arith)

pub count_cons : (count size : ℕ) → count ≢ 0 → same_lens count size ≡ size ∷ same_lens (count - 1) size
count_cons zero size more = absurd (more refl)
count_cons (suc n) size more = let e : suc n - 1 ≡ n = omega arith in rw e refl

take_front : (xs ys : List ℕ) → take (length xs) (xs ++ ys) ≡ xs
take_front [] ys = refl
take_front (x ∷ xs) ys = ap (λ z. x ∷ z) (take_front xs ys)

drop_front : (xs ys : List ℕ) → drop (length xs) (xs ++ ys) ≡ ys
drop_front [] ys = refl
drop_front (x ∷ xs) ys = drop_front xs ys

pub pieces_cons : (count size : ℕ) (xs ys : List ℕ) → count ≢ 0 → length xs ≡ size → pieces count size (xs ++ ys) ≡ xs ∷ pieces (count - 1) size ys
pieces_cons zero size xs ys more e = absurd (more refl)
pieces_cons (suc n) size xs ys more e =
    let f : suc n - 1 ≡ n = omega arith in
    rw f (subst (λ k. take k (xs ++ ys) ∷ pieces n k (drop k (xs ++ ys)) ≡ xs ∷ pieces n k ys) e
    (ap (λ z. z ∷ pieces n (length xs) (drop (length xs) (xs ++ ys))) (take_front xs ys) ∙ ap (λ z. xs ∷ pieces n (length xs) z) (drop_front xs ys)))

-- a draw that was refused is refused for more blocks
module _ (row : SourceRow) (found : List ℕ → List ℕ → Option Alarm) where
  draws_on : (n m : ℕ) (s : SourceState) (read out : List ℕ) (acts : List SourceAct) (why : SourceRefusal)
      → Draws row found n s read out acts (Err why) → Draws row found (n + m) s read out acts (Err why)
  draws_on zero m s read out acts why (a, b) = cc
  draws_on (suc n) m s read out acts why (reads, rest, end, are, g, w) =
      let e : suc n + m ≡ suc (n + m) = omega arith in
      subst (λ k. Draws row found k s read out acts (Err why)) (sym e)
      (reads, rest, end, are, g, by end w (λ s read out acts d. draws_on n m s read out acts why d)) where
        by : (end : Result (List ℕ) SourceRefusal)
            → MatchResult end
            (λ block. let bytes = conditioned row.cond block in
            let now = source_after_all row s reads in
            let made = Block s.taken now.taken bytes in
            (more : List SourceAct) × (rest ≡ made ∷ more) × Draws row found n (source_after row now made) (read ++ block) (out ++ bytes) more (Err why))
            (λ x. (rest ≡ []) × (◌≡◌ {A = Result (List ℕ) SourceRefusal} (Err why) (Err x)))
            → ((s : SourceState) (read out : List ℕ) (acts : List SourceAct) → Draws row found n s read out acts (Err why) → Draws row found (n + m) s read out acts (Err why))
            → MatchResult end
            (λ block. let bytes = conditioned row.cond block in
            let now = source_after_all row s reads in
            let made = Block s.taken now.taken bytes in
            (more : List SourceAct) × (rest ≡ made ∷ more) × Draws row found (n + m) (source_after row now made) (read ++ block) (out ++ bytes) more (Err why))
            (λ x. (rest ≡ []) × (◌≡◌ {A = Result (List ℕ) SourceRefusal} (Err why) (Err x)))
        by (Ok block) (more, is, d) ih =
            let now = source_after_all row s reads in
            let made = Block s.taken now.taken (conditioned row.cond block) in
            (more, is, ih (source_after row now made) (read ++ block) (out ++ conditioned row.cond block) more d)
        by (Err x) h ih = h

module _ {S : Type 0} (told : S → Option (List ℕ)) (faults : S → ℕ) (p : Tree) where
  pub drew_refused : (reads : S → ℕ → Option (List ℕ) → S → Type 0) (h t : Hold (SourceView S)) (j : ℕ) (xs ys : List ℕ) (ss zs : List (List ℕ)) (why : SourceRefusal)
      → Drew told faults reads p h t j xs (Some why) ss → Drew told faults reads p h t j (xs ++ ys) (Some why) zs
  drew_refused reads h t j xs ys ss zs why d = by d.end refl d.answer where
    row : SourceRow
    row = source_row p j

    by : (e : Result (List ℕ) SourceRefusal) → d.end ≡ e
        → MatchResult e (λ all. (Some why ≡ None) × (ss ≡ portions row xs all)) (λ x. Some why ≡ Some x) → Drew told faults reads p h t j (xs ++ ys) (Some why) zs
    by (Ok all) e (a, b) = cc
    by (Err x) e a = record {
      acts = d.acts;
      end = Err x;
      draw = subst (λ k. Draws row (found_by (Some (source_at p (states_held told faults h) j))) k (source_held told faults h (source_slot p j)) [] [] d.acts (Err x)) (sym (blocks_on row xs ys))
          (draws_on row (found_by (Some (source_at p (states_held told faults h) j))) (sum (map (λ n. blocks_for row n) xs)) (sum (map (λ n. blocks_for row n) ys))
          (source_held told faults h (source_slot p j)) [] [] d.acts x
          (subst (λ z. Drawn row (found_by (Some (source_at p (states_held told faults h) j))) (source_held told faults h (source_slot p j)) xs d.acts z) e d.draw));
      did = d.did;
      answer = a;
      mode = λ z. cc;
      taken = λ z. cc;
      tail = d.tail;
    }

  pub drew_nothing : (reads : S → ℕ → Option (List ℕ) → S → Type 0) (h : Hold (SourceView S)) (j : ℕ) (v : SourceView S) → IsOfPlan p h → h.sources (source_slot p j) ≡ Some v → IsSource v
      → (source_held told faults h (source_slot p j)).mode ≡ Running → Drew told faults reads p h h j [] None []
  drew_nothing reads h j v plan at ok running =
      let state = held_source told faults p h j v plan at in
      record {
        acts = [];
        end = Ok [];
        draw = (refl, refl);
        did = did_none told faults p reads h;
        answer = (refl, refl);
        mode = λ z. running;
        taken = λ z. let e : 0 * need_of_block (source_row p j) ≡ 0 = zero-mul (need_of_block (source_row p j)) in omega (arith, e);
        tail = subst (λ (s : SourceState). (t : Tail) × (s.tail ≡ Some t)) (sym state) (tail_of_running told faults p v.mode v.tail (ap (λ (s : SourceState). s.mode) (sym state) ∙ running) ok.tail);
      }

  pub runs_first : (h : Hold (SourceView S)) (j : ℕ) (xs ys : List ℕ) → Runs told faults p h j (need_of (source_row p j) (xs ++ ys)) → Runs told faults p h j (need_of (source_row p j) xs)
  runs_first h j xs ys r = record { mode = r.mode; room = let e = need_on (source_row p j) xs ys in let f = r.room in omega (arith, e, f) }

  pub runs_rest : (reads : S → ℕ → Option (List ℕ) → S → Type 0) (h t : Hold (SourceView S)) (j : ℕ) (xs ys : List ℕ) (ss : List (List ℕ)) → Runs told faults p h j (need_of (source_row p j) (xs ++ ys))
      → Drew told faults reads p h t j xs None ss → Runs told faults p t j (need_of (source_row p j) ys)
  runs_rest reads h t j xs ys ss r d = record {
    mode = d.mode refl;
    room = let e = need_on (source_row p j) xs ys in let f = r.room in let g = d.taken refl in omega (arith, e, f, g);
  }

  pub some_refused : (reads : S → ℕ → Option (List ℕ) → S → Type 0) (h t : Hold (SourceView S)) (j : ℕ) (xs ys : List ℕ) (ss zs : List (List ℕ)) (r : Option SourceRefusal) → is_some r ≡ true
      → Drew told faults reads p h t j xs r ss → Drew told faults reads p h t j (xs ++ ys) r zs
  some_refused reads h t j xs ys ss zs None is d = cc
  some_refused reads h t j xs ys ss zs (Some why) is d = drew_refused reads h t j xs ys ss zs why d

  pub none_refused : (r : Option SourceRefusal) → is_some r ≡ false → r ≡ None
  none_refused None is = refl
  none_refused (Some why) is = cc

  pub source_still : (reads : S → ℕ → Option (List ℕ) → S → Type 0) (h t : Hold (SourceView S)) (acts : List Act) (k : ℕ) → Did told faults reads p h t acts → IsSome (h.sources k) → IsSome (t.sources k)
  source_still reads h t acts k did is = by (h.sources k) (t.sources k) (did.sources k) is where
    by : (o q : Option (SourceView S)) → option_map (λ (v : SourceView S). v.row) q ≡ option_map (λ (v : SourceView S). v.row) o → IsSome o → IsSome q
    by (Some v) (Some w) e is = refl
    by (Some v) None e is = absurd (cc)
    by None q e is = absurd (let f : false ≡ true = is in cc)

pub less_one : (count size : ℕ) → count ≢ 0 → (count - 1) * size + size ≡ count * size
less_one count size more =
    let e : (count - 1) + 1 ≡ count = omega (arith, more) in
    ap (λ k. (count - 1) * size + k) (sym (one-mul size)) ∙ (sym (add-mul (count - 1) 1 size) ∙ ap (λ k. k * size) e)

pub pieces_first : (count size : ℕ) (xs : List ℕ) → count ≢ 0 → pieces count size xs ≡ take size xs ∷ pieces (count - 1) size (drop size xs)
pieces_first zero size xs more = absurd (more refl)
pieces_first (suc n) size xs more = let e : suc n - 1 ≡ n = omega arith in rw e refl

pub lens_first : (count size len : ℕ) → count ≢ 0 → chunk_lens count size len ≡ min size len ∷ chunk_lens (count - 1) size (len - size)
lens_first zero size len more = absurd (more refl)
lens_first (suc n) size len more = let e : suc n - 1 ≡ n = omega arith in rw e refl

-- chunks look at a link's slot and row alone
pub chunked_same : (p : Tree) (n : ℕ) (a b : Task) (x y : SlotState) (s : NodeState) (add : List ℕ) (ds : List (List ℕ)) (ls : List ℕ)
    → chunked (link p n a x) s add ds ls ≡ chunked (link p n b y) s add ds ls
chunked_same p n a b x y s add [] ls = refl
chunked_same p n a b x y s add (d ∷ ds) [] = refl
chunked_same p n a b x y s add (d ∷ ds) (len ∷ ls) =
    let seeded = Seeded Renew d add in
    let now = node_after (node_row p n) s seeded in
    let given = Gave [] len (given_bytes (node_row p n) now [] len) in
    ap (λ (w : Work). record { acts = record { slot = n; act = AtNode seeded } ∷ record { slot = n; act = AtNode given } ∷ w.acts; bytes = given_bytes (node_row p n) now [] len ++ w.bytes })
    (chunked_same p n a b x y (node_after (node_row p n) now given) [] ds ls)

module _ {S : Type 0} (told : S → Option (List ℕ)) (faults : S → ℕ) (p : Tree) where
  -- the state of a node after one act
  pub node_acted : (reads : S → ℕ → Option (List ℕ) → S → Type 0) (h t : Hold (SourceView S)) (n : ℕ) (a : NodeAct) → IsSome (h.nodes n) → Did told faults reads p h t (record { slot = n; act = AtNode a } ∷ [])
      → node_held told faults t n ≡ node_after (node_row p n) (node_held told faults h n) a
  node_acted reads h t n a is did = by (h.nodes n) refl is where
    here : (n == n) ≡ true
    here = grind (arith, nat_tests)

    by : (o : Option NodeView) → h.nodes n ≡ o → IsSome o → node_held told faults t n ≡ node_after (node_row p n) (node_held told faults h n) a
    by None e f = absurd (let z : false ≡ true = f in cc)
    by (Some v) e f = ap (λ (x : SlotState). node_in x) (did.states n) ∙ rw (here, e) refl

  pub node_twice : (reads : S → ℕ → Option (List ℕ) → S → Type 0) (h t u : Hold (SourceView S)) (n : ℕ) (a b : NodeAct) → IsSome (h.nodes n) → Did told faults reads p h t (record { slot = n; act = AtNode a } ∷ [])
      → Did told faults reads p t u (record { slot = n; act = AtNode b } ∷ []) → node_held told faults u n ≡ node_after (node_row p n) (node_after (node_row p n) (node_held told faults h n) a) b
  node_twice reads h t u n a b is d e =
      node_acted reads t u n b (node_still told faults p reads h t (record { slot = n; act = AtNode a } ∷ []) n d is) e ∙ ap (λ s. node_after (node_row p n) s b) (node_acted reads h t n a is d)

  -- one chunk, and those behind it
  pub chunks_on : (reads : S → ℕ → Option (List ℕ) → S → Type 0) (h t u w : Hold (SourceView S)) (n entropy count : ℕ) (string strings piece others : List ℕ) (out : ℕ) → count ≢ 0 → IsSome (h.nodes n)
      → Did told faults reads p h t (record { slot = n; act = AtNode (Seeded Renew (take (entropy + 8) strings) string) } ∷ [])
      → Did told faults reads p t u (record { slot = n; act = AtNode (Gave [] (min entropy out) piece) } ∷ [])
      → piece ≡ given_bytes (node_row p n) (node_held told faults t n) [] (min entropy out)
      → Did told faults reads p u w (chunked (link p n Rests (states_held told faults u n)) (node_held told faults u n) [] (pieces (count - 1) (entropy + 8) (drop (entropy + 8) strings)) (chunk_lens (count - 1) entropy (out - entropy))).acts
      → others ≡ (chunked (link p n Rests (states_held told faults u n)) (node_held told faults u n) [] (pieces (count - 1) (entropy + 8) (drop (entropy + 8) strings)) (chunk_lens (count - 1) entropy (out - entropy))).bytes
      → Did told faults reads p h w (chunked (link p n Rests (states_held told faults h n)) (node_held told faults h n) string (pieces count (entropy + 8) strings) (chunk_lens count entropy out)).acts
      × (piece ++ others ≡ (chunked (link p n Rests (states_held told faults h n)) (node_held told faults h n) string (pieces count (entropy + 8) strings) (chunk_lens count entropy out)).bytes)
  chunks_on reads h t u w n entropy count string strings piece others out more is seeds gives given rest bytes =
      let d = take (entropy + 8) strings in
      let len = min entropy out in
      let s = node_held told faults h n in
      let row = node_row p n in
      let seeded = Seeded Renew d string in
      let now = node_after row s seeded in
      let gave = Gave [] len (given_bytes row now [] len) in
      let one = node_acted reads h t n seeded is seeds in
      let piece_is : piece ≡ given_bytes row now [] len = given ∙ ap (λ s. given_bytes row s [] len) one in
      let gives' : Did told faults reads p t u (record { slot = n; act = AtNode gave } ∷ []) = subst (λ z. Did told faults reads p t u (record { slot = n; act = AtNode (Gave [] len z) } ∷ [])) piece_is gives in
      let two : node_held told faults u n ≡ node_after row now gave = node_acted reads t u n gave (node_still told faults p reads h t (record { slot = n; act = AtNode seeded } ∷ []) n seeds is) gives' ∙ ap (λ s. node_after row s gave) one in
      let ds = pieces (count - 1) (entropy + 8) (drop (entropy + 8) strings) in
      let ls = chunk_lens (count - 1) entropy (out - entropy) in
      let same : chunked (link p n Rests (states_held told faults u n)) (node_held told faults u n) [] ds ls ≡ chunked (link p n Rests (states_held told faults h n)) (node_after row now gave) [] ds ls =
      chunked_same p n Rests Rests (states_held told faults u n) (states_held told faults h n) (node_held told faults u n) [] ds ls
      ∙ ap (λ s. chunked (link p n Rests (states_held told faults h n)) s [] ds ls) two in
      let whole : chunked (link p n Rests (states_held told faults h n)) s string (pieces count (entropy + 8) strings) (chunk_lens count entropy out)
      ≡ chunked (link p n Rests (states_held told faults h n)) s string (d ∷ ds) (len ∷ ls) =
      ap (λ z. chunked (link p n Rests (states_held told faults h n)) s string z (chunk_lens count entropy out)) (pieces_first count (entropy + 8) strings more)
      ∙ ap (λ z. chunked (link p n Rests (states_held told faults h n)) s string (d ∷ ds) z) (lens_first count entropy out more) in
      let rest' = subst (λ (x : Work). Did told faults reads p u w x.acts) same rest in (
        subst (λ (x : Work). Did told faults reads p h w x.acts) (sym whole)
            (did_join told faults p reads h t w (record { slot = n; act = AtNode seeded } ∷ []) _ seeds (did_join told faults p reads t u w (record { slot = n; act = AtNode gave } ∷ []) _ gives' rest')),
        ap (λ z. z ++ others) piece_is ∙ (ap (λ z. given_bytes row now [] len ++ z) (bytes ∙ ap (λ (x : Work). x.bytes) same) ∙ ap (λ (x : Work). x.bytes) (sym whole)),
      )

  pub chunks_none : (reads : S → ℕ → Option (List ℕ) → S → Type 0) (h : Hold (SourceView S)) (n entropy count : ℕ) (string strings out : List ℕ) → count ≡ 0 → length out ≤ count * entropy
      → Did told faults reads p h h (chunked (link p n Rests (states_held told faults h n)) (node_held told faults h n) string (pieces count (entropy + 8) strings) (chunk_lens count entropy (length out))).acts
      × (out ≡ (chunked (link p n Rests (states_held told faults h n)) (node_held told faults h n) string (pieces count (entropy + 8) strings) (chunk_lens count entropy (length out))).bytes)
  chunks_none reads h n entropy zero string strings out e few = (did_none told faults p reads h, empty out (let z = zero-mul entropy in omega (arith, z, few)))
  chunks_none reads h n entropy (suc k) string strings out e few = absurd (omega (arith, e))

pub same_wants : (n size entropy len : ℕ) → map (λ (k : ℕ). size) (chunk_lens n entropy len) ≡ same_lens n size
same_wants zero size entropy len = refl
same_wants (suc n) size entropy len = ap (λ z. size ∷ z) (same_wants n size entropy (len - entropy))

-- the strings of an output have room, and there are at most 256
r16 : (q c len : ℕ) → q ≡ max 1 c → len ≤ c * 16 → c * 16 < len + 16 → len ≤ 4096 → (q * 24 ≤ len * 2 + 64) × ((q ≤ 256) × (len ≤ q * 16))
r16 q c len e a b f = (omega arith, (omega arith, omega arith))

r24 : (q c len : ℕ) → q ≡ max 1 c → len ≤ c * 24 → c * 24 < len + 24 → len ≤ 4096 → (q * 32 ≤ len * 2 + 64) × ((q ≤ 256) × (len ≤ q * 24))
r24 q c len e a b f = (omega arith, (omega arith, omega arith))

r32 : (q c len : ℕ) → q ≡ max 1 c → len ≤ c * 32 → c * 32 < len + 32 → len ≤ 4096 → (q * 40 ≤ len * 2 + 64) × ((q ≤ 256) × (len ≤ q * 32))
r32 q c len e a b f = (omega arith, (omega arith, omega arith))

pub room_by : (row : NodeRow) (k : Kind) → row.drbg ≡ k → (q len : ℕ) → q ≡ max 1 (div_ceil len (entropy_len row)) → len ≤ 4096
    → (q * (entropy_len row + 8) ≤ len * 2 + 64) × ((q ≤ 256) × (len ≤ q * entropy_len row))
room_by row k f q len e few =
    subst (λ x. q ≡ max 1 (div_ceil len (strength x / 8)) → (q * (strength x / 8 + 8) ≤ len * 2 + 64) × ((q ≤ 256) × (len ≤ q * (strength x / 8)))) (sym f) (by k) e where
      by : (x : Kind) → q ≡ max 1 (div_ceil len (strength x / 8)) → (q * (strength x / 8 + 8) ≤ len * 2 + 64) × ((q ≤ 256) × (len ≤ q * (strength x / 8)))
      by HmacSha256 e = let t = div_ceil_times len 32 (omega arith) in r32 q (div_ceil len 32) len e t.0 t.1 few
      by HmacSha384 e = let t = div_ceil_times len 32 (omega arith) in r32 q (div_ceil len 32) len e t.0 t.1 few
      by HmacSha512 e = let t = div_ceil_times len 32 (omega arith) in r32 q (div_ceil len 32) len e t.0 t.1 few
      by CtrAes128 e = let t = div_ceil_times len 16 (omega arith) in r16 q (div_ceil len 16) len e t.0 t.1 few
      by CtrAes192 e = let t = div_ceil_times len 24 (omega arith) in r24 q (div_ceil len 24) len e t.0 t.1 few
      by CtrAes256 e = let t = div_ceil_times len 32 (omega arith) in r32 q (div_ceil len 32) len e t.0 t.1 few

-- what an RBG3(RS) draws to give
pub rs_wants : (pr : Bool) (l : Link) (len count : ℕ) → l.task ≡ Gives len → is_rs l.row.kind ≡ true → count ≡ max 1 (div_ceil len (entropy_len l.row)) → wanted pr l ≡ same_lens count (entropy_len l.row + 8)
rs_wants pr l len count t rs e = rw (t, rs, e) (same_wants (max 1 (div_ceil len (entropy_len l.row))) (entropy_len l.row + 8) (entropy_len l.row) len)

pub rs_part : (pr : Bool) (l : Link) (len count : ℕ) (string above : List ℕ) (ss : List (List ℕ)) → is_rs l.row.kind ≡ true → count ≡ max 1 (div_ceil len (entropy_len l.row))
    → task_work pr ss string l above (Gives len) ≡ chunked l l.state string ss (chunk_lens count (entropy_len l.row) len)
rs_part pr l len count string above ss rs e = rw (rs, e) refl

pub rs_limit : (k : NodeKind) (len : ℕ) → is_rs k ≡ true → (count_limit k ≡ 4096) × (room_for k len ≡ len * 2 + 64)
rs_limit Rbg1 len h = cc
rs_limit Rbg2 len h = cc
rs_limit Rbg3Xor len h = cc
rs_limit Rbg3Rs len h = (refl, refl)
rs_limit Child len h = cc

module _ {S : Type 0} (told : S → Option (List ℕ)) (faults : S → ℕ) (p : Tree) where
  pub drew_both : (reads : S → ℕ → Option (List ℕ) → S → Type 0) (h t u : Hold (SourceView S)) (j : ℕ) (xs ys : List ℕ) (ss zs : List (List ℕ)) (r : Option SourceRefusal) → IsOfPlan p h → IsSome (h.sources (source_slot p j))
      → Drew told faults reads p h t j xs None ss → Drew told faults reads p t u j ys r zs → Drew told faults reads p h u j (xs ++ ys) r (ss ++ zs)
  drew_both reads h t u j xs ys ss zs r plan is a b = by (h.sources (source_slot p j)) refl is where
    by : (o : Option (SourceView S)) → h.sources (source_slot p j) ≡ o → IsSome o → Drew told faults reads p h u j (xs ++ ys) r (ss ++ zs)
    by None e f = absurd (let z : false ≡ true = f in cc)
    by (Some v) e f = drew_join told faults p reads h t u j v xs ys ss zs r plan e a b
