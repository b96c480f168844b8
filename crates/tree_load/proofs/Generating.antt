-- What a Generate that is Done and asks no prediction resistance leaves of every node and every source.
use Rattle.std.proofs.Common.{◌≡◌, ◌∙◌, ◌++◌, ◌∷◌, ◌+◌, ◌*◌, ◌<◌, ℕ, List, [], Bool, true, false, length, map, refl, sym, ap, subst, arith, eq-eqb, eqb-true}
use Rattle.std.proofs.lemmas.List.{length-map}
use Rattle.std.specs.Prelude.{◌==◌, ◌||◌, if◌then◌else◌, max, sum, Option, Some, None, Result, Ok, Err, MatchResult}
use Rattle.std.specs.Int.{div_ceil}
use Rattle.entropy_source.specs.Draws.{Drawn, portions}
use Rattle.entropy_source.specs.Source.{SourceAct, SourceState, blocks_for, need_of_block, source_after_all}
use Rattle.entropy_source.specs.declared.answers.SourceRefusal.{SourceRefusal}
use Rattle.entropy_source.specs.declared.answers.SourceRow.{SourceRow}
use Rattle.rbg_nodes.specs.Node.{NodeState, entropy_len}
use Rattle.rbg_nodes.specs.declared.node.NodeRow.{NodeRow}
use Rattle.tree_config.specs.Planned.{IsPlanned}
use Rattle.tree_config.specs.Tree.{IsTree, Tree}
use Rattle.tree_config.specs.declared.plan.Origin.{Origin}
use Rattle.tree_config.specs.declared.plan.Origin.TheVariants.{Parent, SeedFile, Source}
use Rattle.tree_rules.specs.Chain.{SourceLink, node_chain, source_at, source_by, source_of, wants_of}
use Rattle.tree_rules.specs.Fits.{AnswersBy, DrawsAndWorks, Fits, Serves, at_source, done, found_by, source_reply}
use Rattle.tree_rules.specs.History.{Act, Distinct, Entry, NodeIs, SlotState, States, after, at_slot, node_in, own, slot_after_all, source_in}
use Rattle.tree_rules.specs.Links.{Gives, Link, asks_parent, chunks, is_alive, is_rs, is_xor, last_link, link, wanted, wanted_by}
use Rattle.tree_rules.specs.Replies.{chain_of, refusal}
use Rattle.tree_rules.specs.Slots.{node_row, source_row, source_slot}
use Rattle.tree_rules.specs.Works.{worked}
use Rattle.tree_rules.specs.declared.call.Call.{Call}
use Rattle.tree_rules.specs.declared.call.Call.TheVariants.{Generate}
use Rattle.tree_rules.specs.declared.reply.Reply.{Reply}
use Rattle.tree_rules.proofs.Answered.{acts_here, served}
use Rattle.tree_rules.proofs.Counting.{count_lens}
use Rattle.tree_rules.proofs.Giving.{count_portions}
use Rattle.tree_rules.proofs.Lasting.{rbg3_draws}
use Rattle.tree_rules.proofs.Leaves.{slots}
use Rattle.tree_rules.proofs.Parting.{IsSource, next_source}
use Rattle.tree_rules.proofs.Refusals.{coded_refusal, refused_by}
use Rattle.tree_rules.proofs.Sources.{at_slot-append, else_all, never_done, none_worked}
use Rattle.tree_acts.specs.Chained.{len_of, links_from, rest_from}
use Rattle.tree_acts.proofs.Free.{able, names, whole}
use Rattle.tree_load.proofs.Capping.{skips_front}
use Rattle.tree_load.proofs.Drawing.{IsCounted, draws_count}
use Rattle.tree_load.specs.Tally.{is_from}
use Rattle.tree_load.proofs.Climbing.{moved}
use Rattle.tree_load.proofs.Lining.{AllGive, AreChildren, AreLines, IsLine, all_give, are_children, are_distinct, are_lines, found, give}
use Rattle.tree_load.proofs.Moving.{IsMoved, gives_at, seeds_at, worked_moves}

-- what such a call did: its nodes' work over the strings that were drawn on its source, if it needed one
abbrev pub Did : Entry → List Link → Option SourceLink → Type 0
Did e ls None = e.acts ≡ (worked false [] e.string ls).acts
Did e ls (Some t) =
    (acts : List SourceAct) × (all : List ℕ) × Drawn t.row (found_by (Some t)) t.state (wanted false (last_link ls)) acts (Ok all)
    × (e.acts ≡ map (at_source t) acts ++ (worked false (portions t.row (wanted false (last_link ls)) all) e.string ls).acts)

abbrev pub chain : Tree → States → ℕ → ℕ → List Link
chain p s n len = links_from p s false (Gives len) (length p.nodes) n

pub record Generated (p : Tree) (s : States) (e : Entry) (n len : ℕ) : Type 0 where
  pub low : n < length p.nodes
  pub alive : is_alive (last_link (chain p s n len)) ≡ true
  pub whole : asks_parent false (last_link (chain p s n len)) ≡ false
  pub did : Did e (chain p s n len) (source_of p s false (last_link (chain p s n len)))

did_of : (e : Entry) (n len x : ℕ) (ls : List Link) (source : Option SourceLink) → e.reply.code ≡ 0
    → DrawsAndWorks (found_by source) (Generate n len x false) ls (wants_of (Generate n len x false) ls source) source e → Did e ls source
did_of e n len x ls None code w = w.acts_are
did_of e n len x ls (Some t) code (acts, end, drawn, answer) = by end drawn answer where
  by : (end : Result (List ℕ) SourceRefusal) → Drawn t.row (found_by (Some t)) t.state (wanted false (last_link ls)) acts end → MatchResult end
      (λ bytes. let w = worked false (portions t.row (wanted false (last_link ls)) bytes) e.string ls in
      AnswersBy e (map (at_source t) acts ++ w.acts) (done w.bytes) w.bytes)
      (λ why. AnswersBy e (map (at_source t) acts) (source_reply t.number why) []) → Did e ls (Some t)
  by (Ok all) drawn answer = (acts, all, drawn, answer.acts_are)
  by (Err why) drawn answer = absurd (never_done e t.number why answer.reply_is code)

-- no row of the table stands
not_refused : (p : Tree) (s : States) (e : Entry) → Fits p s e → e.reply.code ≡ 0 → refusal p e.call e.string (chain_of p s e.call e.string) ≡ None
not_refused p s e f code = by (refusal p e.call e.string (chain_of p s e.call e.string)) refl where
  by : (o : Option Reply) → refusal p e.call e.string (chain_of p s e.call e.string) ≡ o → o ≡ None
  by None is = refl
  by (Some r) is =
      let same : r.code ≡ 0 = sym (ap (λ (z : Reply). z.code) (refused_by p s e r f is).1) ∙ code in
      absurd (coded_refusal p e.call e.string (chain_of p s e.call e.string) r is same)

pub generated : (p : Tree) → IsPlanned 0 p → IsTree 8 p.nodes → (s : States) (e : Entry) (n len x : ℕ) → Fits p s e → e.call ≡ Generate n len x false → e.reply.code ≡ 0
    → Generated p s e n len
generated p plan tree s e n len x f is code =
    let c : Call = Generate n len x false in
    let none = not_refused p s e f code in
    let free = subst (λ z. refusal p z e.string (chain_of p s z e.string) ≡ None) is none in
    let same : chain_of p s c e.string ≡ node_chain p s c = whole p s c e.string refl free in
    let free_whole : refusal p c e.string (node_chain p s c) ≡ None = subst (λ ch. refusal p c e.string ch ≡ None) same free in
    let able_to = able p s c e.string refl plan free_whole 8 tree in
    let serves : Serves (found_by (chain_of p s c e.string).source) (chain_of p s c e.string) e c =
    subst (λ z. Serves (found_by (chain_of p s z e.string).source) (chain_of p s z e.string) e z) is (served p s e f none) in
    let serves_whole : Serves (found_by (node_chain p s c).source) (node_chain p s c) e c = subst (λ ch. Serves (found_by ch.source) ch e c) same serves in
    record {
      low = names p s c e.string refl plan free_whole;
      alive = able_to.alive;
      whole = able_to.whole;
      did = did_of e n len x (chain p s n len) (source_of p s false (last_link (chain p s n len))) code serves_whole;
    }

-- a node that is instantiated and wants something of its source has one
no_source : (p : Tree) (s : States) (alive : Bool) (lens : List ℕ) (o : Origin) → alive ≡ true → 0 < length lens → (j : ℕ) → o ≡ Source j
    → (if alive then source_by p s lens o else None) ≡ None → ⊥
no_source p s false lens o on some j is h = cc
no_source p s true [] o on some j is h = absurd (omega (arith, some))
no_source p s true (x ∷ xs) (Source i) on some j is h = cc
no_source p s true (x ∷ xs) (SeedFile name) on some j is h = cc
no_source p s true (x ∷ xs) (Parent q) on some j is h = cc

-- an RBG3(RS) wants a string for each chunk
wants_chunks : (l : Link) → l.task ≡ Gives (len_of l.task) → is_rs l.row.kind ≡ true → length (wanted false l) ≡ length (chunks l.row (len_of l.task))
wants_chunks l gives rs =
    ap (λ z. length {A = ℕ} (wanted_by false l z)) gives
    ∙ (rw rs (length-map (chunks l.row (len_of l.task)) (λ (_ : ℕ). entropy_len l.row + 8)))

some_chunks : (l : Link) (len : ℕ) → 0 < length (chunks l.row len)
some_chunks l len = let c = count_lens (max 1 (div_ceil len (entropy_len l.row))) (entropy_len l.row) len in omega (arith, c)

last_gives : (l : Link) (ls : List Link) → AllGive (l ∷ ls) → let end = last_link (l ∷ ls) in end.task ≡ Gives (len_of end.task)
last_gives l [] (h, more) = h
last_gives l (m ∷ ls) (h, more) = last_gives m ls more

last_line : (p : Tree) (s : States) (l : Link) (ls : List Link) → AreLines p s (l ∷ ls) → IsLine p s (last_link (l ∷ ls))
last_line p s l [] (h, more) = h
last_line p s l (m ∷ ls) (h, more) = last_line p s m ls more

-- the source of a node is that of its origin
source_is : (p : Tree) (s : States) (alive : Bool) (lens : List ℕ) (o : Origin) (t : SourceLink) → (if alive then source_by p s lens o else None) ≡ Some t
    → (i : ℕ) × (o ≡ Source i) × (source_at p s i ≡ t)
source_is p s false lens o t h = cc
source_is p s true [] o t h = cc
source_is p s true (x ∷ xs) (SeedFile name) t h = cc
source_is p s true (x ∷ xs) (Parent q) t h = cc
source_is p s true (x ∷ xs) (Source i) t h = let e : source_at p s i ≡ t = cc in (i, refl, e)

none_counted : (row : SourceRow) (b : ℕ) (x y : SourceState) → b ≡ 0 → y ≡ x → IsCounted b (b * need_of_block row) x y
none_counted row b x y none same =
    let e : b * need_of_block row ≡ 0 = ap (λ z. z * need_of_block row) none ∙ (let z : 0 * need_of_block row ≡ 0 = omega arith in z) in
    let f = ap (λ (z : SourceState). z.blocks) same in let g = ap (λ (z : SourceState). z.taken) same in
    record { blocks_are = omega (arith, none, f); taken_are = omega (arith, e, g) }

-- the blocks that a link draws on source j
abbrev pub draws_on : Tree → ℕ → Link → ℕ
draws_on p j l = if is_from j l.origin then sum (map (λ n. blocks_for (source_row p j) n) (wanted false l)) else 0

module _ (p : Tree) (plan : IsPlanned 0 p) (tree : IsTree 8 p.nodes) (s : States) (e : Entry) (n len : ℕ) (g : Generated p s e n len) where
  abbrev pub ls : List Link
  ls = chain p s n len

  abbrev end : Link
  end = last_link ls

  pub lines : AreLines p s ls
  lines = are_lines p s false (length p.nodes) n (Gives len)

  pub gives : AllGive ls
  gives = all_give p s false (length p.nodes) n len

  pub children : AreChildren p ls
  children = are_children p s false (length p.nodes) n (Gives len)

  pub distinct : Distinct (slots ls)
  distinct = are_distinct p s false 8 tree (length p.nodes) n (Gives len)

  pub end_gives : end.task ≡ Gives (len_of end.task)
  end_gives = last_gives (link p n (Gives len) (s n)) (rest_from p s false (Gives len) (length p.nodes) n) gives

  pub end_line : IsLine p s end
  end_line = last_line p s (link p n (Gives len) (s n)) (rest_from p s false (Gives len) (length p.nodes) n) lines

  -- what becomes of node k
  pub moves : (k : ℕ) (x : NodeState) (c : ℕ → ℕ) → s k ≡ NodeIs x → c k ≡ x.counter → IsMoved (seeds_at k ls) (gives_at k ls) (moved c ls k) x (after p k (s k) e)
  moves k x c is same =
      subst (λ z. Goal (slot_after_all p k z (own k e.acts))) (sym is) (by (source_of p s false end) refl g.did) where
        Goal : SlotState → Type 0
        Goal y = IsMoved (seeds_at k ls) (gives_at k ls) (moved c ls k) x y

        work : List (List ℕ) → List Act
        work drawn = (worked false drawn e.string ls).acts

        over : (drawn : List (List ℕ)) → (is_rs end.row.kind ≡ true → length drawn ≡ length (chunks end.row (len_of end.task))) → Goal (slot_after_all p k (NodeIs x) (own k (work drawn)))
        over drawn strings = worked_moves p k x c drawn e.string ls same distinct (give 0 p plan s drawn ls lines gives children g.alive strings) (found p s k x (ap node_in is) ls lines)

        never : source_of p s false end ≡ None → is_rs end.row.kind ≡ true → ⊥
        never none rs =
            let row : is_rs (node_row p end.slot).kind ≡ true = sym (ap (λ (r : NodeRow). is_rs r.kind) end_line.row) ∙ rs in
            let (j, origin) = rbg3_draws 0 p end.slot plan (ap (λ b. b || is_xor (node_row p end.slot).kind) row) in
            let count = wants_chunks end end_gives rs in let some = some_chunks end (len_of end.task) in
            no_source p s (is_alive end) (wanted false end) end.origin g.alive (omega (arith, count, some)) j (end_line.origin ∙ origin) none

        by : (o : Option SourceLink) → source_of p s false end ≡ o → Did e ls o → Goal (slot_after_all p k (NodeIs x) (own k e.acts))
        by None none d = subst (λ z. Goal (slot_after_all p k (NodeIs x) (own k z))) (sym d) (over [] (λ rs. absurd (never none rs)))
        by (Some t) at (acts, all, drawn, are) =
            let strings = portions t.row (wanted false end) all in
            subst (λ z. Goal (slot_after_all p k (NodeIs x) (own k z))) (sym are)
            (subst Goal (sym (skips_front p k x t acts (work strings)))
            (over strings (λ rs. count_portions t.row (wanted false end) all ∙ wants_chunks end end_gives rs)))

  -- what becomes of source j
  pub counted : (j : ℕ) → IsSource (s (source_slot p j))
      → IsCounted (draws_on p j end) (draws_on p j end * need_of_block (source_row p j)) (source_in (s (source_slot p j))) (source_in (after p (source_slot p j) (s (source_slot p j)) e))
  counted j is = by (source_of p s false end) refl g.did where
    k : ℕ
    k = source_slot p j

    x : SourceState
    x = source_in (s k)

    Goal : List SourceAct → Type 0
    Goal acts = IsCounted (draws_on p j end) (draws_on p j end * need_of_block (source_row p j)) x (source_after_all (source_row p j) x acts)

    Whole : Type 0
    Whole = IsCounted (draws_on p j end) (draws_on p j end * need_of_block (source_row p j)) x (source_in (after p k (s k) e))

    with_acts : (acts : List SourceAct) → at_slot k e.acts ≡ acts → Goal acts → Whole
    with_acts acts at h = subst (λ z. IsCounted (draws_on p j end) (draws_on p j end * need_of_block (source_row p j)) x z) (sym (next_source p s j e is)) (subst Goal (sym at) h)

    nothing : (acts : List Act) → e.acts ≡ acts → at_slot k acts ≡ [] → draws_on p j end ≡ 0 → Whole
    nothing acts are none no_blocks = with_acts [] (ap (at_slot k) are ∙ none) (none_counted (source_row p j) (draws_on p j end) x x no_blocks refl)

    -- a node that has no source draws nothing
    no_blocks : (o : Origin) (lens : List ℕ) → (if is_alive end then source_by p s lens o else None) ≡ None
        → (if is_from j o then sum (map (λ n. blocks_for (source_row p j) n) lens) else 0) ≡ 0
    no_blocks (SeedFile name) lens h = refl
    no_blocks (Parent q) lens h = refl
    no_blocks (Source i) [] h = by (i == j) where
      by : (b : Bool) → ◌≡◌ {A = ℕ} (if b then 0 else 0) 0
      by true = refl
      by false = refl
    no_blocks (Source i) (y ∷ ys) h = absurd (no_source p s (is_alive end) (y ∷ ys) (Source i) g.alive (omega arith) i refl h)

    other : (i : ℕ) (t : SourceLink) → source_at p s i ≡ t → (i == j) ≡ false → (t.slot == k) ≡ false
    other i t is off = subst (λ (z : SourceLink). (z.slot == k) ≡ false) is (by (source_slot p i == k) refl) where
      by : (b : Bool) → (source_slot p i == k) ≡ b → b ≡ false
      by false at = refl
      by true at = let same = eqb-true (source_slot p i) k at in let on : (i == j) ≡ true = eq-eqb i j (omega (arith, same)) in absurd (let z : true ≡ false = sym on ∙ off in cc)

    by : (o : Option SourceLink) → source_of p s false end ≡ o → Did e ls o → Whole
    by None none d = nothing (worked false [] e.string ls).acts d (none_worked k false [] e.string ls) (no_blocks end.origin (wanted false end) none)
    by (Some t) at (acts, all, drawn, are) =
        let (i, origin, t_is) = source_is p s (is_alive end) (wanted false end) end.origin t at in
        here i origin t_is (i == j) refl where
          w : List Act
          w = (worked false (portions t.row (wanted false end) all) e.string ls).acts

          none : (i : ℕ) → at_slot i w ≡ []
          none i = none_worked i false (portions t.row (wanted false end) all) e.string ls

          here : (i : ℕ) → end.origin ≡ Source i → source_at p s i ≡ t → (b : Bool) → (i == j) ≡ b → Whole
          here i origin t_is false off =
              nothing (map (at_source t) acts ++ w) are
              (at_slot-append k (map (at_source t) acts) w ∙ rw (else_all k t acts (other i t t_is off), none k) refl)
              (ap (λ o. if is_from j o then sum (map (λ n. blocks_for (source_row p j) n) (wanted false end)) else 0) origin
              ∙ ap (λ b. if b then sum (map (λ n. blocks_for (source_row p j) n) (wanted false end)) else 0) off)
          here i origin t_is true on =
              let mine : source_at p s j ≡ t = subst (λ z. source_at p s z ≡ t) (eqb-true i j on) t_is in
              let blocks : draws_on p j end ≡ sum (map (λ n. blocks_for (source_row p j) n) (wanted false end)) =
              ap (λ o. if is_from j o then sum (map (λ n. blocks_for (source_row p j) n) (wanted false end)) else 0) origin
              ∙ ap (λ b. if b then sum (map (λ n. blocks_for (source_row p j) n) (wanted false end)) else 0) on in
              let at_k : at_slot k (map (at_source t) acts ++ w) ≡ acts = subst (λ z. at_slot z (map (at_source t) acts ++ w) ≡ acts) (sym (ap (λ (z : SourceLink). z.slot) mine)) (acts_here t acts w (none t.slot)) in
              let count = draws_count t.row (found_by (Some t)) (sum (map (λ n. blocks_for t.row n) (wanted false end))) t.state [] [] acts all drawn in
              let ours : IsCounted (sum (map (λ n. blocks_for (source_row p j) n) (wanted false end))) (sum (map (λ n. blocks_for (source_row p j) n) (wanted false end)) * need_of_block (source_row p j)) x (source_after_all (source_row p j) x acts) =
              subst (λ (z : SourceLink). IsCounted (sum (map (λ n. blocks_for z.row n) (wanted false end))) (sum (map (λ n. blocks_for z.row n) (wanted false end)) * need_of_block z.row) z.state (source_after_all z.row z.state acts)) (sym mine) count in
              with_acts acts (ap (at_slot k) are ∙ at_k) (subst (λ z. IsCounted z (z * need_of_block (source_row p j)) x (source_after_all (source_row p j) x acts)) (sym blocks) ours)
