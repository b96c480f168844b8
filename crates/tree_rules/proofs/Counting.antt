-- By how much an entry raises a node's counts: its seedings and its generates, by 256 at most each.
use Rattle.std.proofs.Common.{◌≡◌, ◌∙◌, ◌++◌, ◌∷◌, ◌+◌, ◌-◌, ◌*◌, ◌/◌, ◌<◌, ◌≤◌, ℕ, List, [], zero, suc, Bool, true, false, length, map, refl, sym, ap, subst, arith}
use Rattle.std.proofs.lemmas.Grind.{div_ceil_times}
use Rattle.std.specs.Int.{div_ceil}
use Rattle.std.proofs.Math.Bool.{or-true}
use Rattle.std.specs.Prelude.{◌&&◌, ◌||◌, ◌==◌, if◌then◌else◌, is_some, max, Option, Some, None}
use Rattle.rbg_bytes.specs.Kinds.{strength}
use Rattle.rbg_bytes.specs.declared.kind.Kind.{Kind}
use Rattle.rbg_bytes.specs.declared.kind.Kind.TheVariants as kinds
use Rattle.entropy_source.specs.Source.{SourceAct}
use Rattle.rbg_nodes.specs.declared.node.NodeRow.{NodeRow}
use Rattle.rbg_nodes.specs.Node.{Cleared, Gave, How, New, NodeState, Renew, Seeded, entropy_len, given_bytes, node_after, seed_len}
use Rattle.rbg_bytes.specs.Xor.{xor_bytes}
use Rattle.tree_config.specs.Planned.{IsPlanned}
use Rattle.tree_config.specs.Tree.{Tree, parent_in}
use Rattle.tree_rules.specs.Chain.{SourceLink}
use Rattle.tree_rules.specs.Fits.{at_source}
use Rattle.tree_rules.specs.History.{Act, AtNode, AtSource, SlotAct, States, own}
use Rattle.tree_rules.specs.Links.{Gives, Link, Rests, Seeds, Task, asks_parent, chunk_lens, chunks, is_alive, is_rs, is_xor, link, links, must_seed, seeding_by, seeding_len}
use Rattle.tree_rules.specs.Replies.{count_limit}
use Rattle.tree_rules.specs.Slots.{ancestors, lineage, node_plan, node_row}
use Rattle.tree_rules.proofs.Lasting.{parent_is_childs}
use Rattle.tree_rules.proofs.Paths.{no_more}
use Rattle.tree_rules.specs.Works.{Work, chunked, gave, given_work, last_drawn, material, mixed, task_work, worked}

-- What is counted of acts: the seedings, or the generates. A source's acts count nothing, and so does an uninstantiation.
pub record IsWeight (w : SlotAct → ℕ) : Type 0 where
  pub one : (how : How) (material string add : List ℕ) (len : ℕ) (bytes : List ℕ) → w (AtNode (Seeded how material string)) + w (AtNode (Gave add len bytes)) ≤ 1
  pub cleared : w (AtNode Cleared) ≡ 0
  pub source : (a : SourceAct) → w (AtSource a) ≡ 0

abbrev pub seeds_of : SlotAct → ℕ
seeds_of (AtNode (Seeded how material string)) = 1
seeds_of _ = 0

abbrev pub gives_of : SlotAct → ℕ
gives_of (AtNode (Gave add len bytes)) = 1
gives_of _ = 0

pub seeds_weigh : IsWeight seeds_of
seeds_weigh = record { one = λ h m s a l b. omega arith; cleared = refl; source = λ a. refl }

pub gives_weigh : IsWeight gives_of
gives_weigh = record { one = λ h m s a l b. omega arith; cleared = refl; source = λ a. refl }

-- a node's own part: one seeding, one generate, or as many as there are chunks
abbrev Bound : Link → Task → ℕ
Bound l (Gives len) = if is_rs l.row.kind then length (chunks l.row len) else 1
Bound l _ = 1

module _ (w : SlotAct → ℕ) where
  abbrev pub of_own : List SlotAct → ℕ
  of_own [] = 0
  of_own (a ∷ acts) = w a + of_own acts

  abbrev pub total : List Act → ℕ
  total [] = 0
  total (a ∷ acts) = w a.act + total acts

  pub own_few : (k : ℕ) (acts : List Act) → of_own (own k acts) ≤ total acts
  own_few k [] = omega arith
  own_few k (a ∷ acts) = by (a.slot == k) (own_few k acts) where
    by : (b : Bool) → of_own (own k acts) ≤ total acts → of_own (if b then a.act ∷ own k acts else own k acts) ≤ w a.act + total acts
    by true h = omega (arith, h)
    by false h = omega (arith, h)

  pub total-append : (xs ys : List Act) → total (xs ++ ys) ≡ total xs + total ys
  total-append [] ys = omega arith
  total-append (a ∷ xs) ys = omega (arith, total-append xs ys)

  module _ (is : IsWeight w) where
    gave_one : (add : List ℕ) (len : ℕ) (bytes : List ℕ) → w (AtNode (Gave add len bytes)) ≤ 1
    gave_one add len bytes = let h = is.one New [] [] add len bytes in omega (arith, h)

    seeded_one : (how : How) (stuff string : List ℕ) → w (AtNode (Seeded how stuff string)) ≤ 1
    seeded_one how stuff string = let h = is.one how stuff string [] 0 [] in omega (arith, h)

    pub sources_none : (t : SourceLink) (acts : List SourceAct) → total (map (at_source t) acts) ≡ 0
    sources_none t [] = refl
    sources_none t (a ∷ acts) = let h = is.source a in omega (arith, h, sources_none t acts)

    chunked_few : (l : Link) (s : NodeState) (add : List ℕ) (drawn : List (List ℕ)) (lens : List ℕ) → total (chunked l s add drawn lens).acts ≤ length lens
    chunked_few l s add [] lens = omega arith
    chunked_few l s add (d ∷ drawn) [] = omega arith
    chunked_few l s add (d ∷ drawn) (len ∷ lens) =
        let now = node_after l.row s (Seeded Renew d add) in
        let given = gave l now [] len in
        let rest = chunked_few l (node_after l.row now given) [] drawn lens in
        let one = is.one Renew d add [] len (given_bytes l.row now [] len) in omega (arith, rest, one)

    given_few : (l : Link) (b : Bool) (stuff string : List ℕ) (len : ℕ) → total (given_work l b stuff string len).acts ≤ 1
    given_few l true stuff string len =
        let one = is.one Renew stuff string [] len (given_bytes l.row (node_after l.row l.state (Seeded Renew stuff string)) [] len) in omega (arith, one)
    given_few l false stuff string len = let one = gave_one string len (given_bytes l.row l.state string len) in omega (arith, one)

    mixed_few : (b : Bool) (v : Work) (x : List ℕ) → total v.acts ≤ 1 → total (if b then record v { bytes = x } else v).acts ≤ 1
    mixed_few true v x h = h
    mixed_few false v x h = h

    task_few : (pr : Bool) (drawn : List (List ℕ)) (string : List ℕ) (l : Link) (above : List ℕ) (task : Task)
        → total (task_work pr drawn string l above task).acts ≤ Bound l task
    task_few pr drawn string l above Rests = omega arith
    task_few pr drawn string l above (Seeds how) = let one = seeded_one how (material l drawn above) string in omega (arith, one)
    task_few pr drawn string l above (Gives len) = by (is_rs l.row.kind) where
      given : Work
      given = given_work l (must_seed pr l) (material l drawn above) string len

      by : (b : Bool) → total (if b then chunked l l.state string drawn (chunks l.row len) else mixed l drawn given).acts ≤ (if b then length (chunks l.row len) else 1)
      by true = chunked_few l l.state string drawn (chunks l.row len)
      by false = mixed_few (is_xor l.row.kind) given (xor_bytes given.bytes (last_drawn drawn)) (given_few l (must_seed pr l) (material l drawn above) string len)

-- how many chunks there are
pub count_lens : (n size count : ℕ) → length (chunk_lens n size count) ≡ n
count_lens zero size count = refl
count_lens (suc n) size count = omega (arith, count_lens n size (count - size))

at_32 : (len most : ℕ) → len ≤ 16 * most → 1 ≤ most → max 1 (div_ceil len 32) ≤ most
at_32 len most few some = by (div_ceil len 32) (div_ceil_times len 32 (omega arith)).1 where
  by : (q : ℕ) → q * 32 < len + 32 → max 1 q ≤ most
  by q h = omega (arith, h, few, some)

at_24 : (len most : ℕ) → len ≤ 16 * most → 1 ≤ most → max 1 (div_ceil len 24) ≤ most
at_24 len most few some = by (div_ceil len 24) (div_ceil_times len 24 (omega arith)).1 where
  by : (q : ℕ) → q * 24 < len + 24 → max 1 q ≤ most
  by q h = omega (arith, h, few, some)

at_16 : (len most : ℕ) → len ≤ 16 * most → 1 ≤ most → max 1 (div_ceil len 16) ≤ most
at_16 len most few some = by (div_ceil len 16) (div_ceil_times len 16 (omega arith)).1 where
  by : (q : ℕ) → q * 16 < len + 16 → max 1 q ≤ most
  by q h = omega (arith, h, few, some)

parts_few : (k : Kind) (len most : ℕ) → len ≤ 16 * most → 1 ≤ most → max 1 (div_ceil len (strength k / 8)) ≤ most
parts_few kinds.HmacSha256 len most few some = at_32 len most few some
parts_few kinds.HmacSha384 len most few some = at_32 len most few some
parts_few kinds.HmacSha512 len most few some = at_32 len most few some
parts_few kinds.CtrAes128 len most few some = at_16 len most few some
parts_few kinds.CtrAes192 len most few some = at_24 len most few some
parts_few kinds.CtrAes256 len most few some = at_32 len most few some

chunks_few : (row : NodeRow) (len most : ℕ) → len ≤ 16 * most → 1 ≤ most → length (chunks row len) ≤ most
chunks_few row len most few some =
    let is = count_lens (max 1 (div_ceil len (entropy_len row))) (entropy_len row) len in
    let l = parts_few row.drbg len most few some in omega (arith, is, l)

-- a seeding takes 48 bytes at most
seeding_few : (k : Kind) → strength k / 8 + strength k / 16 ≤ 48
seeding_few kinds.HmacSha256 = omega arith
seeding_few kinds.HmacSha384 = omega arith
seeding_few kinds.HmacSha512 = omega arith
seeding_few kinds.CtrAes128 = omega arith
seeding_few kinds.CtrAes192 = omega arith
seeding_few kinds.CtrAes256 = omega arith

seed_few : (row : NodeRow) (how : How) → seed_len row how ≤ 48
seed_few row New = seeding_few row.drbg
seed_few row Renew = let l = seeding_few row.drbg in omega (arith, l)

link_few : (l : Link) → seeding_len l ≤ 48
link_few l = by l.task where
  by : (task : Task) → seeding_by l.row task ≤ 48
  by (Seeds how) = seed_few l.row how
  by (Gives len) = seed_few l.row Renew
  by Rests = seed_few l.row Renew

module _ (w : SlotAct → ℕ) (is : IsWeight w) (p : Tree) (s : States) (pr : Bool) (drawn : List (List ℕ)) where
  -- a node, and those above it
  both_few : (string : List ℕ) (l : Link) (rest : List Link) (n m : ℕ) → total w (worked pr drawn [] rest).acts ≤ n → Bound l l.task ≤ m
      → total w (worked pr drawn string (l ∷ rest)).acts ≤ n + m
  both_few string l rest n m h i =
      let above = worked pr drawn [] rest in
      let own = task_few w is pr drawn string l above.bytes l.task in
      let sum = total-append w above.acts (task_work pr drawn string l above.bytes l.task).acts in omega (arith, sum, h, i, own)

  -- parents give a seeding's bytes each: in three chunks at most
  parents_few : (len : ℕ) (up : List ℕ) → len ≤ 48 → total w (worked pr drawn [] (links p s pr (Gives len) up)).acts ≤ 3 * length up
  parents_few len [] h = omega arith
  parents_few len (n ∷ up) h =
      let l = link p n (Gives len) (s n) in
      let rest = if asks_parent pr l then links p s pr (Gives (seeding_len l)) up else [] in
      let i = both_few [] l rest (3 * length up) 3 (by (asks_parent pr l) (parents_few (seeding_len l) up (link_few l))) (give (is_rs l.row.kind)) in omega (arith, i) where
        by : (b : Bool) → total w (worked pr drawn [] (links p s pr (Gives (seeding_len (link p n (Gives len) (s n)))) up)).acts ≤ 3 * length up
            → total w (worked pr drawn [] (if b then links p s pr (Gives (seeding_len (link p n (Gives len) (s n)))) up else [])).acts ≤ 3 * length up
        by true h = h
        by false h = omega arith

        give : (b : Bool) → (if b then length (chunks (node_row p n) len) else 1) ≤ 3
        give true = chunks_few (node_row p n) len 3 (omega (arith, h)) (omega arith)
        give false = omega arith

-- no more ancestors than there are nodes
ancestors_few : (far : ℕ) (p : Tree) (o : Option ℕ) → length (ancestors far p o) ≤ far
ancestors_few zero p o = omega arith
ancestors_few (suc far) p None = omega arith
ancestors_few (suc far) p (Some n) = let h = ancestors_few far p (parent_in (node_plan p n).origin) in omega (arith, h)

-- an RBG3(RS) has no parent
no_parent : (least : ℕ) (p : Tree) (n : ℕ) → IsPlanned least p → is_rs (node_row p n).kind ≡ true → is_some (parent_in (node_plan p n).origin) ≡ false
no_parent least p n plan is = by (is_some (parent_in (node_plan p n).origin)) refl where
  by : (b : Bool) → is_some (parent_in (node_plan p n).origin) ≡ b → b ≡ false
  by false at = refl
  by true at = let other = (parent_is_childs least p n plan at).1 in cc

-- what is asked of a named node
abbrev pub IsBrief : Tree → ℕ → Task → Type 0
IsBrief p n (Gives len) = len ≤ count_limit (node_row p n).kind
IsBrief p n _ = Unit {0}

module _ (w : SlotAct → ℕ) (is : IsWeight w) (least : ℕ) (p : Tree) (plan : IsPlanned least p) (s : States) where
  pub top_few : (pr : Bool) (drawn : List (List ℕ)) (string : List ℕ) (n : ℕ) (task : Task) → IsBrief p n task
      → total w (worked pr drawn string (links p s pr task (lineage p n))).acts ≤ 256
  top_few pr drawn string n task brief = by (is_rs (node_row p n).kind) refl where
    up : List ℕ
    up = ancestors (length p.nodes) p (parent_in (node_plan p n).origin)

    l : Link
    l = link p n task (s n)

    rest : Bool → List Link
    rest b = if b then links p s pr (Gives (seeding_len l)) up else []

    some_rest : (b : Bool) → total w (worked pr drawn [] (rest b)).acts ≤ 3 * length up
    some_rest true = parents_few w is p s pr drawn (seeding_len l) up (link_few l)
    some_rest false = omega arith

    one : (b : Bool) → is_rs (node_row p n).kind ≡ b → b ≡ false → (task : Task) → Bound l task ≤ 1
    one b at no_rs (Gives len) = subst (λ z. (if z then length (chunks (node_row p n) len) else 1) ≤ 1) (sym (at ∙ no_rs)) (omega arith)
    one b at no_rs (Seeds how) = omega arith
    one b at no_rs Rests = omega arith

    many : is_rs (node_row p n).kind ≡ true → (task : Task) → IsBrief p n task → Bound l task ≤ 256
    many at (Gives len) brief =
        let less : len ≤ (if is_xor (node_row p n).kind || true then 4096 else 65536) =
        subst (λ z. len ≤ (if is_xor (node_row p n).kind || z then 4096 else 65536)) at brief in
        let few : len ≤ 4096 = subst (λ z. len ≤ (if z then 4096 else 65536)) (or-true (is_xor (node_row p n).kind)) less in
        subst (λ z. (if z then length (chunks (node_row p n) len) else 1) ≤ 256) (sym at) (chunks_few (node_row p n) len 256 (omega (arith, few)) (omega arith))
    many at (Seeds how) brief = omega arith
    many at Rests brief = omega arith

    by : (b : Bool) → is_rs (node_row p n).kind ≡ b → total w (worked pr drawn string (l ∷ rest (asks_parent pr l))).acts ≤ 256
    by false at =
        let few = ancestors_few (length p.nodes) p (parent_in (node_plan p n).origin) in
        let nodes = plan.few_nodes in
        let all = both_few w is p s pr drawn string l (rest (asks_parent pr l)) (3 * length up) 1 (some_rest (asks_parent pr l)) (one false at refl task) in
        omega (arith, few, nodes, all)
    by true at =
        let no_up : asks_parent pr l ≡ false = ap (λ b. is_alive l && must_seed pr l && b) (no_parent least p n plan at) ∙ no_more (is_alive l) (must_seed pr l) in
        let none : total w (worked pr drawn [] (rest (asks_parent pr l))).acts ≤ 0 = subst (λ b. total w (worked pr drawn [] (rest b)).acts ≤ 0) (sym no_up) (omega arith) in
        let all = both_few w is p s pr drawn string l (rest (asks_parent pr l)) 0 256 none (many at task brief) in omega (arith, all)
