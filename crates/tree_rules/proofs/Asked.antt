-- What a call draws is enough for the node that gives, so a Generate that is Done gives what was asked for.
use Rattle.std.proofs.Common.{◌≡◌, ◌∙◌, ◌++◌, ◌∷◌, ◌+◌, ◌*◌, ◌<◌, ℕ, List, [], Bool, true, false, length, length-append, map, refl, sym, ap, subst, arith, zero-add}
use Rattle.std.proofs.lemmas.Bool.{lt-ltb}
use Rattle.std.proofs.lemmas.List.{length-map}
use Rattle.std.specs.Prelude.{◌&&◌, ◌||◌, if◌then◌else◌, is_some, max, nat_lt, sum, Option, Some, None, Ok}
use Rattle.std.specs.Int.{div_ceil}
use Rattle.conditioner.specs.Conditioned.{block_len}
use Rattle.entropy_source.specs.Draws.{Draws, portions}
use Rattle.entropy_source.specs.Source.{SourceAct, SourceState, blocks_for}
use Rattle.entropy_source.specs.declared.answers.SourceRow.{SourceRow}
use Rattle.health_tests.specs.declared.windows.Alarm.{Alarm}
use Rattle.rbg_nodes.specs.Node.{entropy_len}
use Rattle.tree_config.specs.Planned.{IsPlanned}
use Rattle.tree_config.specs.Tree.{Tree, parent_in}
use Rattle.tree_config.specs.declared.plan.NodeKind.{NodeKind}
use Rattle.tree_config.specs.declared.plan.NodeKind.TheVariants.{Child, Rbg1, Rbg2, Rbg3Rs, Rbg3Xor}
use Rattle.tree_config.specs.declared.plan.Origin.TheVariants.{Source}
use Rattle.tree_rules.specs.Causes.{IsDone, bytes_of, drawn_by}
use Rattle.tree_rules.specs.Chain.{Chain, SourceLink, node_chain, source_at, source_by, source_of, wants, wants_of}
use Rattle.tree_rules.specs.Fits.{Fits, found_by}
use Rattle.tree_rules.specs.History.{Entry, States, at_slot}
use Rattle.tree_rules.specs.Links.{Gives, Link, asks_parent, chunks, is_alive, is_rs, is_xor, last_link, link, links, must_seed, seeding_len, wanted, wanted_by}
use Rattle.tree_rules.specs.Replies.{chain_of, refusal, seeds_or_gives}
use Rattle.tree_rules.specs.Slots.{ancestors, node_plan}
use Rattle.tree_rules.specs.Works.{last_drawn, worked}
use Rattle.tree_rules.specs.declared.call.Call.{Call}
use Rattle.tree_rules.specs.declared.call.Call.TheVariants.{Generate}
use Rattle.tree_rules.proofs.Complete.{done_alone, drawn_done}
use Rattle.tree_rules.proofs.Counting.{count_lens}
use Rattle.tree_rules.proofs.Freeing.{chain_is_whole, is_free}
use Rattle.tree_rules.proofs.Giving.{Enough, Long, count_portions, gives_len, last_of_one, last_of_two}
use Rattle.tree_rules.proofs.Lasting.{rbg3_draws}
use Rattle.tree_rules.proofs.Paths.{no_more}
use Rattle.tree_rules.proofs.Staying.{free_done, len_is}

abbrev pub Whole : Type 0
Whole = (row : SourceRow) (found : List ℕ → List ℕ → Option Alarm) (n : ℕ) (s : SourceState) (read : List ℕ) (out : List ℕ)
    (acts : List SourceAct) (bytes : List ℕ) → Draws row found n s read out acts (Ok bytes) → length bytes ≡ length out + n * block_len row.cond

-- as many bytes as the blocks of these lengths have
abbrev AreWhole : SourceRow → List ℕ → List ℕ → Type 0
AreWhole row lens all = length all ≡ sum (map (λ n. blocks_for row n) lens) * block_len row.cond

or_left : (a b : Bool) → a ≡ true → (a || b) ≡ true
or_left true b h = refl
or_left false b h = cc

or_right : (a b : Bool) → b ≡ true → (a || b) ≡ true
or_right true b h = refl
or_right false b h = h

-- a node is of one kind
not_both : (kind : NodeKind) → is_xor kind ≡ true → is_rs kind ≡ false
not_both Rbg3Xor h = refl
not_both Rbg1 h = cc
not_both Rbg2 h = cc
not_both Rbg3Rs h = cc
not_both Child h = cc

-- the strings of all the lengths that a node wants
of_wanted : (row : SourceRow) (pr : Bool) (l : Link) (len : ℕ) (all : List ℕ) → l.task ≡ Gives len
    → AreWhole row (wanted pr l) all → Enough l len (portions row (wanted pr l) all)
of_wanted row pr l len all task whole = record {
  chunks_are = λ rs.
      let lens : wanted pr l ≡ map (λ _. entropy_len l.row + 8) (chunks l.row len) = ap (λ t. wanted_by pr l t) task ∙ ap (λ b. choose b) rs in
      ap (λ z. length (portions row z all)) lens
      ∙ (count_portions row (map (λ _. entropy_len l.row + 8) (chunks l.row len)) all ∙ length-map (chunks l.row len) (λ _. entropy_len l.row + 8));
  last_is = λ xor some.
      let lens : wanted pr l ≡ front (must_seed pr l) ++ len ∷ [] =
      ap (λ t. wanted_by pr l t) task ∙ (ap (λ b. choose b) (not_both l.row.kind xor) ∙ ap (λ b. front (must_seed pr l) ++ (if b && nat_lt 0 len then len ∷ [] else [])) xor
      ∙ ap (λ b. front (must_seed pr l) ++ (if b then len ∷ [] else [])) (lt-ltb 0 len some)) in
      subst (λ z. length (last_drawn (portions row z all)) ≡ len) (sym lens)
      (by (must_seed pr l) (subst (λ z. AreWhole row z all) lens whole));
} where
  front : Bool → List ℕ
  front b = if b then entropy_len l.row ∷ [] else []

  choose : Bool → List ℕ
  choose b = if b then map (λ _. entropy_len l.row + 8) (chunks l.row len) else front (must_seed pr l) ++ (if is_xor l.row.kind && nat_lt 0 len then len ∷ [] else [])

  by : (b : Bool) → AreWhole row (front b ++ len ∷ []) all → length (last_drawn (portions row (front b ++ len ∷ []) all)) ≡ len
  by false whole = last_of_one row len all (whole ∙ ap (λ k. k * block_len row.cond) (zero-add (blocks_for row len)))
  by true whole =
      last_of_two row (entropy_len l.row) len all
      (whole ∙ ap (λ k. (k + blocks_for row len) * block_len row.cond) (zero-add (blocks_for row (entropy_len l.row))))

-- an RBG3 wants something where it is to give a byte, and an RBG3(RS) always
wants_some : (pr : Bool) (l : Link) (len : ℕ) → l.task ≡ Gives len → wanted pr l ≡ [] → (is_rs l.row.kind ≡ true → ⊥) × (is_xor l.row.kind ≡ true → 0 < len → ⊥)
wants_some pr l len task none = (
  (λ rs.
      let lens : wanted pr l ≡ map (λ _. entropy_len l.row + 8) (chunks l.row len) = ap (λ t. wanted_by pr l t) task ∙ ap (λ b. choose b) rs in
      let count = length-map (chunks l.row len) (λ _. entropy_len l.row + 8) in
      let some = count_lens (max 1 (div_ceil len (entropy_len l.row))) (entropy_len l.row) len in
      let same = ap (λ z. length {A = ℕ} z) (sym lens ∙ none) in
      omega (arith, count, some, same)),
  (λ xor more.
      let lens : wanted pr l ≡ front (must_seed pr l) ++ len ∷ [] =
      ap (λ t. wanted_by pr l t) task ∙ (ap (λ b. choose b) (not_both l.row.kind xor) ∙ ap (λ b. front (must_seed pr l) ++ (if b && nat_lt 0 len then len ∷ [] else [])) xor
      ∙ ap (λ b. front (must_seed pr l) ++ (if b then len ∷ [] else [])) (lt-ltb 0 len more)) in
      let same = ap (λ z. length {A = ℕ} z) (sym lens ∙ none) in
      let sum = length-append (front (must_seed pr l)) (len ∷ []) in
      omega (arith, same, sum)),
) where
  front : Bool → List ℕ
  front b = if b then entropy_len l.row ∷ [] else []

  choose : Bool → List ℕ
  choose b = if b then map (λ _. entropy_len l.row + 8) (chunks l.row len) else front (must_seed pr l) ++ (if is_xor l.row.kind && nat_lt 0 len then len ∷ [] else [])

-- of a node that is no RBG3, whatever is drawn
no_rbg3 : (l : Link) (len : ℕ) (drawn : List (List ℕ)) → (is_rs l.row.kind || is_xor l.row.kind) ≡ false → Enough l len drawn
no_rbg3 l len drawn none = record {
  chunks_are = λ rs. let yes = or_left (is_rs l.row.kind) (is_xor l.row.kind) rs in cc;
  last_is = λ xor. let yes = or_right (is_rs l.row.kind) (is_xor l.row.kind) xor in cc;
}

module _ (least : ℕ) (p : Tree) (plan : IsPlanned least p) (s : States) (n count strength : ℕ) (pr : Bool) where
  abbrev c : Call
  c = Generate n count strength pr

  abbrev l : Link
  l = link p n (Gives count) (s n)

  abbrev rest : Bool → List Link
  rest b = if b then links p s pr (Gives (seeding_len l)) (ancestors (length p.nodes) p (parent_in (node_plan p n).origin)) else []

  abbrev ch : Chain
  ch = node_chain p s c

  -- an RBG3 stands alone on its source
  alone : (j : ℕ) → (node_plan p n).origin ≡ Source j → ch.links ≡ l ∷ []
  alone j is =
      let none : asks_parent pr l ≡ false = ap (λ o. is_alive l && must_seed pr l && is_some (parent_in o)) is ∙ no_more (is_alive l) (must_seed pr l) in
      ap (λ b. l ∷ rest b) none

  source_is : (j : ℕ) → (node_plan p n).origin ≡ Source j → is_alive (last_link ch.links) ≡ true → ch.source ≡ source_by p s (wanted pr l) (Source j)
  source_is j is live =
      let links_are = alone j is in
      let alive : is_alive l ≡ true = subst (λ ls. is_alive (last_link ls) ≡ true) links_are live in
      ap (λ ls. source_of p s pr (last_link ls)) links_are
      ∙ (ap (λ b. if b then source_by p s (wanted pr l) l.origin else None) alive ∙ ap (λ o. source_by p s (wanted pr l) o) is)

  enough : (all : List ℕ) → is_alive (last_link ch.links) ≡ true
      → ((t : SourceLink) → ch.source ≡ Some t → AreWhole t.row (wants c ch) all) → Enough l count (drawn_by c ch ch.source all)
  enough all live whole = by (is_rs l.row.kind || is_xor l.row.kind) refl where
    of_source : (j : ℕ) → (node_plan p n).origin ≡ Source j → Enough l count (drawn_by c ch ch.source all)
    of_source j is = some (wanted pr l) refl where
      t : SourceLink
      t = source_at p s j

      some : (ws : List ℕ) → wanted pr l ≡ ws → Enough l count (drawn_by c ch ch.source all)
      some [] none =
          let never = wants_some pr l count refl none in
          record { chunks_are = λ rs. absurd (never.0 rs); last_is = λ xor more. absurd (never.1 xor more) }
      some (w ∷ ws) are =
          let source : ch.source ≡ Some t = source_is j is live ∙ ap (λ z. source_by p s z (Source j)) are in
          let lens : wants c ch ≡ wanted pr l = ap (λ o. wants_of c ch.links o) source ∙ ap (λ ls. wanted pr (last_link ls)) (alone j is) in
          subst (λ o. Enough l count (drawn_by c ch o all)) (sym source)
          (subst (λ z. Enough l count (portions t.row z all)) (sym lens)
          (of_wanted t.row pr l count all refl (subst (λ z. AreWhole t.row z all) lens (whole t source))))

    by : (b : Bool) → (is_rs l.row.kind || is_xor l.row.kind) ≡ b → Enough l count (drawn_by c ch ch.source all)
    by false is = no_rbg3 l count (drawn_by c ch ch.source all) is
    by true is = let d = rbg3_draws least p n plan is in of_source d.0 d.1

  given : (long : Long) (drawn : List (List ℕ)) (string : List ℕ) → Enough l count drawn → length (worked pr drawn string ch.links).bytes ≡ count
  given long drawn string is = gives_len long pr drawn string (worked pr drawn [] (rest (asks_parent pr l))).bytes l count is

  -- an entry that is Done
  done_given : (long : Long) (e : Entry) (all : List ℕ) → is_alive (last_link ch.links) ≡ true
      → ((t : SourceLink) → ch.source ≡ Some t → AreWhole t.row (wants c ch) all) → IsDone (bytes_of c e.string ch all) e → length e.bytes ≡ count
  done_given long e all live whole is =
      ap (λ z. length {A = ℕ} z) is.bytes_are ∙ given long (drawn_by c ch ch.source all) e.string (enough all live whole)

pub asked_len : Long → Whole → (least : ℕ) (p : Tree) (s : States) (e : Entry) (n count strength : ℕ) (pr : Bool) → IsPlanned least p → Fits p s e
    → e.call ≡ Generate n count strength pr → e.reply.code ≡ 0 → e.reply.len ≡ count
asked_len long whole least p s e n count strength pr plan f is code = len_is p s e f ∙ by (chain_of p s e.call e.string).source refl where
  c : Call
  c = Generate n count strength pr

  ch : Chain
  ch = node_chain p s c

  free : refusal p e.call e.string (chain_of p s e.call e.string) ≡ None
  free = free_done p s e f code

  named_free : refusal p c e.string (chain_of p s c e.string) ≡ None
  named_free = subst (λ z. refusal p z e.string (chain_of p s z e.string) ≡ None) is free

  chain_is : chain_of p s e.call e.string ≡ ch
  chain_is = ap (λ z. chain_of p s z e.string) is ∙ chain_is_whole p s c e.string named_free

  live : is_alive (last_link ch.links) ≡ true
  live = (is_free p s c e.string named_free).alive refl

  bytes : (all : List ℕ) → IsDone (bytes_of e.call e.string (chain_of p s e.call e.string) all) e → IsDone (bytes_of c e.string ch all) e
  bytes all h = subst (λ z. IsDone (bytes_of c e.string z all) e) chain_is (subst (λ z. IsDone (bytes_of z e.string (chain_of p s e.call e.string) all) e) is h)

  source_of_chain : (o : Option SourceLink) → (chain_of p s e.call e.string).source ≡ o → ch.source ≡ o
  source_of_chain o at = sym (ap (λ (z : Chain). z.source) chain_is) ∙ at

  by : (o : Option SourceLink) → (chain_of p s e.call e.string).source ≡ o → length e.bytes ≡ count
  by None at =
      done_given least p plan s n count strength pr long e [] live
      (λ t some. let never : Some t ≡ None = sym some ∙ source_of_chain None at in cc) (bytes [] (done_alone p s e f free at))
  by (Some t) at =
      let d = drawn_done p s e t f free at (ap seeds_or_gives is) code in
      let lens : wants e.call (chain_of p s e.call e.string) ≡ wants c ch = ap (λ z. wants z (chain_of p s e.call e.string)) is ∙ ap (λ z. wants c z) chain_is in
      let all : AreWhole t.row (wants e.call (chain_of p s e.call e.string)) d.all =
      whole t.row (found_by (Some t)) (sum (map (λ n. blocks_for t.row n) (wants e.call (chain_of p s e.call e.string)))) t.state [] [] (at_slot t.slot e.acts) d.all d.draw
      ∙ zero-add (sum (map (λ n. blocks_for t.row n) (wants e.call (chain_of p s e.call e.string))) * block_len t.row.cond) in
      done_given least p plan s n count strength pr long e d.all live
      (λ u some.
      let same : Some t ≡ Some u = sym (source_of_chain (Some t) at) ∙ some in
      let one : t ≡ u = cc in
      subst (λ (z : SourceLink). AreWhole z.row (wants c ch) d.all) one (subst (λ z. AreWhole t.row z d.all) lens all)) (bytes d.all d.is)
