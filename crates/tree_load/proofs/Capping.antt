-- No entry lifts a reseed counter more than one above its node's interval.
use Rattle.std.proofs.Common.{◌≡◌, ◌∙◌, ◌++◌, ◌∷◌, ◌+◌, ◌≤◌, ℕ, List, [], Bool, true, false, length, map, refl, sym, ap, subst, arith, append-nil, eqb-true}
use Rattle.std.specs.Prelude.{◌==◌, ◌||◌, if◌then◌else◌, Option, Some, None, Result, Ok, Err, MatchResult}
use Rattle.health_tests.specs.declared.windows.Alarm.{Alarm}
use Rattle.entropy_source.specs.Draws.{portions}
use Rattle.entropy_source.specs.Source.{SourceAct}
use Rattle.entropy_source.specs.declared.answers.SourceRefusal.{SourceRefusal}
use Rattle.rbg_nodes.specs.Node.{Cleared, NodeState, Renew, Seeded, is_due, node_after}
use Rattle.rbg_nodes.specs.declared.node.NodeRow.{NodeRow}
use Rattle.tree_config.specs.Planned.{IsPlanned}
use Rattle.tree_config.specs.Tree.{IsTree, Tree}
use Rattle.tree_rules.specs.Chain.{Chain, SourceLink, asks_pr, named, node_chain, task_of, wants}
use Rattle.tree_rules.specs.Fits.{AnswersBy, DrawsAndWorks, Fits, Serves, Starts, at_source, done, found_by, source_reply}
use Rattle.tree_rules.specs.History.{Act, AtNode, AtSource, Distinct, Entry, NodeIs, SlotState, SourceIs, States, after, has, node_in, own, slot_after_all}
use Rattle.tree_rules.specs.Links.{Gives, Link, Rests, Seeds, Task, chunks, first_link, is_rs, must_by, must_seed}
use Rattle.tree_rules.specs.Replies.{chain_of, refusal, seeds_or_gives}
use Rattle.tree_rules.specs.Slots.{node_row}
use Rattle.tree_rules.specs.Works.{Work, at_node, chunked, gave, given_work, material, mixed, task_work, worked}
use Rattle.tree_rules.specs.declared.call.Call.{Call}
use Rattle.tree_rules.specs.declared.call.Call.TheVariants.{Generate, Instantiate, Reseed, Start, Status, Uninstantiate}
use Rattle.tree_rules.specs.declared.reply.Reply.{Reply}
use Rattle.tree_rules.proofs.Answered.{served}
use Rattle.tree_rules.proofs.Leaves.{own-append, own_task, own_worked, slots}
use Rattle.tree_rules.proofs.Parting.{IsSource, source_next}
use Rattle.tree_rules.proofs.Refusals.{refused_by}
use Rattle.tree_rules.proofs.Rightness.{slot-append}
use Rattle.tree_acts.specs.Chained.{links_from}
use Rattle.tree_acts.proofs.Free.{whole}
use Rattle.tree_load.proofs.Climbing.{not_less}
use Rattle.tree_load.proofs.Lining.{AreCapped, AreLines, are_distinct, are_lines, some_interval}
use Rattle.tree_load.proofs.Moving.{both, here, left, mixed_acts}

abbrev pub Cap : Tree → ℕ → SlotState → Type 0
Cap p k x = (node_in x).counter ≤ (node_row p k).interval + 1

-- a node's own part
module _ (p : Tree) (l : Link) (some : 1 ≤ (node_row p l.slot).interval) where
  two : 2 ≤ (node_row p l.slot).interval + 1
  two = omega (arith, some)

  chunked_caps : (x s : NodeState) (add : List ℕ) (drawn : List (List ℕ)) (lens : List ℕ) → Cap p l.slot (NodeIs x) → Cap p l.slot (left p l x (chunked l s add drawn lens).acts)
  chunked_caps x s add [] lens h = h
  chunked_caps x s add (d ∷ drawn) [] h = h
  chunked_caps x s add (d ∷ drawn) (len ∷ lens) h =
      let now = node_after l.row s (Seeded Renew d add) in
      let given = gave l now [] len in
      let y = node_after (node_row p l.slot) (node_after (node_row p l.slot) x (Seeded Renew d add)) given in
      subst (Cap p l.slot) (sym (both p l x (Seeded Renew d add) given (chunked l (node_after l.row now given) [] drawn lens).acts))
      (chunked_caps y (node_after l.row now given) [] drawn lens two)

  given_caps : (x : NodeState) (b : Bool) (stuff string : List ℕ) (len : ℕ) → (b ≡ false → x.counter ≤ (node_row p l.slot).interval)
      → Cap p l.slot (left p l x (given_work l b stuff string len).acts)
  given_caps x true stuff string len h =
      let now = node_after l.row l.state (Seeded Renew stuff string) in
      subst (Cap p l.slot) (sym (both p l x (Seeded Renew stuff string) (gave l now [] len) [])) two
  given_caps x false stuff string len h =
      let i = h refl in
      let up : x.counter + 1 ≤ (node_row p l.slot).interval + 1 = omega (arith, i) in
      subst (Cap p l.slot) (sym (ap (slot_after_all p l.slot (NodeIs x)) (here p l (gave l l.state string len) []))) up

  first_false : (a b : Bool) → (a || b) ≡ false → a ≡ false
  first_false false b h = refl
  first_false true b h = cc

  task_caps : (pr : Bool) (drawn : List (List ℕ)) (string above : List ℕ) (task : Task) → l.task ≡ task → l.row ≡ node_row p l.slot → Cap p l.slot (NodeIs l.state)
      → Cap p l.slot (left p l l.state (task_work pr drawn string l above task).acts)
  task_caps pr drawn string above Rests is row h = h
  task_caps pr drawn string above (Seeds how) is row h =
      let one : 1 ≤ (node_row p l.slot).interval + 1 = omega (arith, some) in
      subst (Cap p l.slot) (sym (ap (slot_after_all p l.slot (NodeIs l.state)) (here p l (Seeded how (material l drawn above) string) []))) one
  task_caps pr drawn string above (Gives len) is row h = by (is_rs l.row.kind) where
    given : Work
    given = given_work l (must_seed pr l) (material l drawn above) string len

    low : must_seed pr l ≡ false → l.state.counter ≤ (node_row p l.slot).interval
    low none =
        let no_due : is_due l.row l.state ≡ false = first_false (is_due l.row l.state) pr (first_false (is_due l.row l.state || pr) (is_rs l.row.kind) (sym (ap (must_by pr l) is) ∙ none)) in
        let a = not_less l.row.interval l.state.counter no_due in let e = ap (λ (r : NodeRow). r.interval) row in omega (arith, a, e)

    by : (b : Bool) → Cap p l.slot (left p l l.state (if b then chunked l l.state string drawn (chunks l.row len) else mixed l drawn given).acts)
    by true = chunked_caps l.state l.state string drawn (chunks l.row len) h
    by false = subst (λ z. Cap p l.slot (left p l l.state z)) (sym (mixed_acts p l drawn given)) (given_caps l.state (must_seed pr l) (material l drawn above) string len low)

-- acts of a source leave a node alone
module _ (p : Tree) (k : ℕ) (x : NodeState) where
  pub skips : (t : SourceLink) (acts : List SourceAct) → slot_after_all p k (NodeIs x) (own k (map (at_source t) acts)) ≡ NodeIs x
  skips t [] = refl
  skips t (a ∷ acts) = by (t.slot == k) (skips t acts) where
    by : (b : Bool) → slot_after_all p k (NodeIs x) (own k (map (at_source t) acts)) ≡ NodeIs x
        → slot_after_all p k (NodeIs x) (if b then AtSource a ∷ own k (map (at_source t) acts) else own k (map (at_source t) acts)) ≡ NodeIs x
    by true e = e
    by false e = e

  pub skips_front : (t : SourceLink) (acts : List SourceAct) (w : List Act) → slot_after_all p k (NodeIs x) (own k (map (at_source t) acts ++ w)) ≡ slot_after_all p k (NodeIs x) (own k w)
  skips_front t acts w =
      ap (slot_after_all p k (NodeIs x)) (own-append k (map (at_source t) acts) w)
      ∙ (slot-append p k (NodeIs x) (own k (map (at_source t) acts)) (own k w) ∙ ap (λ z. slot_after_all p k z (own k w)) (skips t acts))

module _ (least : ℕ) (p : Tree) (plan : IsPlanned least p) (s : States) (k : ℕ) (x : NodeState) (found : node_in (s k) ≡ x) (cap : Cap p k (NodeIs x)) where
  -- the work of a chain
  worked_caps : (pr : Bool) (drawn : List (List ℕ)) (string : List ℕ) (ls : List Link) → Distinct (slots ls) → AreLines p s ls
      → Cap p k (slot_after_all p k (NodeIs x) (own k (worked pr drawn string ls).acts))
  worked_caps pr drawn string [] d lines = cap
  worked_caps pr drawn string (l ∷ up) (off, d) (line, lines) = by (l.slot == k) refl (worked_caps pr drawn [] up d lines) where
    above : Work
    above = worked pr drawn [] up

    mine : List Act
    mine = (task_work pr drawn string l above.bytes l.task).acts

    parts : own k (above.acts ++ mine) ≡ own k above.acts ++ own k mine
    parts = own-append k above.acts mine

    by : (b : Bool) → (l.slot == k) ≡ b → Cap p k (slot_after_all p k (NodeIs x) (own k above.acts)) → Cap p k (slot_after_all p k (NodeIs x) (own k (above.acts ++ mine)))
    by false other ih =
        let none : own k mine ≡ [] = own_task k l other pr drawn string above.bytes l.task in
        let e : own k (above.acts ++ mine) ≡ own k above.acts = parts ∙ (ap (λ z. own k above.acts ++ z) none ∙ append-nil (own k above.acts)) in
        subst (λ z. Cap p k (slot_after_all p k (NodeIs x) z)) (sym e) ih
    by true at ih =
        let slot_is : l.slot ≡ k = eqb-true l.slot k at in
        let off_k : has (slots up) k ≡ false = subst (λ z. has (slots up) z ≡ false) slot_is off in
        let none : own k above.acts ≡ [] = own_worked k pr drawn [] up off_k in
        let e : own k (above.acts ++ mine) ≡ own k mine = parts ∙ ap (λ z. z ++ own k mine) none in
        let state : l.state ≡ x = line.state ∙ (ap (λ z. node_in (s z)) slot_is ∙ found) in
        let start : Cap p l.slot (NodeIs l.state) = subst (λ z. Cap p z (NodeIs l.state)) (sym slot_is) (subst (λ z. Cap p k (NodeIs z)) (sym state) cap) in
        let t = task_caps p l (some_interval least p l.slot plan) pr drawn string above.bytes l.task refl line.row start in
        subst (λ z. Cap p k (slot_after_all p k (NodeIs x) z)) (sym e)
        (subst (λ z. Cap p k (slot_after_all p k (NodeIs z) (own k mine))) state
        (subst (λ z. Cap p z (slot_after_all p z (NodeIs l.state) (own z mine))) slot_is t))

  module _ (e : Entry) where
    abbrev Then : List Act → Type 0
    Then acts = Cap p k (slot_after_all p k (NodeIs x) (own k acts))

    is_then : (acts : List Act) → e.acts ≡ acts → Then acts → Then e.acts
    is_then acts is h = subst Then (sym is) h

    then_sources : (t : SourceLink) (acts : List SourceAct) → Then (map (at_source t) acts)
    then_sources t acts = subst (Cap p k) (sym (skips p k x t acts)) cap

    works_caps : (found : List ℕ → List ℕ → Option Alarm) (c : Call) (ls : List Link) (lens : List ℕ) (source : Option SourceLink) → Distinct (slots ls) → AreLines p s ls
        → DrawsAndWorks found c ls lens source e → Then e.acts
    works_caps found c ls lens None d lines w = is_then (worked (asks_pr c) [] e.string ls).acts w.acts_are (worked_caps (asks_pr c) [] e.string ls d lines)
    works_caps found c ls lens (Some t) d lines (acts, end, drawn, answer) = by end answer where
      by : (end : Result (List ℕ) SourceRefusal) → MatchResult end
          (λ bytes. let w = worked (asks_pr c) (portions t.row lens bytes) e.string ls in
          AnswersBy e (map (at_source t) acts ++ w.acts) (done w.bytes) w.bytes)
          (λ why. AnswersBy e (map (at_source t) acts) (source_reply t.number why) []) → Then e.acts
      by (Ok bytes) answer =
          let w = worked (asks_pr c) (portions t.row lens bytes) e.string ls in
          is_then (map (at_source t) acts ++ w.acts) answer.acts_are
          (subst (Cap p k) (sym (skips_front p k x t acts w.acts)) (worked_caps (asks_pr c) (portions t.row lens bytes) e.string ls d lines))
      by (Err why) answer = is_then (map (at_source t) acts) answer.acts_are (then_sources t acts)

    starts_caps : (source : Option SourceLink) → Starts source e → Then e.acts
    starts_caps None w = absurd w
    starts_caps (Some t) (acts, end, start, answer) = is_then (map (at_source t) acts) answer.acts_are (then_sources t acts)

    cleared_caps : (l : Link) → Then (at_node l Cleared ∷ [])
    cleared_caps l = by (l.slot == k) where
      by : (b : Bool) → Cap p k (slot_after_all p k (NodeIs x) (if b then AtNode Cleared ∷ [] else []))
      by true = omega arith
      by false = cap

    module _ (limit : ℕ) (tree : IsTree limit p.nodes) where
      node_caps : (c : Call) (ch : Chain) → ch ≡ node_chain p s c → DrawsAndWorks (found_by ch.source) c ch.links (wants c ch) ch.source e → Then e.acts
      node_caps c ch is w =
          let ls : List Link = links_from p s (asks_pr c) (task_of c) (length p.nodes) (named c) in
          let same : ch.links ≡ ls = ap (λ (z : Chain). z.links) is in
          works_caps (found_by ch.source) c ch.links (wants c ch) ch.source
          (subst (λ z. Distinct (slots z)) (sym same) (are_distinct p s (asks_pr c) limit tree (length p.nodes) (named c) (task_of c)))
          (subst (λ z. AreLines p s z) (sym same) (are_lines p s (asks_pr c) (length p.nodes) (named c) (task_of c))) w

      serves_caps : (c : Call) (ch : Chain) → (seeds_or_gives c ≡ true → ch ≡ node_chain p s c) → Serves (found_by ch.source) ch e c → Then e.acts
      serves_caps (Start j) ch is w = starts_caps ch.source w
      serves_caps (Uninstantiate n) ch is w = is_then (at_node (first_link ch.links) Cleared ∷ []) w.acts_are (cleared_caps (first_link ch.links))
      serves_caps (Status n) ch is w = is_then [] w.acts_are cap
      serves_caps (Instantiate n y) ch is w = node_caps (Instantiate n y) ch (is refl) w
      serves_caps (Generate n a b c) ch is w = node_caps (Generate n a b c) ch (is refl) w
      serves_caps (Reseed n z) ch is w = node_caps (Reseed n z) ch (is refl) w

      fits_caps : Fits p s e → Then e.acts
      fits_caps f = by (refusal p e.call e.string (chain_of p s e.call e.string)) refl where
        by : (o : Option Reply) → refusal p e.call e.string (chain_of p s e.call e.string) ≡ o → Then e.acts
        by (Some r) is = is_then [] (refused_by p s e r f is).0 cap
        by None free = serves_caps e.call (chain_of p s e.call e.string) (λ what. whole p s e.call e.string what free) (served p s e f free)

source_cap : (p : Tree) (k : ℕ) (x : SlotState) → IsSource x → Cap p k x
source_cap p k (SourceIs y) h = omega arith
source_cap p k (NodeIs y) h = absurd h

-- an entry that is right keeps all reseed counters so low
pub entry_caps : (limit least : ℕ) (p : Tree) (s : States) (e : Entry) → IsTree limit p.nodes → IsPlanned least p → Fits p s e → AreCapped p s → AreCapped p (λ k. after p k (s k) e)
entry_caps limit least p s e tree plan f capped k = by (s k) refl where
  by : (x : SlotState) → s k ≡ x → Cap p k (slot_after_all p k x (own k e.acts))
  by (NodeIs y) is = fits_caps least p plan s k y (ap node_in is) (subst (Cap p k) is (capped k)) e limit tree f
  by (SourceIs y) is = source_cap p k (slot_after_all p k (SourceIs y) (own k e.acts)) (source_next p k (SourceIs y) (own k e.acts) tt).1
