-- Every legal history keeps the samples of a source apart.
use Rattle.std.proofs.Common.{◌≡◌, ◌∙◌, ◌++◌, ◌∷◌, ◌+◌, ◌-◌, ◌≤◌, ℕ, List, [], zero, suc, Bool, false, length, refl, sym, ap, subst, arith, inl, inr, append-nil}
use Rattle.std.specs.Prelude.{◌==◌, if◌then◌else◌, Option, Some, None, Result, Ok, Err, MatchOption, MatchResult, slice_get, unwrap_or, nat_lt}
use Rattle.conditioner.specs.Conditioned.{conditioned}
use Rattle.entropy_source.specs.Draws.{Draws, Gathers, found_in}
use Rattle.entropy_source.specs.Source.{Alarmed, Began, Block, Read, SourceAct, SourceState, Started, need_of_block, opened_source, source_after, source_after_all}
use Rattle.entropy_source.specs.declared.answers.SourceRefusal.{SourceRefusal}
use Rattle.entropy_source.specs.declared.answers.SourceRefusal.TheVariants.{HealthFailed}
use Rattle.entropy_source.specs.declared.answers.SourceRow.{SourceRow}
use Rattle.health_tests.specs.Windows.{alarm_in}
use Rattle.health_tests.specs.declared.windows.Alarm.{Alarm}
use Rattle.rbg_nodes.specs.Node.{fresh_node, kept_seed}
use Rattle.tree_config.specs.Tree.{Tree}
use Rattle.tree_rules.specs.Apart.{Apart, InARow, Span, all_spans, spans, taken_after}
use Rattle.tree_rules.specs.Fits.{Legal, done}
use Rattle.tree_rules.specs.History.{AtNode, AtSource, Entry, NodeIs, Opening, SlotAct, SlotState, SourceIs, States, after, at_slot, has, opened, own, slot_after_all, source_in, sources_in}
use Rattle.tree_rules.specs.Slots.{node_row, source_number, source_row, source_slot}
use Rattle.tree_rules.specs.Sources.{Does}
use Rattle.tree_rules.proofs.Sources.{does}
use Rattle.entropy_source.specs.Draws as draws
use Rattle.std.proofs.lemmas.Bool.Decides.{nat_tests}

-- samples taken don't become fewer
grows : (row : SourceRow) (s : SourceState) (acts : List SourceAct) → s.taken ≤ (source_after_all row s acts).taken
grows row s [] = omega arith
grows row s (Began ∷ acts) = grows row (source_after row s Began) acts
grows row s (Read asked got count ∷ acts) = let i = grows row (source_after row s (Read asked got count)) acts in omega arith
grows row s (Alarmed index test ∷ acts) = grows row (source_after row s (Alarmed index test)) acts
grows row s (Started ∷ acts) = grows row (source_after row s Started) acts
grows row s (Block from to bytes ∷ acts) = grows row (source_after row s (Block from to bytes)) acts

counted : (row : SourceRow) (s : SourceState) (acts : List SourceAct) → taken_after s.taken acts ≡ (source_after_all row s acts).taken
counted row s [] = refl
counted row s (Began ∷ acts) = counted row (source_after row s Began) acts
counted row s (Read asked got count ∷ acts) = counted row (source_after row s (Read asked got count)) acts
counted row s (Alarmed index test ∷ acts) = counted row (source_after row s (Alarmed index test)) acts
counted row s (Started ∷ acts) = counted row (source_after row s Started) acts
counted row s (Block from to bytes ∷ acts) = counted row (source_after row s (Block from to bytes)) acts

pub after_append : (row : SourceRow) (s : SourceState) (xs ys : List SourceAct) → source_after_all row s (xs ++ ys) ≡ source_after_all row (source_after_all row s xs) ys
after_append row s [] ys = refl
after_append row s (x ∷ xs) ys = after_append row (source_after row s x) xs ys

module _ (row : SourceRow) (found : List ℕ → List ℕ → Option Alarm) where
  -- reads that fill a block are reads alone
  full_spans : (lacks : ℕ) (s : SourceState) (has read : List ℕ) (acts tail : List SourceAct) (block : List ℕ) (first : ℕ)
      → Gathers row found lacks s has read acts (Ok block)
      → spans first s.taken (acts ++ tail) ≡ spans first (source_after_all row s acts).taken tail
  full_spans lacks s has read [] tail block first g = refl
  full_spans lacks s has read (Read asked None count ∷ acts) tail block first (a, b, c, d, e) = cc
  full_spans lacks s has read (Read asked (Some []) count ∷ acts) tail block first (a, b, c, d, e) = cc
  full_spans lacks s has read (Read asked (Some (x ∷ xs)) count ∷ acts) tail block first (a, b, c, g) =
      by (found read (x ∷ xs)) (λ h. full_spans (lacks - length (x ∷ xs)) (source_after row s (Read asked (Some (x ∷ xs)) count)) (has ++ x ∷ xs) (read ++ x ∷ xs) acts tail block first h) g where
        next : SourceState
        next = source_after row s (Read asked (Some (x ∷ xs)) count)

        by : (o : Option Alarm)
            → (Gathers row found (lacks - length (x ∷ xs)) next (has ++ x ∷ xs) (read ++ x ∷ xs) acts (Ok block)
            → spans first next.taken (acts ++ tail) ≡ spans first (source_after_all row next acts).taken tail)
            → MatchOption o (Gathers row found (lacks - length (x ∷ xs)) next (has ++ x ∷ xs) (read ++ x ∷ xs) acts (Ok block))
            (λ f. (acts ≡ Alarmed (s.taken + f.at) f.test ∷ []) × (◌≡◌ {A = Result (List ℕ) SourceRefusal} (Ok block) (Err (HealthFailed (s.taken + f.at) f.test))))
            → spans first next.taken (acts ++ tail) ≡ spans first (source_after_all row next acts).taken tail
        by None ih h = ih h
        by (Some f) ih (a, b) = cc
  full_spans lacks s has read (Began ∷ acts) tail block first g = absurd g
  full_spans lacks s has read (Alarmed i t ∷ acts) tail block first g = absurd g
  full_spans lacks s has read (Started ∷ acts) tail block first g = absurd g
  full_spans lacks s has read (Block a b c ∷ acts) tail block first g = absurd g

  -- the samples of a gathering that failed are in no block
  refused_row : (lacks : ℕ) (s : SourceState) (has read : List ℕ) (acts : List SourceAct) (why : SourceRefusal) (first low : ℕ) (rest : List Span)
      → Gathers row found lacks s has read acts (Err why) → low ≤ first → first ≤ s.taken
      → InARow (source_after_all row s acts).taken rest → InARow low (spans first s.taken acts ++ rest)
  refused_row lacks s has read [] why first low rest (a, b) l m r = cc
  refused_row lacks s has read (Read asked None count ∷ acts) why first low rest (a, b, c, d, e) l m r =
      subst (λ z. InARow (source_after_all row (source_after row s (Read asked None count)) z).taken rest → InARow low (spans first (s.taken + 0) z ++ rest)) (sym d)
      (λ q. let more : first ≤ s.taken + 0 = omega arith in (l, more, q)) r
  refused_row lacks s has read (Read asked (Some []) count ∷ acts) why first low rest (a, b, c, d, e) l m r =
      subst (λ z. InARow (source_after_all row (source_after row s (Read asked (Some []) count)) z).taken rest → InARow low (spans first (s.taken + 0) z ++ rest)) (sym d)
      (λ q. let more : first ≤ s.taken + 0 = omega arith in (l, more, q)) r
  refused_row lacks s has read (Read asked (Some (x ∷ xs)) count ∷ acts) why first low rest (a, b, c, g) l m r =
      by (found read (x ∷ xs)) (λ h. refused_row (lacks - length (x ∷ xs)) next (has ++ x ∷ xs) (read ++ x ∷ xs) acts why first low rest h l more r) g r where
        next : SourceState
        next = source_after row s (Read asked (Some (x ∷ xs)) count)

        more : first ≤ next.taken
        more = omega arith

        by : (o : Option Alarm)
            → (Gathers row found (lacks - length (x ∷ xs)) next (has ++ x ∷ xs) (read ++ x ∷ xs) acts (Err why) → InARow low (spans first next.taken acts ++ rest))
            → MatchOption o (Gathers row found (lacks - length (x ∷ xs)) next (has ++ x ∷ xs) (read ++ x ∷ xs) acts (Err why))
            (λ f. (acts ≡ Alarmed (s.taken + f.at) f.test ∷ []) × (◌≡◌ {A = Result (List ℕ) SourceRefusal} (Err why) (Err (HealthFailed (s.taken + f.at) f.test))))
            → InARow (source_after_all row next acts).taken rest → InARow low (spans first next.taken acts ++ rest)
        by None ih h r = ih h
        by (Some f) ih (d, e) r =
            subst (λ z. InARow (source_after_all row next z).taken rest → InARow low (spans first next.taken z ++ rest)) (sym d)
            (λ q. let same : next.taken ≤ next.taken = omega arith in (l, more, (same, same, q))) r
  refused_row lacks s has read (Began ∷ acts) why first low rest g l m r = absurd g
  refused_row lacks s has read (Alarmed i t ∷ acts) why first low rest g l m r = absurd g
  refused_row lacks s has read (Started ∷ acts) why first low rest g l m r = absurd g
  refused_row lacks s has read (Block a b c ∷ acts) why first low rest g l m r = absurd g

-- a draw of so many blocks
draws_row : (row : SourceRow) (found : List ℕ → List ℕ → Option Alarm) (n : ℕ) (s : SourceState) (read out : List ℕ) (acts : List SourceAct)
    (end : Result (List ℕ) SourceRefusal) (low : ℕ) (rest : List Span)
    → Draws row found n s read out acts end → low ≤ s.taken → InARow (source_after_all row s acts).taken rest
    → InARow low (spans s.taken s.taken acts ++ rest)
draws_row row found zero s read out acts end low rest (none, is) l r =
    subst (λ z. InARow (source_after_all row s z).taken rest → InARow low (spans s.taken s.taken z ++ rest)) (sym none)
    (λ q. let same : s.taken ≤ s.taken = omega arith in (l, same, q)) r
draws_row row found (suc n) s read out acts end low rest (reads, back, e, are, g, more) l r =
    by (need_of_block row) e g more
    (λ s read out acts low rest d l r. draws_row row found n s read out acts end low rest d l r) where
      now : SourceState
      now = source_after_all row s reads

      same : s.taken ≤ s.taken
      same = omega arith

      split : InARow (source_after_all row now back).taken rest
      split = subst (λ (z : SourceState). InARow z.taken rest) (after_append row s reads back)
          (subst (λ z. InARow (source_after_all row s z).taken rest) are r)

      refused : (b : List SourceAct) → b ≡ [] → InARow (source_after_all row now b).taken rest → (InARow now.taken rest → InARow low (spans s.taken s.taken reads ++ rest))
          → InARow low (spans s.taken s.taken (reads ++ b) ++ rest)
      refused b is q f = subst (λ z. InARow (source_after_all row now z).taken rest → InARow low (spans s.taken s.taken (reads ++ z) ++ rest)) (sym is)
          (λ w. subst (λ z. InARow low (spans s.taken s.taken z ++ rest)) (sym (append-nil reads)) (f w)) q

      full : (bytes : List ℕ) (tail : List SourceAct) → spans s.taken s.taken (reads ++ back) ≡ spans s.taken now.taken back
          → back ≡ Block s.taken now.taken bytes ∷ tail
          → (InARow (source_after_all row (source_after row now (Block s.taken now.taken bytes)) tail).taken rest
          → InARow now.taken (spans now.taken now.taken tail ++ rest))
          → InARow low (spans s.taken s.taken (reads ++ back) ++ rest)
      full bytes tail eq is f =
          subst (λ z. InARow low (z ++ rest)) (sym eq)
          (subst (λ z. InARow (source_after_all row now z).taken rest → InARow low (spans s.taken now.taken z ++ rest)) (sym is)
          (λ q. (l, grows row s reads, f q)) split)

      by : (m : ℕ) (x : Result (List ℕ) SourceRefusal) → Gathers row found m s [] read reads x
          → MatchResult x
          (λ block. let bytes = conditioned row.cond block in
          let now = source_after_all row s reads in
          let made = Block s.taken now.taken bytes in
          (more : List SourceAct) × (back ≡ made ∷ more)
          × Draws row found n (source_after row now made) (read ++ block) (out ++ bytes) more end)
          (λ why. (back ≡ []) × (end ≡ Err why))
          → ((s : SourceState) (read out : List ℕ) (acts : List SourceAct) (low : ℕ) (rest : List Span)
          → Draws row found n s read out acts end → low ≤ s.taken → InARow (source_after_all row s acts).taken rest
          → InARow low (spans s.taken s.taken acts ++ rest))
          → InARow low (spans s.taken s.taken acts ++ rest)
      by m (Ok block) g (tail, is, more) ih =
          subst (λ z. InARow low (spans s.taken s.taken z ++ rest)) (sym are)
          (full (conditioned row.cond block) tail (full_spans row found m s [] read reads back block s.taken g) is
          (λ q. let same : now.taken ≤ now.taken = omega arith in
          ih (source_after row now (Block s.taken now.taken (conditioned row.cond block))) (read ++ block) (out ++ conditioned row.cond block) tail now.taken rest more same q))
      by m (Err why) g (none, is) ih =
          subst (λ z. InARow low (spans s.taken s.taken z ++ rest)) (sym are)
          (refused back none split (λ w. refused_row row found m s [] read reads why s.taken low rest g l same w))

-- a start
start_row : (row : SourceRow) (s : SourceState) (acts : List SourceAct) (end : Result (List ℕ) SourceRefusal) (low : ℕ) (rest : List Span)
    → draws.Start row s acts end → low ≤ s.taken → InARow (source_after_all row s acts).taken rest
    → InARow low (spans s.taken s.taken acts ++ rest)
start_row row s acts end low rest (reads, back, e, are, g, more) l r = by e g more where
  begun : SourceState
  begun = source_after row s Began

  now : SourceState
  now = source_after_all row begun reads

  found : List ℕ → List ℕ → Option Alarm
  found = alarm_in row.cutoffs

  same : s.taken ≤ s.taken
  same = omega arith

  split : InARow (source_after_all row now back).taken rest
  split = subst (λ (z : SourceState). InARow z.taken rest) (after_append row begun reads back)
      (subst (λ z. InARow (source_after_all row s z).taken rest) are r)

  whole : InARow s.taken (spans s.taken s.taken (reads ++ back) ++ rest) → InARow low (spans s.taken s.taken acts ++ rest)
  whole w = subst (λ z. InARow low (spans s.taken s.taken z ++ rest)) (sym are) (l, same, w)

  by : (x : Result (List ℕ) SourceRefusal) → Gathers row found row.startup begun [] [] reads x
      → MatchResult x (λ _. (back ≡ Started ∷ []) × (end ≡ Ok [])) (λ why. (back ≡ []) × (end ≡ Err why))
      → InARow low (spans s.taken s.taken acts ++ rest)
  by (Ok block) g (is, done) =
      whole (subst (λ z. InARow s.taken (z ++ rest)) (sym (full_spans row found row.startup begun [] [] reads back block s.taken g))
      (subst (λ z. InARow (source_after_all row now z).taken rest → InARow s.taken (spans s.taken now.taken z ++ rest)) (sym is)
      (λ q. let more : s.taken ≤ now.taken = grows row begun reads in let here : now.taken ≤ now.taken = omega arith in (same, more, (here, here, q))) split))
  by (Err why) g (is, done) =
      whole (subst (λ z. InARow (source_after_all row now z).taken rest → InARow s.taken (spans s.taken s.taken (reads ++ z) ++ rest)) (sym is)
      (λ q. subst (λ z. InARow s.taken (spans s.taken s.taken z ++ rest)) (sym (append-nil reads))
      (refused_row row found row.startup begun [] [] reads why s.taken s.taken rest g same same q)) split)

does_row : (done : Bool) (row : SourceRow) (s : SourceState) (acts : List SourceAct) (rest : List Span) → Does done row s acts
    → InARow (source_after_all row s acts).taken rest → InARow s.taken (spans s.taken s.taken acts ++ rest)
does_row done row s acts rest d r = elim d [
  | inl none ↦ subst (λ z. InARow (source_after_all row s z).taken rest → InARow s.taken (spans s.taken s.taken z ++ rest)) (sym none)
      (λ q. let same : s.taken ≤ s.taken = omega arith in (same, same, q)) r
  | inr more ↦ elim more [
    | inl draw ↦ (let same : s.taken ≤ s.taken = omega arith in
        draws_row row (found_in row.cutoffs s.tail) _ s [] [] acts draw.1 s.taken rest draw.2 same r)
    | inr start ↦ (let same : s.taken ≤ s.taken = omega arith in start_row row s acts start.0 s.taken rest start.1 same r)
  ]
]

-- the slot of a source has a source's state
abbrev pub IsSource : SlotState → Type 0
IsSource (SourceIs s) = Unit {0}
IsSource (NodeIs s) = ⊥

pub source_next : (p : Tree) (k : ℕ) (x : SlotState) (acts : List SlotAct) → IsSource x
    → (source_in (slot_after_all p k x acts) ≡ source_after_all (source_row p (source_number p k)) (source_in x) (sources_in acts))
    × IsSource (slot_after_all p k x acts)
source_next p k (NodeIs s) acts h = absurd h
source_next p k (SourceIs s) [] h = (refl, tt)
source_next p k (SourceIs s) (AtNode a ∷ acts) h = source_next p k (SourceIs s) acts tt
source_next p k (SourceIs s) (AtSource a ∷ acts) h = source_next p k (SourceIs (source_after (source_row p (source_number p k)) s a)) acts tt

pub place_of : (n j : ℕ) → (n + j) - n ≡ j
place_of n j = omega arith

-- what an entry makes of the state of source j
pub next_source : (p : Tree) (s : States) (j : ℕ) (e : Entry) → IsSource (s (source_slot p j))
    → source_in (after p (source_slot p j) (s (source_slot p j)) e)
    ≡ source_after_all (source_row p j) (source_in (s (source_slot p j))) (at_slot (source_slot p j) e.acts)
next_source p s j e h =
    (source_next p (source_slot p j) (s (source_slot p j)) (own (source_slot p j) e.acts) h).0
    ∙ ap (λ i. source_after_all (source_row p i) (source_in (s (source_slot p j))) (at_slot (source_slot p j) e.acts)) (place_of (length p.nodes) j)

apart_from : (p : Tree) (j : ℕ) (s : States) (es : List Entry) (taken : ℕ) → IsSource (s (source_slot p j)) → (source_in (s (source_slot p j))).taken ≡ taken
    → Legal p s es → InARow taken (all_spans (source_slot p j) taken es)
apart_from p j s [] taken is eq legal = tt
apart_from p j s (e ∷ es) taken is eq (fit, legal) =
    let k = source_slot p j in
    let row = source_row p j in
    let x = source_in (s k) in
    let acts = at_slot k e.acts in
    let rest = apart_from p j (λ i. after p i (s i) e) es (source_after_all row x acts).taken
    (source_next p k (s k) (own k e.acts) is).1 (ap (λ (z : SourceState). z.taken) (next_source p s j e is)) legal in
    let all : InARow x.taken (spans x.taken x.taken acts ++ all_spans k (source_after_all row x acts).taken es) =
    does_row (e.reply.code == 0) row x acts (all_spans k (source_after_all row x acts).taken es) (does p s j e fit) rest in
    subst (λ t. InARow t (spans t t acts ++ all_spans k (taken_after t acts) es)) eq
    (subst (λ t. InARow x.taken (spans x.taken x.taken acts ++ all_spans k t es)) (sym (counted row x acts)) all)

pub high : (n j : ℕ) → nat_lt (n + j) n ≡ false
high n j = grind (arith, nat_tests)

pub opened_source_is : (f : Opening) (j : ℕ) → opened f (source_slot f.plan j)
    ≡ SourceIs (opened_source (unwrap_or (slice_get f.told (source_number f.plan (source_slot f.plan j))) None) (unwrap_or (slice_get f.faults (source_number f.plan (source_slot f.plan j))) 0))
opened_source_is f j = ap (λ (b : Bool). if b then NodeIs (fresh_node (kept_seed (node_row f.plan (source_slot f.plan j)) (unwrap_or (slice_get f.seeds (source_slot f.plan j)) [])))
    else SourceIs (opened_source (unwrap_or (slice_get f.told (source_number f.plan (source_slot f.plan j))) None) (unwrap_or (slice_get f.faults (source_number f.plan (source_slot f.plan j))) 0))) (high (length f.plan.nodes) j)

pub opened_is_source : (f : Opening) (j : ℕ) → IsSource (opened f (source_slot f.plan j))
opened_is_source f j = subst IsSource (sym (opened_source_is f j)) tt

-- every legal history over an opening keeps the samples of each source apart
pub apart : (f : Opening) (es : List Entry) → Legal f.plan (opened f) es → Apart f.plan es
apart f es legal j = apart_from f.plan j (opened f) es 0 (opened_is_source f j) (ap (λ x. (source_in x).taken) (opened_source_is f j)) legal
