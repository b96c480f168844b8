-- What an entry and a history raise the counts of a node by.
use Rattle.std.proofs.Common.{◌≡◌, ◌∙◌, ◌++◌, ◌∷◌, ◌+◌, ◌*◌, ◌≤◌, ◌^◌, ℕ, List, [], suc, Bool, true, false, length, map, refl, sym, ap, subst, arith, length-append, mul-suc}
use Rattle.std.proofs.lemmas.List.{length-map}
use Rattle.std.proofs.lemmas.List.FromFn.{length-range_with_len}
use Rattle.std.specs.List.{range_with_len}
use Rattle.std.specs.Prelude.{◌==◌, if◌then◌else◌, filter, flat_map, nat_lt, slice_get, unwrap_or, Option, Some, None, Result, Ok, Err, MatchOption, MatchResult}
use Rattle.health_tests.specs.declared.windows.Alarm.{Alarm}
use Rattle.entropy_source.specs.Draws.{portions}
use Rattle.entropy_source.specs.Source.{SourceState, opened_source, source_after}
use Rattle.entropy_source.specs.declared.answers.SourceRefusal.{SourceRefusal}
use Rattle.rbg_nodes.specs.Node.{Cleared, Gave, NodeState, New, Renew, Seeded, fresh_node, kept_seed, node_after}
use Rattle.tree_config.specs.Planned.{IsPlanned}
use Rattle.tree_config.specs.Tree.{Tree}
use Rattle.tree_rules.specs.Chain.{Chain, SourceLink, asks_pr, named, node_chain, task_of, wants, whole_chain}
use Rattle.tree_rules.specs.Counts.{AreCounts, HasCounts, IsRaised}
use Rattle.tree_rules.specs.Fits.{AnswersBy, DrawsAndWorks, Fits, Legal, Serves, Starts, at_source, done, found_by, source_reply}
use Rattle.tree_rules.specs.Free.{IsFree}
use Rattle.tree_rules.specs.History.{Act, AtNode, AtSource, Entry, NodeIs, Opening, SlotAct, SlotState, SourceIs, States, after, opened, own, slot_after_all, states_after}
use Rattle.tree_rules.specs.Links.{Gives, Link, Seeds}
use Rattle.tree_rules.specs.Openings.{IsHistory, by_depth, depth, opening_calls, states_behind}
use Rattle.tree_rules.specs.Replies.{chain_of, refusal}
use Rattle.tree_rules.specs.Served.{Served, entry_of}
use Rattle.tree_rules.specs.Slots.{node_row, source_number, source_row}
use Rattle.tree_rules.specs.Works.{worked}
use Rattle.tree_rules.specs.declared.call.Call.{Call}
use Rattle.tree_rules.specs.declared.call.Call.TheVariants.{Generate, Instantiate, Reseed, Start, Status, Uninstantiate}
use Rattle.tree_rules.specs.declared.reply.Reply.{Reply}
use Rattle.tree_rules.proofs.Counting.{IsBrief, IsWeight, gives_of, gives_weigh, of_own, own_few, seeds_of, seeds_weigh, sources_none, top_few, total, total-append}
use Rattle.tree_rules.proofs.Freeing.{chain_is_whole, is_free}

module _ (w : SlotAct → ℕ) (is : IsWeight w) (least : ℕ) (p : Tree) (plan : IsPlanned least p) (s : States) (e : Entry) where
  abbrev Few : Type 0
  Few = total w e.acts ≤ 256

  of_acts : (acts : List Act) → e.acts ≡ acts → total w acts ≤ 256 → Few
  of_acts acts same h = subst (λ z. total w z ≤ 256) (sym same) h

  works_few : (found : List ℕ → List ℕ → Option Alarm) (c : Call) (ls : List Link) (lens : List ℕ) (source : Option SourceLink)
      → ((drawn : List (List ℕ)) → total w (worked (asks_pr c) drawn e.string ls).acts ≤ 256) → DrawsAndWorks found c ls lens source e → Few
  works_few found c ls lens None few d = of_acts _ d.acts_are (few [])
  works_few found c ls lens (Some t) few (acts, end, drawn, answer) = by end answer where
    none : total w (map (at_source t) acts) ≡ 0
    none = sources_none w is t acts

    by : (end : Result (List ℕ) SourceRefusal) → MatchResult end
        (λ bytes. let w = worked (asks_pr c) (portions t.row lens bytes) e.string ls in
        AnswersBy e (map (at_source t) acts ++ w.acts) (done w.bytes) w.bytes)
        (λ why. AnswersBy e (map (at_source t) acts) (source_reply t.number why) []) → Few
    by (Ok bytes) answer =
        let v = worked (asks_pr c) (portions t.row lens bytes) e.string ls in
        let n = none in let h = few (portions t.row lens bytes) in
        let sum = total-append w (map (at_source t) acts) v.acts in of_acts _ answer.acts_are (omega (arith, n, h, sum))
    by (Err why) answer = let n = none in of_acts _ answer.acts_are (omega (arith, n))

  starts_few : (source : Option SourceLink) → Starts source e → Few
  starts_few None d = absurd d
  starts_few (Some t) (acts, end, start, answer) = let n = sources_none w is t acts in of_acts _ answer.acts_are (omega (arith, n))

  serves_few : (found : List ℕ → List ℕ → Option Alarm) (c : Call) → IsBrief p (named c) (task_of c) → Serves found (whole_chain p s c) e c → Few
  serves_few found (Start i) brief d = starts_few (whole_chain p s (Start i)).source d
  serves_few found (Uninstantiate n) brief d = let h = is.cleared in of_acts _ d.acts_are (omega (arith, h))
  serves_few found (Status n) brief d = of_acts _ d.acts_are (omega arith)
  serves_few found (Instantiate n x) brief d =
      let c = Instantiate n x in
      works_few found c (node_chain p s c).links (wants c (node_chain p s c)) (node_chain p s c).source
      (λ drawn. top_few w is least p plan s (asks_pr c) drawn e.string n (Seeds New) tt) d
  serves_few found (Generate n x y z) brief d =
      let c = Generate n x y z in
      works_few found c (node_chain p s c).links (wants c (node_chain p s c)) (node_chain p s c).source
      (λ drawn. top_few w is least p plan s (asks_pr c) drawn e.string n (Gives x) brief) d
  serves_few found (Reseed n z) brief d =
      let c = Reseed n z in
      works_few found c (node_chain p s c).links (wants c (node_chain p s c)) (node_chain p s c).source
      (λ drawn. top_few w is least p plan s (asks_pr c) drawn e.string n (Seeds Renew) tt) d

  brief_by : (c : Call) (string : List ℕ) (ch : Chain) → IsFree p c string ch → IsBrief p (named c) (task_of c)
  brief_by (Generate n x y z) string ch f = f.count
  brief_by (Instantiate n x) string ch f = tt
  brief_by (Reseed n z) string ch f = tt
  brief_by (Uninstantiate n) string ch f = tt
  brief_by (Start j) string ch f = tt
  brief_by (Status n) string ch f = tt

  entry_few : Fits p s e → Few
  entry_few f = by (refusal p e.call e.string ch) refl f.answer where
    ch : Chain
    ch = chain_of p s e.call e.string

    by : (o : Option Reply) → refusal p e.call e.string ch ≡ o
        → MatchOption o (Serves (found_by ch.source) ch e e.call) (λ reply. AnswersBy e [] reply []) → Few
    by None free d =
        serves_few (found_by (whole_chain p s e.call).source) e.call (brief_by e.call e.string (whole_chain p s e.call) (is_free p s e.call e.string free))
        (subst (λ (z : Chain). Serves (found_by z.source) z e e.call) (chain_is_whole p s e.call e.string free) d)
    by (Some r) free d = of_acts [] d.acts_are (omega arith)

-- by acts in a row
acts_counted : (p : Tree) (k : ℕ) (x : NodeState) (acts : List SlotAct)
    → (y : NodeState) × (slot_after_all p k (NodeIs x) acts ≡ NodeIs y) × (y.seeds ≡ x.seeds + of_own seeds_of acts) × (y.gives ≡ x.gives + of_own gives_of acts)
acts_counted p k x [] = (x, refl, omega arith, omega arith)
acts_counted p k x (AtSource a ∷ acts) = let d = acts_counted p k x acts in (d.0, d.1, omega (arith, d.2), omega (arith, d.3))
acts_counted p k x (AtNode (Seeded how m z) ∷ acts) =
    let d = acts_counted p k (node_after (node_row p k) x (Seeded how m z)) acts in (d.0, d.1, omega (arith, d.2), omega (arith, d.3))
acts_counted p k x (AtNode (Gave add len bytes) ∷ acts) =
    let d = acts_counted p k (node_after (node_row p k) x (Gave add len bytes)) acts in (d.0, d.1, omega (arith, d.2), omega (arith, d.3))
acts_counted p k x (AtNode Cleared ∷ acts) =
    let d = acts_counted p k (node_after (node_row p k) x Cleared) acts in (d.0, d.1, omega (arith, d.2), omega (arith, d.3))

pub raised_entry : (least : ℕ) (p : Tree) (s : States) (e : Entry) → IsPlanned least p → Fits p s e → (k : ℕ) (x : NodeState)
    → (y : NodeState) × (after p k (NodeIs x) e ≡ NodeIs y) × IsRaised 256 x y
raised_entry least p s e plan f k x =
    let (y, is, sum_seeds, sum_gives) = acts_counted p k x (own k e.acts) in
    let a = entry_few seeds_of seeds_weigh least p plan s e f in
    let b = entry_few gives_of gives_weigh least p plan s e f in
    let c = own_few seeds_of k e.acts in
    let d = own_few gives_of k e.acts in (
      y,
      is,
      record {
        seeds_low = omega (arith, sum_seeds);
        seeds_high = omega (arith, sum_seeds, a, c);
        gives_low = omega (arith, sum_gives);
        gives_high = omega (arith, sum_gives, b, d);
      },
    )

raised : (least : ℕ) (p : Tree) (s : States) (e : Entry) → IsPlanned least p → Fits p s e → (k : ℕ) (x : NodeState) (n : ℕ) → AreCounts n x
    → HasCounts (n + 256) (after p k (NodeIs x) e)
raised least p s e plan f k x n few =
    let (y, is, up) = raised_entry least p s e plan f k x in
    let a = up.seeds_high in let b = up.gives_high in let u = few.seeds in let v = few.gives in
    subst (HasCounts (n + 256)) (sym is) (record { seeds = omega (arith, a, u); gives = omega (arith, b, v) })

pub raised_served : (least : ℕ) (p : Tree) (old new : States) (c : Call) (string : List ℕ) (reply : Reply) (bytes : List ℕ) → IsPlanned least p
    → Served p old new c string reply bytes → (k : ℕ) (x : NodeState) → old k ≡ NodeIs x → (y : NodeState) × (new k ≡ NodeIs y) × IsRaised 256 x y
raised_served least p old new c string reply bytes plan served k x is =
    let e = entry_of p old c string reply bytes served.acts 0 in
    let (y, at, up) = raised_entry least p old e plan (served.fits 0) k x in
    (y, served.leaves k ∙ (ap (λ z. after p k z e) is ∙ at), up)

stays_source : (p : Tree) (k : ℕ) (x : SourceState) (acts : List SlotAct) (n : ℕ) → HasCounts n (slot_after_all p k (SourceIs x) acts)
stays_source p k x [] n = tt
stays_source p k x (AtNode a ∷ acts) n = stays_source p k x acts n
stays_source p k x (AtSource a ∷ acts) n = stays_source p k (source_after (source_row p (source_number p k)) x a) acts n

raised_slot : (least : ℕ) (p : Tree) (s : States) (e : Entry) → IsPlanned least p → Fits p s e → (k : ℕ) (x : SlotState) (n : ℕ) → HasCounts n x
    → HasCounts (n + 256) (after p k x e)
raised_slot least p s e plan f k (NodeIs x) n few = raised least p s e plan f k x n few
raised_slot least p s e plan f k (SourceIs x) n few = stays_source p k x (own k e.acts) (n + 256)

more_counts : (n m : ℕ) (x : SlotState) → n ≤ m → HasCounts n x → HasCounts m x
more_counts n m (SourceIs x) h few = tt
more_counts n m (NodeIs x) h few = let u = few.seeds in let v = few.gives in record { seeds = omega (arith, u, h); gives = omega (arith, v, h) }

history_few : (least : ℕ) (p : Tree) (s : States) (es : List Entry) → IsPlanned least p → Legal p s es → (k n : ℕ) → HasCounts n (s k)
    → HasCounts (n + 256 * length es) (states_after p s es k)
history_few least p s [] plan legal k n few = more_counts n (n + 256 * length {A = Entry} []) (s k) (omega arith) few
history_few least p s (e ∷ es) plan (fit, legal) k n few =
    let rest = history_few least p (λ i. after p i (s i) e) es plan legal k (n + 256) (raised_slot least p s e plan fit k (s k) n few) in
    more_counts ((n + 256) + 256 * length es) (n + 256 * length (e ∷ es)) (states_after p (λ i. after p i (s i) e) es k) (omega arith) rest

opened_few : (f : Opening) (k : ℕ) → HasCounts 0 (opened f k)
opened_few f k = by (nat_lt k (length f.plan.nodes)) (kept_seed (node_row f.plan k) (unwrap_or (slice_get f.seeds k) []))
    (opened_source (unwrap_or (slice_get f.told (source_number f.plan k)) None) (unwrap_or (slice_get f.faults (source_number f.plan k)) 0)) where
      by : (b : Bool) (kept : Option (List ℕ)) (x : SourceState) → HasCounts 0 (if b then NodeIs (fresh_node kept) else SourceIs x)
      by true kept x = record { seeds = omega arith; gives = omega arith }
      by false kept x = tt

-- how many opening calls there are
filter_few : (test : ℕ → Bool) (xs : List ℕ) → length (filter test xs) ≤ length xs
filter_few test [] = omega arith
filter_few test (x ∷ xs) = by (test x) (filter_few test xs) where
  by : (b : Bool) → length (filter test xs) ≤ length xs → length (if b then x ∷ filter test xs else filter test xs) ≤ suc (length xs)
  by true h = omega (arith, h)
  by false h = omega (arith, h)

parts_few : (g : ℕ → List ℕ) (m : ℕ) → ((x : ℕ) → length (g x) ≤ m) → (xs : List ℕ) → length (flat_map g xs) ≤ m * length xs
parts_few g m few [] = omega arith
parts_few g m few (x ∷ xs) =
    let h = parts_few g m few xs in let i = few x in let sum = length-append (g x) (flat_map g xs) in
    let step : m * suc (length xs) ≡ m * length xs + m = mul-suc m (length xs) in omega (arith, h, i, sum, step)

calls_few : (least : ℕ) (p : Tree) → IsPlanned least p → length (opening_calls p) ≤ 3973
calls_few least p plan = by p.opens_all where
  all : List ℕ
  all = range_with_len 0 (length p.nodes)

  starts : List Call
  starts = map (λ j. Start j) (range_with_len 0 (length p.sources))

  begins : List Call
  begins = map (λ n. Instantiate n 0) (by_depth p)

  by : (b : Bool) → length (if b then starts ++ begins else []) ≤ 3973
  by false = omega arith
  by true =
      let n = length-range_with_len 0 (length p.nodes) in
      let m = length-map (range_with_len 0 (length p.sources)) (λ j. Start j) in
      let l = length-range_with_len 0 (length p.sources) in
      let k = length-map (by_depth p) (λ n. Instantiate n 0) in
      let nodes = plan.few_nodes in
      let sources = plan.few_sources in
      let each : (d : ℕ) → length (filter (λ n. depth p n == d + 1) all) ≤ 63 =
      λ d. (let h = filter_few (λ n. depth p n == d + 1) all in omega (arith, h, n, nodes)) in
      let ordered : length (by_depth p) ≤ 63 * length all = parts_few (λ d. filter (λ n. depth p n == d + 1) all) 63 each all in
      let sum = length-append starts begins in omega (arith, n, m, l, k, nodes, sources, ordered, sum)

-- after a legal history of at most 2^46 entries behind the opening calls
pub counts_small : (f : Opening) (o h : List Entry) → IsHistory f o h → length h ≤ 2 ^ 46 → (k : ℕ) → HasCounts (2 ^ 61) (states_behind f o h k)
counts_small f o h is few k =
    let plan = is.opening.planned in
    let first = history_few 0 f.plan (opened f) o plan is.opening.legal k 0 (opened_few f k) in
    let second = history_few 0 f.plan (states_after f.plan (opened f) o) h plan is.legal k (0 + 256 * length o) first in
    let calls = length-map o (λ (e : Entry). e.call) in
    let same : length (map (λ (e : Entry). e.call) o) ≡ length (opening_calls f.plan) = ap (λ z. length {A = Call} z) is.opening.calls in
    let some = calls_few 0 f.plan plan in
    more_counts ((0 + 256 * length o) + 256 * length h) (2 ^ 61) (states_behind f o h k) (omega (arith, few, calls, same, some)) second
