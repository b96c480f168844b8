-- No history takes more than 2^60 samples from a source, nor makes more blocks of them than there are samples.
use Rattle.std.proofs.Common.{◌≡◌, ◌∙◌, ◌++◌, ◌∷◌, ◌+◌, ◌-◌, ◌*◌, ◌<◌, ◌≤◌, ◌^◌, ℕ, List, [], zero, suc, Bool, true, false, length, map, refl, sym, ap, subst, arith, append-nil, suc-mul, eq-eqb, eqb-true}
use Rattle.std.specs.Prelude.{◌==◌, sum, Option, Some, None, Result, Ok, Err, MatchOption, MatchResult}
use Rattle.health_tests.specs.declared.windows.Alarm.{Alarm}
use Rattle.health_tests.specs.Windows.{alarm_in}
use Rattle.conditioner.specs.Conditioned.{conditioned}
use Rattle.entropy_source.specs.Draws as draws
use Rattle.entropy_source.specs.Draws.{Draws, Gathers, portions}
use Rattle.entropy_source.specs.Source.{Alarmed, Began, Block, Read, SourceAct, SourceState, Started, blocks_for, need_of_block, source_after, source_after_all}
use Rattle.entropy_source.specs.declared.answers.SourceRefusal.{SourceRefusal}
use Rattle.entropy_source.specs.declared.answers.SourceRefusal.TheVariants.{HealthFailed}
use Rattle.entropy_source.specs.declared.answers.SourceRow.{SourceRow}
use Rattle.rbg_nodes.specs.Node.{Cleared}
use Rattle.tree_config.specs.Planned.{IsPlanned}
use Rattle.tree_config.specs.Tree.{Tree}
use Rattle.tree_rules.specs.Chain.{Chain, SourceLink, asks_pr, need, need_by, source_at, wants}
use Rattle.tree_rules.specs.Fits.{AnswersBy, DrawsAndWorks, Fits, Legal, Serves, Starts, at_source, done, found_by, source_reply}
use Rattle.tree_rules.specs.History.{Act, Entry, Opening, States, after, at_slot, opened, own, source_in, states_after}
use Rattle.tree_rules.specs.Links.{Link, first_link}
use Rattle.tree_rules.specs.Openings.{IsHistory, states_behind}
use Rattle.tree_rules.specs.Replies.{chain_of, chain_rows, first_reply, is_start, plain_rows, refusal, taken_of}
use Rattle.tree_rules.specs.Slots.{source_row, source_slot}
use Rattle.tree_rules.specs.Works.{at_node, worked}
use Rattle.tree_rules.specs.declared.call.Call.{Call}
use Rattle.tree_rules.specs.declared.call.Call.TheVariants.{Generate, Instantiate, Reseed, Start, Status, Uninstantiate}
use Rattle.tree_rules.specs.declared.reply.Reply.{Reply}
use Rattle.tree_rules.proofs.Answered.{served, start_answered, works_answered}
use Rattle.tree_rules.proofs.Parting.{IsSource, next_source, opened_is_source, opened_source_is, source_next}
use Rattle.tree_rules.proofs.Plans.{takes_samples}
use Rattle.tree_rules.proofs.Refusals.{refused_by}
use Rattle.tree_rules.proofs.Sources.{IsSourceOf, at_slot-append, chain_fits, else_all, need_is, node_skip, none_stands, none_worked}
use Rattle.tree_load.proofs.Climbing.{not_less}
use Rattle.tree_load.proofs.Drawing.{after_append, gathers_count}

-- at most so many samples more, and no more blocks than samples
record IsBounded (most : ℕ) (x y : SourceState) : Type 0 where
  pub taken : y.taken ≤ x.taken + most
  pub blocks : y.blocks + x.taken ≤ x.blocks + y.taken

module _ (row : SourceRow) (found : List ℕ → List ℕ → Option Alarm) where
  gathers_most : (lacks : ℕ) (s : SourceState) (has read : List ℕ) (acts : List SourceAct) (end : Result (List ℕ) SourceRefusal) → Gathers row found lacks s has read acts end
      → IsBounded lacks s (source_after_all row s acts)
  gathers_most lacks s has read [] end (a, b) = record { taken = omega arith; blocks = omega arith }
  gathers_most lacks s has read (Read asked None count ∷ acts) end (a, b, c, none, e) =
      subst (λ z. IsBounded lacks s (source_after_all row (source_after row s (Read asked None count)) z)) (sym none) (record { taken = omega arith; blocks = omega arith })
  gathers_most lacks s has read (Read asked (Some []) count ∷ acts) end (a, b, c, none, e) =
      subst (λ z. IsBounded lacks s (source_after_all row (source_after row s (Read asked (Some []) count)) z)) (sym none) (record { taken = omega arith; blocks = omega arith })
  gathers_most lacks s has read (Read asked (Some (x ∷ xs)) count ∷ acts) end (a, b, c, g) =
      by (found read (x ∷ xs)) (λ h. gathers_most (lacks - length (x ∷ xs)) next (has ++ x ∷ xs) (read ++ x ∷ xs) acts end h) g where
        next : SourceState
        next = source_after row s (Read asked (Some (x ∷ xs)) count)

        few : length (x ∷ xs) ≤ lacks
        few = let f = c.few in omega (arith, f, b)

        by : (o : Option Alarm)
            → (Gathers row found (lacks - length (x ∷ xs)) next (has ++ x ∷ xs) (read ++ x ∷ xs) acts end → IsBounded (lacks - length (x ∷ xs)) next (source_after_all row next acts))
            → MatchOption o (Gathers row found (lacks - length (x ∷ xs)) next (has ++ x ∷ xs) (read ++ x ∷ xs) acts end)
            (λ f. (acts ≡ Alarmed (s.taken + f.at) f.test ∷ []) × (end ≡ Err (HealthFailed (s.taken + f.at) f.test)))
            → IsBounded lacks s (source_after_all row next acts)
        by None ih h = let r = ih h in let t = r.taken in let u = r.blocks in record { taken = omega (arith, t, few); blocks = omega (arith, u) }
        by (Some f) ih (is, e) =
            subst (λ z. IsBounded lacks s (source_after_all row next z)) (sym is) (record { taken = omega (arith, few); blocks = omega arith })
  gathers_most lacks s has read (Began ∷ acts) end g = absurd g
  gathers_most lacks s has read (Alarmed i t ∷ acts) end g = absurd g
  gathers_most lacks s has read (Started ∷ acts) end g = absurd g
  gathers_most lacks s has read (Block a b c ∷ acts) end g = absurd g

  draws_most : (n : ℕ) (s : SourceState) (read out : List ℕ) (acts : List SourceAct) (result : Result (List ℕ) SourceRefusal) → 0 < need_of_block row → Draws row found n s read out acts result
      → IsBounded (n * need_of_block row) s (source_after_all row s acts)
  draws_most zero s read out acts result some (none, is) =
      subst (λ z. IsBounded (0 * need_of_block row) s (source_after_all row s z)) (sym none) (record { taken = omega arith; blocks = omega arith })
  draws_most (suc n) s read out acts result some (reads, rest, end, are, g, w) =
      subst (λ z. IsBounded (suc n * need_of_block row) s (source_after_all row s z)) (sym are)
      (by end g w (λ now block bytes more d. draws_most n now (read ++ block) (out ++ bytes) more result some d)) where
        m : suc n * need_of_block row ≡ n * need_of_block row + need_of_block row
        m = suc-mul n (need_of_block row)

        by : (end : Result (List ℕ) SourceRefusal) → Gathers row found (need_of_block row) s [] read reads end
            → MatchResult end
            (λ block. let bytes = conditioned row.cond block in
            let now = source_after_all row s reads in
            let made = Block s.taken now.taken bytes in
            (more : List SourceAct) × (rest ≡ made ∷ more) × Draws row found n (source_after row now made) (read ++ block) (out ++ bytes) more result)
            (λ why. (rest ≡ []) × (result ≡ Err why))
            → ((now : SourceState) (block bytes : List ℕ) (more : List SourceAct) → Draws row found n now (read ++ block) (out ++ bytes) more result
            → IsBounded (n * need_of_block row) now (source_after_all row now more))
            → IsBounded (suc n * need_of_block row) s (source_after_all row s (reads ++ rest))
        by (Ok block) g (more, rest_is, d) ih =
            let bytes = conditioned row.cond block in
            let now = source_after_all row s reads in
            let made = Block s.taken now.taken bytes in
            let one = gathers_count row found (need_of_block row) s [] read reads block g in
            let tail = ih (source_after row now made) block bytes more d in
            let whole : source_after_all row s (reads ++ rest) ≡ source_after_all row (source_after row now made) more =
            ap (λ z. source_after_all row s (reads ++ z)) rest_is ∙ after_append row s reads (made ∷ more) in
            let a = one.blocks_are in let b = one.taken_are in let c = tail.blocks in let e = tail.taken in
            subst (λ z. IsBounded (suc n * need_of_block row) s z) (sym whole) (record { taken = omega (arith, b, e, m); blocks = omega (arith, a, b, c, some) })
        by (Err why) g (none, is) ih =
            let one = gathers_most (need_of_block row) s [] read reads (Err why) g in
            let whole : source_after_all row s (reads ++ rest) ≡ source_after_all row s reads = ap (λ z. source_after_all row s (reads ++ z)) none ∙ ap (source_after_all row s) (append-nil reads) in
            let a = one.taken in let b = one.blocks in
            subst (λ z. IsBounded (suc n * need_of_block row) s z) (sym whole) (record { taken = omega (arith, a, m); blocks = omega (arith, b) })

start_most : (row : SourceRow) (s : SourceState) (acts : List SourceAct) (result : Result (List ℕ) SourceRefusal) → draws.Start row s acts result
    → IsBounded row.startup s (source_after_all row s acts)
start_most row s acts result (reads, rest, end, are, g, w) =
    subst (λ z. IsBounded row.startup s (source_after_all row s z)) (sym are) (by end w (gathers_most row (alarm_in row.cutoffs) row.startup began [] [] reads end g)) where
      began : SourceState
      began = source_after row s Began

      by : (end : Result (List ℕ) SourceRefusal) → MatchResult end (λ _. (rest ≡ Started ∷ []) × (result ≡ Ok [])) (λ why. (rest ≡ []) × (result ≡ Err why))
          → IsBounded row.startup began (source_after_all row began reads) → IsBounded row.startup s (source_after_all row began (reads ++ rest))
      by (Ok bytes) (is, e) one =
          let whole : source_after_all row began (reads ++ rest) ≡ source_after row (source_after_all row began reads) Started =
          ap (λ z. source_after_all row began (reads ++ z)) is ∙ after_append row began reads (Started ∷ []) in
          let a = one.taken in let b = one.blocks in subst (λ z. IsBounded row.startup s z) (sym whole) (record { taken = omega (arith, a); blocks = omega (arith, b) })
      by (Err why) (none, e) one =
          let whole : source_after_all row began (reads ++ rest) ≡ source_after_all row began reads =
          ap (λ z. source_after_all row began (reads ++ z)) none ∙ ap (source_after_all row began) (append-nil reads) in
          let a = one.taken in let b = one.blocks in subst (λ z. IsBounded row.startup s z) (sym whole) (record { taken = omega (arith, a); blocks = omega (arith, b) })

-- a source within its limit
pub record IsLimited (x : SourceState) : Type 0 where
  pub taken : x.taken ≤ 2 ^ 60
  pub blocks : x.blocks ≤ x.taken

-- a call that isn't refused finds room
has_room : (p : Tree) (c : Call) (string : List ℕ) (ch : Chain) → refusal p c string ch ≡ None → taken_of ch.source + need c ch ≤ 2 ^ 60
has_room p c string ch free =
    let all = none_stands (plain_rows p c string ++ chain_rows c ch) free in
    not_less (2 ^ 60) (taken_of ch.source + need c ch) all.1.1.1.1.1.1.1.1.1.0

module _ (p : Tree) (plan : IsPlanned 0 p) (s : States) (e : Entry) (j : ℕ) (is : IsSource (s (source_slot p j))) (limit : IsLimited (source_in (s (source_slot p j)))) where
  abbrev k : ℕ
  k = source_slot p j

  abbrev Goal : Type 0
  Goal = IsLimited (source_in (after p k (s k) e))

  with_acts : IsLimited (source_after_all (source_row p j) (source_in (s k)) (at_slot k e.acts)) → Goal
  with_acts h = subst IsLimited (sym (next_source p s j e is)) h

  nothing : at_slot k e.acts ≡ [] → Goal
  nothing none = with_acts (subst (λ z. IsLimited (source_after_all (source_row p j) (source_in (s k)) z)) (sym none) limit)

  used : (t : SourceLink) → t ≡ source_at p s t.number → (most : ℕ) → t.state.taken + most ≤ 2 ^ 60
      → IsBounded most t.state (source_after_all t.row t.state (at_slot t.slot e.acts)) → ((t.slot == k) ≡ false → at_slot k e.acts ≡ []) → Goal
  used t at most room bounded others = by (t.number == j) refl where
    by : (b : Bool) → (t.number == j) ≡ b → Goal
    by true on =
        let mine : t ≡ source_at p s j = at ∙ ap (λ i. source_at p s i) (eqb-true t.number j on) in
        let ours = subst (λ (z : SourceLink). IsBounded most z.state (source_after_all z.row z.state (at_slot z.slot e.acts))) mine bounded in
        let same = ap (λ (z : SourceLink). z.state.taken) mine in
        let a = ours.taken in let b = ours.blocks in let c = limit.blocks in
        with_acts (record { taken = omega (arith, a, same, room); blocks = omega (arith, b, c) })
    by false off = nothing (others (other (t.slot == k) refl)) where
      other : (b : Bool) → (t.slot == k) ≡ b → b ≡ false
      other false h = refl
      other true h =
          let slot : source_slot p t.number ≡ k = sym (ap (λ (z : SourceLink). z.slot) at) ∙ eqb-true t.slot k h in
          let on : (t.number == j) ≡ true = eq-eqb t.number j (omega (arith, slot)) in absurd (let z : true ≡ false = sym on ∙ off in cc)

  no_acts : (acts : List Act) → e.acts ≡ acts → at_slot k acts ≡ [] → Goal
  no_acts acts are none = nothing (ap (at_slot k) are ∙ none)

  works_limited : (c : Call) (ls : List Link) (lens : List ℕ) (source : Option SourceLink) → IsSourceOf p s source → is_start c ≡ false
      → taken_of source + need_by c source lens ≤ 2 ^ 60 → DrawsAndWorks (found_by source) c ls lens source e → Goal
  works_limited c ls lens None fit start room w = no_acts (worked (asks_pr c) [] e.string ls).acts w.acts_are (none_worked k (asks_pr c) [] e.string ls)
  works_limited c ls lens (Some t) fit start room w =
      let a = works_answered (found_by (Some t)) c ls lens t e w in
      let n : ℕ = sum (map (λ n. blocks_for t.row n) lens) in
      let some : 0 < need_of_block t.row = subst (λ (z : SourceLink). 0 < need_of_block z.row) (sym fit) (takes_samples 0 p plan t.number) in
      let bounded = draws_most t.row (found_by (Some t)) n t.state [] [] a.acts a.end some a.used in
      let needs = need_is c t lens start in
      used t fit (n * need_of_block t.row) (omega (arith, room, needs))
      (subst (λ z. IsBounded (n * need_of_block t.row) t.state (source_after_all t.row t.state z)) (sym a.here) bounded) (others w) where
        others : DrawsAndWorks (found_by (Some t)) c ls lens (Some t) e → (t.slot == k) ≡ false → at_slot k e.acts ≡ []
        others (acts, end, drawn, answer) off = by end answer where
          by : (end : Result (List ℕ) SourceRefusal) → MatchResult end
              (λ bytes. let w = worked (asks_pr c) (portions t.row lens bytes) e.string ls in
              AnswersBy e (map (at_source t) acts ++ w.acts) (done w.bytes) w.bytes)
              (λ why. AnswersBy e (map (at_source t) acts) (source_reply t.number why) []) → at_slot k e.acts ≡ []
          by (Ok bytes) answer =
              let w = worked (asks_pr c) (portions t.row lens bytes) e.string ls in
              ap (at_slot k) answer.acts_are
              ∙ (at_slot-append k (map (at_source t) acts) w.acts ∙ rw (else_all k t acts off, none_worked k (asks_pr c) (portions t.row lens bytes) e.string ls) refl)
          by (Err why) answer = ap (at_slot k) answer.acts_are ∙ else_all k t acts off

  starts_limited : (i : ℕ) (source : Option SourceLink) → IsSourceOf p s source → (lens : List ℕ) → taken_of source + need_by (Start i) source lens ≤ 2 ^ 60 → Starts source e → Goal
  starts_limited i None fit lens room w = absurd w
  starts_limited i (Some t) fit lens room w =
      let a = start_answered t e w in
      used t fit t.row.startup room (subst (λ z. IsBounded t.row.startup t.state (source_after_all t.row t.state z)) (sym a.here) (start_most t.row t.state a.acts a.end a.used)) (others w) where
        others : Starts (Some t) e → (t.slot == k) ≡ false → at_slot k e.acts ≡ []
        others (acts, end, start, answer) off = ap (at_slot k) answer.acts_are ∙ else_all k t acts off

  serves_limited : (c : Call) (ch : Chain) → IsSourceOf p s ch.source → taken_of ch.source + need c ch ≤ 2 ^ 60 → Serves (found_by ch.source) ch e c → Goal
  serves_limited (Start i) ch fit room w = starts_limited i ch.source fit (wants (Start i) ch) room w
  serves_limited (Uninstantiate n) ch fit room w = no_acts (at_node (first_link ch.links) Cleared ∷ []) w.acts_are (node_skip k (first_link ch.links) Cleared [])
  serves_limited (Status n) ch fit room w = no_acts [] w.acts_are refl
  serves_limited (Instantiate n x) ch fit room w = works_limited (Instantiate n x) ch.links (wants (Instantiate n x) ch) ch.source fit refl room w
  serves_limited (Generate n x y z) ch fit room w = works_limited (Generate n x y z) ch.links (wants (Generate n x y z) ch) ch.source fit refl room w
  serves_limited (Reseed n z) ch fit room w = works_limited (Reseed n z) ch.links (wants (Reseed n z) ch) ch.source fit refl room w

  entry_limited : Fits p s e → Goal
  entry_limited f = by (refusal p e.call e.string (chain_of p s e.call e.string)) refl where
    by : (o : Option Reply) → refusal p e.call e.string (chain_of p s e.call e.string) ≡ o → Goal
    by (Some r) is = no_acts [] (refused_by p s e r f is).0 refl
    by None free =
        serves_limited e.call (chain_of p s e.call e.string) (chain_fits p s e.call (first_reply (plain_rows p e.call e.string)))
        (has_room p e.call e.string (chain_of p s e.call e.string) free) (served p s e f free)

entries_limited : (p : Tree) → IsPlanned 0 p → (es : List Entry) (s : States) (j : ℕ) → IsSource (s (source_slot p j)) → IsLimited (source_in (s (source_slot p j))) → Legal p s es
    → IsSource (states_after p s es (source_slot p j)) × IsLimited (source_in (states_after p s es (source_slot p j)))
entries_limited p plan [] s j is limit legal = (is, limit)
entries_limited p plan (e ∷ es) s j is limit (fit, legal) =
    entries_limited p plan es (λ k. after p k (s k) e) j (source_next p (source_slot p j) (s (source_slot p j)) (own (source_slot p j) e.acts) is).1 (entry_limited p plan s e j is limit fit) legal

-- of every history
pub history_limited : (f : Opening) (o h : List Entry) → IsHistory f o h → (j : ℕ) → IsLimited (source_in (states_behind f o h (source_slot f.plan j)))
history_limited f o h is j =
    let p = f.plan in
    let begun : IsLimited (source_in (opened f (source_slot p j))) = subst (λ x. IsLimited (source_in x)) (sym (opened_source_is f j)) (record { taken = omega arith; blocks = omega arith }) in
    let first = entries_limited p is.opening.planned o (opened f) j (opened_is_source f j) begun is.opening.legal in
    (entries_limited p is.opening.planned h (states_after p (opened f) o) j first.0 first.1 is.legal).1
