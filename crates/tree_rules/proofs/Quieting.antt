-- In every legal history a source is silent from an alarm to its next start.
use Rattle.std.proofs.Common.{◌≡◌, ◌∙◌, ◌++◌, ◌∷◌, ◌+◌, ◌-◌, ◌*◌, ◌<◌, ℕ, List, [], zero, suc, Bool, true, false, length, map, refl, sym, ap, subst, arith, inl, inr, append-nil, suc-mul}
use Rattle.std.specs.Prelude.{◌==◌, ◌&&◌, if◌then◌else◌, Option, Some, None, Result, Ok, Err, MatchOption, MatchResult, nat_lt, take, not, sum}
use Rattle.conditioner.specs.Conditioned.{conditioned}
use Rattle.entropy_source.specs.Draws.{Draws, Gathers, found_in}
use Rattle.entropy_source.specs.Source.{Alarmed, Began, Block, Read, SourceAct, SourceState, Started, blocks_for, need_of_block, source_after, source_after_all}
use Rattle.entropy_source.specs.declared.answers.SourceRefusal.{SourceRefusal}
use Rattle.entropy_source.specs.declared.answers.SourceRefusal.TheVariants.{HealthFailed}
use Rattle.entropy_source.specs.declared.answers.SourceRow.{SourceRow}
use Rattle.health_tests.specs.Windows.{alarm_in}
use Rattle.health_tests.specs.declared.windows.Alarm.{Alarm}
use Rattle.health_tests.specs.declared.windows.Test.{Test}
use Rattle.tree_config.specs.Tree.{Tree}
use Rattle.tree_rules.specs.Chain.{Chain, SourceLink, need}
use Rattle.tree_rules.specs.Fits.{AnswersBy, Fits, Legal, Serves, done, found_by}
use Rattle.tree_rules.specs.History.{Entry, Opening, States, after, at_slot, has, opened, own, source_in}
use Rattle.tree_rules.specs.Links.{Link}
use Rattle.tree_rules.specs.Quiet.{Acted, Ended, Event, IsQuiet, Quiet, Silent, events, needs}
use Rattle.tree_rules.specs.declared.reply.ReplyRow.{ReplyRow}
use Rattle.tree_rules.specs.Replies.{chain_of, chain_rows, first_reply, is_running, is_start, plain_rows, refusal}
use Rattle.tree_rules.specs.Slots.{source_row, source_slot}
use Rattle.tree_rules.specs.Sources.{Does, Draw, Refuses}
use Rattle.tree_rules.specs.declared.call.Call.{Call}
use Rattle.tree_rules.specs.declared.reply.Reply.{Reply}
use Rattle.tree_rules.proofs.Sources.{IsSourceOf, runs, does, chain_fits}
use Rattle.tree_rules.proofs.Parting.{IsSource, source_next, next_source, opened_is_source}
use Rattle.tree_rules.proofs.Plans.{TakeSamples}
use Rattle.entropy_source.specs.Draws as draws
use Rattle.std.proofs.lemmas.Bool.{lt-ltb, eqb-true}

-- an alarm is the last act, and its entry isn't Done
abbrev AlarmLast : Bool → List SourceAct → Type 0
AlarmLast done [] = Unit {0}
AlarmLast done (Alarmed index test ∷ acts) = (acts ≡ []) × (done ≡ false)
AlarmLast done (_ ∷ acts) = AlarmLast done acts

module _ (done : Bool) (row : SourceRow) where
  quiet_acts : (s : SourceState) (acts : List SourceAct) (tail : List Event) → AlarmLast done acts → IsQuiet tail
      → (done ≡ false → is_running (source_after_all row s acts).mode ≡ false → Silent tail) → IsQuiet (map Acted acts ++ tail)
  quiet_acts s [] tail a q f = q
  quiet_acts s (Alarmed index test ∷ acts) tail (none, no_done) q f =
      subst (λ z. (is_running (source_after_all row (source_after row s (Alarmed index test)) z).mode ≡ false → Silent tail) → Silent (map Acted z ++ tail) × IsQuiet (map Acted z ++ tail))
      (sym none) (λ g. (g refl, q)) (f no_done)
  quiet_acts s (Began ∷ acts) tail a q f = quiet_acts (source_after row s Began) acts tail a q f
  quiet_acts s (Read x y z ∷ acts) tail a q f = quiet_acts (source_after row s (Read x y z)) acts tail a q f
  quiet_acts s (Started ∷ acts) tail a q f = quiet_acts (source_after row s Started) acts tail a q f
  quiet_acts s (Block x y z ∷ acts) tail a q f = quiet_acts (source_after row s (Block x y z)) acts tail a q f

  module _ (found : List ℕ → List ℕ → Option Alarm) where
    -- what the acts of a gathering are, whatever its end
    record Reading (s : SourceState) (acts : List SourceAct) (end : Result (List ℕ) SourceRefusal) : Type 0 where
      pub quiet : (tail : List Event) → Silent tail → Silent (map Acted acts ++ tail)
      pub still : is_running s.mode ≡ false → is_running (source_after_all row s acts).mode ≡ false
      pub last : MatchResult end (λ _. (tail : List SourceAct) → AlarmLast done tail → AlarmLast done (acts ++ tail)) (λ _. done ≡ false → AlarmLast done acts)

    one_read : (s : SourceState) (asked : ℕ) (got : Option (List ℕ)) (count : ℕ) (acts : List SourceAct) (end : Result (List ℕ) SourceRefusal)
        → Reading (source_after row s (Read asked got count)) acts end → Reading s (Read asked got count ∷ acts) end
    one_read s asked got count acts end r = record { quiet = r.quiet; still = r.still; last = by end r.last } where
      by : (x : Result (List ℕ) SourceRefusal)
          → MatchResult x (λ _. (tail : List SourceAct) → AlarmLast done tail → AlarmLast done (acts ++ tail)) (λ _. done ≡ false → AlarmLast done acts)
          → MatchResult x (λ _. (tail : List SourceAct) → AlarmLast done tail → AlarmLast done (Read asked got count ∷ (acts ++ tail))) (λ _. done ≡ false → AlarmLast done (Read asked got count ∷ acts))
      by (Ok b) f = f
      by (Err w) f = f

    nothing : (s : SourceState) (acts : List SourceAct) (end : Result (List ℕ) SourceRefusal) (why : SourceRefusal) → acts ≡ [] → end ≡ Err why → Reading s acts end
    nothing s acts end why none is = subst (λ z. Reading s z end) (sym none) (subst (λ z. Reading s [] z) (sym is)
        (record { quiet = λ tail q. q; still = λ h. h; last = λ d. tt }))

    alarm : (s : SourceState) (acts : List SourceAct) (end : Result (List ℕ) SourceRefusal) (index : ℕ) (test : Test) (why : SourceRefusal) → acts ≡ Alarmed index test ∷ [] → end ≡ Err why → Reading s acts end
    alarm s acts end index test why one is = subst (λ z. Reading s z end) (sym one) (subst (λ z. Reading s (Alarmed index test ∷ []) z) (sym is)
        (record { quiet = λ tail q. q; still = λ h. refl; last = λ d. (refl, d) }))

    reading : (lacks : ℕ) (s : SourceState) (has read : List ℕ) (acts : List SourceAct) (end : Result (List ℕ) SourceRefusal)
        → Gathers row found lacks s has read acts end → Reading s acts end
    reading lacks s has read [] end (a, b) = subst (λ z. Reading s [] z) (sym b) (record { quiet = λ tail q. q; still = λ h. h; last = λ tail l. l })
    reading lacks s has read (Read asked None count ∷ acts) end (a, b, c, d, e) = one_read s asked None count acts end (nothing _ acts end _ d e)
    reading lacks s has read (Read asked (Some []) count ∷ acts) end (a, b, c, d, e) = one_read s asked (Some []) count acts end (nothing _ acts end _ d e)
    reading lacks s has read (Read asked (Some (x ∷ xs)) count ∷ acts) end (a, b, c, g) =
        one_read s asked (Some (x ∷ xs)) count acts end (by (found read (x ∷ xs)) (λ h. reading (lacks - length (x ∷ xs)) next (has ++ x ∷ xs) (read ++ x ∷ xs) acts end h) g) where
          next : SourceState
          next = source_after row s (Read asked (Some (x ∷ xs)) count)

          by : (o : Option Alarm)
              → (Gathers row found (lacks - length (x ∷ xs)) next (has ++ x ∷ xs) (read ++ x ∷ xs) acts end → Reading next acts end)
              → MatchOption o (Gathers row found (lacks - length (x ∷ xs)) next (has ++ x ∷ xs) (read ++ x ∷ xs) acts end)
              (λ f. (acts ≡ Alarmed (s.taken + f.at) f.test ∷ []) × (end ≡ Err (HealthFailed (s.taken + f.at) f.test)))
              → Reading next acts end
          by None ih h = ih h
          by (Some f) ih (d, e) = alarm next acts end (s.taken + f.at) f.test _ d e
    reading lacks s has read (Began ∷ acts) end g = absurd g
    reading lacks s has read (Alarmed i t ∷ acts) end g = absurd g
    reading lacks s has read (Started ∷ acts) end g = absurd g
    reading lacks s has read (Block a b c ∷ acts) end g = absurd g

map_more : (xs ys : List SourceAct) (tail : List Event) → map Acted (xs ++ ys) ++ tail ≡ map Acted xs ++ (map Acted ys ++ tail)
map_more [] ys tail = refl
map_more (x ∷ xs) ys tail = ap (λ z. Acted x ∷ z) (map_more xs ys tail)

refuses_err : (done : Bool) (end : Result (List ℕ) SourceRefusal) (why : SourceRefusal) → end ≡ Err why → Refuses done end → done ≡ false
refuses_err done end why is r = subst (λ z. Refuses done z) is r

draws_last : (done : Bool) (row : SourceRow) (found : List ℕ → List ℕ → Option Alarm) (n : ℕ) (s : SourceState) (read out : List ℕ) (acts : List SourceAct)
    (end : Result (List ℕ) SourceRefusal) → Draws row found n s read out acts end → Refuses done end → AlarmLast done acts
draws_last done row found zero s read out acts end (none, is) r = subst (λ z. AlarmLast done z) (sym none) tt
draws_last done row found (suc n) s read out acts end (reads, back, x, are, g, more) r =
    subst (λ z. AlarmLast done z) (sym are) (by x (reading done row found (need_of_block row) s [] read reads x g) more
    (λ s read out acts d. draws_last done row found n s read out acts end d r)) where
      by : (x : Result (List ℕ) SourceRefusal) → Reading done row found s reads x
          → MatchResult x
          (λ block. let bytes = conditioned row.cond block in
          let now = source_after_all row s reads in
          let made = Block s.taken now.taken bytes in
          (more : List SourceAct) × (back ≡ made ∷ more)
          × Draws row found n (source_after row now made) (read ++ block) (out ++ bytes) more end)
          (λ why. (back ≡ []) × (end ≡ Err why))
          → ((s : SourceState) (read out : List ℕ) (acts : List SourceAct) → Draws row found n s read out acts end → AlarmLast done acts)
          → AlarmLast done (reads ++ back)
      by (Ok block) h (tail, is, d) ih = h.last back (subst (λ z. AlarmLast done z) (sym is) (ih _ _ _ tail d))
      by (Err why) h (none, is) ih =
          subst (λ z. AlarmLast done (reads ++ z)) (sym none) (subst (λ z. AlarmLast done z) (sym (append-nil reads)) (h.last (refuses_err done end why is r)))

start_last : (done : Bool) (row : SourceRow) (s : SourceState) (acts : List SourceAct) (end : Result (List ℕ) SourceRefusal)
    → draws.Start row s acts end → Refuses done end → AlarmLast done acts
start_last done row s acts end (reads, back, x, are, g, more) r =
    subst (λ z. AlarmLast done z) (sym are) (by x (reading done row (alarm_in row.cutoffs) row.startup (source_after row s Began) [] [] reads x g) more) where
      by : (x : Result (List ℕ) SourceRefusal) → Reading done row (alarm_in row.cutoffs) (source_after row s Began) reads x
          → MatchResult x (λ _. (back ≡ Started ∷ []) × (end ≡ Ok [])) (λ why. (back ≡ []) × (end ≡ Err why)) → AlarmLast done (reads ++ back)
      by (Ok block) h (is, e) = h.last back (subst (λ z. AlarmLast done z) (sym is) tt)
      by (Err why) h (none, is) =
          subst (λ z. AlarmLast done (reads ++ z)) (sym none) (subst (λ z. AlarmLast done z) (sym (append-nil reads)) (h.last (refuses_err done end why is r)))

-- a start of a source leaves silence as it is, up to its end
start_silent : (row : SourceRow) (s : SourceState) (acts : List SourceAct) (end : Result (List ℕ) SourceRefusal) (tail : List Event)
    → draws.Start row s acts end → (is_running (source_after_all row s acts).mode ≡ false → Silent tail) → Silent (map Acted acts ++ tail)
start_silent row s acts end tail (reads, back, x, are, g, more) f =
    subst (λ z. Silent (map Acted z ++ tail)) (sym are) (subst Silent (sym (map_more reads back tail))
    (by x (reading false row (alarm_in row.cutoffs) row.startup begun [] [] reads x g) more
    (subst (λ z. is_running (source_after_all row s z).mode ≡ false → Silent tail) are f))) where
      begun : SourceState
      begun = source_after row s Began

      by : (x : Result (List ℕ) SourceRefusal) → Reading false row (alarm_in row.cutoffs) begun reads x
          → MatchResult x (λ _. (back ≡ Started ∷ []) × (end ≡ Ok [])) (λ why. (back ≡ []) × (end ≡ Err why))
          → (is_running (source_after_all row begun (reads ++ back)).mode ≡ false → Silent tail)
          → Silent (map Acted reads ++ (map Acted back ++ tail))
      by (Ok block) h (is, e) f = h.quiet (map Acted back ++ tail) (subst (λ z. Silent (map Acted z ++ tail)) (sym is) tt)
      by (Err why) h (none, is) f = h.quiet (map Acted back ++ tail)
          (subst (λ z. (is_running (source_after_all row begun (reads ++ z)).mode ≡ false → Silent tail) → Silent (map Acted z ++ tail)) (sym none)
          (λ f. f (subst (λ z. is_running (source_after_all row begun z).mode ≡ false) (sym (append-nil reads)) (h.still refl))) f)

pub some_samples : (n m : ℕ) → 0 < m → nat_lt 0 (suc n * m) ≡ true
some_samples n m h = let e : suc n * m ≡ n * m + m = suc-mul n m in let l : 0 < suc n * m = omega (arith, e) in lt-ltb 0 (suc n * m) l

-- a draw of no blocks has no acts, and one of some needs samples
pub draws_none : (done : Bool) (row : SourceRow) (s : SourceState) (acts : List SourceAct) → 0 < need_of_block row
    → is_running s.mode ≡ false → Draw done row s acts → acts ≡ []
draws_none done row s acts take idle (lens, end, drawn, fails, run) = by (sum (map (λ n. blocks_for row n) lens)) drawn run where
  by : (n : ℕ) → Draws row (found_in row.cutoffs s.tail) n s [] [] acts end → (nat_lt 0 (n * need_of_block row) ≡ true → is_running s.mode ≡ true) → acts ≡ []
  by zero d run = d.0
  by (suc n) d run =
      let more : nat_lt 0 (suc n * need_of_block row) ≡ true = some_samples n (need_of_block row) take in
      let yes : is_running s.mode ≡ true = run more in cc

-- a refusal has a code other than 0
abbrev Coded : List ReplyRow → Type 0
Coded [] = Unit {0}
Coded (r ∷ rows) = ((r.reply.code == 0) ≡ false) × Coded rows

coded_if : (b : Bool) (r x : Reply) (y : Option Reply) → (r.code == 0) ≡ false → (y ≡ Some x → (x.code == 0) ≡ false) → (if b then Some r else y) ≡ Some x → (x.code == 0) ≡ false
coded_if true r x y c f h = let same : r ≡ x = cc in subst (λ (z : Reply). (z.code == 0) ≡ false) same c
coded_if false r x y c f h = f h

coded : (rows : List ReplyRow) (x : Reply) → Coded rows → first_reply rows ≡ Some x → (x.code == 0) ≡ false
coded [] x c h = cc
coded (r ∷ rows) x (c, cs) h = coded_if r.stands r.reply x (first_reply rows) c (λ i. coded rows x cs i) h

pub refusal_coded : (p : Tree) (c : Call) (string : List ℕ) (ch : Chain) (x : Reply) → refusal p c string ch ≡ Some x → (x.code == 0) ≡ false
refusal_coded p c string ch x h = coded (plain_rows p c string ++ chain_rows c ch) x (refl, (refl, (refl, (refl, (refl, (refl, (refl, (refl, (refl, (refl, (refl, tt))))))))))) h

four : (a b c d : Bool) → (a && b && c && not d) ≡ true → (a ≡ true) × (b ≡ true) × (c ≡ true) × (d ≡ false)
four true true true false h = (refl, refl, refl, refl)
four true true true true h = cc
four true true false d h = cc
four true false c d h = cc
four false b c d h = cc

module _ (p : Tree) (s : States) (j : ℕ) (e : Entry) where
  needs_run_by : (found : List ℕ → List ℕ → Option Alarm) (ls : List Link) (tap : Option SourceLink) → IsSourceOf p s tap → (whole : Option Reply)
      → refusal p e.call e.string (record { links = ls; source = tap }) ≡ whole
      → MatchOption whole (Serves found (record { links = ls; source = tap }) e e.call) (λ reply. AnswersBy e [] reply [])
      → needs (source_slot p j) e (record { links = ls; source = tap }) ≡ true → is_running (source_in (s (source_slot p j))).mode ≡ true
  needs_run_by found ls None fit whole r a h = cc
  needs_run_by found ls (Some t) fit (Some reply) r a h =
      let parts = four (t.slot == source_slot p j) (e.reply.code == 0) (nat_lt 0 (need e.call (record { links = ls; source = Some t }))) (is_start e.call) h in
      let code : (reply.code == 0) ≡ false = refusal_coded p e.call e.string (record { links = ls; source = Some t }) reply r in
      let same : (e.reply.code == 0) ≡ (reply.code == 0) = ap (λ (x : Reply). x.code == 0) a.reply_is in
      let yes : (e.reply.code == 0) ≡ true = parts.1 in cc
  needs_run_by found ls (Some t) fit None r a h =
      let parts = four (t.slot == source_slot p j) (e.reply.code == 0) (nat_lt 0 (need e.call (record { links = ls; source = Some t }))) (is_start e.call) h in
      let run : is_running t.state.mode ≡ true = runs p e.call e.string (record { links = ls; source = Some t }) r parts.3 parts.2 in
      let at : t.slot ≡ source_slot p j = eqb-true t.slot (source_slot p j) parts.0 in
      let slot : t.slot ≡ source_slot p t.number = ap (λ (z : SourceLink). z.slot) fit in
      let state : t.state ≡ source_in (s (source_slot p t.number)) = ap (λ (z : SourceLink). z.state) fit in
      let place : source_slot p t.number ≡ source_slot p j = sym slot ∙ at in
      subst (λ k. is_running (source_in (s k)).mode ≡ true) place (subst (λ (z : SourceState). is_running z.mode ≡ true) state run)

  pub needs_run : Fits p s e → needs (source_slot p j) e (chain_of p s e.call e.string) ≡ true → is_running (source_in (s (source_slot p j))).mode ≡ true
  needs_run f h =
      let ch = chain_of p s e.call e.string in
      needs_run_by (found_by ch.source) ch.links ch.source (chain_fits p s e.call (first_reply (plain_rows p e.call e.string))) (refusal p e.call e.string ch) refl f.answer h

not_both : (b : Bool) → b ≡ false → b ≡ true → ⊥
not_both b h i = cc

-- a flag that isn't true lets silence go on
flag_silent : (b : Bool) (tail : List Event) → (b ≡ true → ⊥) → Silent tail → Silent (Ended b ∷ tail)
flag_silent true tail h q = h refl
flag_silent false tail h q = q

silent_from : (p : Tree) (j : ℕ) → TakeSamples p → (s : States) (es : List Entry) → IsSource (s (source_slot p j))
    → is_running (source_in (s (source_slot p j))).mode ≡ false → Legal p s es → Silent (events p s (source_slot p j) es)
silent_from p j take s [] is idle legal = tt
silent_from p j take s (e ∷ es) is idle (fit, legal) =
    let k = source_slot p j in
    let row = source_row p j in
    let x = source_in (s k) in
    let acts = at_slot k e.acts in
    let ch = chain_of p s e.call e.string in
    let never : needs k e ch ≡ true → ⊥ = λ h. not_both (is_running x.mode) idle (needs_run p s j e fit h) in
    let on : is_running (source_after_all row x acts).mode ≡ false → Silent (Ended (needs k e ch) ∷ events p (λ i. after p i (s i) e) k es) =
    λ h. flag_silent (needs k e ch) _ never (silent_from p j take (λ i. after p i (s i) e) es (source_next p k (s k) (own k e.acts) is).1
    (ap (λ (z : SourceState). is_running z.mode) (next_source p s j e is) ∙ h) legal) in
    let tail = Ended (needs k e ch) ∷ events p (λ i. after p i (s i) e) k es in
    let empty : acts ≡ [] → Silent (map Acted acts ++ tail) =
    λ none. subst (λ z. (is_running (source_after_all row x z).mode ≡ false → Silent tail) → Silent (map Acted z ++ tail)) (sym none) (λ f. f idle) on in
    elim (does p s j e fit) [
      | inl none ↦ empty none
      | inr more ↦ elim more [
        | inl draw ↦ empty (draws_none (e.reply.code == 0) row x acts (take j) idle draw)
        | inr start ↦ start_silent row x acts start.0 tail start.1 on
      ]
    ]

does_last : (done : Bool) (row : SourceRow) (s : SourceState) (acts : List SourceAct) → Does done row s acts → AlarmLast done acts
does_last done row s acts d = elim d [
  | inl none ↦ subst (λ z. AlarmLast done z) (sym none) tt
  | inr more ↦ elim more [
    | inl draw ↦ draws_last done row (found_in row.cutoffs s.tail) _ s [] [] acts draw.1 draw.2 draw.3
    | inr start ↦ start_last done row s acts start.0 start.1 start.2
  ]
]

needs_done : (k : ℕ) (e : Entry) (ls : List Link) (tap : Option SourceLink) → (e.reply.code == 0) ≡ false → needs k e (record { links = ls; source = tap }) ≡ true → ⊥
needs_done k e ls None h i = cc
needs_done k e ls (Some t) h i =
    let parts = four (t.slot == k) (e.reply.code == 0) (nat_lt 0 (need e.call (record { links = ls; source = Some t }))) (is_start e.call) i in
    not_both (e.reply.code == 0) h parts.1

flag_quiet : (b : Bool) (tail : List Event) → IsQuiet tail → IsQuiet (Ended b ∷ tail)
flag_quiet true tail q = q
flag_quiet false tail q = q

quiet_from : (p : Tree) (j : ℕ) → TakeSamples p → (s : States) (es : List Entry) → IsSource (s (source_slot p j))
    → Legal p s es → IsQuiet (events p s (source_slot p j) es)
quiet_from p j take s [] is legal = tt
quiet_from p j take s (e ∷ es) is (fit, legal) =
    let k = source_slot p j in
    let row = source_row p j in
    let x = source_in (s k) in
    let acts = at_slot k e.acts in
    let ch = chain_of p s e.call e.string in
    let next : States = λ i. after p i (s i) e in
    let is_next = (source_next p k (s k) (own k e.acts) is).1 in
    quiet_acts (e.reply.code == 0) row x acts (Ended (needs k e ch) ∷ events p next k es)
    (does_last (e.reply.code == 0) row x acts (does p s j e fit))
    (flag_quiet (needs k e ch) (events p next k es) (quiet_from p j take next es is_next legal))
    (λ done h. flag_silent (needs k e ch) (events p next k es) (needs_done k e ch.links ch.source done)
    (silent_from p j take next es is_next (ap (λ (z : SourceState). is_running z.mode) (next_source p s j e is) ∙ h) legal))

-- every legal history over an opening is quiet
pub quiet : (f : Opening) (es : List Entry) → TakeSamples f.plan → Legal f.plan (opened f) es → Quiet f.plan (opened f) es
quiet f es take legal j = quiet_from f.plan j take (opened f) es (opened_is_source f j) legal
