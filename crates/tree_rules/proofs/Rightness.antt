-- Right after a history is fitting the states after it.
use Rattle.std.proofs.Common.{◌≡◌, ◌∙◌, ◌++◌, ◌∷◌, ◌+◌, ◌-◌, ◌*◌, ◌<◌, ℕ, List, [], zero, suc, Bool, true, false, length, map, refl, sym, ap, subst, arith, inl, inr, append-nil}
use Rattle.std.specs.Prelude.{◌==◌, Option, Some, None, Result, Ok, Err, MatchOption, MatchResult, option_map, nat_lt, take, sum}
use Rattle.conditioner.specs.Conditioned.{conditioned}
use Rattle.entropy_source.specs.Counted.{tested_after}
use Rattle.entropy_source.specs.Draws.{Draws, Gathers, found_in}
use Rattle.entropy_source.specs.Source.{Alarmed, Began, Block, Read, SourceAct, SourceState, Started, blocks_for, given, need_of_block, source_after, source_after_all}
use Rattle.entropy_source.specs.declared.answers.SourceRefusal.{SourceRefusal}
use Rattle.entropy_source.specs.declared.answers.SourceRefusal.TheVariants.{HealthFailed}
use Rattle.entropy_source.specs.declared.answers.SourceRow.{SourceRow}
use Rattle.health_tests.proofs.Alarms.{alarm_tells}
use Rattle.health_tests.proofs.Counting.{tail_begins, tail_grows}
use Rattle.health_tests.specs.Numbers.{alarm_from, tail_after, tail_of}
use Rattle.health_tests.specs.Windows.{alarm_in}
use Rattle.health_tests.specs.declared.numbers.Tail.{Tail}
use Rattle.health_tests.specs.declared.windows.Alarm.{Alarm}
use Rattle.tree_config.specs.Tree.{Tree}
use Rattle.tree_rules.specs.Chain.{Chain, SourceLink, wants_of}
use Rattle.tree_rules.specs.Fits.{AnswersBy, DrawsAndWorks, Fits, Follows, Legal, Serves, done, found_by}
use Rattle.tree_rules.specs.History.{Entry, Opening, SlotAct, SlotState, States, acts_of, after, at_slot, has, opened, own, slot_after, slot_after_all, source_in, sources_in, state_of, states_after}
use Rattle.tree_rules.specs.Links.{Link}
use Rattle.tree_rules.specs.Replies.{chain_of, first_reply, is_running, is_start, mode_of, plain_rows, refusal}
use Rattle.tree_rules.specs.Right.{AreRight, Right, found_after, tested}
use Rattle.tree_rules.specs.Slots.{source_row, source_slot}
use Rattle.tree_rules.specs.Sources.{Does}
use Rattle.tree_rules.specs.declared.call.Call.{Call}
use Rattle.tree_rules.specs.declared.call.Call.TheVariants.{Generate, Instantiate, Reseed, Start, Status, Uninstantiate}
use Rattle.tree_rules.specs.declared.reply.Reply.{Reply}
use Rattle.tree_rules.proofs.Leaves.{own-append}
use Rattle.tree_rules.proofs.Sources.{IsSourceOf, runs, need_is, does, chain_fits}
use Rattle.tree_rules.proofs.Parting.{after_append, IsSource, source_next, place_of, next_source, opened_source_is, opened_is_source}
use Rattle.tree_rules.proofs.Quieting.{some_samples}
use Rattle.tree_rules.proofs.Plans.{TakeSamples}
use Rattle.entropy_source.specs.Draws as draws
use mathlib.Core.Path.{fun_ext}

-- the states after a history are the folds over all its acts
pub slot-append : (p : Tree) (k : ℕ) (x : SlotState) (xs ys : List SlotAct) → slot_after_all p k x (xs ++ ys) ≡ slot_after_all p k (slot_after_all p k x xs) ys
slot-append p k x [] ys = refl
slot-append p k x (a ∷ xs) ys = slot-append p k (slot_after p k x a) xs ys

folded : (p : Tree) (k : ℕ) (s : States) (h : List Entry) → slot_after_all p k (s k) (own k (acts_of h)) ≡ states_after p s h k
folded p k s [] = refl
folded p k s (e ∷ es) =
    ap (slot_after_all p k (s k)) (own-append k e.acts (acts_of es))
    ∙ (slot-append p k (s k) (own k e.acts) (own k (acts_of es)) ∙ folded p k (λ i. after p i (s i) e) es)

pub states_same : (f : Opening) (h : List Entry) (k : ℕ) → state_of f h k ≡ states_after f.plan (opened f) h k
states_same f h k = folded f.plan k (opened f) h

-- the numbers that the tests keep are those of the samples since the last start
abbrev pub Tells : ℕ → List ℕ → Option Tail → Type 0
Tells w x None = Unit {0}
Tells w x (Some t) = t ≡ tail_of w x

abbrev pub HasTail : Option Tail → Type 0
HasTail None = ⊥
HasTail (Some t) = Unit {0}

module _ (row : SourceRow) where
  tells_read : (x got : List ℕ) (t : Option Tail) → Tells row.cutoffs.window x t
      → Tells row.cutoffs.window (x ++ got) (option_map (λ t. tail_after row.cutoffs.window t got) t)
  tells_read x got None h = tt
  tells_read x got (Some t) h = ap (λ z. tail_after row.cutoffs.window z got) h ∙ tail_grows row.cutoffs.window x got

  pub tells_all : (x : List ℕ) (s : SourceState) (acts : List SourceAct) → Tells row.cutoffs.window x s.tail
      → Tells row.cutoffs.window (tested_after x acts) (source_after_all row s acts).tail
  tells_all x s [] h = h
  tells_all x s (Began ∷ acts) h = tells_all [] (source_after row s Began) acts (sym (tail_begins row.cutoffs.window))
  tells_all x s (Read asked got count ∷ acts) h = tells_all (x ++ given got) (source_after row s (Read asked got count)) acts (tells_read x (given got) s.tail h)
  tells_all x s (Alarmed index test ∷ acts) h = tells_all x (source_after row s (Alarmed index test)) acts tt
  tells_all x s (Started ∷ acts) h = tells_all x (source_after row s Started) acts h
  tells_all x s (Block a b c ∷ acts) h = tells_all x (source_after row s (Block a b c)) acts h

-- a source that runs has the numbers
abbrev pub RunsTold : SourceState → Type 0
RunsTold s = is_running s.mode ≡ true → HasTail s.tail

has_read : (w : ℕ) (got : List ℕ) (t : Option Tail) → HasTail t → HasTail (option_map (λ t. tail_after w t got) t)
has_read w got None h = h
has_read w got (Some t) h = tt

-- acts that start nothing keep that
abbrev StartsNone : List SourceAct → Type 0
StartsNone [] = Unit {0}
StartsNone (Started ∷ acts) = ⊥
StartsNone (_ ∷ acts) = StartsNone acts

module _ (row : SourceRow) where
  told_on : (s : SourceState) (acts : List SourceAct) → StartsNone acts → RunsTold s → RunsTold (source_after_all row s acts)
  told_on s [] n h = h
  told_on s (Began ∷ acts) n h = told_on (source_after row s Began) acts n (λ r. tt)
  told_on s (Read asked got count ∷ acts) n h = told_on (source_after row s (Read asked got count)) acts n (λ r. has_read row.cutoffs.window (given got) s.tail (h r))
  told_on s (Alarmed index test ∷ acts) n h = told_on (source_after row s (Alarmed index test)) acts n (λ r. cc)
  told_on s (Started ∷ acts) n h = absurd n
  told_on s (Block a b c ∷ acts) n h = told_on (source_after row s (Block a b c)) acts n h

  module _ (found : List ℕ → List ℕ → Option Alarm) where
    record Reading (s : SourceState) (acts : List SourceAct) (end : Result (List ℕ) SourceRefusal) : Type 0 where
      pub none : (tail : List SourceAct) → StartsNone tail → StartsNone (acts ++ tail)
      pub keeps : (block : List ℕ) → end ≡ Ok block → HasTail s.tail → HasTail (source_after_all row s acts).tail

    reading : (lacks : ℕ) (s : SourceState) (has read : List ℕ) (acts : List SourceAct) (end : Result (List ℕ) SourceRefusal)
        → Gathers row found lacks s has read acts end → Reading s acts end
    reading lacks s has read [] end (a, b) = record { none = λ t n. n; keeps = λ b e h. h }
    reading lacks s has read (Read asked None count ∷ acts) end (a, b, c, d, e) =
        record { none = λ t n. subst (λ z. StartsNone (z ++ t)) (sym d) n; keeps = λ b f h. cc }
    reading lacks s has read (Read asked (Some []) count ∷ acts) end (a, b, c, d, e) =
        record { none = λ t n. subst (λ z. StartsNone (z ++ t)) (sym d) n; keeps = λ b f h. cc }
    reading lacks s has read (Read asked (Some (x ∷ xs)) count ∷ acts) end (a, b, c, g) =
        let r = by (found read (x ∷ xs)) (λ h. reading (lacks - length (x ∷ xs)) next (has ++ x ∷ xs) (read ++ x ∷ xs) acts end h) g in
        record { none = r.none; keeps = λ b f h. r.keeps b f (has_read row.cutoffs.window (x ∷ xs) s.tail h) } where
          next : SourceState
          next = source_after row s (Read asked (Some (x ∷ xs)) count)

          by : (o : Option Alarm)
              → (Gathers row found (lacks - length (x ∷ xs)) next (has ++ x ∷ xs) (read ++ x ∷ xs) acts end → Reading next acts end)
              → MatchOption o (Gathers row found (lacks - length (x ∷ xs)) next (has ++ x ∷ xs) (read ++ x ∷ xs) acts end)
              (λ f. (acts ≡ Alarmed (s.taken + f.at) f.test ∷ []) × (end ≡ Err (HealthFailed (s.taken + f.at) f.test)))
              → Reading next acts end
          by None ih h = ih h
          by (Some f) ih (d, e) = record { none = λ t n. subst (λ z. StartsNone (z ++ t)) (sym d) n; keeps = λ b i h. cc }
    reading lacks s has read (Began ∷ acts) end g = absurd g
    reading lacks s has read (Alarmed i t ∷ acts) end g = absurd g
    reading lacks s has read (Started ∷ acts) end g = absurd g
    reading lacks s has read (Block a b c ∷ acts) end g = absurd g

    draws_start_none : (n : ℕ) (s : SourceState) (read out : List ℕ) (acts : List SourceAct) (end : Result (List ℕ) SourceRefusal)
        → Draws row found n s read out acts end → StartsNone acts
    draws_start_none zero s read out acts end (none, is) = subst (λ z. StartsNone z) (sym none) tt
    draws_start_none (suc n) s read out acts end (reads, back, x, are, g, more) =
        subst (λ z. StartsNone z) (sym are) ((reading (need_of_block row) s [] read reads x g).none back
        (by x more (λ s read out acts d. draws_start_none n s read out acts end d))) where
          by : (x : Result (List ℕ) SourceRefusal) → MatchResult x
              (λ block. let bytes = conditioned row.cond block in
              let now = source_after_all row s reads in
              let made = Block s.taken now.taken bytes in
              (more : List SourceAct) × (back ≡ made ∷ more)
              × Draws row found n (source_after row now made) (read ++ block) (out ++ bytes) more end)
              (λ why. (back ≡ []) × (end ≡ Err why))
              → ((s : SourceState) (read out : List ℕ) (acts : List SourceAct) → Draws row found n s read out acts end → StartsNone acts)
              → StartsNone back
          by (Ok block) (tail, is, d) ih = subst (λ z. StartsNone z) (sym is) (ih _ _ _ tail d)
          by (Err why) (none, is) ih = subst (λ z. StartsNone z) (sym none) tt

  start_told : (s : SourceState) (acts : List SourceAct) (end : Result (List ℕ) SourceRefusal) → draws.Start row s acts end → RunsTold (source_after_all row s acts)
  start_told s acts end (reads, back, x, are, g, more) =
      subst (λ z. RunsTold (source_after_all row s z)) (sym are)
      (subst (λ (z : SourceState). RunsTold z) (sym (after_append row begun reads back)) (by x (reading (alarm_in row.cutoffs) row.startup begun [] [] reads x g) more)) where
        begun : SourceState
        begun = source_after row s Began

        now : SourceState
        now = source_after_all row begun reads

        by : (x : Result (List ℕ) SourceRefusal) → Reading (alarm_in row.cutoffs) begun reads x
            → MatchResult x (λ _. (back ≡ Started ∷ []) × (end ≡ Ok [])) (λ why. (back ≡ []) × (end ≡ Err why)) → RunsTold (source_after_all row now back)
        by (Ok block) r (is, e) = subst (λ z. RunsTold (source_after_all row now z)) (sym is) (λ run. r.keeps block refl tt)
        by (Err why) r (none, is) = subst (λ z. RunsTold (source_after_all row now z)) (sym none)
            (told_on begun reads (subst (λ z. StartsNone z) (append-nil reads) (r.none [] tt)) (λ run. tt))

  pub does_told : (done : Bool) (s : SourceState) (acts : List SourceAct) → Does done row s acts → RunsTold s → RunsTold (source_after_all row s acts)
  does_told done s acts d h = elim d [
    | inl none ↦ subst (λ z. RunsTold (source_after_all row s z)) (sym none) h
    | inr more ↦ elim more [
      | inl draw ↦ told_on s acts (draws_start_none (found_in row.cutoffs s.tail) _ s [] [] acts draw.1 draw.2) h
      | inr start ↦ start_told s acts start.0 start.1
    ]
  ]

-- two ways to tell alarms that agree while the source runs answer alike
module _ (found other : List ℕ → List ℕ → Option Alarm) where
  draws_other : (row : SourceRow) (n : ℕ) (s : SourceState) (acts : List SourceAct) (end : Result (List ℕ) SourceRefusal)
      → (0 < n → found ≡ other) → Draws row found n s [] [] acts end → Draws row other n s [] [] acts end
  draws_other row zero s acts end same d = d
  draws_other row (suc n) s acts end same d =
      let more : 0 < suc n = omega arith in subst (λ f. Draws row f (suc n) s [] [] acts end) (same more) d

  works_other : (p : Tree) (e : Entry) (c : Call) (ls : List Link) (source : Option SourceLink)
      → MatchOption source (Unit {0}) (λ t. 0 < need_of_block t.row)
      → is_start c ≡ false → refusal p c e.string (record { links = ls; source = source }) ≡ None
      → (is_running (mode_of source) ≡ true → found ≡ other)
      → DrawsAndWorks found c ls (wants_of c ls source) source e → DrawsAndWorks other c ls (wants_of c ls source) source e
  works_other p e c ls None take start free same w = w
  works_other p e c ls (Some t) take start free same (acts, end, drawn, answer) =
      let lens = wants_of c ls (Some t) in (
        acts,
        end,
        draws_other t.row (sum (map (λ n. blocks_for t.row n) lens)) t.state acts end
            (λ more. same (runs p c e.string (record { links = ls; source = Some t }) free start
            (ap (λ n. nat_lt 0 n) (need_is c t lens start)
            ∙ positive (sum (map (λ n. blocks_for t.row n) lens)) (need_of_block t.row) more take))) drawn,
        answer,
      ) where
        positive : (n m : ℕ) → 0 < n → 0 < m → nat_lt 0 (n * m) ≡ true
        positive zero m h take = absurd (omega arith)
        positive (suc n) m h take = some_samples n m take

  serves_other : (p : Tree) (e : Entry) (ch : Chain) (c : Call)
      → MatchOption ch.source (Unit {0}) (λ t. 0 < need_of_block t.row)
      → refusal p c e.string ch ≡ None → (is_running (mode_of ch.source) ≡ true → found ≡ other) → Serves found ch e c → Serves other ch e c
  serves_other p e ch (Start j) take free same w = w
  serves_other p e ch (Uninstantiate n) take free same w = w
  serves_other p e ch (Status n) take free same w = w
  serves_other p e ch (Instantiate n x) take free same w = works_other p e (Instantiate n x) ch.links ch.source take refl free same w
  serves_other p e ch (Generate n x y z) take free same w = works_other p e (Generate n x y z) ch.links ch.source take refl free same w
  serves_other p e ch (Reseed n z) take free same w = works_other p e (Reseed n z) ch.links ch.source take refl free same w

  pub follows_other : (p : Tree) (e : Entry) (ch : Chain) → MatchOption ch.source (Unit {0}) (λ t. 0 < need_of_block t.row)
      → (is_running (mode_of ch.source) ≡ true → found ≡ other) → Follows p found ch e → Follows p other ch e
  follows_other p e ch take same f = record { chain_is = f.chain_is; answer = by (refusal p e.call e.string ch) refl f.answer } where
    by : (whole : Option Reply) → refusal p e.call e.string ch ≡ whole
        → MatchOption whole (Serves found ch e e.call) (λ reply. AnswersBy e [] reply [])
        → MatchOption whole (Serves other ch e e.call) (λ reply. AnswersBy e [] reply [])
    by None free w = serves_other p e ch e.call take free same w
    by (Some reply) r w = w

-- in every legal history a source that runs has the numbers
pub told_after : (p : Tree) (j : ℕ) (s : States) (es : List Entry) → IsSource (s (source_slot p j)) → RunsTold (source_in (s (source_slot p j))) → Legal p s es
    → RunsTold (source_in (states_after p s es (source_slot p j))) × IsSource (states_after p s es (source_slot p j))
told_after p j s [] is h legal = (h, is)
told_after p j s (e ∷ es) is h (fit, legal) =
    let k = source_slot p j in
    let next : RunsTold (source_in (after p k (s k) e)) = subst (λ (z : SourceState). RunsTold z) (sym (next_source p s j e is))
    (does_told (source_row p j) (e.reply.code == 0) (source_in (s k)) (at_slot k e.acts) (does p s j e fit) h) in
    told_after p j (λ i. after p i (s i) e) es (source_next p k (s k) (own k e.acts) is).1 next legal

module _ (f : Opening) (take : TakeSamples f.plan) (h : List Entry) (legal : Legal f.plan (opened f) h) where
  abbrev now : States
  now = states_after f.plan (opened f) h

  -- the numbers of source j after the history
  tells_now : (j : ℕ) → Tells (source_row f.plan j).cutoffs.window (tested (source_slot f.plan j) h) (source_in (now (source_slot f.plan j))).tail
  tells_now j =
      let k = source_slot f.plan j in
      let row = source_row f.plan j in
      let is : source_in (now k) ≡ source_after_all row (source_in (opened f k)) (sources_in (own k (acts_of h))) =
      ap source_in (sym (states_same f h k))
      ∙ ((source_next f.plan k (opened f k) (own k (acts_of h)) (opened_is_source f j)).0
      ∙ ap (λ i. source_after_all (source_row f.plan i) (source_in (opened f k)) (sources_in (own k (acts_of h)))) (place_of (length f.plan.nodes) j)) in
      let first : Tells row.cutoffs.window [] (source_in (opened f k)).tail =
      subst (λ x. Tells row.cutoffs.window [] (source_in x).tail) (sym (opened_source_is f j)) (sym (tail_begins row.cutoffs.window)) in
      subst (λ (z : SourceState). Tells row.cutoffs.window (tested k h) z.tail) (sym is)
      (tells_all row [] (source_in (opened f k)) (sources_in (own k (acts_of h))) first)

  runs_now : (j : ℕ) → RunsTold (source_in (now (source_slot f.plan j)))
  runs_now j = (told_after f.plan j (opened f) h (opened_is_source f j)
      (subst (λ x. RunsTold (source_in x)) (sym (opened_source_is f j)) (λ r. tt)) legal).0

  found_same : (tap : Option SourceLink) → IsSourceOf f.plan now tap → is_running (mode_of tap) ≡ true → (read more : List ℕ) → found_after h tap read more ≡ found_by tap read more
  found_same None fit run read more = refl
  found_same (Some t) fit run read more =
      let j = t.number in
      let state : t.state ≡ source_in (now (source_slot f.plan j)) = ap (λ (z : SourceLink). z.state) fit in
      let row : t.row ≡ source_row f.plan j = ap (λ (z : SourceLink). z.row) fit in
      let slot : t.slot ≡ source_slot f.plan j = ap (λ (z : SourceLink). z.slot) fit in
      let told : HasTail t.state.tail = subst (λ (z : SourceState). RunsTold z) (sym state) (runs_now j) run in
      let tells : Tells t.row.cutoffs.window (tested t.slot h) t.state.tail =
      subst (λ (z : SourceState). Tells t.row.cutoffs.window (tested t.slot h) z.tail) (sym state)
      (subst (λ (r : SourceRow). Tells r.cutoffs.window (tested t.slot h) (source_in (now (source_slot f.plan j))).tail) (sym row)
      (subst (λ k. Tells (source_row f.plan j).cutoffs.window (tested k h) (source_in (now (source_slot f.plan j))).tail) (sym slot) (tells_now j))) in
      by t.state.tail refl told tells where
        by : (x : Option Tail) → t.state.tail ≡ x → HasTail x → Tells t.row.cutoffs.window (tested t.slot h) x → found_after h (Some t) read more ≡ found_by (Some t) read more
        by None is told tells = absurd told
        by (Some tail) is told tells =
            sym (alarm_tells t.row.cutoffs (tested t.slot h ++ read) more)
            ∙ (ap (λ z. alarm_from t.row.cutoffs z more) (sym (tail_grows t.row.cutoffs.window (tested t.slot h) read))
            ∙ (ap (λ z. alarm_from t.row.cutoffs (tail_after t.row.cutoffs.window z read) more) (sym tells)
            ∙ ap (λ z. found_in t.row.cutoffs z read more) (sym is)))

  same_states : state_of f h ≡ now
  same_states = fun_ext (λ k. states_same f h k)

  takes : (c : Call) (string : List ℕ) → MatchOption (chain_of f.plan now c string).source (Unit {0}) (λ t. 0 < need_of_block t.row)
  takes c string = by (chain_of f.plan now c string).source (chain_fits f.plan now c (first_reply (plain_rows f.plan c string))) where
    by : (tap : Option SourceLink) → IsSourceOf f.plan now tap → MatchOption tap (Unit {0}) (λ t. 0 < need_of_block t.row)
    by None fit = tt
    by (Some t) fit = subst (λ (r : SourceRow). 0 < need_of_block r) (sym (ap (λ (z : SourceLink). z.row) fit)) (take t.number)

  abbrev RightAt : States → Entry → Type 0
  RightAt s e = let ch = chain_of f.plan s e.call e.string in Follows f.plan (found_after h ch.source) ch e

  same_found : (e : Entry) → is_running (mode_of (chain_of f.plan now e.call e.string).source) ≡ true
      → found_after h (chain_of f.plan now e.call e.string).source ≡ found_by (chain_of f.plan now e.call e.string).source
  same_found e run = fun_ext (λ read. fun_ext (λ more. found_same (chain_of f.plan now e.call e.string).source
      (chain_fits f.plan now e.call (first_reply (plain_rows f.plan e.call e.string))) run read more))

  -- an entry that is right after the history fits the states after it
  pub right_fits : (e : Entry) → Right f h e → Fits f.plan now e
  right_fits e r =
      let ch = chain_of f.plan now e.call e.string in
      follows_other (found_after h ch.source) (found_by ch.source) f.plan e ch (takes e.call e.string) (same_found e) (subst (λ s. RightAt s e) same_states r)

  -- and the other way round
  pub fits_right : (e : Entry) → Fits f.plan now e → Right f h e
  fits_right e r =
      let ch = chain_of f.plan now e.call e.string in
      subst (λ s. RightAt s e) (sym same_states)
      (follows_other (found_by ch.source) (found_after h ch.source) f.plan e ch (takes e.call e.string) (λ run. sym (same_found e run)) r)

-- Each entry right after those before it, or each fitting the states that those leave: it is the same.
module _ (f : Opening) (take : TakeSamples f.plan) where
  states_snoc : (p : Tree) (s : States) (h : List Entry) (e : Entry) (k : ℕ) → states_after p s (h ++ e ∷ []) k ≡ after p k (states_after p s h k) e
  states_snoc p s [] e k = refl
  states_snoc p s (x ∷ xs) e k = states_snoc p (λ i. after p i (s i) x) xs e k

  legal_snoc : (p : Tree) (s : States) (h : List Entry) (e : Entry) → Legal p s h → Fits p (states_after p s h) e → Legal p s (h ++ e ∷ [])
  legal_snoc p s [] e l g = (g, tt)
  legal_snoc p s (x ∷ xs) e (fit, l) g = (fit, legal_snoc p (λ i. after p i (s i) x) xs e l g)

  pub history_legal : (h es : List Entry) → Legal f.plan (opened f) h → AreRight f h es → Legal f.plan (states_after f.plan (opened f) h) es
  history_legal h [] l r = tt
  history_legal h (e ∷ es) l (right, r) =
      let fit = right_fits f take h l e right in (
        fit,
        subst (λ s. Legal f.plan s es) (fun_ext (λ k. states_snoc f.plan (opened f) h e k))
            (history_legal (h ++ e ∷ []) es (legal_snoc f.plan (opened f) h e l fit) r),
      )

  pub legal_history : (h es : List Entry) → Legal f.plan (opened f) h → Legal f.plan (states_after f.plan (opened f) h) es → AreRight f h es
  legal_history h [] l r = tt
  legal_history h (e ∷ es) l (fit, r) = (
    fits_right f take h l e fit,
    legal_history (h ++ e ∷ []) es (legal_snoc f.plan (opened f) h e l fit)
        (subst (λ s. Legal f.plan s es) (sym (fun_ext (λ k. states_snoc f.plan (opened f) h e k))) r),
  )
