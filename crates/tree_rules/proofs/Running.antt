-- A source that runs had no alarm among the samples that its tests saw.
use Rattle.std.proofs.Common.{◌≡◌, ◌∙◌, ◌++◌, ◌∷◌, ◌+◌, ◌-◌, ◌<◌, ℕ, List, [], zero, suc, Bool, true, false, length, refl, sym, ap, subst, inl, inr, append-nil, append_assoc}
use Rattle.std.specs.Prelude.{◌==◌, Option, Some, None, Result, Ok, Err, MatchOption, MatchResult, take}
use Rattle.conditioner.specs.Conditioned.{conditioned}
use Rattle.entropy_source.specs.Counted.{tested_after}
use Rattle.entropy_source.specs.Draws.{Draws, Gathers, found_in}
use Rattle.entropy_source.specs.Source.{Alarmed, Began, Block, Read, SourceAct, SourceState, Started, given, need_of_block, source_after, source_after_all}
use Rattle.entropy_source.specs.declared.answers.SourceRefusal.{SourceRefusal}
use Rattle.entropy_source.specs.declared.answers.SourceRefusal.TheVariants.{HealthFailed}
use Rattle.entropy_source.specs.declared.answers.SourceRow.{SourceRow}
use Rattle.health_tests.proofs.Alarms.{alarm_tells}
use Rattle.health_tests.proofs.Counting.{tail_begins, tail_grows}
use Rattle.health_tests.proofs.Longer.{first_later}
use Rattle.health_tests.specs.Cutoffs.{Limits}
use Rattle.health_tests.specs.Numbers.{alarm_from, tail_after}
use Rattle.health_tests.specs.Windows.{alarm_in, first_alarm, further}
use Rattle.health_tests.specs.declared.numbers.Tail.{Tail}
use Rattle.health_tests.specs.declared.windows.Alarm.{Alarm}
use Rattle.tree_config.specs.Tree.{Tree}
use Rattle.tree_rules.specs.Fits.{Legal, done}
use Rattle.tree_rules.specs.History.{Entry, Opening, States, acts_of, after, at_slot, has, opened, own, source_in, states_after}
use Rattle.tree_rules.specs.Replies.{is_running}
use Rattle.tree_rules.specs.Right.{tested}
use Rattle.tree_rules.specs.Slots.{source_row, source_slot}
use Rattle.tree_rules.specs.Sources.{Does, Draw}
use Rattle.tree_rules.proofs.Sources.{at_slot-append, does}
use Rattle.tree_rules.proofs.Parting.{after_append, IsSource, source_next, next_source, opened_source_is, opened_is_source}
use Rattle.tree_rules.proofs.Quieting.{draws_none}
use Rattle.tree_rules.proofs.Plans.{TakeSamples}
use Rattle.tree_rules.proofs.Rightness.{Tells, HasTail, RunsTold, tells_all, does_told}
use Rattle.entropy_source.specs.Draws as draws

-- where the source runs, these samples have no alarm
abbrev CleanRuns : SourceRow → List ℕ → SourceState → Type 0
CleanRuns row x s = is_running s.mode ≡ true → first_alarm row.cutoffs x ≡ None

tested-append : (x : List ℕ) (xs ys : List SourceAct) → tested_after x (xs ++ ys) ≡ tested_after (tested_after x xs) ys
tested-append x [] ys = refl
tested-append x (Began ∷ xs) ys = tested-append [] xs ys
tested-append x (Read asked got count ∷ xs) ys = tested-append (x ++ given got) xs ys
tested-append x (Alarmed i t ∷ xs) ys = tested-append x xs ys
tested-append x (Started ∷ xs) ys = tested-append x xs ys
tested-append x (Block a b c ∷ xs) ys = tested-append x xs ys

-- samples without an alarm, and further ones among which none is found
goes_on : (c : Limits) (x got : List ℕ) → first_alarm c x ≡ None → alarm_in c x got ≡ None → first_alarm c (x ++ got) ≡ None
goes_on c x got h i = first_later c x got h ∙ ap (further (length x)) i

module _ (row : SourceRow) (found : List ℕ → List ℕ → Option Alarm) (x : List ℕ)
    (tells : (read got : List ℕ) → found read got ≡ alarm_in row.cutoffs (x ++ read) got) where
  -- what a gathering leaves, behind samples y
  record Cleaned (y : List ℕ) (s : SourceState) (has : List ℕ) (acts : List SourceAct) (end : Result (List ℕ) SourceRefusal) : Type 0 where
    pub full : (block : List ℕ) → end ≡ Ok block
        → (new : List ℕ) × (block ≡ has ++ new) × (tested_after y acts ≡ y ++ new) × (first_alarm row.cutoffs (y ++ new) ≡ None)
    pub clean : is_running (source_after_all row s acts).mode ≡ true → first_alarm row.cutoffs (tested_after y acts) ≡ None

  -- a read that gave nothing and is the last act
  empty_read : (y : List ℕ) (s : SourceState) (has : List ℕ) (asked : ℕ) (got : Option (List ℕ)) (count : ℕ) (acts : List SourceAct)
      (end : Result (List ℕ) SourceRefusal) (why : SourceRefusal) → given got ≡ [] → first_alarm row.cutoffs y ≡ None → acts ≡ [] → end ≡ Err why
      → Cleaned y s has (Read asked got count ∷ acts) end
  empty_read y s has asked got count acts end why none h is e = record {
    full = λ block i. cc;
    clean = λ run. subst (λ z. first_alarm row.cutoffs (tested_after (y ++ given got) z) ≡ None) (sym is)
        (subst (λ z. first_alarm row.cutoffs (y ++ z) ≡ None) (sym none) (subst (λ z. first_alarm row.cutoffs z ≡ None) (sym (append-nil y)) h));
  }

  gathers_clean : (lacks : ℕ) (s : SourceState) (has read : List ℕ) (acts : List SourceAct) (end : Result (List ℕ) SourceRefusal)
      → first_alarm row.cutoffs (x ++ read) ≡ None → Gathers row found lacks s has read acts end → Cleaned (x ++ read) s has acts end
  gathers_clean lacks s has read [] end h (a, b) = record {
    full = λ block i. let is : has ≡ block = cc in
        ([], sym is ∙ sym (append-nil has), sym (append-nil (x ++ read)), subst (λ z. first_alarm row.cutoffs z ≡ None) (sym (append-nil (x ++ read))) h);
    clean = λ run. h;
  }
  gathers_clean lacks s has read (Read asked None count ∷ acts) end h (a, b, c, d, e) = empty_read (x ++ read) s has asked None count acts end _ refl h d e
  gathers_clean lacks s has read (Read asked (Some []) count ∷ acts) end h (a, b, c, d, e) = empty_read (x ++ read) s has asked (Some []) count acts end _ refl h d e
  gathers_clean lacks s has read (Read asked (Some (z ∷ zs)) count ∷ acts) end h (a, b, c, g) =
      by (found read (z ∷ zs)) refl (λ i j. gathers_clean (lacks - length (z ∷ zs)) next (has ++ z ∷ zs) (read ++ z ∷ zs) acts end i j) g where
        next : SourceState
        next = source_after row s (Read asked (Some (z ∷ zs)) count)

        longer : (x ++ read) ++ z ∷ zs ≡ x ++ (read ++ z ∷ zs)
        longer = append_assoc x read (z ∷ zs)

        on : Cleaned ((x ++ read) ++ z ∷ zs) next (has ++ z ∷ zs) acts end → Cleaned (x ++ read) s has (Read asked (Some (z ∷ zs)) count ∷ acts) end
        on r = record {
          full = λ block i. let f = r.full block i in (
            (z ∷ zs) ++ f.0,
            f.1 ∙ append_assoc has (z ∷ zs) f.0,
            f.2 ∙ append_assoc (x ++ read) (z ∷ zs) f.0,
            subst (λ w. first_alarm row.cutoffs w ≡ None) (append_assoc (x ++ read) (z ∷ zs) f.0) f.3,
          );
          clean = r.clean;
        }

        by : (o : Option Alarm) → found read (z ∷ zs) ≡ o
            → (first_alarm row.cutoffs (x ++ (read ++ z ∷ zs)) ≡ None
            → Gathers row found (lacks - length (z ∷ zs)) next (has ++ z ∷ zs) (read ++ z ∷ zs) acts end → Cleaned (x ++ (read ++ z ∷ zs)) next (has ++ z ∷ zs) acts end)
            → MatchOption o (Gathers row found (lacks - length (z ∷ zs)) next (has ++ z ∷ zs) (read ++ z ∷ zs) acts end)
            (λ f. (acts ≡ Alarmed (s.taken + f.at) f.test ∷ []) × (end ≡ Err (HealthFailed (s.taken + f.at) f.test)))
            → Cleaned (x ++ read) s has (Read asked (Some (z ∷ zs)) count ∷ acts) end
        by None is ih g =
            let none : first_alarm row.cutoffs ((x ++ read) ++ z ∷ zs) ≡ None = goes_on row.cutoffs (x ++ read) (z ∷ zs) h (sym (tells read (z ∷ zs)) ∙ is) in
            on (subst (λ w. Cleaned w next (has ++ z ∷ zs) acts end) (sym longer)
            (ih (subst (λ w. first_alarm row.cutoffs w ≡ None) longer none) g))
        by (Some f) is ih (d, e) = record {
          full = λ block i. cc;
          clean = subst (λ w. is_running (source_after_all row next w).mode ≡ true → first_alarm row.cutoffs (tested_after ((x ++ read) ++ z ∷ zs) w) ≡ None)
              (sym d) (λ run. cc);
        }
  gathers_clean lacks s has read (Began ∷ acts) end h g = absurd g
  gathers_clean lacks s has read (Alarmed i t ∷ acts) end h g = absurd g
  gathers_clean lacks s has read (Started ∷ acts) end h g = absurd g
  gathers_clean lacks s has read (Block a b c ∷ acts) end h g = absurd g

  draws_clean : (n : ℕ) (s : SourceState) (read out : List ℕ) (acts : List SourceAct) (end : Result (List ℕ) SourceRefusal)
      → first_alarm row.cutoffs (x ++ read) ≡ None → Draws row found n s read out acts end
      → is_running (source_after_all row s acts).mode ≡ true → first_alarm row.cutoffs (tested_after (x ++ read) acts) ≡ None
  draws_clean zero s read out acts end h (none, is) = subst (λ z. is_running (source_after_all row s z).mode ≡ true → first_alarm row.cutoffs (tested_after (x ++ read) z) ≡ None)
      (sym none) (λ run. h)
  draws_clean (suc n) s read out acts end h (reads, back, e, are, g, more) =
      subst Goal (sym are) (split (by e (gathers_clean (need_of_block row) s [] read reads e h g) more
      (λ s read out acts i d. draws_clean n s read out acts end i d))) where
        now : SourceState
        now = source_after_all row s reads

        Goal : List SourceAct → Type 0
        Goal acts = is_running (source_after_all row s acts).mode ≡ true → first_alarm row.cutoffs (tested_after (x ++ read) acts) ≡ None

        Rest : List SourceAct → Type 0
        Rest back = is_running (source_after_all row now back).mode ≡ true → first_alarm row.cutoffs (tested_after (tested_after (x ++ read) reads) back) ≡ None

        split : Rest back → Goal (reads ++ back)
        split r run = subst (λ z. first_alarm row.cutoffs z ≡ None) (sym (tested-append (x ++ read) reads back))
            (r (subst (λ (z : SourceState). is_running z.mode ≡ true) (after_append row s reads back) run))

        by : (e : Result (List ℕ) SourceRefusal) → Cleaned (x ++ read) s [] reads e
            → MatchResult e
            (λ block. let bytes = conditioned row.cond block in
            let now = source_after_all row s reads in
            let made = Block s.taken now.taken bytes in
            (more : List SourceAct) × (back ≡ made ∷ more)
            × Draws row found n (source_after row now made) (read ++ block) (out ++ bytes) more end)
            (λ why. (back ≡ []) × (end ≡ Err why))
            → ((s : SourceState) (read out : List ℕ) (acts : List SourceAct) → first_alarm row.cutoffs (x ++ read) ≡ None → Draws row found n s read out acts end
            → is_running (source_after_all row s acts).mode ≡ true → first_alarm row.cutoffs (tested_after (x ++ read) acts) ≡ None)
            → Rest back
        by (Ok block) r (tail, is, d) ih =
            let f = r.full block refl in
            let longer : (x ++ read) ++ f.0 ≡ x ++ (read ++ block) = append_assoc x read f.0 ∙ ap (λ z. x ++ (read ++ z)) (sym f.1) in
            subst Rest (sym is) (λ run. subst (λ z. first_alarm row.cutoffs (tested_after z tail) ≡ None) (sym (f.2 ∙ longer))
            (ih _ (read ++ block) _ tail (subst (λ z. first_alarm row.cutoffs z ≡ None) longer f.3) d run))
        by (Err why) r (none, is) ih = subst Rest (sym none) r.clean

-- a start tells alarms from fresh tests on
start_clean : (row : SourceRow) (s : SourceState) (acts : List SourceAct) (end : Result (List ℕ) SourceRefusal) (x : List ℕ) → draws.Start row s acts end
    → CleanRuns row (tested_after x acts) (source_after_all row s acts)
start_clean row s acts end x (reads, back, e, are, g, more) =
    subst (λ z. CleanRuns row (tested_after x z) (source_after_all row s z)) (sym are)
    (split (by e (gathers_clean row (alarm_in row.cutoffs) [] (λ read got. refl) row.startup begun [] [] reads e refl g) more)) where
      begun : SourceState
      begun = source_after row s Began

      now : SourceState
      now = source_after_all row begun reads

      Rest : List SourceAct → Type 0
      Rest back = is_running (source_after_all row now back).mode ≡ true → first_alarm row.cutoffs (tested_after (tested_after [] reads) back) ≡ None

      split : Rest back → CleanRuns row (tested_after [] (reads ++ back)) (source_after_all row begun (reads ++ back))
      split r run = subst (λ z. first_alarm row.cutoffs z ≡ None) (sym (tested-append [] reads back))
          (r (subst (λ (z : SourceState). is_running z.mode ≡ true) (after_append row begun reads back) run))

      by : (e : Result (List ℕ) SourceRefusal) → Cleaned row (alarm_in row.cutoffs) [] (λ read got. refl) [] begun [] reads e
          → MatchResult e (λ _. (back ≡ Started ∷ []) × (end ≡ Ok [])) (λ why. (back ≡ []) × (end ≡ Err why)) → Rest back
      by (Ok block) r (is, done) = let f = r.full block refl in
          subst Rest (sym is) (λ run. subst (λ z. first_alarm row.cutoffs z ≡ None) (sym f.2) f.3)
      by (Err why) r (none, is) = subst Rest (sym none) r.clean

-- what the tests keep tells alarms as all their samples do
by_numbers : (c : Limits) (x : List ℕ) (tail : Option Tail) → HasTail tail → Tells c.window x tail → (read got : List ℕ)
    → found_in c tail read got ≡ alarm_in c (x ++ read) got
by_numbers c x None has h read got = absurd has
by_numbers c x (Some t) has h read got =
    ap (λ z. alarm_from c (tail_after c.window z read) got) h ∙ (ap (λ z. alarm_from c z got) (tail_grows c.window x read) ∙ alarm_tells c (x ++ read) got)

does_clean : (done : Bool) (row : SourceRow) (x : List ℕ) (s : SourceState) (acts : List SourceAct) → 0 < need_of_block row
    → Tells row.cutoffs.window x s.tail → RunsTold s → CleanRuns row x s → Does done row s acts → CleanRuns row (tested_after x acts) (source_after_all row s acts)
does_clean done row x s acts take tells told clean d = elim d [
  | inl none ↦ still none
  | inr more ↦ elim more [
    | inl draw ↦ by (is_running s.mode) refl draw
    | inr start ↦ start_clean row s acts start.0 x start.1
  ]
] where
  still : acts ≡ [] → CleanRuns row (tested_after x acts) (source_after_all row s acts)
  still none = subst (λ z. CleanRuns row (tested_after x z) (source_after_all row s z)) (sym none) clean

  by : (b : Bool) → is_running s.mode ≡ b → Draw done row s acts → CleanRuns row (tested_after x acts) (source_after_all row s acts)
  by false idle draw = still (draws_none done row s acts take idle draw)
  by true run draw = subst (λ z. CleanRuns row (tested_after z acts) (source_after_all row s acts)) (append-nil x)
      (draws_clean row (found_in row.cutoffs s.tail) x (by_numbers row.cutoffs x s.tail (told run) tells) _ s [] [] acts draw.1
      (subst (λ z. first_alarm row.cutoffs z ≡ None) (sym (append-nil x)) (clean run)) draw.2)

clean_from : (p : Tree) (j : ℕ) (take : TakeSamples p) (s : States) (es : List Entry) (x : List ℕ) → IsSource (s (source_slot p j))
    → Tells (source_row p j).cutoffs.window x (source_in (s (source_slot p j))).tail → RunsTold (source_in (s (source_slot p j)))
    → CleanRuns (source_row p j) x (source_in (s (source_slot p j))) → Legal p s es
    → CleanRuns (source_row p j) (tested_after x (at_slot (source_slot p j) (acts_of es))) (source_in (states_after p s es (source_slot p j)))
clean_from p j take s [] x is tells told clean legal = clean
clean_from p j take s (e ∷ es) x is tells told clean (fit, legal) =
    let k = source_slot p j in
    let row = source_row p j in
    let y = source_in (s k) in
    let acts = at_slot k e.acts in
    let d = does p s j e fit in
    let back : source_after_all row y acts ≡ source_in (after p k (s k) e) = sym (next_source p s j e is) in
    subst (λ z. CleanRuns row z (source_in (states_after p s (e ∷ es) k)))
    (sym (ap (tested_after x) (at_slot-append k e.acts (acts_of es)) ∙ tested-append x acts (at_slot k (acts_of es))))
    (clean_from p j take (λ i. after p i (s i) e) es (tested_after x acts) (source_next p k (s k) (own k e.acts) is).1
    (subst (λ (z : SourceState). Tells row.cutoffs.window (tested_after x acts) z.tail) back (tells_all row x y acts tells))
    (subst (λ (z : SourceState). RunsTold z) back (does_told row (e.reply.code == 0) y acts d told))
    (subst (λ (z : SourceState). CleanRuns row (tested_after x acts) z) back (does_clean (e.reply.code == 0) row x y acts (take j) tells told clean d))
    legal)

-- after a legal history, a source that runs has no alarm among the samples since its tests were fresh
pub runs_clean : (f : Opening) (h : List Entry) → TakeSamples f.plan → Legal f.plan (opened f) h → (j : ℕ)
    → is_running (source_in (states_after f.plan (opened f) h (source_slot f.plan j))).mode ≡ true
    → first_alarm (source_row f.plan j).cutoffs (tested (source_slot f.plan j) h) ≡ None
runs_clean f h take legal j =
    let k = source_slot f.plan j in
    let row = source_row f.plan j in
    clean_from f.plan j take (opened f) h [] (opened_is_source f j)
    (subst (λ z. Tells row.cutoffs.window [] (source_in z).tail) (sym (opened_source_is f j)) (sym (tail_begins row.cutoffs.window)))
    (subst (λ z. RunsTold (source_in z)) (sym (opened_source_is f j)) (λ r. tt))
    (λ run. refl) legal
