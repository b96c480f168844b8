-- One read for a block or the start-up, in each way that it may end.
use Rattle.std.proofs.Common.{◌≡◌, ◌≤◌, ◌<◌, ◌+◌, ◌-◌, ℕ, List, [], ◌∷◌, ◌++◌, length, refl, sym, ap, ◌∙◌, subst, arith}
use Rattle.std.specs.Prelude.{Option, Some, None, IfSome, IsSome, Result, Err, MatchOption}
use Rattle.std.specs.Option.{option_map}
use Rattle.std.specs.Io.KnownBytes.{Keeps, Consumes, IsAtEnd}
use Rattle.rbg_bytes.specs.Streams.{Rose}
use Rattle.health_tests.specs.declared.windows.Alarm.{Alarm}
use Rattle.health_tests.specs.declared.windows.Test.{Test}
use Rattle.health_tests.specs.declared.numbers.Tail.{Tail}
use Rattle.health_tests.specs.Cutoffs.{Limits}
use Rattle.health_tests.specs.Numbers.{tail_after, alarm_from}
use Rattle.health_tests.specs.Stands.{Standing}
use Rattle.entropy_source.specs.declared.answers.SourceRow.{SourceRow}
use Rattle.entropy_source.specs.declared.answers.SourceMode.{SourceMode}
use Rattle.entropy_source.specs.declared.answers.SourceMode.TheVariants as modes
use Rattle.entropy_source.specs.declared.answers.SourceRefusal.{SourceRefusal}
use Rattle.entropy_source.specs.declared.answers.SourceRefusal.TheVariants.{SourceFault, HealthFailed, WantOfEntropy}
use Rattle.entropy_source.specs.Source.{SourceAct, SourceState, Read, Alarmed, source_after}
use Rattle.entropy_source.specs.Draws.{AreNext, Answers, Gathers, asks, found_in}
use Rattle.entropy_source.specs.Views.{SourceView, source_state, kept_tail}
use Rattle.entropy_source.specs.Reads.{LeadBy}
use Rattle.entropy_source.specs.Scaffolding.{Leads, Stops}
use Rattle.entropy_source.proofs.Stands.{are_next, kept, kept_some, read_state}

same_tail : (w : ℕ) (o : Option Tail) → o ≡ option_map (λ t. tail_after w t []) o
same_tail w None = refl
same_tail w (Some t) = refl

some_same : {t u : Tail} → Some t ≡ Some u → t ≡ u
some_same h = cc

-- The read of a source for what it lacks: what it gave, and the count of faults afterwards.
module _ {S : Type 0} (told : S → Option (List ℕ)) (faults : S → ℕ) (reads : S → ℕ → Option (List ℕ) → S → Type 0) (v : SourceView S) (now : S)
    (lacks : ℕ) (lacking : 0 < lacks) (untold : told v.samples ≡ None → told now ≡ None) where
  abbrev s : SourceState
  s = source_state told faults v

  abbrev row : SourceRow
  row = v.row

  abbrev act : Option (List ℕ) → SourceAct
  act got = Read (asks lacks) got (faults now)

  -- the one read that was made, and what follows it without a read
  made_one : (got : Option (List ℕ)) → reads v.samples (asks lacks) got now → LeadBy reads faults v.samples (act got ∷ []) now
  made_one got one = (now, one, refl, refl)

  made_last : (got : Option (List ℕ)) (index : ℕ) (test : Test) → reads v.samples (asks lacks) got now → LeadBy reads faults v.samples (act got ∷ Alarmed index test ∷ []) now
  made_last got index test one = (now, one, refl, refl)

  -- a read of some samples, and what follows it
  goes_on : (tail : Tail) → s.tail ≡ Some tail → (got : List ℕ) → 0 < length got → Answers s (asks lacks) (Some got) (faults now)
      → (t : Tail) (has read : List ℕ) (more : List SourceAct) (end : Result (List ℕ) SourceRefusal) → s.tail ≡ Some (tail_after row.cutoffs.window t read)
      → MatchOption (alarm_from row.cutoffs tail got)
      (Gathers row (found_in row.cutoffs (Some t)) (lacks - length got) (source_after row s (act (Some got))) (has ++ got) (read ++ got) more end)
      (λ a. (more ≡ Alarmed (s.taken + a.at) a.test ∷ []) × (end ≡ Err (HealthFailed (s.taken + a.at) a.test)))
      → Gathers row (found_in row.cutoffs (Some t)) lacks s has read (act (Some got) ∷ more) end
  goes_on tail is [] some a t has read more end tl m = absurd (omega arith)
  goes_on tail is (x ∷ xs) some a t has read more end tl m = (
    lacking,
    refl,
    a,
    subst (λ (z : Tail). MatchOption (alarm_from row.cutoffs z (x ∷ xs))
        (Gathers row (found_in row.cutoffs (Some t)) (lacks - length (x ∷ xs)) (source_after row s (act (Some (x ∷ xs)))) (has ++ x ∷ xs) (read ++ x ∷ xs) more end)
        (λ a. (more ≡ Alarmed (s.taken + a.at) a.test ∷ []) × (end ≡ Err (HealthFailed (s.taken + a.at) a.test))))
        (some_same (sym is ∙ tl)) m,
  )

  none_told : (o : Option (List ℕ)) → IfSome o (λ left. IfSome None (λ xs. AreNext left xs))
  none_told None = tt
  none_told (Some left) = tt

  failed_so : Keeps (told v.samples) (told now) → Rose (faults v.samples) (faults now) → reads v.samples (asks lacks) None now
      → Stops told faults reads row v (record v { samples = now }) lacks (SourceFault (faults now))
  failed_so keeps rose one =
      let a : Answers s (asks lacks) None (faults now) = record { few = omega arith; told = none_told (told v.samples); cause = rose } in record {
        acts = act None ∷ [];
        leads = record {
          state = read_state told faults row v (record v { samples = now }) (asks lacks) None (faults now) (omega arith) refl refl refl
              (same_tail row.cutoffs.window v.tail) refl (kept (told v.samples) (told now) keeps) untold;
          made = made_one None one;
        };
        few = omega arith;
        blocks = refl;
        left = (rose, refl, refl);
        ends = λ t has read tl. (lacking, refl, a, refl, refl);
      }

  pub failed : (count : ℕ) → count ≡ faults now → Keeps (told v.samples) (told now) → Rose (faults v.samples) (faults now) → reads v.samples (asks lacks) None now
      → Stops told faults reads row v (record v { samples = now }) lacks (SourceFault count)
  failed count is keeps rose one =
      subst (λ k. Stops told faults reads row v (record v { samples = now }) lacks (SourceFault k)) (sym is) (failed_so keeps rose one)

  pub ended : Consumes (told v.samples) (told now) [] → IsAtEnd (told now) → faults now ≡ faults v.samples → reads v.samples (asks lacks) (Some []) now
      → Stops told faults reads row v (record v { samples = now }) lacks (WantOfEntropy lacks)
  ended takes none kept one =
      let a : Answers s (asks lacks) (Some []) (faults now) = record { few = omega arith; told = are_next (told v.samples) (told now) [] takes (λ e. none); cause = kept } in record {
        acts = act (Some []) ∷ [];
        leads = record {
          state = read_state told faults row v (record v { samples = now }) (asks lacks) (Some []) (faults now) (omega arith) refl refl refl
              (same_tail row.cutoffs.window v.tail) refl takes untold;
          made = made_one (Some []) one;
        };
        few = omega arith;
        blocks = refl;
        left = (kept, refl, lacking, omega arith);
        ends = λ t has read tl. (lacking, refl, a, refl, refl);
      }

  module _ (got : List ℕ) (some : 0 < length got) (few : length got ≤ asks lacks) (takes : Consumes (told v.samples) (told now) got)
      (kept : faults now ≡ faults v.samples) (one : reads v.samples (asks lacks) (Some got) now) (tail : Tail) (is : v.tail ≡ Some tail) where
    answers : Answers s (asks lacks) (Some got) (faults now)
    answers = record {
      few = few;
      told = are_next (told v.samples) (told now) got takes (λ e. absurd (omega (arith, some, ap (length {A = ℕ}) e)));
      cause = kept;
    }

    abbrev counted : Option Tail → SourceView S
    counted tail = record v { taken = v.taken + length got; tail = tail; samples = now }

    abbrev went : SourceView S
    went = counted (Some (tail_after row.cutoffs.window tail got))

    read_now : source_state told faults went ≡ source_after row s (act (Some got))
    read_now =
        read_state told faults row v went (asks lacks) (Some got) (faults now) refl refl refl refl
        (sym (ap (option_map (λ t. tail_after row.cutoffs.window t got)) is)) refl takes untold

    -- what follows the read, by whether there is an alarm
    abbrev Follows : Option Alarm → Tail → List ℕ → List ℕ → List SourceAct → Result (List ℕ) SourceRefusal → Type 0
    Follows alarm t has read more end =
        MatchOption alarm
        (Gathers row (found_in row.cutoffs (Some t)) (lacks - length got) (source_after row s (act (Some got))) (has ++ got) (read ++ got) more end)
        (λ a. (more ≡ Alarmed (s.taken + a.at) a.test ∷ []) × (end ≡ Err (HealthFailed (s.taken + a.at) a.test)))

    pub went_on : alarm_from row.cutoffs tail got ≡ None → Leads told faults reads row v went lacks (lacks - length got) got
    went_on none = record {
      acts = act (Some got) ∷ [];
      leads = record { state = read_now; made = made_one (Some got) one };
      keeps = λ t h. ap (λ (s : SourceState). s.tail) read_now ∙ ap (option_map (λ z. tail_after row.cutoffs.window z got)) h;
      count = omega (arith, few);
      taken = refl;
      blocks = refl;
      others = record { mode = refl; alarms = refl; faults = kept };
      goes = λ t has read more end tl g. goes_on tail is got some answers t has read more end tl
          (subst (λ (z : Option Alarm). Follows z t has read more end) (sym none)
          (subst (λ (z : SourceState). Gathers row (found_in row.cutoffs (Some t)) (lacks - length got) z (has ++ got) (read ++ got) more end) read_now g));
    }

    pub alarmed : (alarm : Alarm) → alarm_from row.cutoffs tail got ≡ Some alarm
        → Stops told faults reads row v (record (counted None) { alarms = v.alarms + 1; mode = modes.Alarmed (v.taken + alarm.at) alarm.test })
        lacks (HealthFailed (v.taken + alarm.at) alarm.test)
    alarmed alarm found =
        let last = Alarmed (v.taken + alarm.at) alarm.test in record {
          acts = act (Some got) ∷ last ∷ [];
          leads = record { state = ap (λ (s : SourceState). source_after row s last) read_now; made = made_last (Some got) (v.taken + alarm.at) alarm.test one };
          few = omega (arith, few);
          blocks = refl;
          left = (kept, refl);
          ends = λ t has read tl. goes_on tail is got some answers t has read (last ∷ []) (Err (HealthFailed (v.taken + alarm.at) alarm.test)) tl
              (subst (λ (z : Option Alarm). Follows z t has read (last ∷ []) (Err (HealthFailed (v.taken + alarm.at) alarm.test))) (sym found) (refl, refl));
        }

-- the same of a source that is this one
pub moved : {S : Type 0} (told : S → Option (List ℕ)) (faults : S → ℕ) (reads : S → ℕ → Option (List ℕ) → S → Type 0) (v u : SourceView S) → v ≡ u
    → (w : SourceView S) (lacks : ℕ) (why : SourceRefusal) → Stops told faults reads v.row v w lacks why → Stops told faults reads u.row u w lacks why
moved {S = S} told faults reads v u is w lacks why h = subst (λ (z : SourceView S). Stops told faults reads z.row z w lacks why) is h

-- The same as the code has it: what the tests keep stands in the view while they have not alarmed.
module _ {S : Type 0} (told : S → Option (List ℕ)) (faults : S → ℕ) (reads : S → ℕ → Option (List ℕ) → S → Type 0) (row : SourceRow) (samples now : S)
    (tests after : Standing) (taken blocks alarms : ℕ) (mode : SourceMode) (u : SourceView S) (lacks count : ℕ) (got : List ℕ) where
  abbrev seen : SourceView S
  seen = record { row = row; taken = taken; blocks = blocks; alarms = alarms; mode = mode; tail = kept_tail mode tests.tail; samples = samples }

  module _ (is : seen ≡ u) (lacking : 0 < lacks) (tested : IsSome u.tail) (counted : count ≡ length got) (some : 0 < count) (few : count ≤ asks lacks)
      (takes : Consumes (told samples) (told now) got) (untold : told samples ≡ None → told now ≡ None) (kept : faults now ≡ faults samples)
      (one : reads samples (asks lacks) (Some got) now) (same : tests.cutoffs ≡ row.cutoffs) where
    has_tail : IsSome (kept_tail mode tests.tail)
    has_tail = subst (λ (z : SourceView S). IsSome z.tail) (sym is) tested

    some_got : 0 < length got
    some_got = subst (λ k. 0 < k) counted some

    few_got : length got ≤ asks lacks
    few_got = subst (λ k. k ≤ asks lacks) counted few

    pub quiet_read : None ≡ alarm_from tests.cutoffs tests.tail got → after.tail ≡ tail_after tests.cutoffs.window tests.tail got
        → Leads told faults reads u.row u (record seen { taken = taken + count; tail = kept_tail mode after.tail; samples = now }) lacks (lacks - count) got
    quiet_read none numbers =
        subst (λ (z : SourceView S). Leads told faults reads z.row z
        (record seen { taken = taken + count; tail = kept_tail mode after.tail; samples = now }) lacks (lacks - count) got) is
        (subst (λ (o : Option Tail). Leads told faults reads row seen (record seen { taken = taken + count; tail = o; samples = now }) lacks (lacks - count) got)
        (sym (kept_some mode tests.tail has_tail after.tail ∙ ap Some (numbers ∙ ap (λ (c : Limits). tail_after c.window tests.tail got) same)))
        (subst (λ k. Leads told faults reads row seen
        (record seen { taken = taken + k; tail = Some (tail_after row.cutoffs.window tests.tail got); samples = now }) lacks (lacks - k) got) (sym counted)
        (went_on told faults reads seen now lacks lacking untold got some_got few_got takes kept one tests.tail (kept_some mode tests.tail has_tail tests.tail)
        (ap (λ (c : Limits). alarm_from c tests.tail got) (sym same) ∙ sym none))))

    pub alarm_read : (alarm : Alarm) → Some alarm ≡ alarm_from tests.cutoffs tests.tail got
        → Stops told faults reads u.row u
        (record seen { taken = taken + count; alarms = alarms + 1; mode = modes.Alarmed (taken + alarm.at) alarm.test; tail = None; samples = now })
        lacks (HealthFailed (taken + alarm.at) alarm.test)
    alarm_read alarm found =
        subst (λ (z : SourceView S). Stops told faults reads z.row z
        (record seen { taken = taken + count; alarms = alarms + 1; mode = modes.Alarmed (taken + alarm.at) alarm.test; tail = None; samples = now })
        lacks (HealthFailed (taken + alarm.at) alarm.test)) is
        (subst (λ k. Stops told faults reads row seen
        (record seen { taken = taken + k; alarms = alarms + 1; mode = modes.Alarmed (taken + alarm.at) alarm.test; tail = None; samples = now })
        lacks (HealthFailed (taken + alarm.at) alarm.test)) (sym counted)
        (alarmed told faults reads seen now lacks lacking untold got some_got few_got takes kept one tests.tail (kept_some mode tests.tail has_tail tests.tail)
        alarm (ap (λ (c : Limits). alarm_from c tests.tail got) (sym same) ∙ sym found)))
