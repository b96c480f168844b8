-- From how a source ended to the words of a reply.
use Rattle.std.proofs.Common.{◌≡◌, ◌≢◌, ◌∙◌, ◌+◌, ℕ, List, [], Bool, true, false, refl, sym, ap, subst}
use Rattle.std.specs.Prelude.{Option, Some, None, Result, Ok, Err}
use Rattle.health_tests.specs.declared.windows.Alarm.{Alarm}
use Rattle.entropy_source.specs.Counted.{samples_of, gave_none, has_failed}
use Rattle.entropy_source.specs.Outcomes as ends
use Rattle.entropy_source.specs.Outcomes.{Outcome}
use Rattle.entropy_source.specs.Source.{Began, SourceAct, SourceState, source_after, source_after_all}
use Rattle.entropy_source.specs.declared.answers.Cause.TheVariants as causes
use Rattle.entropy_source.specs.declared.answers.SourceRow.{SourceRow}
use Rattle.entropy_source.specs.declared.answers.SourceRefusal.{SourceRefusal}
use Rattle.entropy_source.specs.declared.answers.SourceRefusal.TheVariants.{HealthFailed, InError, SourceFault, SourceSpent, WantOfEntropy}
use Rattle.rbg_bytes.specs.Streams.{Rose}
use Rattle.tree_rules.specs.Causes.{FaultsWhere, FailsAt, WantsWhere, IsCaused, alarm_of, missing_after}
use Rattle.tree_rules.specs.Chain.{SourceLink}
use Rattle.tree_rules.specs.Fits.{done, refused, source_reply}
use Rattle.tree_rules.specs.History.{Entry}
use Rattle.tree_rules.specs.declared.call.Call.{Call}
use Rattle.tree_rules.specs.declared.reply.Reply.{Reply}
use Rattle.tree_rules.proofs.Endings.{Left, StartLeft}

-- the reply by how the source ended
abbrev pub ReplyBy : ℕ → Entry → Result (List ℕ) SourceRefusal → Type 0
ReplyBy j e (Ok bytes) = e.reply ≡ done e.bytes
ReplyBy j e (Err why) = (e.reply ≡ source_reply j why) × (e.bytes ≡ [])

-- the fault count by how the acts ended
abbrev pub Counts : ℕ → ℕ → Result (List ℕ) SourceRefusal → Type 0
Counts before now (Err (SourceFault count)) = (now ≡ count) × Rose before count
Counts before now _ = now ≡ before

-- neither numbers nor the mode are a reason any more
abbrev pub IsRead : Result (List ℕ) SourceRefusal → Type 0
IsRead (Err (SourceSpent a b)) = ⊥
IsRead (Err (InError cause)) = ⊥
IsRead _ = Unit {0}

pub read_left : (s now : SourceState) (end : Result (List ℕ) SourceRefusal) → Left s now end → IsRead end × Counts s.faults now.faults end
read_left s now (Ok bytes) h = (tt, h.1)
read_left s now (Err (SourceSpent a b)) h = absurd h
read_left s now (Err (InError cause)) h = absurd h
read_left s now (Err (SourceFault n)) h = (tt, (h.1, h.2))
read_left s now (Err (HealthFailed index test)) h = (tt, h.1)
read_left s now (Err (WantOfEntropy n)) h = (tt, h.1)

pub read_started : (row : SourceRow) (s now : SourceState) (end : Result (List ℕ) SourceRefusal) → StartLeft row s now end → IsRead end × Counts s.faults now.faults end
read_started row s now (Ok bytes) h = (tt, h.1)
read_started row s now (Err why) h = read_left (source_after row s Began) now (Err why) h

-- from the words of one kind of answer to those of the reply
module _ (t : SourceLink) (e : Entry) where
  abbrev j : ℕ
  j = t.number

  pub code_is : (n : ℕ) (r : Reply) → e.reply ≡ r → r.code ≢ n → e.reply.code ≢ n
  code_is n r is other = λ h. other (sym (ap (λ (z : Reply). z.code) is) ∙ h)

  health_by : (taken : ℕ) (o : Option Alarm) (end : Result (List ℕ) SourceRefusal) → ends.FailsAt taken o end → ReplyBy j e end → FailsAt taken o e.reply
  health_by taken None (Ok bytes) h r = code_is 13 (done e.bytes) r (λ (i : 0 ≡ 13). cc)
  health_by taken None (Err (SourceSpent a b)) h r = code_is 13 (source_reply j (SourceSpent a b)) r.0 (λ (i : 10 ≡ 13). cc)
  health_by taken None (Err (InError causes.NotStarted)) h r = code_is 13 (source_reply j (InError causes.NotStarted)) r.0 (λ (i : 11 ≡ 13). cc)
  health_by taken None (Err (InError (causes.Alarm a b))) h r = code_is 13 (source_reply j (InError (causes.Alarm a b))) r.0 (λ (i : 11 ≡ 13). cc)
  health_by taken None (Err (SourceFault n)) h r = code_is 13 (source_reply j (SourceFault n)) r.0 (λ (i : 12 ≡ 13). cc)
  health_by taken None (Err (HealthFailed index test)) h r = absurd (h index test refl)
  health_by taken None (Err (WantOfEntropy n)) h r = code_is 13 (source_reply j (WantOfEntropy n)) r.0 (λ (i : 14 ≡ 13). cc)
  health_by taken (Some a) (Ok bytes) h r = cc
  health_by taken (Some a) (Err why) h r = let is : why ≡ HealthFailed (taken + a.at) a.test = cc in r.0 ∙ ap (source_reply j) is

  want_by : (b : Bool) (missing : ℕ) (end : Result (List ℕ) SourceRefusal) → ends.WantsWhere b missing end → ReplyBy j e end → WantsWhere j b missing e.reply
  want_by true missing (Ok bytes) h r = cc
  want_by true missing (Err why) h r = let is : why ≡ WantOfEntropy missing = cc in r.0 ∙ ap (source_reply j) is
  want_by false missing (Ok bytes) h r = code_is 14 (done e.bytes) r (λ (i : 0 ≡ 14). cc)
  want_by false missing (Err (SourceSpent a b)) h r = code_is 14 (source_reply j (SourceSpent a b)) r.0 (λ (i : 10 ≡ 14). cc)
  want_by false missing (Err (InError causes.NotStarted)) h r = code_is 14 (source_reply j (InError causes.NotStarted)) r.0 (λ (i : 11 ≡ 14). cc)
  want_by false missing (Err (InError (causes.Alarm a b))) h r = code_is 14 (source_reply j (InError (causes.Alarm a b))) r.0 (λ (i : 11 ≡ 14). cc)
  want_by false missing (Err (SourceFault n)) h r = code_is 14 (source_reply j (SourceFault n)) r.0 (λ (i : 12 ≡ 14). cc)
  want_by false missing (Err (HealthFailed index test)) h r = code_is 14 (source_reply j (HealthFailed index test)) r.0 (λ (i : 13 ≡ 14). cc)
  want_by false missing (Err (WantOfEntropy n)) h r = absurd (h n refl)

  fault_by : (b : Bool) (before now : ℕ) (end : Result (List ℕ) SourceRefusal) → ends.FaultsWhere b end → Counts before now end → ReplyBy j e end
      → FaultsWhere j before now b e.reply
  fault_by true before now (Ok bytes) (count, h) f r = cc
  fault_by true before now (Err (SourceSpent a b)) (count, h) f r = cc
  fault_by true before now (Err (InError cause)) (count, h) f r = cc
  fault_by true before now (Err (SourceFault n)) (count, h) (is, rose) r =
      (r.0 ∙ ap (λ k. refused 12 k j) (sym is), subst (λ k. Rose before k) (sym is) rose)
  fault_by true before now (Err (HealthFailed index test)) (count, h) f r = cc
  fault_by true before now (Err (WantOfEntropy n)) (count, h) f r = cc
  fault_by false before now (Ok bytes) h f r = (code_is 12 (done e.bytes) r (λ (i : 0 ≡ 12). cc), f)
  fault_by false before now (Err (SourceSpent a b)) h f r = (code_is 12 (source_reply j (SourceSpent a b)) r.0 (λ (i : 10 ≡ 12). cc), f)
  fault_by false before now (Err (InError causes.NotStarted)) h f r = (code_is 12 (source_reply j (InError causes.NotStarted)) r.0 (λ (i : 11 ≡ 12). cc), f)
  fault_by false before now (Err (InError (causes.Alarm a b))) h f r = (code_is 12 (source_reply j (InError (causes.Alarm a b))) r.0 (λ (i : 11 ≡ 12). cc), f)
  fault_by false before now (Err (SourceFault n)) h f r = absurd (h n refl)
  fault_by false before now (Err (HealthFailed index test)) h f r = (code_is 12 (source_reply j (HealthFailed index test)) r.0 (λ (i : 13 ≡ 12). cc), f)
  fault_by false before now (Err (WantOfEntropy n)) h f r = (code_is 12 (source_reply j (WantOfEntropy n)) r.0 (λ (i : 14 ≡ 12). cc), f)

  done_by : (taken missing : ℕ) (o : Option Alarm) (b c : Bool) (end : Result (List ℕ) SourceRefusal) → IsRead end → ends.FaultsWhere b end
      → ends.FailsAt taken o end → ends.WantsWhere c missing end → ReplyBy j e end → b ≡ false → o ≡ None → c ≡ false → e.reply.code ≡ 0
  done_by taken missing o b c (Ok bytes) read f h w r i k l = ap (λ (z : Reply). z.code) r
  done_by taken missing o b c (Err (SourceSpent x y)) read f h w r i k l = absurd read
  done_by taken missing o b c (Err (InError x)) read f h w r i k l = absurd read
  done_by taken missing o b c (Err (SourceFault n)) read f h w r i k l =
      let no = subst (λ z. ends.FaultsWhere z (Err (SourceFault n))) i f in absurd (no n refl)
  done_by taken missing o b c (Err (HealthFailed index test)) read f h w r i k l =
      let no = subst (λ z. ends.FailsAt taken z (Err (HealthFailed index test))) k h in absurd (no index test refl)
  done_by taken missing o b c (Err (WantOfEntropy n)) read f h w r i k l =
      let no = subst (λ z. ends.WantsWhere z missing (Err (WantOfEntropy n))) l w in absurd (no n refl)

  pub cause_by : (c : Call) (acts : List SourceAct) (end : Result (List ℕ) SourceRefusal)
      → Outcome t.state.taken (alarm_of c t (samples_of acts)) (missing_after c t acts) acts end
      → IsRead end × Counts t.state.faults (source_after_all t.row t.state acts).faults end → ReplyBy j e end
      → IsCaused c t acts (source_after_all t.row t.state acts) e.reply
  cause_by c acts end o (read, counts) r = record {
    fault = fault_by (has_failed acts) t.state.faults (source_after_all t.row t.state acts).faults end o.fault counts r;
    health = health_by t.state.taken (alarm_of c t (samples_of acts)) end o.health r;
    want = want_by (gave_none acts) (missing_after c t acts) end o.want r;
    done = done_by t.state.taken (missing_after c t acts) (alarm_of c t (samples_of acts)) (has_failed acts) (gave_none acts) end read o.fault o.health o.want r;
  }
