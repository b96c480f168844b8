-- How an answer depends on the samples and reads of its call: exactly which answer comes.
-- This project's own; SP 800-90B 4.3 for the alarm.
use Rattle.std.specs.Prelude.{◌≡◌, ℕ, ◌+◌, List, Bool, true, false, Option, Result, Err, MatchOption}
use Rattle.health_tests.specs.declared.windows.Test.{Test}
use Rattle.health_tests.specs.declared.windows.Alarm.{Alarm}
use Rattle.entropy_source.specs.declared.answers.SourceRefusal.{SourceRefusal}
use Rattle.entropy_source.specs.declared.answers.SourceRefusal.TheVariants.{SourceFault, HealthFailed, WantOfEntropy}
use Rattle.entropy_source.specs.Source.{SourceAct}
use Rattle.entropy_source.specs.Counted.{gave_none, has_failed}

-- HealthFailed exactly where there is a first alarm among the samples of the call, with its place and test
abbrev pub FailsAt : ℕ → Option Alarm → Result (List ℕ) SourceRefusal → Type 0
FailsAt taken alarm result =
    MatchOption alarm ((index : ℕ) (test : Test) → result ≡ Err (HealthFailed index test) → ⊥)
    (λ a. result ≡ Err (HealthFailed (taken + a.at) a.test))

-- WantOfEntropy exactly where a read gave none, with what was missing then
abbrev pub WantsWhere : Bool → ℕ → Result (List ℕ) SourceRefusal → Type 0
WantsWhere true missing result = result ≡ Err (WantOfEntropy missing)
WantsWhere false missing result = (n : ℕ) → result ≡ Err (WantOfEntropy n) → ⊥

-- SourceFault exactly where a read failed
abbrev pub FaultsWhere : Bool → Result (List ℕ) SourceRefusal → Type 0
FaultsWhere true result = (count : ℕ) × (result ≡ Err (SourceFault count))
FaultsWhere false result = (count : ℕ) → result ≡ Err (SourceFault count) → ⊥

-- a call that began when so many samples were taken, with the first alarm among those that it read, and with what its block or
-- start-up lacks after its acts
pub record Outcome (taken : ℕ) (alarm : Option Alarm) (missing : ℕ) (acts : List SourceAct) (result : Result (List ℕ) SourceRefusal) : Type 0 where
  pub health : FailsAt taken alarm result
  pub want : WantsWhere (gave_none acts) missing result
  pub fault : FaultsWhere (has_failed acts) result
