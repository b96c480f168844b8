-- What stands against a step, from the tests that the code makes.
use Rattle.std.proofs.Common.{◌≡◌, ℕ, Bool, true, false, ap, ◌∙◌, refl}
use Rattle.std.specs.Prelude.{◌==◌, not, nat_lt, is_some, if◌then◌else◌, Option, Some, None, Result, Ok, Err, MatchOption}
use Rattle.health_tests.specs.declared.cutoffs.BadCutoff.{BadCutoff}
use Rattle.health_tests.specs.Cutoffs.{Limits, refused}
use Rattle.health_tests.specs.Left.{is_left}
use Rattle.rbg.specs.declared.health.RbgTests.{RbgTests}
use Rattle.rbg.specs.Health.{limits_in, tail_in, held_status}

abbrev pub chosen : Bool → Bool → Bool → Bool → ℕ
chosen a b d e = if a then 9 else if not b then 9 else if d then 9 else if e then 0 else 10

pub accepted : (o : Option BadCutoff) (r : Result Limits BadCutoff) (v c : Limits)
    → MatchOption o (r ≡ Ok v) (λ bad. r ≡ Err bad) → r ≡ Ok c → (is_some o ≡ false) × (c ≡ v)
accepted None r v c h e = (refl, cc)
accepted (Some bad) r v c h e = cc

pub not_left : (s : RbgTests) → is_some (refused s.rct s.window s.apt) ≡ false → is_left (limits_in s) (tail_in s) ≡ false → held_status s ≡ 9
not_left s p q =
    ap (λ a. chosen a (is_left (limits_in s) (tail_in s)) (nat_lt 2 s.alarm) (s.alarm == 0)) p
    ∙ ap (λ b. chosen false b (nat_lt 2 s.alarm) (s.alarm == 0)) q

pub left_with : (s : RbgTests) → is_some (refused s.rct s.window s.apt) ≡ false → is_left (limits_in s) (tail_in s) ≡ true
    → (d : Bool) → nat_lt 2 s.alarm ≡ d → (e : Bool) → (s.alarm == 0) ≡ e → held_status s ≡ chosen false true d e
left_with s p q d i e j =
    ap (λ a. chosen a (is_left (limits_in s) (tail_in s)) (nat_lt 2 s.alarm) (s.alarm == 0)) p
    ∙ (ap (λ b. chosen false b (nat_lt 2 s.alarm) (s.alarm == 0)) q
    ∙ (ap (λ x. chosen false true x (s.alarm == 0)) i ∙ ap (λ x. chosen false true d x) j))
