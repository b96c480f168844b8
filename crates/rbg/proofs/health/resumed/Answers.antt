use Rattle.std.proofs.Common.{◌≡◌, ◌<◌, ◌≤◌, true, false, refl, sym, ap, ◌∙◌, arith}
use Rattle.std.specs.Prelude.{◌==◌, is_some}
use Rattle.std.proofs.lemmas.Bool.{lt-ltb, le-ltb}
use Rattle.health_tests.specs.Cutoffs.{refused}
use Rattle.health_tests.specs.Left.{is_left}
use Rattle.rbg.specs.Health.{limits_in, tail_in}
use Rattle.rbg.proofs.Holding.{accepted, not_left, left_with}
use Rattle.rbg.proofs.health.resumed.Goals as goal

pub returns-in_default-resumed : goal.returns-in_default-resumed
returns-in_default-resumed c =
    let s = c.args.tests.now in
    let cut = accepted (refused s.rct s.window s.apt) c.new.result (limits_in s) c.in-Ok.cutoffs c.new.ensures c.in-Ok.is in
    let none : is_some c.resumed.result ≡ false = grind arith in
    let left : is_left (limits_in s) (tail_in s) ≡ false = ap (λ l. is_left l (tail_in s)) (sym cut.1) ∙ (sym c.resumed.ensures.test ∙ none) in
    (sym (not_left s cut.0 left), λ e. omega arith)

pub returns-then-tests-gt2 : goal.returns-then-tests-gt2
returns-then-tests-gt2 c =
    let s = c.args.tests.now in
    let cut = accepted (refused s.rct s.window s.apt) c.new.result (limits_in s) c.in-Ok.cutoffs c.new.ensures c.in-Ok.is in
    let left : is_left (limits_in s) (tail_in s) ≡ true =
    ap (λ l. is_left l (tail_in s)) (sym cut.1) ∙ (sym c.resumed.ensures.test ∙ ap (λ o. is_some o) c.in-Some.is) in
    let above : 2 < s.alarm = c.if-tests-gt2.true in
    (sym (left_with s cut.0 left true (lt-ltb 2 s.alarm above) (s.alarm == 0) refl), λ e. omega arith)

pub returns-then-tests-ne0 : goal.returns-then-tests-ne0
returns-then-tests-ne0 c =
    let s = c.args.tests.now in
    let cut = accepted (refused s.rct s.window s.apt) c.new.result (limits_in s) c.in-Ok.cutoffs c.new.ensures c.in-Ok.is in
    let left : is_left (limits_in s) (tail_in s) ≡ true =
    ap (λ l. is_left l (tail_in s)) (sym cut.1) ∙ (sym c.resumed.ensures.test ∙ ap (λ o. is_some o) c.in-Some.is) in
    let below : s.alarm ≤ 2 = c.if-tests-gt2.false in
    let some : (s.alarm == 0) ≡ false = grind arith in
    (sym (left_with s cut.0 left false (le-ltb 2 s.alarm below) false some), λ e. omega arith)

pub returns : goal.returns
returns c =
    let s = c.args.tests.now in
    let cut = accepted (refused s.rct s.window s.apt) c.new.result (limits_in s) c.in-Ok.cutoffs c.new.ensures c.in-Ok.is in
    let left : is_left (limits_in s) (tail_in s) ≡ true =
    ap (λ l. is_left l (tail_in s)) (sym cut.1) ∙ (sym c.resumed.ensures.test ∙ ap (λ o. is_some o) c.in-Some.is) in
    let below : s.alarm ≤ 2 = c.if-tests-gt2.false in
    let none : (s.alarm == 0) ≡ true = grind arith in (
      left_with s cut.0 left false (le-ltb 2 s.alarm below) true none,
      c.in-Some.ensures.value ∙ ap (λ l. record { cutoffs = l; tail = tail_in s }) cut.1,
    )
