use Rattle.std.proofs.Common.{◌≡◌, ◌∙◌, ◌+◌, ◌∷◌, ℕ, List, [], ap, arith, take}
use Rattle.std.specs.Prelude.{get_or}
use Rattle.tree_core.proofs.Callings.{take_next}
use Rattle.tree_rules.specs.declared.call.Call.{Call}
use Rattle.tree_rules.specs.declared.call.Call.TheVariants.{Instantiate}
use Rattle.tree_load.specs.Tally.{sum_of}
use Rattle.tree_load.specs.Tallied.{asked_of, with_call}
use Rattle.tree_load.specs.Weights.{weigh}
use Rattle.tree_load.proofs.Weighing.{calls_weigh}
use Rattle.tree_load.proofs.tally.of_calls.Goals as goal

pub calls-preserved : goal.calls-preserved
calls-preserved c = λ h.
    let f : ℕ → ℕ = weigh c.args.weight in
    let i = c.calls.call-index in
    let x : Call = get_or c.args.calls.now i (Instantiate 0 0) in
    let parts : sum_of f (asked_of (take (i + 1) c.args.calls.now) c.args.n) ≡ sum_of f (asked_of (take i c.args.calls.now) c.args.n) + sum_of f (with_call x c.args.n []) =
    ap (λ (z : List Call). sum_of f (asked_of z c.args.n)) (take_next c.args.calls.now i (Instantiate 0 0) c.calls-test.true) ∙ calls_weigh f c.args.n (take i c.args.calls.now) (x ∷ []) in
    let was = c.calls.invariant (omega (arith, h, parts)) in
    let add = c.saturating_add-sum.ensures in
    let one = c.of_call.ensures in
    omega (arith, h, parts, was, add, one)
