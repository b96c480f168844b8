use Rattle.std.specs.Prelude.{Option, Some, None, IsSome}
use Rattle.std.proofs.Common.{refl, subst, sym}
use Rattle.health_tests.specs.declared.numbers.Tail.{Tail}
use Rattle.tree_rules.specs.History.{opened, source_in}
use Rattle.tree_rules.specs.Slots.{source_slot}
use Rattle.tree_rules.proofs.Parting.{opened_is_source, opened_source_is}
use Rattle.tree_rules.proofs.Rightness.{HasTail, RunsTold, told_after}
use Rattle.tree_rules.proofs.causes.running_sources_are_tested.Goals as goal

there : (o : Option Tail) → HasTail o → IsSome o
there None h = absurd h
there (Some t) h = refl

pub returns : goal.returns
returns c f h j legal run =
    let first : RunsTold (source_in (opened f (source_slot f.plan j))) =
    subst (λ x. RunsTold (source_in x)) (sym (opened_source_is f j)) (λ r. tt) in
    there _ ((told_after f.plan j (opened f) h (opened_is_source f j) first legal).0 run)
