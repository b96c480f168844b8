use Rattle.std.proofs.Common.{◌++◌, ◌∷◌, ◌∙◌, [], ap, sym}
use Rattle.tree_rules.specs.declared.call.Call.TheVariants.{Start}
use Rattle.tree_core.proofs.Callings.{starts_next}
use Rattle.tree_core.proofs.opening.starts.Goals as goal

pub loop-j-preserved : goal.loop-j-preserved
loop-j-preserved c = c.in_ok-push.ensures.items ∙ (ap (λ z. z ++ Start c.loop-j.j ∷ []) c.loop-j.invariant ∙ sym (starts_next c.loop-j.j))
