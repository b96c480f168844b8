use Rattle.std.proofs.Common.{◌+◌, ◌++◌, ◌∙◌, ap}
use Rattle.tree_core.specs.Opened.{calls_at, start_calls}
use Rattle.tree_core.proofs.Callings.{depths_next}
use Rattle.tree_core.proofs.opening.opening_calls.Goals as goal

pub loop-d-preserved : goal.loop-d-preserved
loop-d-preserved c =
    let p = c.args.plan.now in
    c.in_ok-add_depth.ensures.calls ∙ (ap (λ z. z ++ calls_at p (c.loop-d.d + 1)) c.loop-d.invariant ∙ depths_next p (start_calls p) c.loop-d.d)
