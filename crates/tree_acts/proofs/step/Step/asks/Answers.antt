use Rattle.std.proofs.Common.{Bool, ap, sym, ◌∙◌}
use Rattle.std.specs.Prelude.{◌&&◌}
use Rattle.tree_rules.specs.Links.{must_seed}
use Rattle.tree_acts.specs.Plain.{link_of}
use Rattle.tree_acts.proofs.step.Step.asks.Goals as goal

pub returns-then-is_alive : goal.returns-then-is_alive
returns-then-is_alive c o =
    c.must_seed.ensures o ∙ ap (λ (b : Bool). b && must_seed c.args.pr (link_of c.args.self o)) (sym c.if-is_alive.true ∙ c.is_alive.ensures o)

pub returns-else-is_alive : goal.returns-else-is_alive
returns-else-is_alive c o =
    c.if-is_alive.false ∙ ap (λ (b : Bool). b && must_seed c.args.pr (link_of c.args.self o)) (sym c.if-is_alive.false ∙ c.is_alive.ensures o)
