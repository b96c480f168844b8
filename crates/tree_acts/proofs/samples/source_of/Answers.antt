use Rattle.std.proofs.Common.{Bool, true, false, ap, sym, ◌≡◌, ◌∙◌, rules}
use Rattle.std.specs.Prelude.{◌&&◌, if◌then◌else◌, Option, None, unwrap_or}
use Rattle.tree_config.specs.declared.plan.NodePlan.{NodePlan}
use Rattle.tree_config.specs.declared.plan.Origin.{Origin}
use Rattle.tree_config.specs.declared.plan.Origin.TheVariants as origins
use Rattle.tree_rules.specs.Slots.{node_plan, no_node}
use Rattle.tree_rules.specs.Links.{Link, is_alive, wanted}
use Rattle.tree_acts.specs.Plain.{link_of, are_some, number_in}
use Rattle.tree_acts.proofs.samples.source_of.Goals as goal

pub returns-then-not-is_alive-clause-number : goal.returns-then-not-is_alive-clause-number
returns-then-not-is_alive-clause-number c =
    let o = (node_plan c.args.plan.now c.args.end.slot).origin in
    let l : Link = link_of c.args.end o in
    let dead : is_alive l ≡ false = sym (c.is_alive.ensures o) ∙ search rules in
    sym (ap (λ (b : Bool). if b && are_some (wanted c.args.pr l) then number_in o else None) dead)

pub returns-in-Source-clause-number : goal.returns-in-Source-clause-number
returns-in-Source-clause-number c =
    let o = (node_plan c.args.plan.now c.args.end.slot).origin in
    let l : Link = link_of c.args.end o in
    let alive : is_alive l ≡ true = sym (c.is_alive.ensures o) ∙ search rules in
    let drawn : are_some (wanted c.args.pr l) ≡ true = sym (c.draws.ensures o) ∙ search rules in
    let from : o ≡ origins.Source c.in-Source.j =
    ap (λ (z : Option NodePlan). (unwrap_or z no_node).origin) c.node.ensures.value ∙ c.in-Source.is in
    sym (ap (λ (b : Bool). if b && are_some (wanted c.args.pr l) then number_in o else None) alive
    ∙ (ap (λ (b : Bool). if b then number_in o else None) drawn ∙ ap (λ (z : Origin). number_in z) from))
