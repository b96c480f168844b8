use Rattle.std.proofs.Common.{◌≡◌, ◌≤◌, ◌<◌, length, take, ◌∙◌, ap, subst, arith}
use Rattle.std.specs.Prelude.{Result, Ok, Err, MatchResult}
use Rattle.tree_config.specs.Rows.{FaultIs}
use Rattle.tree_config.specs.Tree.{Tree, Plan}
use Rattle.tree_config.specs.declared.fault.ConfigFault.{ConfigFault}
use Rattle.tree_config.specs.declared.fault.PlanRefusal.{PlanRefusal}
use Rattle.rbgtree.proofs.Plans.{plan_of_file}
use Rattle.rbgtree.proofs.files.plan_in.Goals as goal

pub returns-in-Ok-read-clause-plan : goal.returns-in-Ok-read-clause-plan
returns-in-Ok-read-clause-plan g c =
    let long : length c.read_front.new.front ≡ 65537 = omega (arith, c.read_front.auto.front, c.requires) in
    let bound : c.in-Ok.have ≤ 65537 = omega (arith, c.in-Ok.ensures.bound, c.requires) in
    plan_of_file (g.W.World.files c.args.world.now) c.args.name.now c.read_front.new.front c.in-Ok.have (Ok c.in-Ok-read.plan) long bound
    (λ (all : c.in-Ok.have ≡ 65537). c.in-Ok.ensures.full (omega (arith, all, c.requires)))
    (λ (less : c.in-Ok.have < 65537). c.in-Ok.ensures.short (omega (arith, less, c.requires))) c.in-Ok-read.ensures.plan

pub returns-in-Err-Fault-clause-ended : goal.returns-in-Err-Fault-clause-ended
returns-in-Err-Fault-clause-ended g c =
    let long : length c.read_front.new.front ≡ 65537 = omega (arith, c.read_front.auto.front, c.requires) in
    let bound : c.in-Ok.have ≤ 65537 = omega (arith, c.in-Ok.ensures.bound, c.requires) in
    let text = take c.in-Ok.have c.read_front.new.front in
    let fault = subst (λ (r : Result Tree PlanRefusal). MatchResult r (λ (tree : Tree). Plan text (Ok tree)) (FaultIs (λ (f : ConfigFault). Plan text (Err f))))
    (c.in-Err-Fault.is ∙ ap (λ (why : PlanRefusal). Err why) c.in-Err-Fault.field-0-is) c.read.ensures.plan in
    plan_of_file (g.W.World.files c.args.world.now) c.args.name.now c.read_front.new.front c.in-Ok.have (Err c.in-Err-Fault.fault) long bound
    (λ (all : c.in-Ok.have ≡ 65537). c.in-Ok.ensures.full (omega (arith, all, c.requires)))
    (λ (less : c.in-Ok.have < 65537). c.in-Ok.ensures.short (omega (arith, less, c.requires))) fault
