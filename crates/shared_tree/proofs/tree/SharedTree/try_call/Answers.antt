use Rattle.std.proofs.Common.{ap, sym, subst}
use Rattle.std.specs.Prelude.{take}
use Rattle.tree_config.specs.Tree.{Tree}
use Rattle.tree_rules.specs.Chain.{target}
use Rattle.shared_tree.specs.Answers.{IsAnswered, IsBusy}
use Rattle.shared_tree.specs.Carries.{Makes, Meets}
use Rattle.shared_tree.specs.Passes.{SharedView, IsPassOf}
use Rattle.shared_tree.specs.Rows.{what_of}
use Rattle.shared_tree.proofs.Answering.{answered, busy, made_unmet}
use Rattle.shared_tree.proofs.Idle.{begins_idle, ends_idle, sees_own}
use Rattle.shared_tree.proofs.Leaving.{ok_map, err_map}
use Rattle.shared_tree.proofs.Reasoning.{reasons}
use Rattle.shared_tree.proofs.tree.SharedTree.try_call.Goals as goal

pub climb-requires-clause-carrying : goal.climb-requires-clause-carrying
climb-requires-clause-carrying g c =
    let is = subst (λ (t : SharedView). IsPassOf t c.args.pass.now) (sym c.self.view_is) c.requires.pass in
    let p = c.self.inside.plan in
    begins_idle g.S.Samples.told g.S.Samples.faults _ c.args.pass.now is c.empty-row.result (target p c.args.call.now) c.self.inside.turns.table.slots c.self.invariant.0
    c.empty-row.ensures.nodes c.empty-row.ensures.sources c.empty-row.ensures.room

pub returns-clause-pass : goal.returns-clause-pass
returns-clause-pass g c =
    let told = g.S.Samples.told in let faults = g.S.Samples.faults in let p = c.self.inside.plan in
    ends_idle told faults c.args.self.now c.args.pass.now c.requires.pass c.climb.new.pass (what_of c.climb.new.row) c.climb.ensures.own c.climb.ensures.keeps
    (sees_own told faults p (target p c.args.call.now) c.args.call.now c.args.input.now (λ r. take r.len c.climb.new.out) c.args.pass.now.view c.climb.new.pass.view c.climb.result c.climb.ensures.keeps.same
    c.climb.ensures.made c.climb.ensures.busy)

pub returns-clause-answered : goal.returns-clause-answered
returns-clause-answered g c =
    let told = g.S.Samples.told in let faults = g.S.Samples.faults in let call = c.args.call.now in let input = c.args.input.now in
    let v = c.args.pass.now.view in let w = c.climb.new.pass.view in let out = c.climb.new.out in
    let why = reasons c.refusals_come_by_the_table.ensures.exact c.replies_have_causes.ensures.source c.free_calls_are_not_refused.ensures.exact
    c.free_calls_are_done.ensures.alone c.free_calls_are_done.ensures.quiet c.free_calls_are_done.ensures.told c.running_sources_are_tested.ensures in
    ok_map c.climb.result (λ r. Makes told faults call input r (take r.len out) v w) (λ r. IsAnswered c.args.self.now.plan call input r (take r.len out) v w)
    (λ r m. answered told faults c.args.self.now c.args.pass.now c.requires.pass why call input r (take r.len out) w m) c.climb.ensures.made

pub returns-clause-busy : goal.returns-clause-busy
returns-clause-busy g c =
    let call = c.args.call.now in let input = c.args.input.now in
    let v = c.args.pass.now.view in let w = c.climb.new.pass.view in let p = c.self.inside.plan in
    let plan = ap (λ (t : SharedView). t.plan) c.self.view_is in
    err_map c.climb.result (λ b. Meets p (target p call) call input b v w) (λ b. IsBusy c.args.self.now.plan call input b v w)
    (λ b m. busy g.S.Samples.told g.S.Samples.faults c.args.self.now c.args.pass.now c.requires.pass call input b w
    (subst (λ (q : Tree). Meets q (target q call) call input b v w) plan m)) c.climb.ensures.busy

pub returns-clause-complete : goal.returns-clause-complete
returns-clause-complete g c = λ same.
    let p = c.self.inside.plan in
    made_unmet p (target p c.args.call.now) c.args.call.now c.args.input.now c.args.pass.now.view c.climb.new.pass.view c.climb.result c.climb.ensures.busy same
