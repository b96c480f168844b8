use Rattle.std.proofs.Common.{sym, subst}
use Rattle.std.specs.Prelude.{take}
use Rattle.tree_rules.specs.Chain.{target}
use Rattle.shared_tree.specs.Passes.{SharedView, IsPassOf}
use Rattle.shared_tree.specs.Rows.{what_of}
use Rattle.shared_tree.proofs.Answering.{answered}
use Rattle.shared_tree.proofs.Idle.{begins_idle, ends_idle, makes_own}
use Rattle.shared_tree.proofs.Reasoning.{reasons}
use Rattle.shared_tree.proofs.tree.SharedTree.call.Goals as goal

pub climb_later-requires-clause-carrying : goal.climb_later-requires-clause-carrying
climb_later-requires-clause-carrying g c =
    let is = subst (λ (t : SharedView). IsPassOf t c.args.pass.now) (sym c.self.view_is) c.requires.pass in
    let p = c.self.inside.plan in
    begins_idle g.S.Samples.told g.S.Samples.faults _ c.args.pass.now is c.empty-row.result (target p c.args.call.now) c.self.inside.turns.table.slots c.self.invariant.0
    c.empty-row.ensures.nodes c.empty-row.ensures.sources c.empty-row.ensures.room

pub returns-clause-pass : goal.returns-clause-pass
returns-clause-pass g c =
    let told = g.S.Samples.told in let faults = g.S.Samples.faults in
    ends_idle told faults c.args.self.now c.args.pass.now c.requires.pass c.climb_later.new.pass (what_of c.climb_later.new.row) c.climb_later.ensures.own c.climb_later.ensures.keeps
    (makes_own told faults c.args.call.now c.args.input.now c.climb_later.result (take c.climb_later.result.len c.climb_later.new.out) c.args.pass.now.view c.climb_later.new.pass.view
    c.climb_later.ensures.keeps.same c.climb_later.ensures.made)

pub returns-clause-answered : goal.returns-clause-answered
returns-clause-answered g c =
    let why = reasons c.refusals_come_by_the_table.ensures.exact c.replies_have_causes.ensures.source c.free_calls_are_not_refused.ensures.exact
    c.free_calls_are_done.ensures.alone c.free_calls_are_done.ensures.quiet c.free_calls_are_done.ensures.told c.running_sources_are_tested.ensures in
    answered g.S.Samples.told g.S.Samples.faults c.args.self.now c.args.pass.now c.requires.pass why
    c.args.call.now c.args.input.now c.climb_later.result (take c.climb_later.result.len c.climb_later.new.out) c.climb_later.new.pass.view c.climb_later.ensures.made
