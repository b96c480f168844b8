use Rattle.std.proofs.Common.{rules, ◌≡◌, ap, sym, subst, ◌∙◌}
use Rattle.atomic_table.specs.Seated.{TableId}
use Rattle.turn_table.specs.declared.view.View.{View}
use Rattle.turn_table.specs.Calls.{Commits}
use Rattle.turn_table.proofs.Commits.{commit_goes}
use Rattle.turn_table.proofs.Rests.{rests_after_commit}
use Rattle.turn_table.proofs.table.Turns.commit.Goals as goal
use Rattle.turn_table.specs.Passes.{Standing, AtRest}

pub fetch_add-requires : goal.fetch_add-requires
fetch_add-requires g c =
    let e : c.pass.inside.seat.me.0 ≡ c.args.pass.now.view = ap (λ (z : Standing). z.view) c.pass.view_is in (
      search rules,
      search rules,
      commit_goes g.M.Machine.meaning g.M.Machine.reads_touched g.M.Machine.leaves_others _ _ _ _ g.E.Entered.is c.pass.invariant.3.live c.pass.invariant.3.numbered (rw e c.requires.room) (rw e c.requires.entry),
    )

pub invariant_of-pass : goal.invariant_of-pass
invariant_of-pass g c =
    let e : c.pass.inside.seat.me.0 ≡ c.args.pass.now.view = ap (λ (z : Standing). z.view) c.pass.view_is in
    let d = c.fetch_add.ensures.2.0 in let r = rests_after_commit g.M.Machine.meaning d.history d.entry c.pass.inside.seat.table_id.slots c.pass.inside.seat.me.0 c.fetch_add.new.seat.me.0 c.pass.inside.caller c.pass.inside.calls d.after c.pass.invariant.1 c.pass.invariant.2 (rw e c.requires.room) c.pass.invariant.3 in
    (c.fetch_add.ensures.2.1 ∙ c.pass.invariant.0, r.0, r.1, subst (λ (z : TableId). AtRest z.slots c.fetch_add.new.seat.me.0) (sym c.fetch_add.ensures.0) r.2)

pub returns-clause-committed : goal.returns-clause-committed
returns-clause-committed g c =
    let e : c.pass.inside.seat.me.0 ≡ c.args.pass.now.view = ap (λ (z : Standing). z.view) c.pass.view_is in
    subst (λ (v : View). Commits g.M.Machine.meaning g.E.Entered.is v c.fetch_add.new.seat.me.0) e c.fetch_add.ensures.2.0
