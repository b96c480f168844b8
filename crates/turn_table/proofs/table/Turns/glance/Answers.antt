use Rattle.std.proofs.Common.{rules, ◌≡◌, refl, ap, subst}
use Rattle.std.specs.declared.option.Option.{Option}
use Rattle.atomic_table.specs.Table.{Me}
use Rattle.turn_table.specs.declared.view.View.{View}
use Rattle.turn_table.specs.Passes.{Standing}
use Rattle.turn_table.specs.Calls.{Looks}
use Rattle.turn_table.proofs.Looks.{glances}
use Rattle.turn_table.proofs.Put.{turn_inside}
use Rattle.turn_table.proofs.Rests.{settled_seen}
use Rattle.turn_table.proofs.table.Turns.glance.Goals as goal

pub load-requires : goal.load-requires
load-requires g c =
    let own : c.pass.inside.seat.table_id ≡ c.self.inside.table.shared.table_id = search rules in
    let same : c.args.self.now.table ≡ c.self.inside.table.shared.table_id = search rules in (
      own,
      turn_inside c.args.self.now.table c.self.inside.table.shared.table_id c.args.slot c.args.slot same c.self.invariant.0 c.requires.slot refl,
      glances g.M.Machine.meaning _ _ _ _ _ c.pass.invariant.3.live,
    )

pub invariant_of-pass : goal.invariant_of-pass
invariant_of-pass g c = settled_seen c.load.ensures.2.0 _ _ _ _ _ _ c.load.ensures.0 c.load.ensures.2.2 c.pass.invariant

pub returns-clause-looked : goal.returns-clause-looked
returns-clause-looked g c =
    let e : c.pass.inside.seat.me.0 ≡ c.args.pass.now.view = ap (λ (z : Standing). z.view) c.pass.view_is in
    let t = c.load.ensures.2 in
    subst (λ (v : View). Looks g.M.Machine.meaning v c.load.new.seat.me.0) e record { history = t.0; finds = t.1; after = ap (λ (m : Me (Option g.row.M-Value.Denot) View). m.0) t.2 }
