use Rattle.std.proofs.Common.{rules, ◌≡◌, ◌≢◌, ◌-◌, suc, [], ap, refl, arith}
use Rattle.std.specs.declared.option.Option.{Option}
use Rattle.atomic_table.specs.Table.{Me}
use Rattle.turn_table.specs.declared.view.View.{View}
use Rattle.turn_table.specs.Views.{gone}
use Rattle.turn_table.proofs.Joins.{join_goes}
use Rattle.turn_table.proofs.table.Turns.take_in.Goals as goal

pub join_seat-requires : goal.join_seat-requires
join_seat-requires g c =
    let u : View = c.args.other.view in
    let rest = c.into_seat.ensures.rest in
    let ne : u.number ≢ 0 = rest.numbered in
    let next : u.number ≡ suc (u.number - 1) = omega arith in
    let is : c.into_seat.result.me ≡ (u, []) = c.into_seat.ensures.seat.1 in
    let e : c.into_seat.result.me.0 ≡ u = ap (λ (m : Me (Option g.row.M-Value.Denot) View). m.0) is in (
      search rules,
      search rules,
      ap (λ (m : Me (Option g.row.M-Value.Denot) View). m.1) is,
      search rules,
      rw e (join_goes g.M.Machine.meaning _ _ c.args.seat.now.me.0 _ u c.requires.live rest.live (u.number - 1) next c.requires.idle rest.settled gone refl refl),
    )
