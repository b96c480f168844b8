use Rattle.std.proofs.Common.{rules, ◌≡◌}
use Rattle.turn_table.proofs.Joins.{split_goes}
use Rattle.turn_table.proofs.table.Turns.cut.Goals as goal

pub split_seat-requires : goal.split_seat-requires
split_seat-requires g c =
    let own : c.args.seat.now.table_id ≡ c.self.inside.table.shared.table_id = search rules in
    (own, search rules, split_goes g.M.Machine.meaning _ _ _ c.requires.some_left.0 c.requires.some_left.1)
