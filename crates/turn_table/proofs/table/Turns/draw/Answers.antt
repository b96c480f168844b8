use Rattle.std.proofs.Common.{rules, ◌≡◌}
use Rattle.turn_table.proofs.Joins.{draw_goes}
use Rattle.turn_table.proofs.table.Turns.draw.Goals as goal

pub fetch_add-before-requires : goal.fetch_add-before-requires
fetch_add-before-requires g c =
    let own : c.args.seat.table_id ≡ c.self.inside.table.shared.table_id = search rules in
    (own, search rules, draw_goes g.M.Machine.meaning _ _ _ _ c.requires.undrawn.live c.requires.undrawn.unnumbered)
