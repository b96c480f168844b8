use Rattle.std.proofs.Common.{◌≡◌, ◌+◌, ◌-◌, [], All, vec_len, vec_capacity}
use Rattle.turn_table.proofs.table.Turns.deal.Given as goal
use Rattle.turn_table.specs.Views.{undealt}
use Rattle.turn_table.specs.Passes.{IsNew}

abbrev pub invariant-loop-next : goal.invariant-loop-next
invariant-loop-next g l =
    (l.seat.table_id ≡ l.initial.seat.table_id) × (l.seat.me ≡ (undealt l.fn.seat.me.0.opening l.callers (l.callers - l.next), [])) × (vec_len l.passes + 1 ≡ l.next) × (vec_capacity l.passes ≡ vec_capacity l.initial.passes)
    × All (λ p. (p.table ≡ l.self.table) × IsNew l.fn.seat.me.0.opening l.callers p.view) l.passes.items
