use Rattle.std.proofs.Common.{◌≡◌, List, ◌++◌, All, length}
use Rattle.turn_table.specs.Passes.{Standing, IsIdle, opening_of}
use Rattle.turn_table.specs.Closes.{Gathered}
use Rattle.turn_table.proofs.table.Turns.gather.Given as goal

abbrev pub invariant-loop-other : goal.invariant-loop-other
invariant-loop-other g l = record {
  own : l.seat.table_id ≡ l.self.table;
  left : All (λ p. (p.table ≡ l.self.table) × IsIdle (opening_of l.fn.passes.items) l.self.callers p.view) l.passes.items;
  done : (done : List Standing) × (l.fn.passes.items ≡ l.passes.items ++ done) × Gathered (opening_of l.fn.passes.items) l.self.callers done l.seat.me.0;
}

abbrev pub decreases-loop-other : goal.decreases-loop-other
decreases-loop-other g l = length l.passes.items
