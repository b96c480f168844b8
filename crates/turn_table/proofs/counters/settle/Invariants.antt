use Rattle.std.proofs.Common.{◌≡◌}
use Rattle.turn_table.specs.History.{Entry}
use Rattle.turn_table.specs.Counters.{sum_entry}
use Rattle.turn_table.proofs.counters.settle.Given as goal

abbrev pub ghosts-enter : goal.ghosts-enter
ghosts-enter a = record { is = λ (e : Entry). e ≡ sum_entry a.pass.now.view.number a.slot a.amount }
