use Rattle.std.proofs.Common.{◌≡◌, ◌≤◌, length, take}
use Rattle.std.specs.List.{flat_map, range_with_len}
use Rattle.std.specs.Io.KnownBytes.{Appends}
use Rattle.rbgtree.specs.Printed.{line_of_node}
use Rattle.rbgtree.proofs.check.print_nodes.Given as goal

abbrev pub invariant-loop-number : goal.invariant-loop-number
invariant-loop-number g l =
    Appends (g.O.ByteSink.out l.fn.output) (g.O.ByteSink.out l.output) (flat_map (line_of_node l.plan) (take l.number (range_with_len 0 (length l.plan.nodes))))
    × (g.O.ByteSink.faults l.output ≡ g.O.ByteSink.faults l.fn.output)
    × (l.number-end ≡ length l.plan.nodes)
    × (l.number ≤ l.number-end)
