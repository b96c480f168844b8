use Rattle.std.proofs.Common.{◌≡◌, take}
use Rattle.std.specs.List.{flat_map}
use Rattle.std.specs.Io.KnownBytes.{Appends}
use Rattle.rbgtree.specs.Printed.{source_text}
use Rattle.rbgtree.proofs.printed.print_sources.Given as goal

abbrev pub invariant-loop-source : goal.invariant-loop-source
invariant-loop-source g l =
    Appends (g.O.ByteSink.out l.fn.output) (g.O.ByteSink.out l.output) (flat_map source_text (take l.source-index l.sources))
    × (g.O.ByteSink.faults l.output ≡ g.O.ByteSink.faults l.fn.output)
