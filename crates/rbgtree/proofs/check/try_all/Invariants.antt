use Rattle.std.proofs.Common.{◌≡◌, ◌≤◌, length, drop}
use Rattle.rbgtree.specs.Check.{AreTriedUpTo}
use Rattle.rbgtree.proofs.check.try_all.Given as goal

abbrev pub invariant-loop-samples : goal.invariant-loop-samples
invariant-loop-samples g l =
    AreTriedUpTo g.S.Samples.told g.S.Samples.faults g.S.Samples.reads l.number l.plan.sources l.fn.opened.items l.lines
    × (drop l.number l.fn.opened.items ≡ l.samples-iterator.rest.items)
    × (l.number ≤ length l.fn.opened.items)
    × (length l.lines ≡ length l.fn.lines)
