use Rattle.std.proofs.Common.{◌≡◌, ◌≤◌, length, map, take}
use Rattle.std.specs.Prelude.{vec_capacity}
use Rattle.rbgtree.specs.Recordings.{recording_of}
use Rattle.rbgtree.specs.Check.{sample_names, OpensAll}
use Rattle.rbgtree.proofs.check.open_all.Given as goal

abbrev pub invariant-loop-number : goal.invariant-loop-number
invariant-loop-number g l = record {
  opens : OpensAll (g.W.World.recordings l.fn.world) (g.W.World.recordings l.world) (take l.number (sample_names l.plan.sources))
      (map (recording_of g.W.Samples.Samples.told g.W.Samples.Samples.faults) l.opened.items);
  count : length l.opened.items ≡ l.number;
  room : l.number-end ≤ vec_capacity l.opened;
  files : g.W.World.files l.world ≡ g.W.World.files l.fn.world;
  faults : g.W.World.faults l.world ≡ g.W.World.faults l.fn.world;
  end : l.number-end ≡ length l.plan.sources;
  within : l.number ≤ l.number-end;
}
