use Rattle.std.proofs.Common.{◌≡◌, ◌≤◌, length, map}
use Rattle.std.specs.Prelude.{vec_capacity}
use Rattle.rbgtree.specs.Seeds.{planned_file}
use Rattle.rbgtree.proofs.NodeSeeds.{AreFirst}
use Rattle.rbgtree.proofs.seeds.read_seeds.Given as goal

abbrev pub invariant-loop-n : goal.invariant-loop-n
invariant-loop-n g l = record {
  first : AreFirst (g.W.World.files l.fn.world) planned_file l.plan.nodes l.n (map (λ s. s.items) l.seeds.items);
  room : l.n-end ≤ vec_capacity l.seeds;
  files : g.W.World.files l.world ≡ g.W.World.files l.fn.world;
  recordings : g.W.World.recordings l.world ≡ g.W.World.recordings l.fn.world;
  faults : g.W.World.faults l.world ≡ g.W.World.faults l.fn.world;
  end : l.n-end ≡ length l.plan.nodes;
  within : l.n ≤ l.n-end;
}
