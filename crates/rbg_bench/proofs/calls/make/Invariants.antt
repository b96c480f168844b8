use Rattle.std.proofs.Common.{◌≡◌, ◌≤◌, List, [], length}
use Rattle.sha2.specs.Hashers.{Holds256}
use Rattle.tree_rules.specs.History.{Entry, Opening}
use Rattle.tree_rules.specs.Openings.{IsHistory}
use Rattle.tree_core.specs.Solo.{StandAfter}
use Rattle.rbg_bench.proofs.Making.{Went}
use Rattle.rbg_bench.proofs.calls.make.Given as goal

abbrev pub invariant-loop-i : goal.invariant-loop-i
invariant-loop-i g l = record {
  went : (f : Opening) (o : List Entry) → IsHistory f o [] → f.plan ≡ l.fn.tree.plan → StandAfter g.S.Samples.told g.S.Samples.faults f o [] l.fn.tree.nodes l.fn.tree.sources
      → Went g.S.Samples.told g.S.Samples.faults f o l.call l.i l.done (Holds256 l.digest) l.tree.nodes l.tree.sources;
  plan : l.tree.plan ≡ l.fn.tree.plan;
  calls : l.tree.calls ≡ l.i;
  few : l.done ≤ l.i;
  room : length l.out ≡ 65536;
}
