use Rattle.std.proofs.Common.{◌≡◌, ◌≤◌, length}
use Rattle.shared_bench.proofs.calls.ask_solo.Given as goal

abbrev pub invariant-loop-i : goal.invariant-loop-i
invariant-loop-i l = record {
  made : l.tree.calls ≡ l.i;
  most : l.tally.done ≤ l.i;
  room : length l.out ≡ 65536;
}
