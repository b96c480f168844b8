use Rattle.std.proofs.Common.{◌≡◌, ◌≤◌, ◌+◌, length}
use Rattle.shared_tree.specs.Passes.{IsPassOf}
use Rattle.shared_bench.proofs.calls.ask.Given as goal

abbrev pub invariant-loop-i : goal.invariant-loop-i
invariant-loop-i g l = record {
  pass : IsPassOf l.tree l.pass;
  opening : l.pass.view.opening ≡ l.initial.pass.view.opening;
  made : length l.pass.view.mine ≡ length l.initial.pass.view.mine + l.i;
  most : l.tally.done ≤ l.i;
  room : length l.out ≡ 65536;
}
