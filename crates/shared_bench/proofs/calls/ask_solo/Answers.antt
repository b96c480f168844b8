use Rattle.std.proofs.Common.{◌∙◌, ◌+◌, ap, arith}
use Rattle.shared_bench.proofs.calls.ask_solo.Goals as goal

pub loop-i-preserved : goal.loop-i-preserved
loop-i-preserved c = let was = c.loop-i.invariant in record {
  made = c.call-reply.ensures.calls ∙ ap (λ n. n + 1) was.made;
  most = omega (arith, c.add.ensures.most, was.most);
  room = c.call-reply.auto.out ∙ was.room;
}
