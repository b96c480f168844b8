use Rattle.std.proofs.Common.{◌∙◌, arith}
use Rattle.shared_bench.proofs.Counting.{one_more}
use Rattle.shared_bench.proofs.calls.ask.Goals as goal

pub loop-i-preserved : goal.loop-i-preserved
loop-i-preserved g c = let was = c.loop-i.invariant in record {
  pass = c.call-reply.ensures.pass;
  opening = c.call-reply.ensures.same.opening_is ∙ was.opening;
  made = (let n = one_more c.loop-i.pass.view.mine c.call-reply.new.pass.view.mine _ _ c.call-reply.ensures.answered.mine_is was.made in omega (arith, n));
  most = omega (arith, c.add.ensures.most, was.most);
  room = c.call-reply.auto.out ∙ was.room;
}
