use Rattle.std.proofs.Common.{◌≡◌, ◌∙◌, ◌+◌, ap, arith, refl, sym, take}
use Rattle.sha2.specs.Hashers.{Holds256}
use Rattle.rbg_bench.proofs.Making.{went_none, went_more}
use Rattle.rbg_bench.proofs.calls.make.Goals as goal

pub loop-i-init : goal.loop-i-init
loop-i-init g c = record {
  went = λ f o is plan stand. went_none g.S.Samples.told g.S.Samples.faults f o c.args.call.now _ _ _ is c.new-digest.ensures stand;
  plan = refl;
  calls = c.requires.calls;
  few = omega arith;
  room = c.requires.room;
}

pub loop-i-preserved : goal.loop-i-preserved
loop-i-preserved g c =
    let told = g.S.Samples.told in let faults = g.S.Samples.faults in let was = c.loop-i.invariant in record {
      went = λ f o is plan stand.
          let w = was.went f o is plan stand in
          went_more told faults g.S.Samples.reads _ f o c.args.call.now c.loop-i.i c.loop-i.done (Holds256 c.loop-i.digest) (Holds256 c.update.new.self)
          c.loop-i.tree.nodes c.call-reply.new.self.nodes c.loop-i.tree.sources c.call-reply.new.self.sources w c.call-reply.result (take c.call-reply.result.len c.call-reply.new.out)
          (c.call-reply.ensures.history f o w.es w.history (plan ∙ sym was.plan) w.stand) (λ m held. c.update.ensures m held) c.with_reply-done.result c.with_reply-done.ensures.count;
      plan = c.call-reply.ensures.plan ∙ was.plan;
      calls = c.call-reply.ensures.calls ∙ ap (λ n. n + 1) was.calls;
      few = omega (arith, c.with_reply-done.ensures.most, was.few);
      room = c.call-reply.auto.out ∙ was.room;
    }

pub returns : goal.returns
returns g c = λ f o is plan stand.
    let w = c.loop-i.invariant.went f o is plan stand in
    let all : c.loop-i.i ≡ c.args.times = omega (arith, c.loop-i-test.false, c.loop-i.auto.i-end) in
    record {
      es = w.es;
      history = w.history;
      calls = w.calls;
      count = w.len ∙ all;
      done = w.done_are;
      digest = c.finalize.ensures _ w.held;
    }
