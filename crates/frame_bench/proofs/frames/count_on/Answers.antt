use Rattle.std.proofs.Common.{arith, length-drop}
use Rattle.frame_bench.proofs.Counting.{HasFed, counted-more, counted-all, counted-bad, whole-some}
use Rattle.frame_bench.proofs.frames.count_on.Goals as goal

pub frames-preserved : goal.frames-preserved
frames-preserved c =
    let f : HasFed c.args.stream.now c.frames.at c.feed-taken.result.0 c.frames.decoder c.feed-taken.result.1 c.feed-taken.new.self =
    record { within = c.feed-taken.ensures.within; offset = c.feed-taken.ensures.offset; feeds = c.feed-taken.ensures.step } in
    let some = whole-some c.args.stream.now c.frames.at c.feed-taken.result.0 c.frames.decoder c.feed-taken.new.self c.feed-taken.result.1 c.in-Whole.field-0 f c.in-Whole.is in (
      omega (arith, c.feed-taken.ensures.within, length-drop c.frames.at c.args.stream.now, c.frames-test.true),
      omega (arith, c.feed-taken.ensures.offset, c.frames.invariant.1),
      omega (arith, c.feed-taken.ensures.offset, c.frames.invariant.2, some),
      λ b rs reads count.
          counted-more b c.args.stream.now c.frames.at c.feed-taken.result.0 c.frames.decoder c.feed-taken.new.self c.feed-taken.result.1 c.frames.count
          (c.frames.invariant.3 b rs reads count) f c.in-Whole.field-0 c.in-Whole.is,
    )

pub returns-in-More-clause-counts : goal.returns-in-More-clause-counts
returns-in-More-clause-counts c b rs reads count =
    let f : HasFed c.args.stream.now c.frames.at c.feed-taken.result.0 c.frames.decoder c.feed-taken.result.1 c.feed-taken.new.self =
    record { within = c.feed-taken.ensures.within; offset = c.feed-taken.ensures.offset; feeds = c.feed-taken.ensures.step } in
    counted-all b c.args.stream.now c.frames.at c.feed-taken.result.0 c.frames.decoder c.feed-taken.new.self c.feed-taken.result.1 c.frames.count
    (c.frames.invariant.3 b rs reads count) f c.in-More.is

pub returns-in-Bad-clause-counts : goal.returns-in-Bad-clause-counts
returns-in-Bad-clause-counts c b rs reads count =
    let f : HasFed c.args.stream.now c.frames.at c.feed-taken.result.0 c.frames.decoder c.feed-taken.result.1 c.feed-taken.new.self =
    record { within = c.feed-taken.ensures.within; offset = c.feed-taken.ensures.offset; feeds = c.feed-taken.ensures.step } in
    counted-bad b c.args.stream.now c.frames.at c.feed-taken.result.0 c.frames.decoder c.feed-taken.new.self c.feed-taken.result.1 c.frames.count
    (c.frames.invariant.3 b rs reads count) f c.in-Bad.offset c.in-Bad.why c.in-Bad.is
