use Rattle.std.proofs.Common.{Bool, subst}
use Rattle.frame_bench.specs.Counted.{copies, CountsOn}
use Rattle.frame_bench.proofs.Counting.{bad-copy}
use Rattle.frame_bench.proofs.frames.frames_in_copies.Goals as goal

pub returns-then-not-count_on : goal.returns-then-not-count_on
returns-then-not-count_on c =
    let (rs, reads, is) = c.loop-copy.invariant.2 in
    let stops = subst (λ (x : Bool). CountsOn (copies c.loop-copy.copy c.args.stream.now) c.args.stream.now x c.count_on.new.decoder c.count_on.new.count) c.if-not-count_on.true
    (c.count_on.ensures.counts (copies c.loop-copy.copy c.args.stream.now) rs reads is) in
    bad-copy c.args.stream.now c.loop-copy.copy c.args.times c.count_on.new.count stops.0 stops.1 stops.2 c.loop-copy-test.true stops.3 stops.4
