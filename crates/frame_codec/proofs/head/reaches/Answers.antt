use Rattle.std.proofs.Common.{refl}
use Rattle.frame_codec.proofs.Reaching.{found}
use Rattle.frame_codec.proofs.head.reaches.Goals as goal

pub returns-then-number-span : goal.returns-then-number-span
returns-then-number-span c = (
  (λ yes'. found c.args.spans.now c.loop-span.span-index (record { low = 0; high = 0 }) c.args.left c.args.number c.loop-span-test.true c.if-span-left.true c.if-number-span.true),
  (λ reach. refl),
)
