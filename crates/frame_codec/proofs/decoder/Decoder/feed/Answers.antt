use Rattle.std.proofs.Common.{◌≡◌, IsTrue, take, subst}
use Rattle.frame_codec.specs.declared.decoder.Step.{Step}
use Rattle.frame_codec.specs.declared.decoder.Step.TheVariants.{More}
use Rattle.frame_codec.specs.Decoding.{Feeds}
use Rattle.frame_codec.proofs.Decoding.{behind, feed-none, fed-more, fed-end}
use Rattle.frame_codec.proofs.decoder.Decoder.feed.Goals as goal

pub pieces-init : goal.pieces-init
pieces-init c = feed-none c.self.inside.head c.self.inside.got c.self.inside.string c.args.self.now c.self.inside.offset c.args.bytes.now c.self.told c.self.invariant c.self.view_is

pub returns-then-not-is_more-clause-step : goal.returns-then-not-is_more-clause-step
returns-then-not-is_more-clause-step c =
    fed-end c.args.self.now c.pieces.self c.feed_some-count.new.self c.args.bytes.now c.pieces.at c.feed_some-count.result.0 c.pieces.invariant c.feed_some-count.ensures.within.1
    c.feed_some-count.result.1 (λ (e : c.feed_some-count.result.1 ≡ More). let yes' : IsTrue c.is_more.result = c.is_more.ensures.1 e in cc) c.feed_some-count.ensures.within.0 c.feed_some-count.ensures.step

pub pieces-preserved : goal.pieces-preserved
pieces-preserved c =
    let yes' : IsTrue c.is_more.result = c.if-not-is_more.false in
    fed-more c.args.self.now c.pieces.self c.feed_some-count.new.self c.args.bytes.now c.pieces.at c.feed_some-count.result.0 c.pieces.invariant c.feed_some-count.ensures.within.1
    c.feed_some-count.ensures.offset (subst (λ (s : Step). Feeds c.pieces.self (take c.feed_some-count.result.0 (behind c.args.bytes.now c.pieces.at)) c.feed_some-count.result.0 s c.feed_some-count.new.self) (c.is_more.ensures.0 yes') c.feed_some-count.ensures.step)
