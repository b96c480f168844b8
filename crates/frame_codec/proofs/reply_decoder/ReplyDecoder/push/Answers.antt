use Rattle.std.proofs.Common.{◌≡◌, ◌+◌, ◌∙◌, arith, subst}
use Rattle.frame_codec.specs.declared.reply_decoder.ReplyStep.TheVariants.{More, Head, Bad}
use Rattle.frame_codec.specs.Replying.{Replying, ReplySteps}
use Rattle.frame_codec.proofs.ReplyDecoding.{replying, reply-more, reply-bad, reply-head}
use Rattle.frame_codec.proofs.reply_decoder.ReplyDecoder.push.Goals as goal

pub returns-in-More-clause-step : goal.returns-in-More-clause-step
returns-in-More-clause-step c =
    let d = c.self.inside in
    let none : d.left ≡ 0 = omega (arith, c.if-self-gt0.false) in
    let step = reply-more d.head c.push.new.self d.left d.offset c.args.byte (c.in-More.ensures.table ∙ c.self.invariant.table) none c.in-More.ensures.step in
    subst (λ (o : Replying). ReplySteps o c.args.byte More (replying c.push.new.self d.left (d.offset + 1))) c.self.view_is step

pub returns-in-Bad-clause-step : goal.returns-in-Bad-clause-step
returns-in-Bad-clause-step c =
    let d = c.self.inside in
    let none : d.left ≡ 0 = omega (arith, c.if-self-gt0.false) in
    let step = reply-bad d.head c.push.new.self d.left d.offset c.args.byte c.in-Bad.why c.self.invariant.table c.self.invariant.head none c.in-Bad.ensures.step in
    subst (λ (o : Replying). ReplySteps o c.args.byte (Bad d.offset c.in-Bad.why) (replying c.push.new.self d.left (d.offset + 1))) c.self.view_is step

pub returns-in-Whole-clause-step : goal.returns-in-Whole-clause-step
returns-in-Whole-clause-step c =
    let d = c.self.inside in
    let none : d.left ≡ 0 = omega (arith, c.if-self-gt0.false) in
    let step = reply-head d.head c.push.new.self c.restart.new.self c.reply_of-head.result d.left d.offset c.args.byte (c.in-Whole.ensures.table ∙ c.self.invariant.table) none c.in-Whole.ensures.step c.reply_of-head.ensures c.restart.ensures.bytes in
    subst (λ (o : Replying). ReplySteps o c.args.byte (Head c.reply_of-head.result) (replying c.restart.new.self c.reply_of-head.result.len (d.offset + 1))) c.self.view_is step
