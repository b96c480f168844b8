use Rattle.std.proofs.Common.{◌<◌, ◌+◌, ◌∙◌, arith, length, set, subst}
use Rattle.frame_codec.specs.declared.decoder.Step.TheVariants.{More, Bad}
use Rattle.frame_codec.specs.Heads.{fields_of}
use Rattle.frame_codec.specs.Decoding.{Begun, Steps}
use Rattle.frame_codec.proofs.Decoding.{begun, begun-within, whole-behind, string-room, decode-more, decode-bad, decode-head, decode-byte}
use Rattle.frame_codec.proofs.decoder.Decoder.push.Goals as goal

pub returns-in-More-clause-step : goal.returns-in-More-clause-step
returns-in-More-clause-step c =
    let d = c.self.inside in
    let less : d.head.index < length (fields_of d.head.table) = omega (arith, c.if-self-count.true, c.count.ensures.count) in
    let step = decode-more d.head c.push.new.self d.got d.string d.offset c.args.byte less (c.in-More.ensures.table ∙ c.self.invariant.table) c.in-More.ensures.step in
    subst (λ (o : Begun). Steps o c.args.byte More (begun c.push.new.self d.got d.string (d.offset + 1))) c.self.view_is step

pub returns-in-Bad-clause-step : goal.returns-in-Bad-clause-step
returns-in-Bad-clause-step c =
    let d = c.self.inside in
    let less : d.head.index < length (fields_of d.head.table) = omega (arith, c.if-self-count.true, c.count.ensures.count) in
    let step = decode-bad d.head c.push.new.self d.got d.string d.offset c.args.byte less c.in-Bad.why c.self.invariant.table (begun-within d.head d.got less c.self.invariant.head) c.in-Bad.ensures.step in
    subst (λ (o : Begun). Steps o c.args.byte (Bad d.offset c.in-Bad.why) (begun c.push.new.self d.got d.string (d.offset + 1))) c.self.view_is step

pub returns-in-Whole-clause-step : goal.returns-in-Whole-clause-step
returns-in-Whole-clause-step c =
    let d = c.self.inside in
    let less : d.head.index < length (fields_of d.head.table) = omega (arith, c.if-self-count.true, c.count.ensures.count) in
    let step = decode-head d.head c.push.new.self c.finish.new.head d.got d.string d.offset c.args.byte c.finish.result less (c.in-Whole.ensures.table ∙ c.self.invariant.table) c.in-Whole.ensures.step c.finish.ensures in
    subst (λ (o : Begun). Steps o c.args.byte c.finish.result (begun c.finish.new.head 0 d.string (d.offset + 1))) c.self.view_is step

pub returns-clause-step : goal.returns-clause-step
returns-clause-step c =
    let d = c.self.inside in
    let w = whole-behind d.head d.got (λ (less : d.head.index < length (fields_of d.head.table)). omega (arith, less, c.if-self-count.false, c.count.ensures.count)) c.self.invariant.head in
    let room : d.got < length d.string = omega (arith, c.self.told, w.1, string-room d.head c.self.invariant.table w.0) in
    let step = decode-byte d.head c.finish-2.new.head d.got d.string d.offset c.args.byte c.finish-2.result c.self.invariant.table w.0 w.1 room c.finish-2.ensures in
    subst (λ (o : Begun). Steps o c.args.byte c.finish-2.result (begun c.finish-2.new.head (d.got + 1) (set d.string d.got c.args.byte) (d.offset + 1))) c.self.view_is step
