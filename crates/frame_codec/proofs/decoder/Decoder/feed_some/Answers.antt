use Rattle.std.proofs.Common.{◌<◌, ◌≤◌, ◌+◌, ◌∙◌, ℕ, List, length, take, arith, ap, sym}
use Rattle.frame_codec.specs.declared.table.Table.{Table}
use Rattle.frame_codec.specs.Heads.{fields_of}
use Rattle.frame_codec.specs.Decoding.{Begun}
use Rattle.frame_codec.proofs.Decoding.{rest-none, feed-head, feed-string, whole-behind}
use Rattle.frame_codec.proofs.decoder.Decoder.feed_some.Goals as goal

pub returns-in-Some-clause-step : goal.returns-in-Some-clause-step
returns-in-Some-clause-step c =
    let d = c.self.inside in
    let none = rest-none d.head d.got d.string c.self.invariant.table c.self.invariant.head c.if-self-eq0.true c.if-self-eq0-2.true in
    let numbers = c.fill.ensures.numbers ∙ (ap (λ (t : Table). take (length (fields_of t)) c.numbers_of.result) c.self.invariant.table ∙ ap (λ (ns : List ℕ). take 8 ns) c.numbers_of.ensures) in
    feed-head c.args.self.now c.fill.new.self d.string c.args.bytes.now (d.offset + 16) c.in-Some.request (sym (ap (λ (o : Begun). o.rest) c.self.view_is) ∙ none.1) c.in-Some.ensures.0
    (omega (arith, c.if-request-eq0.false)) (c.fill.ensures.table ∙ c.self.invariant.table) c.fill.ensures.whole numbers c.in-Some.ensures.2

pub returns-clause-step : goal.returns-clause-step
returns-clause-step c =
    let d = c.self.inside in
    let w = whole-behind d.head d.got (λ (less : d.head.index < length (fields_of d.head.table)). omega (arith, less, c.if-self-count.false, c.count.ensures.count)) c.self.invariant.head in
    let most : c.min-count.result ≤ length c.args.bytes.now = omega (arith, c.min-count.ensures) in
    let fits : d.got + c.min-count.result ≤ c.string_len.result = omega (arith, c.min-count.ensures, c.string_len.ensures.len, w.1) in
    feed-string c.args.self.now d.head c.finish.new.head d.got c.min-count.result d.string c.put_at.new.out c.args.bytes.now _ c.finish.result (ap (λ (o : Begun). o.rest) c.self.view_is)
    c.self.invariant.table w.0 (omega (arith, c.min-count.ensures, c.string_len.ensures.len, w.1, c.requires.some)) most (omega (arith, fits, c.string_len.ensures.len))
    (omega (arith, fits, c.string_len.ensures.most, c.put_at.auto.out, c.self.told)) c.put_at.ensures.front c.finish.ensures
