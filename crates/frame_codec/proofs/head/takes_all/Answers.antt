use Rattle.std.proofs.Common.{◌≡◌, ◌<◌, length, take, get_or, arith, IsTrue}
use Rattle.frame_codec.specs.Rows.{Reaches}
use Rattle.frame_codec.specs.Heads.{field_at, fields_of}
use Rattle.frame_codec.proofs.Heads.{takes-next}
use Rattle.frame_codec.proofs.head.takes_all.Goals as goal

pub loop-index-preserved : goal.loop-index-preserved
loop-index-preserved c =
    let ns = c.args.numbers.now in
    let i = c.loop-index.index in
    let less : i < length (fields_of c.args.table) = omega (arith, c.loop-index-test.true, c.count-index-end.ensures.count) in
    let long : length ns ≡ 8 = c.told-numbers in
    let room : i < length ns = omega (arith, less, c.count-index-end.ensures.count, c.count-index-end.ensures.range, long) in
    let yes' : IsTrue c.reaches.result = c.if-not-reaches.false in
    let reach : Reaches ((field_at c.args.table i).spans (take i ns)) 0 (get_or ns i 0) = rw c.spans.ensures at (c.reaches.ensures.0 yes') in
    takes-next c.args.table ns i less room c.loop-index.invariant reach
